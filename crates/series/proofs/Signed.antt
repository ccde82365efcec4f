-- U = 2 ^ 30 - w with its sign, by its two cases. Assumes nothing.
use Rattle.std.proofs.Common.{◌≡◌, ℕ, suc, ◌+◌, ◌-◌, ◌^◌, ◌<◌, ◌≤◌, Bool, true, false, cond, ltb, pos, negsuc, ap, ◌∙◌, arith, le-ltb, lt-ltb}
use lib.IntN.{sub_ℕ}
use lib.Ieee.{binary32, round}
use Rattle.series.specs.Series.{over30_of}

signed_by : (w : ℕ) (b : Bool) → ltb (2 ^ 30) w ≡ b → over30_of (sub_ℕ (2 ^ 30) w) ≡ over30_of (cond b (negsuc (w - suc (2 ^ 30))) (pos (2 ^ 30 - w)))
signed_by w b e = ap (λ (t : Bool). over30_of (cond t (negsuc (w - suc (2 ^ 30))) (pos (2 ^ 30 - w)))) e

pub not_below : (w : ℕ) → w ≤ 2 ^ 30 → over30_of (sub_ℕ (2 ^ 30) w) ≡ round binary32 false (2 ^ 30 - w) (2 ^ 30)
unfolding over30_of
not_below w h = signed_by w false (le-ltb (2 ^ 30) w h)

pub below : (w : ℕ) → 2 ^ 30 < w → over30_of (sub_ℕ (2 ^ 30) w) ≡ round binary32 true (w - 2 ^ 30) (2 ^ 30)
unfolding over30_of
below w h =
    let size : w - suc (2 ^ 30) + 1 ≡ w - 2 ^ 30 = omega arith in
    signed_by w true (lt-ltb (2 ^ 30) w h) ∙ ap (λ (n : ℕ). round binary32 true n (2 ^ 30)) size
