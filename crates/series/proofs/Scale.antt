-- A whole number rounded and then divided by 2 ^ 30 is the quotient rounded: no digit is lost by the division. Assumes nothing.
use Rattle.std.proofs.Common.{◌≡◌, ℕ, zero, suc, ◌*◌, ◌^◌, ◌<◌, ◌≤◌, Bool, false, T, pos, negsuc, sym, refl, ap, ◌∙◌, subst, le_trans, mul-le-mul_right, mul_assoc, mul_comm, mul-le-mul, mul-pos, mul-one, arith, lit<, lit≤}
use lib.Ieee.{Float, nan, inf, fin, binary32, up, down, round, mul, of_int}
use lib.Ieee.Fits.{round-fits, down_pos}
use lib.Ieee.Exact.{HasValue}
use lib.Ieee.Scale.{finite, grid, round_same, round_val, round_under, grid_scale, normal_of_fraction}
use Rattle.floats.proofs.Within.{within_finite, round_within, rep_up}
use Rattle.floats.proofs.Exactly.{round_value, mul_two_down}

-- v / den does not overflow
fine : (v den : ℕ) → 0 < den → v ≤ 2 ^ 32 → T (finite (round binary32 false v den))
fine v den D h =
    within_finite (round binary32 false v den) (1 * 2 ^ 32) 1
    (round_within binary32 false v den (1 * 2 ^ 32) 1 D (rep_up 1 32 (lit≤ tt) (lit≤ tt)) (mul-le-mul h D))

-- x has the value g * 2 ^ 30 / 2 ^ 149: x / 2 ^ 30 is g / 2 ^ 149
shifted : (x : Float) (g : ℕ) → HasValue x false (g * 2 ^ 30) (2 ^ 149) → mul binary32 x (fin false 1 (negsuc 29)) ≡ round binary32 false g (2 ^ 149)
shifted nan g h = absurd h
shifted (inf s) g h = absurd h
shifted (fin s m e) g h =
    mul_two_down binary32 s m e 29
    ∙ ap (λ (b : Bool). round binary32 b (m * up e) (down e * 2 ^ 30)) h.0
    ∙ round_same binary32 false (m * up e) (down e * 2 ^ 30) g (2 ^ 149) (mul-pos (down_pos e) (lit< tt)) (lit< tt) (h.1 ∙ mul_assoc g (2 ^ 30) (down e) ∙ ap (λ (z : ℕ). g * z) (mul_comm (2 ^ 30) (down e)))

scaled_some : (v : ℕ) → 1 ≤ v → v ≤ 2 ^ 32 → mul binary32 (round binary32 false v 1) (fin false 1 (negsuc 29)) ≡ round binary32 false v (2 ^ 30)
scaled_some v l h =
    let g = grid binary32 v (2 ^ 30) in
    let same : round binary32 false (v * 2 ^ 30) (2 ^ 30) ≡ round binary32 false v 1 = round_same binary32 false (v * 2 ^ 30) (2 ^ 30) v 1 (lit< tt) (lit< tt) (mul-one (v * 2 ^ 30)) in
    let grows : grid binary32 (v * 2 ^ 30) (2 ^ 30) ≡ g * 2 ^ 30 = grid_scale binary32 v (2 ^ 30) 30 (lit< tt) (normal_of_fraction binary32 v (2 ^ 30) (lit< tt) (le_trans (lit≤ tt) (mul-le-mul_right (2 ^ 149) l))) in
    let whole : HasValue (round binary32 false v 1) false (g * 2 ^ 30) (2 ^ 149) =
    subst (λ (x : Float). HasValue x false (g * 2 ^ 30) (2 ^ 149)) same
    (subst (λ (n : ℕ). HasValue (round binary32 false (v * 2 ^ 30) (2 ^ 30)) false n (2 ^ 149)) grows
    (round_val binary32 (v * 2 ^ 30) (2 ^ 30) (round_under binary32 (v * 2 ^ 30) (2 ^ 30) (subst (λ (x : Float). T (finite x)) (sym same) (fine v 1 (lit< tt) h))))) in
    let quotient : HasValue (round binary32 false v (2 ^ 30)) false g (2 ^ 149) = round_val binary32 v (2 ^ 30) (round_under binary32 v (2 ^ 30) (fine v (2 ^ 30) (lit< tt) h)) in
    shifted (round binary32 false v 1) g whole ∙ round_value binary32 (round binary32 false v (2 ^ 30)) false g (2 ^ 149) (lit< tt) (round-fits binary32 false v (2 ^ 30)) quotient

pub scaled_is : (v : ℕ) → v ≤ 2 ^ 32 → mul binary32 (of_int binary32 (pos v)) (fin false 1 (negsuc 29)) ≡ round binary32 false v (2 ^ 30)
unfolding of_int
scaled_is zero h = unfold mul in refl
scaled_is (suc v) h = scaled_some (suc v) (omega arith) h
