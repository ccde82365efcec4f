-- A difference by its sign, and a number that is past the range. Assumes nothing.
use mathlib.Core.Path.{◌≡◌, ap, ◌∙◌}
use mathlib.Core.Bool.{Bool, true, false}
use Prim.Native.Nat.{ℕ, ◌+◌, ◌-◌, ◌*◌, ◌/◌, ◌^◌, ◌≤◌, ◌<◌}
use native.Mathlib.Nat.{le-div_iff_mul-le, min-eq_right}
use native.Mathlib.Omega.{arith}
use borrow.Author.Tests.{lt-ltb, le-ltb}
use lib.IntN.{pos, neg_ℤ}
use Rattle.lists.proofs.Cases.{pick_true, pick_false}
use Rattle.middle.specs.Held.{capped_of, nearest_whole, nearest_capped, difference_of}

-- ---- a difference by its sign

pub back : (g l d : ℕ) → g < l → difference_of g l d ≡ nearest_capped true (l - g) d
unfolding difference_of
back g l d h = pick_true _ _ _ (lt-ltb g l h)

pub ahead : (g l d : ℕ) → l ≤ g → difference_of g l d ≡ nearest_capped false (g - l) d
unfolding difference_of
ahead g l d h = pick_false _ _ _ (le-ltb g l h)

pub scaled_back : (x y : ℕ) → x < y → difference_of (128 * x) (128 * y) (2 ^ 149) ≡ capped_of true (nearest_whole (128 * (y - x)) (2 ^ 149))
unfolding nearest_capped
scaled_back x y h =
    let d : 128 * y - 128 * x ≡ 128 * (y - x) = omega arith in
    back (128 * x) (128 * y) (2 ^ 149) (omega arith) ∙ ap (λ (n : ℕ). nearest_capped true n (2 ^ 149)) d

pub scaled_ahead : (x y : ℕ) → y ≤ x → difference_of (128 * x) (128 * y) (2 ^ 149) ≡ capped_of false (nearest_whole (128 * (x - y)) (2 ^ 149))
unfolding nearest_capped
scaled_ahead x y h =
    let d : 128 * x - 128 * y ≡ 128 * (x - y) = omega arith in
    ahead (128 * x) (128 * y) (2 ^ 149) (omega arith) ∙ ap (λ (n : ℕ). nearest_capped false n (2 ^ 149)) d

-- ---- from 32768 on

pub capped_far : (s : Bool) (n : ℕ) → 32768 ≤ n → capped_of s n ≡ capped_of s 32768
capped_far true n h = ap (λ (n : ℕ). neg_ℤ (pos n)) (min-eq_right h)
capped_far false n h = ap pos (min-eq_right {n = 32767} {m = n} (omega arith))

pub nearest_far : (s : Bool) (n d : ℕ) → 0 < d → 32768 * d ≤ n → nearest_capped s n d ≡ capped_of s 32768
unfolding nearest_capped
nearest_far s n d D h = capped_far s ((2 * n + d) / (2 * d)) ((le-div_iff_mul-le (omega arith)).1 (omega arith))

pub far_back : (g l d : ℕ) → 0 < d → g + 32768 * d ≤ l → difference_of g l d ≡ capped_of true 32768
far_back g l d D h = back g l d (omega arith) ∙ nearest_far true (l - g) d D (omega arith)

pub far_ahead : (g l d : ℕ) → 0 < d → l + 32768 * d ≤ g → difference_of g l d ≡ capped_of false 32768
far_ahead g l d D h = ahead g l d (omega arith) ∙ nearest_far false (g - l) d D (omega arith)
