-- A value to the nearest whole number, held: what `round` leaves is a whole number with its sign, exact, or an infinity; and the cast to 16 bits holds
-- it to the range. Assumes nothing.
use Rattle.std.proofs.Common.{◌≡◌, ℕ, suc, ◌+◌, ◌*◌, ◌/◌, ◌^◌, ◌≤◌, min, Bool, true, false, cond, not, T, pos, negsuc, neg_ℤ, sym, refl, ap, ◌∙◌, subst, one-mul, mul-one, mul-div_cancel, arith, pow_pos}
use native.Mathlib.Nat.{mod-one, div-le_of_le-mul, min-eq_right}
use lib.Ieee.{Float, nan, inf, fin, binary32, up, down, round, is_nan, fits, to_signed}
use lib.Ieee.Back.{round_whole}
use lib.Ieee.Exact.{HasValue}
use lib.Ieee.Fits.{down_pos}
use Rattle.floats.proofs.Tests.{few_digits}
use Rattle.numbers.specs.Numbers.{nearest_of, round_of}
use Rattle.numbers.proofs.Whole.{round_kept}
use Rattle.middle.specs.Held.{capped_of, nearest_capped}
use Rattle.driver.specs.Pins.{pin_of}

-- v is the whole number q with the sign s, or an infinity of that sign, with q past the range
abbrev pub Whole : Float → Bool → ℕ → Type 0
Whole nan s q = ⊥
Whole (inf t) s q = (t ≡ s) × (32768 ≤ q)
Whole (fin t m e) s q = (t ≡ s) × (m * up e ≡ q * down e)

value_whole : (v : Float) (s : Bool) (q : ℕ) → HasValue v s q 1 → Whole v s q
value_whole nan s q h = absurd h
value_whole (inf t) s q h = absurd h
value_whole (fin t m e) s q h = (h.0, sym (mul-one (m * up e)) ∙ h.1)

-- ---- what is rounded

pub record Rounded (x v : Float) : Type 0 where
  pub s : Bool
  pub q : ℕ
  pub whole : Whole v s q
  pub is : capped_of s q ≡ pin_of 1 x

half_more : (n : ℕ) → (2 * n + 1) / 2 ≡ n
half_more n = omega arith

pub rounded : (x : Float) → T (fits binary32 x) → T (not (is_nan x)) → Rounded x (round_of x)
unfolding pin_of nearest_capped round_of nearest_of is_nan
rounded nan f h = absurd h
rounded (inf t) f h = record { s = t; q = 32768; whole = (refl, omega arith); is = refl }
rounded (fin t m (pos k)) f h = record {
  s = t;
  q = m * 2 ^ k;
  whole = subst (λ (v : Float). Whole v t (m * 2 ^ k)) (round_kept (fin t m (pos k)) f (mod-one (m * 2 ^ k))) (refl, sym (mul-one (m * 2 ^ k)));
  is = ap (capped_of t) (sym (half_more (m * 2 ^ k)) ∙ ap (λ (n : ℕ). (2 * n + 1) / 2) (sym (one-mul (m * 2 ^ k))));
}
rounded (fin t m (negsuc k)) f h =
    let d = 2 ^ suc k in
    let q = (2 * (m * 1) + d) / (2 * d) in
    let few : q ≤ 2 ^ 24 = div-le_of_le-mul (2 * d) (omega (arith, few_digits binary32 t m (negsuc k) f, pow_pos (suc k))) in
    record {
      s = t;
      q = q;
      whole = value_whole (round binary32 t q 1) t q (round_whole binary32 t q few);
      is = ap (λ (n : ℕ). capped_of t ((2 * n + d) / (2 * d))) (sym (one-mul (m * 1)));
    }

-- ---- what the cast gives, which holds it to the range

pub held : (v : Float) (s : Bool) (q : ℕ) → Whole v s q → to_signed 15 v ≡ capped_of s q
unfolding to_signed
held nan s q w = absurd w
held (inf true) s q w = rw (← w.0) (ap (λ (n : ℕ). neg_ℤ (pos n)) (sym (min-eq_right w.1)))
held (inf false) s q w = rw (← w.0) (ap pos (sym (min-eq_right {n = 32767} {m = q} (omega (arith, w.1)))))
held (fin t m e) s q w =
    let part : m * up e / down e ≡ q = ap (λ (n : ℕ). n / down e) w.1 ∙ mul-div_cancel q (down_pos e) in
    rw (← w.0, part) (signed t q)
  where
    signed : (t : Bool) (q : ℕ) → cond t (neg_ℤ (pos (min q 32768))) (pos (min q 32767)) ≡ capped_of t q
    signed true q = refl
    signed false q = refl
