-- Rho is finite whenever it is worked out. The norms are above 1e-6, so their product is at least 2 ^ -40; the sum of products is at most 2 ^ 87; so the quotient is at most
-- 2 ^ 127. Assumes nothing.
use Rattle.std.specs.Prelude.{Ok, Err, Result}
use Prim.Native.Nat.{ℕ, zero, suc, ◌+◌, ◌*◌, ◌^◌, ◌≤◌}
use mathlib.Core.Path.{◌≡◌, refl, sym, ap, ◌∙◌}
use mathlib.Core.Bool.{true, false, true≢false}
use mathlib.Core.List.{[], ◌∷◌}
use native.Mathlib.Nat.{le_trans, le_of_eq, mul-one}
use native.Mathlib.Omega.{arith}
use lib.Dec.{T, lit<, lit≤}
use lib.Pow.{pow-add, pow_mono}
use lib.Ieee.{Float, binary32, add, sub, mul, div, sum, round, neg, le, lt, eq, of_bits, of_int}
use lib.Ieee.Bits.{is_true}
use lib.Ieee.Exact.{HasValue}
use lib.Ieee.Scale.{finite}
use Rattle.lists.specs.Lists.{grow, tab}
use Rattle.lists.specs.Marked.{pick, over_marked}
use Rattle.lists.proofs.Cases.{either, pick_both}
use Rattle.floats.specs.Bound.{Within, AtLeast, Bounded}
use Rattle.floats.specs.F32.{◌⊗◌}
use Rattle.floats.proofs.Within.{within_finite, mul_within, div_within, rep_down, rep_up, rep_pow}
use Rattle.floats.proofs.FromZero.{FromZero, above, mul_at_least}
use Rattle.floats.specs.Sums.{sum_over}
use Rattle.marks.specs.Marks.{count_on}
use Rattle.root.specs.Root.{sqrt_of}
use Rattle.stats.specs.Stats.{mean_of, centred_of, product_of, stats_of, centered_stats}
use Rattle.stats.specs.declared.Stats.{Stats}
use Rattle.stats.proofs.Bounds.{tmp_norm_lem, img_norm_lem, corr_within}
use Rattle.verdict.specs.Verdict.{tiny, rho_of, verdict_of}
use Rattle.verdict.specs.Finite.{RhoIsFinite, TooLarge}
use Rattle.verdict.specs.declared.Verdict.{Verdict}
use Rattle.refusals.specs.declared.Refusal.TheVariants.{RhoNotFinite, Flat}
use Rattle.refusals.specs.declared.Refusal.{Refusal}
use Rattle.refusals.specs.Refusals.{number}

tiny_is : HasValue tiny false 8796093 (2 ^ 43)
unfolding of_bits
tiny_is = (refl, refl)

-- at most 2 ^ 87 over at least 2 ^ -40
quotient : (e : ℕ) → e ≤ 87 → 2 ^ e * 2 ^ 40 * 1 ≤ 2 ^ 24 * 2 ^ 103 * (1 * 1)
quotient e h = le_trans (le_of_eq (mul-one (2 ^ e * 2 ^ 40) ∙ sym (pow-add 2 e 40))) (pow_mono {i = e + 40} {j = 127} (omega arith))

-- ---- rho, of statistics within bounds
module _ (a b : ℕ) (few : a + b ≤ 61) (s : Stats) (t : FromZero s.tmp_norm (2 ^ (a + 14)) 1) (i : FromZero s.img_norm (2 ^ (b + 14)) 1) (c : Within s.corr (2 ^ (24 + (a + 1 + (b + 1)))) 1) where
  abbrev norms : Float
  norms = s.img_norm ⊗ s.tmp_norm

  norms_finite : T (finite norms)
  norms_finite =
      let top = 2 ^ (b + 14 + (a + 14)) in
      within_finite norms top 1
      (mul_within binary32 s.img_norm s.tmp_norm (2 ^ (b + 14)) 1 (2 ^ (a + 14)) 1 top 1 (lit< tt) (lit< tt) (rep_pow (b + 14 + (a + 14)) (omega arith)) (omega (arith, pow-add 2 (b + 14) (a + 14))) i.1 t.1)

  norms_least : le s.tmp_norm tiny ≡ false → le s.img_norm tiny ≡ false → AtLeast norms 1 (2 ^ 40)
  norms_least ft fi =
      mul_at_least s.img_norm s.tmp_norm 8796093 (2 ^ 43) 8796093 (2 ^ 43) 1 (2 ^ 40) (lit< tt) (lit< tt) (rep_down 1 40 (lit≤ tt) (lit≤ tt)) (lit≤ tt) i.0 t.0
      (above s.img_norm tiny 8796093 (2 ^ 43) (2 ^ (b + 14)) 1 (lit< tt) i tiny_is fi) (above s.tmp_norm tiny 8796093 (2 ^ 43) (2 ^ (a + 14)) 1 (lit< tt) t tiny_is ft) norms_finite

  rho_finite : le s.tmp_norm tiny ≡ false → le s.img_norm tiny ≡ false → finite (rho_of s) ≡ true
  rho_finite ft fi =
      let e = 24 + (a + 1 + (b + 1)) in
      is_true (finite (rho_of s))
      (within_finite (rho_of s) (2 ^ 24 * 2 ^ 103) 1
      (div_within binary32 s.corr norms (2 ^ e) 1 1 (2 ^ 40) (2 ^ 24 * 2 ^ 103) 1 (lit< tt) (lit< tt) (rep_up (2 ^ 24) 103 (lit≤ tt) (lit≤ tt)) (quotient e (omega arith)) c (norms_least ft fi)))

-- ---- the verdict

-- a verdict's number
abbrev told : Result Verdict Refusal → ℕ
told (Err r) = number r
told (Ok v) = 0

-- 6 and the stop are not 7
never_bad_seven : (s : Stats) → (le s.tmp_norm tiny ≡ false → le s.img_norm tiny ≡ false → finite (rho_of s) ≡ true) → (last eps : Float) → verdict_of s last eps ≡ Err RhoNotFinite → ⊥
unfolding verdict_of
never_bad_seven s f last eps =
    let P : Result Verdict Refusal → Type 0 = λ v. v ≡ Err RhoNotFinite → ⊥ in
    let flat : P (Err Flat) = λ q. let z : told (Err Flat) ≡ told (Err RhoNotFinite) = ap told q in omega (arith, z) in
    let here : (v : Verdict) → P (Ok v) = λ v q. let z : told (Ok v) ≡ told (Err RhoNotFinite) = ap told q in omega (arith, z) in
    either P _ _ _ (λ e. flat) (λ ft. either P _ _ _ (λ e. flat) (λ fi. either P _ _ _ (λ e. pick_both P _ _ _ (here _) (here _)) (λ e. absurd (true≢false (sym (f ft fi) ∙ e)))))

pub rho_is_finite : RhoIsFinite
rho_is_finite marks n a b template warped N A B few ht hw =
    let s = centered_stats marks n template warped in
    let f = rho_finite a b (omega arith) s (tmp_norm_lem marks n N template warped a (omega arith) ht) (img_norm_lem marks n N template warped b (omega arith) hw) (corr_within marks n N template warped a b (omega arith) ht hw) in
    record { rho = f; never_seven = never_bad_seven s f }

-- ---- why a bound is needed

each : (x : Float) (k : ℕ) → Within x (2 ^ k) 1 → Within (neg x) (2 ^ k) 1 → Bounded (x ∷ neg x ∷ []) 2 k
each x k p q zero l = p
each x k p q (suc zero) l = q
each x k p q (suc (suc i)) l = absurd (omega arith)

pub too_large : TooLarge
unfolding verdict_of pick tab grow count_on over_marked centred_of mean_of stats_of product_of sum_over sqrt_of add sub mul div sum round neg le lt eq of_bits of_int
too_large last eps = (each (of_bits binary32 0x5f80_0000) 64 (lit≤ tt) (lit≤ tt), refl)
