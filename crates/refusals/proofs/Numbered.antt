-- Each number from 1 to 13 has its refusal, and each refusal its number: each is tried. What a check answers, by its number. Assumes nothing.
use Rattle.std.specs.Prelude.{Ok, Err, Result, is_err}
use Prim.Native.Nat.{ℕ, ◌+◌, ◌-◌, ◌≤◌}
use mathlib.Core.Path.{◌≡◌, refl, ap, subst, ◌∙◌}
use mathlib.Core.Bool.{Bool, true, false, not}
use native.Mathlib.Omega.{arith}
use borrow.Author.Tests.{eqb-true}
use lib.Dec.{T, eqb, lit≤}
use Rattle.lists.specs.Marked.{pick}
use Rattle.lists.proofs.Cases.{choose, pick_true, pick_false, pick_both}
use Rattle.lists.proofs.Every.{every, every_at}
use Rattle.refusals.specs.Refusals.{number, refusal_of, checked, Numbered}
use Rattle.refusals.specs.declared.Refusal.{Refusal}
use Rattle.refusals.specs.declared.Refusal.TheVariants.{InvalidInput, SideTooLarge, SettingTooLarge, RoomTooShort, FewPixels, Flat, RhoNotFinite, NoInverse, NoStep, PoseLost, NoPrevious, OtherSides, StoreTooShort, Handed}

is_true : (b : Bool) → T b → b ≡ true
is_true true t = refl
is_true false t = absurd t

pub numbered : Numbered
unfolding Numbered refusal_of every pick
numbered n l h =
    let p : ℕ → Bool = λ k. eqb (number (refusal_of k)) k in
    let e : 1 + (n - 1) ≡ n = omega arith in
    eqb-true _ _ (is_true _ (subst (λ (k : ℕ). T (p k)) e (every_at 13 (λ i. p (1 + i)) (n - 1) tt (omega arith))))

-- whether it is of the table
abbrev is_named : Refusal → Bool
is_named (Handed n) = false
is_named InvalidInput = true
is_named SideTooLarge = true
is_named SettingTooLarge = true
is_named RoomTooShort = true
is_named FewPixels = true
is_named Flat = true
is_named RhoNotFinite = true
is_named NoInverse = true
is_named NoStep = true
is_named PoseLost = true
is_named NoPrevious = true
is_named OtherSides = true
is_named StoreTooShort = true

by_number : (r : Refusal) → T (is_named r) → Err r ≡ checked (number r)
unfolding checked refusal_of pick
by_number InvalidInput t = refl
by_number SideTooLarge t = refl
by_number SettingTooLarge t = refl
by_number RoomTooShort t = refl
by_number FewPixels t = refl
by_number Flat t = refl
by_number RhoNotFinite t = refl
by_number NoInverse t = refl
by_number NoStep t = refl
by_number PoseLost t = refl
by_number NoPrevious t = refl
by_number OtherSides t = refl
by_number StoreTooShort t = refl
by_number (Handed n) t = absurd t

-- a check that fails, and one that passes, by its number
pub fails : (r : Refusal) (n : ℕ) → T (is_named r) → number r ≡ n → Err r ≡ checked n
fails r n t e = by_number r t ∙ ap checked e

pub passes : (n : ℕ) → 0 ≡ n → Ok tt ≡ checked n
unfolding checked pick
passes n e = ap checked e

-- what a check refuses with is of the table
abbrev Low : Refusal → Type 0
Low r = number r ≤ 13

pub number_most : (n : ℕ) → number (refusal_of n) ≤ 13
unfolding refusal_of
number_most n =
    pick_both Low _ _ _ (lit≤ tt)
    (pick_both Low _ _ _ (lit≤ tt)
    (pick_both Low _ _ _ (lit≤ tt)
    (pick_both Low _ _ _ (lit≤ tt)
    (pick_both Low _ _ _ (lit≤ tt)
    (pick_both Low _ _ _ (lit≤ tt)
    (pick_both Low _ _ _ (lit≤ tt)
    (pick_both Low _ _ _ (lit≤ tt)
    (pick_both Low _ _ _ (lit≤ tt)
    (pick_both Low _ _ _ (lit≤ tt)
    (pick_both Low _ _ _ (lit≤ tt)
    (pick_both Low _ _ _ (lit≤ tt) (lit≤ tt))))))))))))

-- ---- and back: what a check's answer says of its number

-- 1 for a refusal
abbrev failed : Result (Unit {0}) Refusal → ℕ
failed (Ok u) = 0
failed (Err r) = 1

-- the refusal, or d where there is none
abbrev refusal_or : Refusal → Result (Unit {0}) Refusal → Refusal
refusal_or d (Ok u) = d
refusal_or d (Err r) = r

pub is_failed : (n : ℕ) (r : Refusal) → Err r ≡ checked n → (eqb n 0 ≡ false) × (r ≡ refusal_of n)
unfolding checked
is_failed n r e =
    choose (eqb n 0)
    (λ y. let z : failed (Err r) ≡ failed (Ok tt) = ap failed (e ∙ pick_true _ _ _ y) in absurd (omega (arith, z)))
    (λ f. (f, ap (refusal_or r) (e ∙ pick_false _ _ _ f)))

pub is_passed : (n : ℕ) (u : Unit {0}) → Ok u ≡ checked n → n ≡ 0
unfolding checked
is_passed n u e =
    choose (eqb n 0)
    (λ y. eqb-true _ _ y)
    (λ f. let z : failed (Ok u) ≡ failed (Err (refusal_of n)) = ap failed (e ∙ pick_false _ _ _ f) in absurd (omega (arith, z)))

failed_by : (b : Bool) (r : Refusal) → is_err (pick b (Ok (tt {0})) (Err r)) ≡ not b
unfolding pick
failed_by true r = refl
failed_by false r = refl

-- a check fails where its number is not 0
pub fails_is : (n : ℕ) → is_err (checked n) ≡ not (eqb n 0)
unfolding checked
fails_is n = failed_by (eqb n 0) (refusal_of n)
