-- What the helpers' tests say of their argument, and that a vector of no kind does not agree. Assumes nothing.
use Prim.Native.Nat.{ℕ}
use mathlib.Core.Bool.{Bool, true, false, ◌&&◌}
use mathlib.Core.Path.{◌≡◌, refl, sym, ap, subst, ◌∙◌}
use mathlib.Core.List.{List}
use lib.Dec.{T, ltb, lit<}
use lib.Ieee.{Float, binary32, of_bits, neg, le}
use lib.Ieee.Exact.{HasValue}
use Rattle.lists.specs.Marked.{pick}
use Rattle.lists.proofs.Cases.{pick_both}
use Rattle.floats.specs.F32.{0f, 2f}
use Rattle.floats.specs.Bound.{Within, UpTo}
use Rattle.floats.proofs.Signs.{within_of_le, up_to_of_le}
use Rattle.words.specs.Words.{stored_at}
use Rattle.vectors.specs.Kinds.{number_of}
use Rattle.vectors.specs.Helpers.{helper_table, helper_agrees}
use Rattle.vectors.specs.Images.{image_table, image_agrees}
use Rattle.vectors.specs.Passes.{pass_table, pass_agrees}
use Rattle.vectors.specs.Vectors.{agrees_of}
use Rattle.vectors.specs.declared.kinds.Kind.{Kind}
use Rattle.vectors.specs.declared.kinds.Kind.TheVariants.{Sqrt, Cos, Sin, ExpNeg, Floor, Round, Abs, IsFinite, ToF32, AsUsize, Sides, Resize, Kernel, Blur, GradientX, GradientY, Prepare, Warp, Stats, TryInverse, Rows}
use Rattle.vectors.proofs.Tests.{first_of, second_of, kind_none}

-- ---- the tests
two_is : HasValue (of_bits binary32 0x4000_0000) false 2 1
unfolding of_bits
two_is = (refl, refl)

pub to_two : (x : Float) → (le x 2f && le (neg 2f) x) ≡ true → Within x 2 1
to_two x e = within_of_le x 2f 2 1 (lit< tt) two_is (subst T (sym (first_of (le x 2f) _ e)) tt) (subst T (sym (second_of (le x 2f) _ e)) tt)

six_is : HasValue (of_bits binary32 0x40c0_0000) false 6 1
unfolding of_bits
six_is = (refl, refl)

pub to_six : (x : Float) → (le x (of_bits binary32 0x40c0_0000) && le 0f x) ≡ true → UpTo x 6 1
unfolding of_bits
to_six x e =
    let six = of_bits binary32 0x40c0_0000 in
    up_to_of_le x six 6 1 (lit< tt) six_is (subst T (sym (second_of (le x six) _ e)) tt) (subst T (sym (first_of (le x six) _ e)) tt)

-- ---- no kind has the number
module _ (number : ℕ) (other : (kind : Kind) → number_of kind ≡ number → ⊥) (words : List ℕ) where
  no_helper : false ≡ helper_agrees number words
  unfolding helper_agrees
  no_helper =
      let is : (kind : Kind) → number ≡ number_of kind → ⊥ = λ kind e. other kind (sym e) in
      kind_none number (helper_table words) (is Sqrt, (is Cos, (is Sin, (is ExpNeg, (is Floor, (is Round, (is Abs, (is IsFinite, (is ToF32, (is AsUsize, tt))))))))))

  no_image : false ≡ image_agrees number words
  unfolding image_agrees
  no_image =
      let is : (kind : Kind) → number ≡ number_of kind → ⊥ = λ kind e. other kind (sym e) in
      kind_none number (image_table words) (is Sides, (is Resize, (is Kernel, (is Blur, (is GradientX, (is GradientY, (is Prepare, tt)))))))

  no_pass : false ≡ pass_agrees number words
  unfolding pass_agrees
  no_pass =
      let is : (kind : Kind) → number ≡ number_of kind → ⊥ = λ kind e. other kind (sym e) in
      kind_none number (pass_table words) (is Warp, (is Stats, (is TryInverse, (is Rows, tt))))

  pub no_kind : number ≡ stored_at words 0 → false ≡ agrees_of words
  unfolding agrees_of
  no_kind e =
      let by : ℕ → Bool = λ k. pick (ltb k 16) (helper_agrees k words) (pick (ltb k 23) (image_agrees k words) (pass_agrees k words)) in
      let none : false ≡ by number = pick_both (λ b. false ≡ b) (ltb number 16) _ _ no_helper (pick_both (λ b. false ≡ b) (ltb number 23) _ _ no_image no_pass) in
      none ∙ ap by e
