-- Of an image that is summed only the marked pixels count: images that agree there give the same sums. Assumes nothing.
use Prim.Native.Nat.{ℕ}
use mathlib.Core.Path.{◌≡◌, refl, sym, ap₂, ◌∙◌}
use mathlib.Core.List.{List}
use lib.Ieee.{Float}
use Rattle.floats.specs.F32.{◌⊖◌, ◌⊗◌}
use Rattle.floats.proofs.Sums.{sum_agree}
use Rattle.marks.specs.Marks.{on}
use Rattle.stats.specs.Stats.{product_of, AgreeAt}
use Rattle.sums.specs.Sums.{proj_of, hessian_of, error_of}
use Rattle.sums.proofs.Folds.{error_is}

module _ (ms : List ℕ) (n : ℕ) where
  pub product_agree : (js js' xs ys : List Float) → AgreeAt ms n js js' → AgreeAt ms n xs ys → product_of ms n js xs ≡ product_of ms n js' ys
  unfolding product_of
  product_agree js js' xs ys j h = sum_agree (on ms) (on ms) _ _ n (λ i l. refl) (λ i l m. ap₂ ◌⊗◌ (j i l m) (h i l m))

  module _ (j0 j0' j1 j2 : List Float) (same : AgreeAt ms n j0 j0') where
    pub proj_agree : (xs ys : List Float) → AgreeAt ms n xs ys → proj_of ms n j0 j1 j2 xs ≡ proj_of ms n j0' j1 j2 ys
    unfolding proj_of
    proj_agree xs ys h =
        let a = product_agree j0 j0' xs ys same h in
        let b = product_agree j1 j1 xs ys (λ i l m. refl) h in
        let c = product_agree j2 j2 xs ys (λ i l m. refl) h in
        λ k. (a k, b k, c k)

    pub hessian_agree : hessian_of ms n j0 j1 j2 ≡ hessian_of ms n j0' j1 j2
    unfolding hessian_of
    hessian_agree =
        let self : (js : List Float) → AgreeAt ms n js js = λ js i l m. refl in
        let a00 = product_agree j0 j0' j0 j0' same same in
        let a01 = product_agree j0 j0' j1 j1 same (self j1) in
        let a02 = product_agree j0 j0' j2 j2 same (self j2) in
        let a10 = product_agree j1 j1 j0 j0' (self j1) same in
        let a20 = product_agree j2 j2 j0 j0' (self j2) same in
        λ k. record {
          m00 = a00 k;
          m01 = a01 k;
          m02 = a02 k;
          m10 = a10 k;
          m11 = product_of ms n j1 j1;
          m12 = product_of ms n j1 j2;
          m20 = a20 k;
          m21 = product_of ms n j2 j1;
          m22 = product_of ms n j2 j2;
        }

  pub error_agree : (lambda : Float) (tz tz' iz iz' : List Float) → AgreeAt ms n tz tz' → AgreeAt ms n iz iz' → AgreeAt ms n (error_of n lambda tz iz) (error_of n lambda tz' iz')
  error_agree lambda tz tz' iz iz' t z i l m =
      error_is n lambda tz iz i l ∙ ap₂ (λ (a b : Float). lambda ⊗ a ⊖ b) (t i l m) (z i l m) ∙ sym (error_is n lambda tz' iz' i l)
