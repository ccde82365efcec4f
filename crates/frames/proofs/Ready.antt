-- Two frames prepared and two gradients added, one after another, make the work ready. Assumes nothing.
use Prim.Native.Nat.{ℕ, ◌+◌, ◌*◌, ◌%◌, ◌≤◌}
use mathlib.Core.Path.{◌≡◌, ap, ◌∙◌}
use mathlib.Core.List.{List}
use native.Mathlib.Omega.{arith}
use lib.Dec.{lit≤}
use lib.ListN.{length}
use lib.Ieee.{Float}
use Rattle.lists.specs.Lists.{image, set_image}
use Rattle.lists.proofs.Fill.{row_in}
use Rattle.lists.proofs.Images.{image_set, image_set_other, length_set_image, drop_set}
use Rattle.gradients.specs.Gradients.{gradient_x, gradient_y}
use Rattle.gradients.proofs.Sizes.{length_gradient_x, length_gradient_y}
use Rattle.prepare.specs.Prepared.{prepared_of, prepared_in}
use Rattle.prepare.proofs.Work.{length_prepared_in, prepared_other, prepared_rest, prepared_image}
use Rattle.frames.specs.Ready.{Ready}

module _ (template input : List ℕ) (w h tw th ksize : ℕ) (xs : List Float) where
  abbrev n : ℕ
  n = tw * th

  -- the work after each step
  abbrev one : List Float
  one = prepared_in 6 template w h tw th ksize xs

  abbrev two : List Float
  two = prepared_in 0 input w h tw th ksize one

  abbrev three : List Float
  three = set_image n 3 (gradient_x tw th (image n 2 two)) two

  abbrev pub four : List Float
  four = set_image n 4 (gradient_y tw th (image n 2 three)) three

  pub is_ready : length template ≡ w * h → length input ≡ w * h → 12 * n ≤ length xs → ksize % 2 ≡ 1 → Ready template input w h tw th ksize xs four
  is_ready s t fits odd =
      let room : (k : ℕ) → k ≤ 11 → k * n + n ≤ length xs = λ k b. omega (arith, row_in n k 12 (omega arith)) in
      let l1 : length one ≡ length xs = length_prepared_in 6 template w h tw th ksize xs s (lit≤ tt) fits in
      let f1 : 12 * n ≤ length one = omega arith in
      let l2 : length two ≡ length xs = length_prepared_in 0 input w h tw th ksize one t (lit≤ tt) f1 ∙ l1 in
      let gx = length_gradient_x tw th (image n 2 two) in
      let gy = length_gradient_y tw th (image n 2 three) in
      let r3 : 3 * n + n ≤ length two = omega (arith, room 3 (lit≤ tt)) in
      let l3 : length three ≡ length xs = length_set_image n 3 two (gradient_x tw th (image n 2 two)) gx r3 ∙ l2 in
      let r4 : 4 * n + n ≤ length three = omega (arith, room 4 (lit≤ tt)) in
      let past3 : (k : ℕ) → (k ≡ 3 → ⊥) → image n k three ≡ image n k two = λ k a. image_set_other n k 3 two (gradient_x tw th (image n 2 two)) gx r3 a in
      let past4 : (k : ℕ) → (k ≡ 4 → ⊥) → image n k four ≡ image n k three = λ k a. image_set_other n k 4 three (gradient_y tw th (image n 2 three)) gy r4 a in
      let in2 : image n 2 two ≡ prepared_of input w h tw th ksize = prepared_image 0 input w h tw th ksize one t (lit≤ tt) f1 odd in
      record {
        template_is =
            past4 8 (λ q. omega arith) ∙ past3 8 (λ q. omega arith)
            ∙ prepared_other 0 input w h tw th ksize one t (lit≤ tt) f1 8 (λ q. omega arith) (λ q. omega arith) (λ q. omega arith)
            ∙ prepared_image 6 template w h tw th ksize xs s (lit≤ tt) fits odd;
        input_is = past4 2 (λ q. omega arith) ∙ past3 2 (λ q. omega arith) ∙ in2;
        gx_is = past4 3 (λ q. omega arith) ∙ image_set n 3 two (gradient_x tw th (image n 2 two)) gx r3 ∙ ap (gradient_x tw th) in2;
        gy_is = image_set n 4 three (gradient_y tw th (image n 2 three)) gy r4 ∙ ap (gradient_y tw th) (past3 2 (λ q. omega arith) ∙ in2);
        rest =
            drop_set n 4 12 three (gradient_y tw th (image n 2 three)) gy r4 (omega arith)
            ∙ drop_set n 3 12 two (gradient_x tw th (image n 2 two)) gx r3 (omega arith)
            ∙ prepared_rest 0 input w h tw th ksize one t (lit≤ tt) f1
            ∙ prepared_rest 6 template w h tw th ksize xs s (lit≤ tt) fits;
        size = length_set_image n 4 three (gradient_y tw th (image n 2 three)) gy r4 ∙ l3;
      }
