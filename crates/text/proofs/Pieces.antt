-- Pieces put one after another make a line. Assumes nothing.
use Prim.Native.Nat.{ℕ, ◌+◌, ◌≤◌}
use mathlib.Core.Path.{◌≡◌, refl, ap, subst, ◌∙◌}
use mathlib.Core.Bool.{true, false}
use mathlib.Core.List.{List, [], ◌∷◌, ◌++◌, append_assoc}
use native.Mathlib.Omega.{arith}
use lib.IntN.{ℤ}
use lib.ListN.{length, length-append}
use Rattle.lists.specs.Lists.{put}
use Rattle.lists.specs.Marked.{pick}
use Rattle.lists.proofs.Put.{then_put}
use Rattle.text.specs.Text.{decimal_of, signed_of, words_line, frame_line, end_word, end_line, Wrote}

module _ {xs ys zs : List ℕ} {a m n b r : ℕ} {l k : List ℕ} where
  pub then_wrote : Wrote xs a l m ys b → Wrote ys b k n zs r → a + m + n ≤ length xs → Wrote xs a (l ++ k) (m + n) zs r
  then_wrote v w h =
      let e : length (l ++ k) ≡ length l + length k = length-append l k in
      let p : length l ≤ m = v.bound in
      let q : length k ≤ n = w.bound in
      let i : b ≡ a + length l = v.next in
      let j : r ≡ b + length k = w.next in
      record {
        next = omega arith;
        bound = omega arith;
        text = then_put xs a l b k v.text w.text i (omega arith);
      }

-- the second piece, put at an index that is the end of the first
pub then_wrote_at : {xs ys zs : List ℕ} {a m n b q r : ℕ} {l k : List ℕ} → Wrote xs a l m ys b → q ≡ b → Wrote ys q k n zs r → a + m + n ≤ length xs → Wrote xs a (l ++ k) (m + n) zs r
then_wrote_at {ys = ys} {zs = zs} {n = n} {r = r} {k = k} v e w h = then_wrote v (subst (λ (z : ℕ). Wrote ys z k n zs r) e w) h

-- the same text in other words, with another bound
pub wrote_as : {xs ys : List ℕ} {a m n r : ℕ} {l k : List ℕ} → Wrote xs a l m ys r → l ≡ k → length l ≤ n → Wrote xs a k n ys r
wrote_as {xs} {ys} {a} w e h = record {
  next = w.next ∙ ap (λ (z : List ℕ). a + length z) e;
  bound = rw e at h;
  text = w.text ∙ ap (put xs a) e;
}

-- a word with the byte that ends it
abbrev pub ended : List ℕ → ℕ → List ℕ
ended w b = w ++ (b ∷ [])

pub frame_pieces : (position number passes : ℕ) (dx dy turn : ℤ) →
    ((((ended (decimal_of position) 32 ++ ended (decimal_of number) 32) ++ ended (decimal_of passes) 32) ++ ended (signed_of dx) 32) ++ ended (signed_of dy) 32) ++ ended (signed_of turn) 10
    ≡ frame_line position number passes dx dy turn
unfolding frame_line words_line
frame_pieces position number passes dx dy turn = simp append_assoc

pub done_pieces : (frames : ℕ) → (100 ∷ 111 ∷ 110 ∷ 101 ∷ 32 ∷ []) ++ ended (decimal_of frames) 10 ≡ end_line true frames
unfolding end_line end_word words_line pick
done_pieces frames = refl

pub cut_pieces : (frames : ℕ) → (99 ∷ 117 ∷ 116 ∷ 32 ∷ []) ++ ended (decimal_of frames) 10 ≡ end_line false frames
unfolding end_line end_word words_line pick
cut_pieces frames = refl
