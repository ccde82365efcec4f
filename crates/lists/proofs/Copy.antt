-- A list copied to the front of another, an element at a turn: `none` is the loop's start, `more` its turn, `all` its end. A list stored
-- element by element from a place on. And a part that was lent and has become another list, or one value throughout. Assumes nothing.
use Prim.Native.Nat.{ℕ, ◌+◌, ◌≤◌, ◌<◌}
use mathlib.Core.Path.{◌≡◌, sym, ap, ◌∙◌}
use mathlib.Core.List.{List, [], ◌∷◌, ◌++◌, append-nil, append_assoc}
use native.Mathlib.Nat.{zero-add, add-zero}
use native.Mathlib.Numerals.{add-one}
use native.Mathlib.Omega.{arith}
use lib.ListN.{length, take, drop, get_or, set, length-append, replicate, length-replicate}
use lib.Seq.{length-take-le, take-suc, take-length, drop-drop}
use borrow.Rule.Slice.PartMut.{put_mid}
use Rattle.lists.specs.Lists.{tab, put}
use Rattle.lists.proofs.Grow.{tab_const}
use Rattle.lists.proofs.Put.{put_none, set_put}

module _ {A : Type 0} (xs ys : List A) where
  pub copy_none : xs ≡ put xs 0 (take 0 ys)
  copy_none = sym (put_none xs 0)

  pub copy_more : (i : ℕ) (d : A) → i < length ys → length ys ≤ length xs → set (put xs 0 (take i ys)) i (get_or ys i d) ≡ put xs 0 (take (i + 1) ys)
  copy_more i d h l =
      let n : length (take i ys) ≡ i = length-take-le i ys (omega arith) in
      ap (λ (k : ℕ). set (put xs 0 (take i ys)) k (get_or ys i d)) (sym (zero-add (length (take i ys)) ∙ n))
      ∙ set_put xs 0 (take i ys) (get_or ys i d) (omega arith)
      ∙ ap (put xs 0) (rw add-one (sym (take-suc ys i d h)))

  pub copy_all : (i : ℕ) → i ≡ length ys → put xs 0 (take i ys) ≡ put xs 0 ys
  copy_all i e = rw e (ap (put xs 0) (take-length ys))

-- ---- the elements of a list stored one after another, from a on
abbrev pub stored : {A : Type 0} → List A → ℕ → List A → List A
stored xs a [] = xs
stored xs a (v ∷ l) = stored (set xs a v) (a + 1) l

module _ {A : Type 0} (xs : List A) (a : ℕ) where
  stored_after : (m l : List A) → a + length m + length l ≤ length xs → stored (put xs a m) (a + length m) l ≡ put xs a (m ++ l)
  stored_after m [] h = ap (put xs a) (sym (append-nil m))
  stored_after m (v ∷ l) h =
      let n = m ++ (v ∷ []) in
      let e : a + length n ≡ a + length m + 1 = simp length-append (omega arith) in
      ap (λ (ys : List A). stored ys (a + length m + 1) l) (set_put xs a m v (omega arith))
      ∙ ap (λ (k : ℕ). stored (put xs a n) k l) (sym e)
      ∙ stored_after n l (omega arith)
      ∙ ap (put xs a) (append_assoc m (v ∷ []) l)

  pub stored_is : (l : List A) → a + length l ≤ length xs → stored xs a l ≡ put xs a l
  stored_is l h =
      ap (λ (ys : List A). stored ys a l) (sym (put_none xs a)) ∙ ap (λ (k : ℕ). stored (put xs a []) k l) (sym (add-zero a)) ∙ stored_after [] l (rw add-zero h)

-- ---- the k elements from a on, lent and come back as l
module _ {A : Type 0} (xs : List A) (a k : ℕ) where
  pub part_put : (l : List A) → length l ≡ k → put_mid a k xs l ≡ put xs a l
  unfolding put
  part_put l e = ap (λ (t : List A). take a xs ++ (l ++ t)) (drop-drop k a xs ∙ ap (λ (n : ℕ). drop (a + n) xs) (sym e))

  -- as one value
  pub part_filled : (n m : ℕ) (v : A) (l : List A) → l ≡ replicate m v → m ≡ n → n ≡ k → put_mid a k xs l ≡ put xs a (tab n (λ _. v))
  part_filled n m v l is e f =
      part_put l (ap length is ∙ length-replicate m v ∙ e ∙ f) ∙ ap (put xs a) (is ∙ ap (λ (q : ℕ). replicate q v) e ∙ sym (tab_const n v))
