-- A list that differs from another in one run alone is the other with its own run put there; and so for two images side by side. Assumes nothing.
use Prim.Native.Nat.{ℕ, ◌+◌, ◌*◌, ◌≤◌}
use mathlib.Core.Path.{◌≡◌, sym, ap, ◌∙◌}
use mathlib.Core.List.{List, ◌++◌}
use native.Mathlib.Omega.{arith}
use lib.ListN.{length, take, drop, length-take, length-drop}
use lib.Seq.{take-add, drop-drop}
use Rattle.lists.specs.Lists.{put, image, set_image}
use Rattle.lists.proofs.Put.{put_put}
use Rattle.lists.proofs.Images.{mid_self}

-- the k numbers from a on
own_run : {A : Type 0} (a k : ℕ) (xs ys : List A) → a + k ≤ length ys → take a ys ≡ take a xs → drop (a + k) ys ≡ drop (a + k) xs → ys ≡ put xs a (take k (drop a ys))
unfolding put
own_run {A} a k xs ys fits same_before same_after =
    let e : length (take k (drop a ys)) ≡ k = simp (length-take, length-drop) (omega arith) in
    sym (mid_self ys a k) ∙ rw (e, drop-drop, same_before, same_after)

-- one image
pub own_image : {A : Type 0} (n k : ℕ) (xs ys : List A) → k * n + n ≤ length xs → length ys ≡ length xs → take (k * n) ys ≡ take (k * n) xs → drop (k * n + n) ys ≡ drop (k * n + n) xs →
    ys ≡ set_image n k (image n k ys) xs
unfolding image set_image
own_image n k xs ys fits same_length same_before same_after = own_run (k * n) n xs ys (omega arith) same_before same_after

-- THE LAW: the images 4 and 5
pub own_images : {A : Type 0} (n : ℕ) (xs ys : List A) → 6 * n ≤ length xs → length ys ≡ length xs → take (4 * n) ys ≡ take (4 * n) xs → drop (6 * n) ys ≡ drop (6 * n) xs →
    ys ≡ set_image n 5 (image n 5 ys) (set_image n 4 (image n 4 ys) xs)
unfolding image set_image
own_images {A} n xs ys fits same_length same_before same_after =
    let l = take n (drop (4 * n) ys) in
    let m = take n (drop (5 * n) ys) in
    let six : 4 * n + (n + n) ≡ 6 * n = omega arith in
    let five : 4 * n + n ≡ 5 * n = omega arith in
    let e : length l ≡ n = simp (length-take, length-drop) (omega arith) in
    let f : length m ≡ n = simp (length-take, length-drop) (omega arith) in
    let both : take (n + n) (drop (4 * n) ys) ≡ l ++ m = take-add n n (drop (4 * n) ys) ∙ ap (λ (z : List A). l ++ take n z) (drop-drop n (4 * n) ys ∙ ap (λ (k : ℕ). drop k ys) five) in
    own_run (4 * n) (n + n) xs ys (omega arith) same_before (rw six same_after)
    ∙ ap (put xs (4 * n)) both
    ∙ sym (put_put xs (4 * n) l m (omega arith))
    ∙ ap (λ (k : ℕ). put (put xs (4 * n) l) k m) (ap (λ (k : ℕ). 4 * n + k) e ∙ five)
