-- Equal images one after another in a list, and a part of a list that was lent and has come back. Assumes nothing.
use Prim.Native.Nat.{ℕ, zero, suc, ◌+◌, ◌*◌, ◌≤◌, ◌<◌}
use mathlib.Core.Path.{◌≡◌, refl, sym, ap, ◌∙◌}
use mathlib.Core.List.{List, [], ◌∷◌, ◌++◌, append_assoc}
use mathlib.Core.Logic.{dite}
use native.Mathlib.Nat.{zero-mul, mul-le-mul_right}
use native.Mathlib.Decide.{dec_lt}
use native.Mathlib.Omega.{arith}
use lib.ListN.{length, take, drop, get_or, length-append, length-take, length-drop, take-append-drop}
use lib.Seq.{length-take-le, take_at, drop_at, get_or-take, get_or-drop, take-take, drop-drop, take-append-le, drop-append-le, take-add}
use Rattle.lists.specs.Lists.{put, image, set_image}
use Rattle.lists.proofs.Put.{length_put, drop_put}

-- ---- a part that was lent and has come back
part_append : {A : Type 0} (m n : ℕ) (p q : List A) → m + n ≤ length p → take n (drop m (p ++ q)) ≡ take n (drop m p)
part_append m n p q h =
    ap (take n) (drop-append-le m p q (omega arith))
    ∙ take-append-le n (drop m p) q (simp length-drop (omega arith))

-- no length is asked: past the end both sides are short in the same way
take_drop_take : {A : Type 0} (m n k : ℕ) (ys : List A) → m + n ≤ k → take n (drop m (take k ys)) ≡ take n (drop m ys)
take_drop_take zero n k ys h = take-take n k ys (omega arith)
take_drop_take (suc m) n zero ys h = absurd (omega arith)
take_drop_take (suc m) n (suc k) [] h = refl
take_drop_take (suc m) n (suc k) (y ∷ ys) h = take_drop_take m n k ys (omega arith)

pub part_put : {A : Type 0} (xs : List A) (a k b : ℕ) (l : List A) → b + length l ≤ k → a + k ≤ length xs →
    take a xs ++ (put (take k (drop a xs)) b l ++ drop k (drop a xs)) ≡ put xs (a + b) l
unfolding put
part_put xs a k b l h g =
    let ys = drop a xs in
    let m = b + length l in
    let len : length (take k (drop a xs)) ≡ k = simp (length-take, length-drop) (omega arith) in
    let rest : drop m (take k ys) ++ drop k ys ≡ drop m ys = sym (drop-append-le m (take k ys) (drop k ys) (rw len h)) ∙ ap (drop m) (take-append-drop k ys) in
    let s : a + (b + length l) ≡ a + b + length l = omega arith in
    simp (append_assoc, take-take b k ys (omega arith), rest, take-add) (rw (drop-drop, s))

-- ---- images
pub image_zero : {A : Type 0} (n : ℕ) (xs : List A) → image n 0 xs ≡ take n xs
unfolding image
image_zero n xs = simp zero-mul

pub image_set : {A : Type 0} (n k : ℕ) (xs l : List A) → length l ≡ n → k * n + n ≤ length xs → image n k (set_image n k l xs) ≡ l
unfolding put image set_image
image_set n k xs l e h =
    ap (take n) (drop_at (take (k * n) xs) _ (k * n) (length-take-le (k * n) xs (omega arith)))
    ∙ take_at l _ n e

pub image_set_other : {A : Type 0} (n k j : ℕ) (xs l : List A) → length l ≡ n → j * n + n ≤ length xs → (k ≡ j → ⊥) → image n k (set_image n j l xs) ≡ image n k xs
unfolding put image set_image
image_set_other {A} n k j xs l e h ne = dite (dec_lt k j) before after
  where
    len : length (take (j * n) xs) ≡ j * n
    len = length-take-le (j * n) xs (omega arith)

    before : k < j → image n k (set_image n j l xs) ≡ image n k xs
    before p =
        let q : k * n + n ≤ length (take (j * n) xs) = omega (arith, len, mul-le-mul_right {m = suc k} {n = j} n p) in
        part_append (k * n) n (take (j * n) xs) _ q
        ∙ sym (part_append (k * n) n (take (j * n) xs) (drop (j * n) xs) q)
        ∙ ap (λ (ys : List A). take n (drop (k * n) ys)) (take-append-drop (j * n) xs)

    after : (k < j → ⊥) → image n k (set_image n j l xs) ≡ image n k xs
    after p =
        let m : suc j ≤ k = omega arith in
        ap (take n) (drop_put xs (j * n) l (rw e h) (k * n) (omega (arith, mul-le-mul_right {m = suc j} {n = k} n m)))

pub length_set_image : {A : Type 0} (n k : ℕ) (xs l : List A) → length l ≡ n → k * n + n ≤ length xs → length (set_image n k l xs) ≡ length xs
unfolding set_image
length_set_image n k xs l e h = length_put xs (k * n) l (rw e h)

-- what lies past the first m images, of which k is one
pub drop_set : {A : Type 0} (n k m : ℕ) (xs l : List A) → length l ≡ n → k * n + n ≤ length xs → k < m → drop (m * n) (set_image n k l xs) ≡ drop (m * n) xs
unfolding set_image
drop_set n k m xs l e h p = drop_put xs (k * n) l (rw e h) (m * n) (rw e (omega (arith, mul-le-mul_right {m = suc k} {n = m} n p)))

-- a part that starts at image j: its image i is image j + i of the whole, as it is lent and when it is back
pub part_image : {A : Type 0} (n j i k : ℕ) (xs : List A) → i * n + n ≤ k → image n i (take k (drop (j * n) xs)) ≡ image n (j + i) xs
unfolding image
part_image n j i k xs h =
    let ys = drop (j * n) xs in
    let q : (j + i) * n ≡ j * n + i * n = omega arith in
    take_drop_take (i * n) n k ys h ∙ ap (take n) (drop-drop (i * n) (j * n) xs) ∙ ap (λ (m : ℕ). take n (drop m xs)) (sym q)

pub part_set : {A : Type 0} (n j i k : ℕ) (xs l : List A) → length l ≡ n → i * n + n ≤ k → j * n + k ≤ length xs →
    take (j * n) xs ++ (set_image n i l (take k (drop (j * n) xs)) ++ drop k (drop (j * n) xs)) ≡ set_image n (j + i) l xs
unfolding set_image
part_set n j i k xs l e h g =
    let q : j * n + i * n ≡ (j + i) * n = omega arith in
    part_put xs (j * n) k (i * n) l (rw e h) g ∙ ap (λ (m : ℕ). put xs m l) q

-- a step that was lent the part from image j on, read its image i and left a function of it in its image o
pub step_back : {A : Type 0} (D : List A → List A) (n j i o k : ℕ) (xs ys : List A) →
    ys ≡ set_image n o (D (image n i (take k (drop (j * n) xs)))) (take k (drop (j * n) xs)) →
    ((l : List A) → length (D l) ≡ n) → i * n + n ≤ k → o * n + n ≤ k → j * n + k ≤ length xs →
    take (j * n) xs ++ (ys ++ drop k (drop (j * n) xs)) ≡ set_image n (j + o) (D (image n (j + i) xs)) xs
step_back D n j i o k xs ys e len hi ho g =
    rw (e, part_image n j i k xs hi) (part_set n j o k xs (D (image n (j + i) xs)) (len _) ho g)

pub get_d_image : {A : Type 0} (n k i : ℕ) (xs : List A) (d : A) → i < n → get_or (image n k xs) i d ≡ get_or xs (k * n + i) d
unfolding image
get_d_image n k i xs d h = get_or-take n (drop (k * n) xs) i d h ∙ get_or-drop (k * n) xs i d

-- a is the place of number i of image k
pub get_d_place : {A : Type 0} (n k i a : ℕ) (xs : List A) (d : A) → i < n → a ≡ k * n + i → get_or xs a d ≡ get_or (image n k xs) i d
get_d_place n k i a xs d h e = ap (λ (j : ℕ). get_or xs j d) e ∙ sym (get_d_image n k i xs d h)

-- an image that lies within the first k numbers
pub image_in : {A : Type 0} (n j k : ℕ) (xs : List A) → j * n + n ≤ k → image n j (take k xs) ≡ image n j xs
unfolding image
image_in n j k xs h = take_drop_take (j * n) n k xs h

-- lists that agree at the front have the same images there
pub image_agree : {A : Type 0} (n j k : ℕ) (xs ys : List A) → j * n + n ≤ k → take k xs ≡ take k ys → image n j xs ≡ image n j ys
image_agree n j k xs ys h e = sym (image_in n j k xs h) ∙ ap (image n j) e ∙ image_in n j k ys h

-- ---- a lent part that comes back with puts in it: each put moves out to the whole
pub mid_put : {A : Type 0} (xs : List A) (a k b : ℕ) (p l : List A) → a ≤ length xs → b + length l ≤ length p →
    take a xs ++ (put p b l ++ drop k (drop a xs)) ≡ put (take a xs ++ (p ++ drop k (drop a xs))) (a + b) l
mid_put {A} xs a k b p l h q =
    let r = drop k (drop a xs) in
    let ys = take a xs ++ (p ++ r) in
    let e : length (take a xs) ≡ a = length-take-le a xs h in
    let ta : take a ys ≡ take a xs = take_at (take a xs) (p ++ r) a e in
    let da : drop a ys ≡ p ++ r = drop_at (take a xs) (p ++ r) a e in
    let n : length ys ≡ a + (length p + length r) = simp length-append (omega arith) in
    let t : take (length p) (drop a ys) ≡ p = ap (take (length p)) da ∙ take_at p r (length p) refl in
    let d : drop (length p) (drop a ys) ≡ r = ap (drop (length p)) da ∙ drop_at p r (length p) refl in
    sym (ap (λ (z : List A). z ++ (put p b l ++ r)) ta)
    ∙ ap (λ (z : List A). take a ys ++ (put z b l ++ r)) (sym t)
    ∙ ap (λ (z : List A). take a ys ++ (put (take (length p) (drop a ys)) b l ++ z)) (sym d)
    ∙ part_put ys a (length p) b l q (omega arith)

pub mid_self : {A : Type 0} (xs : List A) (a k : ℕ) → take a xs ++ (take k (drop a xs) ++ drop k (drop a xs)) ≡ xs
mid_self {A} xs a k = ap (λ (z : List A). take a xs ++ z) (take-append-drop k (drop a xs)) ∙ take-append-drop a xs

-- the same of images: image i of the part from image j on is image j + i of the whole
pub mid_image : {A : Type 0} (n j i k : ℕ) (xs p l : List A) → length l ≡ n → j * n ≤ length xs → i * n + n ≤ length p →
    take (j * n) xs ++ (set_image n i l p ++ drop k (drop (j * n) xs)) ≡ set_image n (j + i) l (take (j * n) xs ++ (p ++ drop k (drop (j * n) xs)))
unfolding set_image
mid_image {A} n j i k xs p l e h q =
    let m : j * n + i * n ≡ (j + i) * n = omega arith in
    mid_put xs (j * n) k (i * n) p l h (rw e q) ∙ ap (λ (z : ℕ). put (take (j * n) xs ++ (p ++ drop k (drop (j * n) xs))) z l) m
