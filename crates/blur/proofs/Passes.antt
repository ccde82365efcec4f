-- The two passes with the kernel's weights are the definition's, and the second over what the first leaves is the blur. Assumes nothing.
use mathlib.Core.Path.{◌≡◌, refl, ap, ◌∙◌, subst}
use mathlib.Core.List.{List, ◌++◌}
use Prim.Native.Nat.{ℕ, ◌-◌, ◌*◌, ◌≤◌}
use native.Mathlib.Nat.{one-mul, mul_comm}
use native.Mathlib.Omega.{arith}
use lib.ListN.{length, take, drop}
use lib.Ieee.{Float}
use Rattle.lists.specs.Lists.{put, image, set_image}
use Rattle.lists.proofs.Grow.{length_grid}
use Rattle.lists.proofs.Put.{take_put_front}
use Rattle.lists.proofs.Images.{image_set, length_set_image, step_back}
use Rattle.blur.specs.declared.Along.{Along}
use Rattle.blur.specs.declared.Along.TheVariants.{Rows, Columns}
use Rattle.kernel.specs.Kernel.{kernel_of}
use Rattle.blur.specs.Blur.{rows_of, columns_of}
use Rattle.blur.specs.Pass.{taps_of, sweep_of}
use Rattle.kernel.proofs.Kernels.{length_kernel}

pub rows_are : (ksize w h : ℕ) (src : List Float) → sweep_of Rows (kernel_of ksize) ksize w h src ≡ rows_of ksize w h src
unfolding sweep_of taps_of rows_of
rows_are ksize w h src = refl

pub columns_are : (ksize w h : ℕ) (src : List Float) → sweep_of Columns (kernel_of ksize) ksize w h src ≡ columns_of ksize w h src
unfolding sweep_of taps_of columns_of
columns_are ksize w h src = refl

pub length_pass : (along : Along) (ks : List Float) (ksize w h : ℕ) (src : List Float) → length (sweep_of along ks ksize w h src) ≡ w * h
unfolding sweep_of
length_pass along ks ksize w h src = length_grid w h _ ∙ mul_comm h w

-- the front of an array that the kernel was put in
pub front_is : (ksize : ℕ) (xs ys : List Float) → ys ≡ put xs 0 (kernel_of ksize) → take ksize ys ≡ kernel_of ksize
front_is ksize xs ys e = ap (take ksize) e ∙ take_put_front xs (kernel_of ksize) ksize (length_kernel ksize)

-- a step that was lent all from the second image on, and made its second image of its first
second : (D : List Float → List Float) (n : ℕ) (ys zs : List Float) → ((l : List Float) → length (D l) ≡ n) → 3 * n ≤ length ys →
    zs ≡ set_image n 1 (D (image n 0 (take (length ys - n) (drop n ys)))) (take (length ys - n) (drop n ys)) →
    take n ys ++ (zs ++ drop (length ys - n) (drop n ys)) ≡ set_image n 2 (D (image n 1 ys)) ys
second D n ys zs len fits =
    let k = length ys - n in
    subst
    (λ (a : ℕ). zs ≡ set_image n 1 (D (image n 0 (take k (drop a ys)))) (take k (drop a ys)) → take a ys ++ (zs ++ drop k (drop a ys)) ≡ set_image n 2 (D (image n 1 ys)) ys)
    (one-mul n)
    (λ e. step_back D n 1 0 1 k ys zs e len (omega arith) (omega arith) (omega arith))

-- THE LAW: the pass along the rows, then the one down the columns
pub both : (ksize w h : ℕ) (ks xs ys zs : List Float) → ks ≡ kernel_of ksize → 3 * (w * h) ≤ length xs →
    ys ≡ set_image (w * h) 1 (sweep_of Rows ks ksize w h (image (w * h) 0 xs)) xs →
    zs ≡ set_image (w * h) 1 (sweep_of Columns ks ksize w h (image (w * h) 0 (take (length ys - w * h) (drop (w * h) ys)))) (take (length ys - w * h) (drop (w * h) ys)) →
    take (w * h) ys ++ (zs ++ drop (length ys - w * h) (drop (w * h) ys)) ≡ set_image (w * h) 2 (columns_of ksize w h (rows_of ksize w h (image (w * h) 0 xs))) (set_image (w * h) 1 (rows_of ksize w h (image (w * h) 0 xs)) xs)
both ksize w h ks xs ys zs k fits first then =
    let n = w * h in
    let R = sweep_of Rows ks ksize w h (image n 0 xs) in
    let len : length R ≡ n = length_pass Rows ks ksize w h (image n 0 xs) in
    let one : length ys ≡ length xs = ap length first ∙ length_set_image n 1 xs R len (omega arith) in
    let mid : image n 1 ys ≡ R = ap (image n 1) first ∙ image_set n 1 xs R len (omega arith) in
    second (sweep_of Columns ks ksize w h) n ys zs (length_pass Columns ks ksize w h) (omega arith) then
    ∙ ap (λ (l : List Float). set_image n 2 (sweep_of Columns ks ksize w h l) ys) mid
    ∙ ap (set_image n 2 (sweep_of Columns ks ksize w h R)) first
    ∙ ap (λ (l : List Float). set_image n 2 (sweep_of Columns l ksize w h (sweep_of Rows l ksize w h (image n 0 xs))) (set_image n 1 (sweep_of Rows l ksize w h (image n 0 xs)) xs)) k
    ∙ ap (λ (l : List Float). set_image n 2 (sweep_of Columns (kernel_of ksize) ksize w h l) (set_image n 1 l xs)) (rows_are ksize w h (image n 0 xs))
    ∙ ap (λ (l : List Float). set_image n 2 l (set_image n 1 (rows_of ksize w h (image n 0 xs)) xs)) (columns_are ksize w h (rows_of ksize w h (image n 0 xs)))
