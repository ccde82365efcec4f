-- Of every odd size up to 31: the exponents are from 0 to 6 and the kernel's weights from 0 to 1, by one computed test each. Assumes nothing.
use mathlib.Core.Path.{◌≡◌, sym, ap, ◌∙◌, subst}
use mathlib.Core.Bool.{Bool}
use mathlib.Core.List.{List}
use Prim.Native.Nat.{ℕ, ◌+◌, ◌*◌, ◌/◌, ◌%◌, ◌≤◌, ◌<◌}
use native.Mathlib.Nat.{zero-add}
use native.Mathlib.Omega.{arith}
use lib.Dec.{T}
use lib.ListN.{length, get_or}
use lib.Ieee.{Float, nan, add, sub, mul, div, round, of_int, of_bits}
use Rattle.lists.specs.Lists.{tab, put}
use Rattle.lists.specs.Marked.{over_marked}
use Rattle.lists.proofs.Grow.{length_tab, tab_ext}
use Rattle.floats.specs.Bound.{UpTo, Within}
use Rattle.floats.specs.F32.{◌⊗◌, ◌⊘◌, f32, 2f}
use Rattle.floats.specs.Sums.{sum_over, sum_to}
use Rattle.series.specs.Recurrence.{steps_of}
use Rattle.series.specs.Series.{y_of, exp_neg_of}
use Rattle.kernel.specs.Kernel.{sigma_of, weight_of, kernel_of}
use Rattle.lists.proofs.Fill.{fill_again, get_d_fill}
use Rattle.lists.proofs.Every.{every, every_at}
use Rattle.floats.proofs.Upward.{is_up_to, up_to_of_test}
use Rattle.floats.proofs.Values.{upto_within}

pub odd_is : (ksize : ℕ) → ksize % 2 ≡ 1 → ksize ≡ 2 * (ksize / 2) + 1
odd_is ksize odd = omega arith

-- ---- the exponents
abbrev pub exponent_of : ℕ → ℕ → Float
exponent_of ksize x = f32 (x * x) ⊘ (2f ⊗ sigma_of ksize ⊗ sigma_of ksize)

exponents : T (every 16 (λ r. every (1 + r) (λ x. is_up_to 6 1 (exponent_of (2 * r + 1) x))))
unfolding every is_up_to sigma_of add sub mul div of_int of_bits
exponents = tt

pub exponent_up_to : (ksize x : ℕ) → ksize ≤ 31 → ksize % 2 ≡ 1 → x ≤ ksize / 2 → UpTo (exponent_of ksize x) 6 1
exponent_up_to ksize x few odd near =
    let r = ksize / 2 in
    up_to_of_test 6 1 (exponent_of ksize x)
    (subst (λ (k : ℕ). T (is_up_to 6 1 (exponent_of k x))) (sym (odd_is ksize odd))
    (every_at (1 + r) (λ y. is_up_to 6 1 (exponent_of (2 * r + 1) y)) x
    (every_at 16 (λ q. every (1 + q) (λ y. is_up_to 6 1 (exponent_of (2 * q + 1) y))) r exponents (omega arith)) (omega arith)))

-- ---- the weights
abbrev weights_pass : ℕ → Bool
weights_pass ksize = let ks = kernel_of ksize in every ksize (λ i. is_up_to 1 1 (get_or ks i nan))

kernels : T (every 16 (λ r. weights_pass (2 * r + 1)))
unfolding every is_up_to kernel_of tab sum_to sum_over over_marked weight_of sigma_of exp_neg_of y_of steps_of add sub mul div round of_int of_bits
kernels = tt

pub weight_up_to : (ksize i : ℕ) → ksize ≤ 31 → ksize % 2 ≡ 1 → i < ksize → UpTo (get_or (kernel_of ksize) i nan) 1 1
weight_up_to ksize i few odd l =
    up_to_of_test 1 1 (get_or (kernel_of ksize) i nan)
    (every_at ksize (λ j. is_up_to 1 1 (get_or (kernel_of ksize) j nan)) i
    (subst (λ (k : ℕ). T (weights_pass k)) (sym (odd_is ksize odd)) (every_at 16 (λ r. weights_pass (2 * r + 1)) (ksize / 2) kernels (omega arith))) l)

module _ (ksize : ℕ) (few : ksize ≤ 31) (odd : ksize % 2 ≡ 1) where
  pub weight_within : (i : ℕ) → i < ksize → Within (get_or (kernel_of ksize) i nan) 1 1
  weight_within i l = upto_within (get_or (kernel_of ksize) i nan) 1 1 (weight_up_to ksize i few odd l)

pub length_kernel : (ksize : ℕ) → length (kernel_of ksize) ≡ ksize
unfolding kernel_of
length_kernel ksize = length_tab ksize _

-- weights that are stored, and then divided where they stand
pub kernel_is : (ksize : ℕ) (xs ys : List Float) (sum : Float) → ksize ≤ length xs → sum ≡ sum_to (weight_of ksize) ksize → ys ≡ put xs 0 (tab ksize (weight_of ksize)) →
    put ys 0 (tab ksize (λ i. get_or ys i nan ⊘ sum)) ≡ put xs 0 (kernel_of ksize)
unfolding kernel_of
kernel_is ksize xs ys sum fits e stored =
    let f = weight_of ksize in
    let total = sum_to f ksize in
    let read : (i : ℕ) → i < ksize → get_or (put xs 0 (tab ksize f)) i nan ≡ f i = λ i l. ap (λ (k : ℕ). get_or (put xs 0 (tab ksize f)) k nan) (sym (zero-add i)) ∙ get_d_fill xs 0 ksize f (rw zero-add fits) i nan l in
    ap (λ (z : List Float). put z 0 (tab ksize (λ i. get_or z i nan ⊘ sum))) stored
    ∙ ap (λ (z : Float). put (put xs 0 (tab ksize f)) 0 (tab ksize (λ i. get_or (put xs 0 (tab ksize f)) i nan ⊘ z))) e
    ∙ ap (put (put xs 0 (tab ksize f)) 0) (tab_ext ksize _ (λ i. f i ⊘ total) (λ i l. ap (λ (z : Float). z ⊘ total) (read i l)))
    ∙ fill_again xs 0 ksize f (rw zero-add fits) (λ i. f i ⊘ total)
