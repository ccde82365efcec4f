-- `root::sqrt` meets its contract: each way out of the function by the bit patterns that it takes. Assumes nothing.
use mathlib.Core.Path.{◌≡◌, refl, sym, ap, ◌∙◌, subst}
use mathlib.Core.Bool.{true}
use Prim.Native.Nat.{ℕ}
use native.Mathlib.Omega.{arith}
use lib.Dec.{T, lit≤}
use lib.Ieee.{Float, binary32, fits, ne, of_bits, to_bits, add}
use lib.Ieee.Compare.{differs_from_itself}
use lib.Ieee.Bits.{of_bits-to_bits, to_bits-lt}
use Rattle.floats.proofs.Patterns.{no_nan, number_pattern}
use Rattle.root.specs.Root.{sqrt_of}
use Rattle.root.proofs.Patterns.{other_root}
use Rattle.root.proofs.Nearest.{of_root}
use Rattle.root.proofs.sqrt.Goals as goal

root_nan : (x : Float) → ne x x ≡ true → x ≡ sqrt_of x
unfolding sqrt_of
root_nan x h = let e = differs_from_itself x (subst T (sym h) tt) in e ∙ ap sqrt_of (sym e)

of_value : (x y : Float) → T (fits binary32 x) → y ≡ sqrt_of (of_bits binary32 (to_bits binary32 x)) → y ≡ sqrt_of x
of_value x y f h = h ∙ ap sqrt_of (of_bits-to_bits binary32 x f)

-- the value of the pattern b is its own root: +0, +infinity and -0
abbrev Self : ℕ → Type 0
Self b = of_bits binary32 b ≡ sqrt_of (of_bits binary32 b)

selves : Self 0 × Self 2139095040 × Self 2147483648
unfolding of_bits sqrt_of
selves = (refl, refl, refl)

self : (x : Float) (b : ℕ) → T (fits binary32 x) → to_bits binary32 x ≡ b → Self b → x ≡ sqrt_of x
self x b f e h = let p = sym (of_bits-to_bits binary32 x f) ∙ ap (λ (n : ℕ). of_bits binary32 n) e in p ∙ h ∙ ap sqrt_of (sym p)

pub returns-then-x : goal.returns-then-x
returns-then-x c = let e = (root_nan c.args.x c.if-x.true) in record { value = e; nearest = of_root _ _ e }

pub float_to_bits-b : goal.float_to_bits-b
float_to_bits-b c = no_nan c.args.x c.if-x.false

pub returns-then-b-eq0 : goal.returns-then-b-eq0
returns-then-b-eq0 c =
    let held : T (fits binary32 c.args.x) =
    subst T (sym c.well_formed.0.1) tt in
    let e = (self c.args.x 0 held (omega (arith, c.if-b-eq0.true)) selves.0) in record { value = e; nearest = of_root _ _ e }

pub float_from_bits-result : goal.float_from_bits-result
float_from_bits-result c = number_pattern c.root_bits.result (omega arith)

pub returns-then-b-lt2139095040 : goal.returns-then-b-lt2139095040
returns-then-b-lt2139095040 c =
    let held : T (fits binary32 c.args.x) =
    subst T (sym c.well_formed.0.1) tt in
    let e = (of_value c.args.x (of_bits binary32 c.root_bits.result) held c.root_bits.ensures.1) in record { value = e; nearest = of_root _ _ e }

pub returns-then-b-eq2139095040 : goal.returns-then-b-eq2139095040
returns-then-b-eq2139095040 c =
    let held : T (fits binary32 c.args.x) =
    subst T (sym c.well_formed.0.1) tt in
    let e = (self c.args.x 2139095040 held (omega (arith, c.if-b-eq2139095040.true)) selves.1) in record { value = e; nearest = of_root _ _ e }

pub returns-then-b : goal.returns-then-b
returns-then-b c =
    let held : T (fits binary32 c.args.x) =
    subst T (sym c.well_formed.0.1) tt in
    let e = (self c.args.x 2147483648 held (omega (arith, c.if-b.true)) selves.2) in record { value = e; nearest = of_root _ _ e }

pub float_from_bits-result-2 : goal.float_from_bits-result-2
float_from_bits-result-2 c = number_pattern _ (lit≤ tt)

pub float_from_bits-result-3 : goal.float_from_bits-result-3
float_from_bits-result-3 c = number_pattern _ (lit≤ tt)

-- the sum that is returned computes to a NaN
pub returns : goal.returns
unfolding add of_bits
returns c =
    let held : T (fits binary32 c.args.x) =
    subst T (sym c.well_formed.0.1) tt in
    let b = to_bits binary32 c.args.x in
    let e =
    of_value c.args.x _ held
    (sym (other_root b (to_bits-lt binary32 c.args.x held) (omega (arith, c.if-b-lt2139095040.false, c.if-b-eq2139095040.false)) (λ (e : b ≡ 2147483648). omega (arith, e, c.if-b.false)))) in
    record { value = e; nearest = of_root _ _ e }
