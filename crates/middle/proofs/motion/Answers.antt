-- `middle::motion` meets its contract. Assumes nothing.
use mathlib.Core.Path.{◌≡◌, sym, ap, ap₂, subst, ◌∙◌}
use mathlib.Core.Bool.{Bool, true}
use Prim.Native.Nat.{◌+◌, ◌%◌, ◌<◌}
use native.Mathlib.Omega.{arith}
use lib.Dec.{T, lit<}
use lib.Ieee.{Float, binary32, fits, to_bits}
use mir.Syntax.{w16}
use mir.ValLaws.{to_z-of_z}
use Rattle.lists.specs.Marked.{pick}
use Rattle.floats.specs.Bound.{Within}
use Rattle.floats.proofs.Values.{finite_number}
use Rattle.floats.proofs.Within.{within_finite}
use Rattle.floats.proofs.Patterns.{pattern_lt}
use Rattle.middle.specs.Held.{capped_of}
use Rattle.middle.proofs.Terms.{pattern_sign, far_motion, motion_is}
use Rattle.middle.proofs.motion.Goals as goal

yes : {b : Bool} → b ≡ true → T b
yes e = subst T (sym e) tt

-- the patterns of p and q, the signs' bits left out, are below that of 2^14
low_patterns : (p q : Float) → fits binary32 p ≡ true → fits binary32 q ≡ true → Within p 1 1 → Within q 2 1
    → (to_bits binary32 p % 2147483648 < 1182793728) × (to_bits binary32 q % 2147483648 < 1182793728)
unfolding pick
low_patterns p q f g h k = (pattern_lt p 1182793728 1 1 (yes f) h (lit< tt), pattern_lt q 1182793728 2 1 (yes g) k (lit< tt))

pub float_to_bits-shift : goal.float_to_bits-shift
float_to_bits-shift c = finite_number c.args.t c.requires.within.2

pub returns-then-shift-ge1182793728 : goal.returns-then-shift-ge1182793728
returns-then-shift-ge1182793728 c =
    let p_fits = yes c.well_formed.0.1 in
    let q_fits = yes c.well_formed.1.1.0.1 in
    let t_fits = yes c.well_formed.1.1.1.1.0.1 in
    let w = c.requires.within in
    let m = c.requires.a_bound in
    to_z-of_z w16 c.held.result (record { sfits = c.held.type_inv })
    ∙ c.held.ensures
    ∙ ap (λ (back : Bool). capped_of back 32768) (sym (pattern_sign c.args.t t_fits w.2))
    ∙ sym (far_motion c.args.p c.args.a c.args.q c.args.b c.args.t p_fits q_fits w.0 w.1 m.0 m.1 t_fits w.2 (omega (arith, c.if-shift-ge1182793728.true)))

pub float_to_bits-row : goal.float_to_bits-row
float_to_bits-row c = finite_number c.args.p (within_finite c.args.p 1 1 c.requires.within.0)

pub float_to_bits-across : goal.float_to_bits-across
float_to_bits-across c = finite_number c.args.q (within_finite c.args.q 2 1 c.requires.within.1)

pub shares-gain-requires : goal.shares-gain-requires
shares-gain-requires c =
    let low = low_patterns c.args.p c.args.q c.well_formed.0.1 c.well_formed.1.1.0.1 c.requires.within.0 c.requires.within.1 in
    record { p_bound = (low.0, low.1, omega (arith, c.if-shift-ge1182793728.false)); a_bound = c.requires.a_bound }

pub shares-requires : goal.shares-requires
shares-requires c =
    let low = low_patterns c.args.p c.args.q c.well_formed.0.1 c.well_formed.1.1.0.1 c.requires.within.0 c.requires.within.1 in
    record { p_bound = (low.0, low.1, omega (arith, c.if-shift-ge1182793728.false)); a_bound = c.requires.a_bound }

pub returns : goal.returns
returns c =
    let p_fits = yes c.well_formed.0.1 in
    let q_fits = yes c.well_formed.1.1.0.1 in
    let t_fits = yes c.well_formed.1.1.1.1.0.1 in
    let w = c.requires.within in
    let loss = c.plus-loss.ensures.0 ∙ ap₂ ◌+◌ c.shares.ensures.0 c.sized.ensures.0 in
    to_z-of_z w16 c.settled.result (record { sfits = c.settled.type_inv })
    ∙ c.settled.ensures
    ∙ motion_is c.args.p c.args.a c.args.q c.args.b c.args.t p_fits (within_finite c.args.p 1 1 w.0) q_fits (within_finite c.args.q 2 1 w.1) t_fits w.2 _ _ c.shares-gain.ensures.0 loss
