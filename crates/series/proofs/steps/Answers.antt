-- `series::steps` meets its contract. The loop's invariant: u is what the first i steps give. Assumes nothing.
use Rattle.std.proofs.Common.{◌≡◌, ℕ, ◌-◌, ◌≤◌, sym, refl, ap, ◌∙◌, le_trans, le_of_eq, add-one, arith}
use Rattle.series.specs.Recurrence.{u_next, steps_of}
use Rattle.series.specs.Series.{divisor_of, lowest_of}
use Rattle.series.proofs.Recurrence.{steps_le, divisor_pos, divisor_le, limit_le, within_divisor}
use Rattle.series.proofs.steps.Goals as goal

pub loop-i-init : goal.loop-i-init
unfolding steps_of
loop-i-init c = refl

pub step-u-requires : goal.step-u-requires
step-u-requires c =
    let s = c.args.s in
    let z = c.args.z in
    let k = c.args.top - c.loop-i.i in
    let last : lowest_of s ≤ k = omega arith in
    let d = c.divisor.ensures in (
      le_trans c.requires.0 (limit_le s),
      le_trans (divisor_pos s k last) (le_of_eq (sym d)),
      le_trans (le_of_eq d) (divisor_le s k (omega arith)),
      rw d (within_divisor s z k c.requires.0 last),
      le_trans (le_of_eq c.loop-i.invariant) (steps_le (divisor_of s) z c.args.top c.loop-i.i),
    )

pub loop-i-preserved : goal.loop-i-preserved
unfolding steps_of
loop-i-preserved c =
    let s = c.args.s in
    let z = c.args.z in
    let top = c.args.top in
    let i = c.loop-i.i in
    c.step-u.ensures.0
    ∙ ap (λ (d : ℕ). u_next z d c.loop-i.u) c.divisor.ensures
    ∙ ap (u_next z (divisor_of s (top - i))) c.loop-i.invariant
    ∙ ap (steps_of (divisor_of s) z top) (sym (add-one i))

pub returns : goal.returns
returns c =
    let s = c.args.s in
    let z = c.args.z in
    let top = c.args.top in
    let is = c.loop-i.invariant in
    let end : c.loop-i.i ≡ c.args.n = omega arith in
    (is ∙ ap (steps_of (divisor_of s) z top) end, le_trans (le_of_eq is) (steps_le (divisor_of s) z top c.loop-i.i))
