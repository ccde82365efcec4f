-- `options::exponent`: the places stay few. Assumes nothing.
use native.Mathlib.Omega.{arith}
use Rattle.options.proofs.Within.{held_to}
use Rattle.options.proofs.exponent.Goals as goal

pub overflow_add-k : goal.overflow_add-k
overflow_add-k c = omega (arith, held_to c.args.s.now c.args.at 0 8 c.digits_at-m.ensures)
