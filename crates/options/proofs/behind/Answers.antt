-- `options::behind`: the digits end within the word. Assumes nothing.
use native.Mathlib.Omega.{arith}
use Rattle.options.proofs.Within.{from_start, to_end}
use Rattle.options.proofs.behind.Goals as goal

pub overflow_sub-d : goal.overflow_sub-d
overflow_sub-d c = omega (arith, from_start c.args.s.now c.args.at c.args.before 16777217 c.digits_at-d.ensures)

pub tail-requires : goal.tail-requires
tail-requires c = (to_end c.args.s.now _ c.args.before 16777217 c.digits_at-d.ensures c.requires.1, omega arith)
