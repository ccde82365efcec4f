-- `checks::size` meets its contract. Assumes nothing.
use native.Mathlib.Nat.{mul-le-mul}
use Rattle.lists.proofs.Every.{sides_fit}
use Rattle.checks.proofs.Past.{size_is}
use Rattle.checks.proofs.size.Goals as goal

pub overflow_mul-result : goal.overflow_mul-result
overflow_mul-result c =
    let e = c.resized-s.ensures in
    sides_fit _ _ e.1.w_most e.1.h_most

pub returns : goal.returns
returns c =
    let e = c.resized-s.ensures in
    let a = c.args in
    (size_is _ a.w a.h _ _ e.0 c.edge.ensures, mul-le-mul e.1.w_most e.1.h_most)
