-- `gradients::gradient_x_row` meets its contract: the runs of its first pixel, of those between and of its last make the row. Assumes nothing.
use Prim.Native.Nat.{ℕ, ◌+◌, ◌-◌}
use native.Mathlib.Omega.{arith}
use Rattle.lists.proofs.Fill.{fill_none}
use Rattle.gradients.specs.Gradients.{before_of, after_of}
use Rattle.gradients.proofs.Rows.{run_on}
use Rattle.gradients.proofs.gradient_x_row.Goals as goal

pub returns-then-w-lt2 : goal.returns-then-w-lt2
returns-then-w-lt2 c =
    let a = c.args in
    let xs = a.part.now in
    let r : ℕ → ℕ = λ x. a.at + after_of a.w x in
    let l : ℕ → ℕ = λ x. a.at + before_of x in
    run_on xs (a.n + a.at) r l 0 1 a.w _ _ _ (omega arith) xs _ (fill_none xs _ _) c.half_differences.ensures

pub returns : goal.returns
returns c =
    let a = c.args in
    let xs = a.part.now in
    let to = a.n + a.at in
    let r : ℕ → ℕ = λ x. a.at + after_of a.w x in
    let l : ℕ → ℕ = λ x. a.at + before_of x in
    run_on xs to r l (a.w - 1) 1 a.w _ _ _ (omega arith) _ _
    (run_on xs to r l 1 (a.w - 2) (a.w - 1) _ _ _ (omega arith) _ _
    (run_on xs to r l 0 1 1 _ _ _ (omega arith) xs _ (fill_none xs _ _) c.half_differences-2.ensures)
    c.half_differences-3.ensures)
    c.half_differences-4.ensures
