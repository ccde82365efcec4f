-- `blends::reads_stretch` meets its contract. Assumes nothing.
use mathlib.Core.Path.{◌≡◌, ap, ◌∙◌}
use Prim.Native.Nat.{ℕ, ◌+◌, ◌-◌}
use native.Mathlib.Omega.{arith}
use Rattle.blends.specs.Reads.{three_rows}
use Rattle.blends.proofs.Beside.{three_none}
use Rattle.blends.proofs.Stretch.{taken}
use Rattle.blends.proofs.reads_stretch.Goals as goal

pub returns-else-from-to : goal.returns-else-from-to
returns-else-from-to c =
    let a = c.args in
    let none : 0 ≡ a.to - a.from = omega arith in
    let rule = taken a.n a.w a.at a.from a.to a.spots.now a.across.now a.down.now a.part.now in
    three_none a.n (a.at + a.from) rule a.part.now ∙ ap (λ (m : ℕ). three_rows a.n (a.at + a.from) m rule a.part.now) none
