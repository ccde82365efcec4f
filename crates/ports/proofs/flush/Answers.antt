-- `ports::flush` meets its contract: the law that gives `Handed` is used here alone. Assumes nothing.
use Rattle.std.proofs.Common.{refl}
use Rattle.ports.specs.Seal.{by_flush}
use Rattle.ports.proofs.flush.Goals as goal

pub returns : goal.returns
returns c = (refl, by_flush _)
