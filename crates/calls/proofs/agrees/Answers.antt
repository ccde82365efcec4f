-- `calls::agrees` meets its contract. Assumes nothing.
use Rattle.calls.proofs.Told.{no_kind}
use Rattle.calls.proofs.agrees.Goals as goal

pub returns-in_default : goal.returns-in_default
returns-in_default c = no_kind c.args.kind c.in_default.ensures c.args.words.now
