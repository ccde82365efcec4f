-- `records::config_at` reads each field at its place. Assumes nothing.
use Rattle.records.specs.Reading.{config_at}
use Rattle.records.proofs.config_at.Goals as goal

pub returns : goal.returns
unfolding config_at
returns c = cc
