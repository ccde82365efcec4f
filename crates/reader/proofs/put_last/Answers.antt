-- `reader::put_last` meets its contract. Assumes nothing.
use Rattle.reader.proofs.put_last.Goals as goal

pub returns-in-Done : goal.returns-in-Done
returns-in-Done c = rw c.in-Done.is c.put_end.ensures

pub returns-in-Cut : goal.returns-in-Cut
returns-in-Cut c = rw c.in-Cut.is c.put_end-in-Cut.ensures
