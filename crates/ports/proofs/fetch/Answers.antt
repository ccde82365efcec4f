-- `ports::fetch` meets its contract: the law that gives `Came` is used here alone. Assumes nothing.
use Rattle.std.proofs.Common.{arith, rules}
use borrow.Rule.Slice.PartMut.{take_put}
use Rattle.std.proofs.lemmas.Grind.{common_steps}
use Rattle.ports.specs.Seal.{by_fetch}
use Rattle.ports.proofs.fetch.Goals as goal

pub returns : goal.returns
returns g c = record {
  size = search rules;
  fits = grind (arith, common_steps);
  front = take_put c.args.n _ c.args.buf.now c.read.new.buf (omega (arith, c.requires));
  came = by_fetch _;
}
