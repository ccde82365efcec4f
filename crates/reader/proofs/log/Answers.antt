-- `reader::log` meets its contract. Assumes nothing.
use borrow.Author.Rules.{rules}
use Rattle.reader.proofs.log.Goals as goal

pub returns : goal.returns
returns g c =
    let w = c.whole-waits in
    let f = c.flush in
    record {
      bytes = _;
      text = _;
      held = _;
      size = search rules;
      out = _;
      waits = w.result;
      finished = w.ensures.1;
      handed = f.ensures.1;
    }
