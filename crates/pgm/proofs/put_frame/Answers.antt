-- `pgm::put_frame` goes by what stands before the pixels. Assumes nothing.
use mathlib.Core.Path.{sym, ap, ◌∙◌, subst}
use lib.ListN.{length}
use Rattle.std.specs.Prelude.{Result}
use Rattle.std.proofs.lemmas.Result.{err_from_is_err_and}
use Rattle.lists.specs.Lists.{put}
use Rattle.lists.proofs.Put.{put_none}
use Rattle.pgm.specs.declared.Header.{Header}
use Rattle.pgm.specs.declared.Fault.{Fault}
use Rattle.pgm.specs.Frame.{made_of, record_of}
use Rattle.pgm.proofs.Right.{Right, sides, right}
use Rattle.pgm.proofs.put_frame.Goals as goal

pub put_read-requires : goal.put_read-requires
put_read-requires c = sides _ (subst Right (sym c.read_header.ensures ∙ c.in_ok-header.was) (right c.args.s.now))

pub returns-in_err-header : goal.returns-in_err-header
unfolding made_of record_of
returns-in_err-header c =
    let g = c.args in
    let p = err_from_is_err_and c.from_residual.result c.from_residual.ensures.1 in
    let e = sym c.read_header.ensures ∙ c.in_err-header.was in
    record {
      value = rw (p.1, p.2) (sym (ap (made_of g.s.now (length g.out.now)) e));
      out_after = sym (ap (λ (z : Result Header Fault). put g.out.now 0 (record_of g.s.now (length g.out.now) z)) e ∙ put_none g.out.now 0);
    }
