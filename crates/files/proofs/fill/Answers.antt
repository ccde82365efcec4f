-- `files::fill` begins with an empty buffer, and each turn is one read more, which brings the end nearer. Assumes nothing.
use Rattle.std.proofs.Common.{◌≡◌, Ok, length, ap, ◌∙◌, arith, rules, refl}
use Rattle.std.proofs.lemmas.Result.{err_from_is_err_and}
use Rattle.files.specs.Fill.{no_read}
use Rattle.files.proofs.Reading.{grown_more, grown_by, grown_end, grown_failed, grown_full}
use Rattle.files.proofs.fill.Goals as goal

pub loop-count-init : goal.loop-count-init
loop-count-init g c = record { gathered = no_read; in_range = omega arith; same_size = refl }

pub returns-in_err-more : goal.returns-in_err-more
returns-in_err-more g c =
    let i = c.loop-count.invariant in
    let p = err_from_is_err_and c.from_residual.result c.from_residual.ensures.1 in
    rw (p.1, p.2, ← i.same_size) (grown_failed (length c.loop-count.buf) (omega arith) i.gathered c.read_on.ensures.grown _ c.in_err-more.was)

pub returns-in_default : goal.returns-in_default
returns-in_default g c =
    let i = c.loop-count.invariant in
    rw (← i.same_size) (grown_end (length c.loop-count.buf) (omega arith) i.gathered c.read_on.ensures.grown (c.in_ok-more.was ∙ ap Ok c.in_default.is), i.in_range)

pub loop-count-smaller : goal.loop-count-smaller
loop-count-smaller g c =
    let i = c.loop-count.invariant in
    let b = grown_by (length c.loop-count.buf) (omega arith) i.gathered c.read_on.ensures.grown c.in-Some.more (c.in_ok-more.was ∙ ap Ok c.in-Some.is) in
    omega (arith, b.0, b.1, i.same_size)

pub loop-count-preserved : goal.loop-count-preserved
loop-count-preserved g c =
    let i = c.loop-count.invariant in
    let k : length c.read_on.new.buf ≡ length c.loop-count.buf = search rules in
    let e = c.in_ok-more.was ∙ ap Ok c.in-Some.is in
    record {
      gathered = rw k (grown_more (length c.loop-count.buf) (omega arith) i.gathered c.read_on.ensures.grown c.in-Some.more e);
      in_range = rw k (grown_by (length c.loop-count.buf) (omega arith) i.gathered c.read_on.ensures.grown c.in-Some.more e).1;
      same_size = k ∙ i.same_size;
    }

pub returns : goal.returns
returns g c =
    let i = c.loop-count.invariant in
    let e : c.loop-count.count ≡ length c.loop-count.buf = omega arith in
    rw (← i.same_size) (grown_full _ _ e i.gathered, i.in_range)
