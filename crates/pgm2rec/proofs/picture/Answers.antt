-- `pgm2rec::picture` hands the answer of the open on, with buffers of the lengths that are asked for. Assumes nothing.
use Rattle.std.specs.Prelude.{is_ok}
use Rattle.pgm2rec.specs.Course.{file_of}
use Rattle.pgm2rec.proofs.picture.Goals as goal

pub returns : goal.returns
returns c =
    let o = c.opened in
    let w = o.ensures in
    (record { is_open = is_ok c.«open».result; file = file_of w.file o.new.buf; out = w.out }, w.after)
