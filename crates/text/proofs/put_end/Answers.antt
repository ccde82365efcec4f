-- `text::put_end` puts the word, then the count. Assumes nothing.
use Rattle.std.proofs.Common.{◌≡◌, ◌++◌, ◌≤◌, length, arith}
use Rattle.std.specs.Fmt.{decimal}
use Rattle.text.specs.Text.{end_line}
use Rattle.text.proofs.Digits.{decimal_is}
use Rattle.text.proofs.Pieces.{ended, then_wrote, wrote_as, done_pieces, cut_pieces}
use Rattle.text.proofs.put_end.Goals as goal
use Rattle.text.proofs.put_end.Goals.{then-done, else-done}

pub returns : goal.returns
returns c =
    let a = c.args in
    let word = c.if-done.word.now in
    let count : decimal a.frames ≡ _ = decimal_is a.frames (omega (arith, c.ranges.frames.fits)) in
    let line : (word ++ ended (decimal a.frames) 10 ≡ end_line a.done a.frames) × (length word ≤ 5) =
    elim c.if-done.branch [
      | then-done w ↦ (rw (count, w.word-is, w.if-done.true) (done_pieces a.frames), rw w.word-is (omega arith))
      | else-done w ↦ (rw (count, w.word-is, w.if-done.false) (cut_pieces a.frames), rw w.word-is (omega arith))
    ] in
    let w = then_wrote c.put_bytes-next.ensures c.put_number.ensures (omega (arith, c.requires, line.1)) in
    wrote_as w line.0 (omega (arith, w.bound, line.1))
