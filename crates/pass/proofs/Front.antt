-- The words after the warp: they stand for the warp's marks, and those past them stay. Assumes nothing.
use Rattle.std.specs.Prelude.{Option}
use Prim.Native.Nat.{ℕ, ◌*◌, ◌≤◌}
use mathlib.Core.Path.{◌≡◌, sym, ◌∙◌}
use mathlib.Core.List.{List}
use native.Mathlib.Omega.{arith}
use lib.ListN.{length}
use Rattle.lists.specs.Lists.{put}
use Rattle.lists.specs.Marked.{words_for}
use Rattle.lists.proofs.Put.{length_put, drop_put}
use Rattle.marks.specs.Marks.{count_on}
use Rattle.bits.specs.Words.{words_of, unpacked_of}
use Rattle.bits.proofs.Equal.{length_words_of}
use Rattle.rows.specs.Rows.{marked_rows_of}
use Rattle.pose.specs.declared.Map.{Map}
use Rattle.places.specs.Point.{marks_of}
use Rattle.warp.proofs.Marks.{front}
use Rattle.pass.specs.Kept.{KeptMarks}
use Rattle.rows.specs.declared.Rows.{Rows}

module _ (map : Map) (w h : ℕ) (ws ws' : List ℕ) (room : words_for (w * h) ≤ length ws) (is_ws' : ws' ≡ put ws 0 (words_of (marks_of map w h) (w * h))) where
  pub count_front : (found : ℕ) → found ≡ count_on (marks_of map w h) (w * h) → found ≡ count_on (unpacked_of ws' (w * h)) (w * h)
  count_front found e = rw (front map w h ws ws' room is_ws') e

  pub rows_front : (found q : Option Rows) → found ≡ marked_rows_of (marks_of map w h) w h → found ≡ q → marked_rows_of (unpacked_of ws' (w * h)) w h ≡ q
  rows_front found q e k = rw (front map w h ws ws' room is_ws') (sym e ∙ k)

  pub kept_marks : KeptMarks (w * h) ws ws'
  kept_marks =
      let e = length_words_of (marks_of map w h) (w * h) in
      rw is_ws' (record {
        rest = drop_put ws 0 (words_of (marks_of map w h) (w * h)) (omega arith) (words_for (w * h)) (omega arith);
        size = length_put ws 0 (words_of (marks_of map w h) (w * h)) (omega arith);
      })
