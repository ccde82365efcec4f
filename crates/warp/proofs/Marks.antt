-- The words after the warp: read back, they are its marks. Assumes nothing.
use Prim.Native.Nat.{ℕ, ◌*◌, ◌≤◌}
use mathlib.Core.Path.{◌≡◌, ap, ◌∙◌}
use mathlib.Core.List.{List}
use lib.ListN.{length}
use Rattle.lists.specs.Lists.{put}
use Rattle.lists.specs.Marked.{words_for}
use Rattle.bits.specs.Words.{words_of, unpacked_of}
use Rattle.bits.specs.Equal.{BytesBack}
use Rattle.bits.proofs.Equal.{bytes_back}
use Rattle.pose.specs.declared.Map.{Map}
use Rattle.places.specs.Point.{marks_of}
use Rattle.places.proofs.Sizes.{length_marks, mark_few}

pub front : (map : Map) (w h : ℕ) (ws ws' : List ℕ) → words_for (w * h) ≤ length ws → ws' ≡ put ws 0 (words_of (marks_of map w h) (w * h)) → unpacked_of ws' (w * h) ≡ marks_of map w h
unfolding BytesBack
front map w h ws ws' room e = ap (λ (z : List ℕ). unpacked_of z (w * h)) e ∙ bytes_back (marks_of map w h) ws (w * h) room (length_marks map w h) (mark_few map w h)
