-- What is due and a frame, put one behind the other, and taken again. Assumes nothing.
use Prim.Native.Nat.{ℕ, ◌+◌, ◌≤◌}
use mathlib.Core.Path.{◌≡◌, refl, sym, ap, ◌∙◌}
use mathlib.Core.Bool.{true, false}
use mathlib.Core.List.{List, [], ◌++◌}
use native.Mathlib.Omega.{arith}
use native.Mathlib.Nat.{add-zero}
use lib.ListN.{length, take, drop, length-append, length-drop}
use lib.Seq.{length-take-le}
use Rattle.lists.specs.Lists.{put}
use Rattle.lists.proofs.Cases.{pick_true, pick_false, pick_both}
use Rattle.lists.proofs.Put.{length_put, take_put_front, then_put}
use Rattle.lists.proofs.Images.{part_put}
use Rattle.encode.specs.Bytes.{half_bytes, word_bytes, start_bytes, settings_bytes}
use Rattle.std.specs.Prelude.{Result, Ok, Err}
use Rattle.pgm.specs.declared.Fault.{Fault}
use Rattle.pgm.specs.Pgm.{header_of}
use Rattle.pgm.specs.Frame.{made_of, record_of}
use Rattle.pgm.proofs.Record.{record_fits, Whole, whole}
use Rattle.pgm2rec.specs.declared.Run.{Run}
use Rattle.pgm2rec.specs.Course.{due_of, picture_of, frame_bytes, sized_of, Shown}

-- ---- what is due
pub settings_long : (eps passes filter edge : ℕ) → length (settings_bytes eps passes filter edge) ≡ 20
unfolding settings_bytes start_bytes word_bytes half_bytes
settings_long eps passes filter edge = refl

module _ (run : Run) where
  abbrev told : List ℕ
  told = settings_bytes run.options.eps run.options.passes run.options.filter run.options.edge

  pub due_none : run.is_new ≡ false → due_of run ≡ []
  unfolding due_of
  due_none e = pick_false _ _ _ e

  pub due_some : run.is_new ≡ true → due_of run ≡ settings_bytes run.options.eps run.options.passes run.options.filter run.options.edge
  unfolding due_of
  due_some e = pick_true _ _ _ e

  pub due_short : length (due_of run) ≤ 20
  unfolding due_of
  due_short = pick_both (λ (l : List ℕ). length l ≤ 20) run.is_new told [] (rw (settings_long run.options.eps run.options.passes run.options.filter run.options.edge) (omega arith)) (omega arith)

-- ---- the size of a record with what is due before it
record Sized (run : Run) (n : ℕ) (m : Result ℕ Fault) : Type 0 where
  frame : ℕ
  is : m ≡ Ok frame
  whole : length (due_of run) + frame ≡ n

sized : (run : Run) (n : ℕ) (m : Result ℕ Fault) → sized_of run m ≡ Ok n → Sized run n m
unfolding sized_of
sized run n (Ok k) e = record { frame = k; is = refl; whole = cc }
sized run n (Err k) e = cc

-- a frame fits its room
pub frame_short : (s : List ℕ) (n : ℕ) → picture_of s ≡ Ok n → n ≤ 65536
frame_short s n e = (whole s 65536 n e).fits

-- ---- a frame behind what is due
module _ (run : Run) (s xs : List ℕ) (full : length xs ≡ 65556) where
  -- the room behind what is due
  module _ {k m : ℕ} {ys : List ℕ} (at : k ≡ length (due_of run)) (size : m ≡ 65536) (put_due : ys ≡ put xs 0 (due_of run)) where
    long : length ys ≡ 65556
    long = ap (λ (z : List ℕ). length z) put_due ∙ length_put xs 0 (due_of run) (omega (arith, due_short run)) ∙ full

    pub room : length (take m (drop k ys)) ≡ 65536
    room = length-take-le m (drop k ys) (omega (arith, length-drop k ys, long, due_short run)) ∙ size

    pub made_in : {r : Result ℕ Fault} → r ≡ made_of s (length (take m (drop k ys))) (header_of s) → r ≡ picture_of s
    made_in e = e ∙ ap (λ (n : ℕ). made_of s n (header_of s)) room

    pub behind : {p : List ℕ} → p ≡ put (take m (drop k ys)) 0 (record_of s (length (take m (drop k ys))) (header_of s)) → take k ys ++ (p ++ drop m (drop k ys)) ≡ put xs 0 (due_of run ++ frame_bytes s)
    behind {p} e =
        let f : length (frame_bytes s) ≤ 65536 = record_fits s 65536 (header_of s) in
        let q : p ≡ put (take m (drop k ys)) 0 (frame_bytes s) = e ∙ ap (λ (n : ℕ). put (take m (drop k ys)) 0 (record_of s n (header_of s))) room in
        then_put xs 0 (due_of run) k (frame_bytes s) put_due
        (ap (λ (z : List ℕ). take k ys ++ (z ++ drop m (drop k ys))) q ∙ part_put ys k m 0 (frame_bytes s) (omega (arith, f)) (omega (arith, long, due_short run)) ∙ rw add-zero)
        (omega arith) (omega (arith, due_short run))

  -- what was put, where the picture is one
  module _ {ys : List ℕ} (b : ys ≡ put xs 0 (due_of run ++ frame_bytes s)) {m : Result ℕ Fault} (a : m ≡ sized_of run (picture_of s)) (n : ℕ) (e : m ≡ Ok n) where
    made : Sized run n (picture_of s)
    made = sized run n (picture_of s) (sym a ∙ e)

    one : Whole s 65536 made.frame (header_of s)
    one = whole s 65536 made.frame made.is

    bytes : length (due_of run ++ frame_bytes s) ≡ n
    bytes = length-append (due_of run) (frame_bytes s) ∙ omega (arith, one.bytes, made.whole)

    pub within : n ≤ length ys
    within =
        let k : made.frame ≤ 65536 = one.fits in
        let q : length ys ≡ length xs = ap (λ (z : List ℕ). length z) b ∙ length_put xs 0 (due_of run ++ frame_bytes s) (omega (arith, bytes, made.whole, due_short run)) in
        omega (arith, made.whole, due_short run)

    pub counted : n ≡ length (take n ys)
    counted = sym (length-take-le n ys within)

    pub shown : Shown run (take n ys)
    shown = record { source = s; framed = one.framed; bytes = ap (take n) b ∙ take_put_front xs (due_of run ++ frame_bytes s) n bytes }
