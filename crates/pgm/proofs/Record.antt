-- A frame record: its head, and then its pixels. One that is made is whole, and `next_of`, by which the program `pinlog` reads, finds the picture in it. Assumes
-- nothing.
use Prim.Native.Nat.{ℕ, zero, suc, zero-le, ◌+◌, ◌*◌, ◌≤◌}
use mathlib.Core.Path.{◌≡◌, refl, sym, ap, ◌∙◌}
use mathlib.Core.Bool.{Bool, true, false}
use mathlib.Core.List.{List, [], ◌∷◌, ◌++◌}
use native.Mathlib.Omega.{arith}
use borrow.Author.Tests.{ltb-false}
use lib.Dec.{ltb}
use lib.ListN.{length}
use Rattle.lists.specs.Lists.{put}
use Rattle.lists.specs.Marked.{pick}
use Rattle.lists.proofs.Cases.{pick_false, either}
use Rattle.lists.proofs.Put.{put_put}
use Rattle.records.specs.Reading.{next_of}
use Rattle.encode.specs.Bytes.{half_bytes, word_bytes, start_bytes, head_bytes}
use Rattle.encode.proofs.Back.{frame_back, large_back}
use Rattle.std.specs.Prelude.{Option, Some, None, Result, Ok, Err}
use Rattle.scan.specs.declared.Digits.{Digits}
use Rattle.pgm.specs.declared.Header.{Header}
use Rattle.pgm.specs.declared.Fault.{Fault}
use Rattle.pgm.specs.declared.Fault.TheVariants.{Room, Missing, Above}
use Rattle.pgm.specs.Pgm.{on_number, header_of}
use Rattle.pgm.specs.Frame.{pixel_at, gray_pixels_of, fault_of, unless_fault, made_of, record_of, Framed}
use Rattle.pgm.proofs.Right.{Right, sides, right}

module _ (plain : Bool) (max : ℕ) (s : List ℕ) where
  -- ---- how many pixels there are

  onto : (f : Option Digits) (P : List ℕ → Type 0) (k : ℕ → ℕ → List ℕ) → P [] → ((v b : ℕ) → P (k v b)) → P (on_number f [] k)
  unfolding on_number
  onto None P k x h = x
  onto (Some d) P k x h = h d.value d.next

  few : (n a : ℕ) → length (gray_pixels_of plain max s a n) ≤ n
  unfolding gray_pixels_of pick
  few zero a = omega arith
  few (suc n) a = onto (pixel_at plain s a) (λ l. length l ≤ suc n) _ zero-le (λ v b. one (ltb max v) v (gray_pixels_of plain max s b n) (few n b))
    where
      one : (t : Bool) (v : ℕ) (l : List ℕ) → length l ≤ n → length (pick t [] (v ∷ l)) ≤ suc n
      one true v l h = zero-le
      one false v l h = omega (arith, h)

  -- ---- the head, and then the pixels

  pub put_all : (xs : List ℕ) (w h a : ℕ) → 10 + w * h ≤ length xs → put (put xs 0 (head_bytes w h)) 10 (gray_pixels_of plain max s a (w * h)) ≡ put xs 0 (head_bytes w h ++ gray_pixels_of plain max s a (w * h))
  unfolding head_bytes start_bytes word_bytes half_bytes
  put_all xs w h a room = put_put xs 0 (head_bytes w h) (gray_pixels_of plain max s a (w * h)) (omega (arith, few (w * h) a))

  -- ---- where there is no fault, there are as many as were asked for

  full_at : (f : Option Digits) (m : ℕ) (x : ℕ → ℕ → Result (Unit {0}) Fault) (l : ℕ → ℕ → List ℕ) → ((v b : ℕ) → x v b ≡ Ok tt → length (l v b) ≡ m) → on_number f (Err Missing) x ≡ Ok tt → length (on_number f [] l) ≡ m
  unfolding on_number
  full_at None m x l h e = cc
  full_at (Some d) m x l h e = h d.value d.next e

  full : (n a : ℕ) → fault_of plain max s a n ≡ Ok tt → length (gray_pixels_of plain max s a n) ≡ n
  unfolding fault_of gray_pixels_of pick
  full zero a e = refl
  full (suc n) a e = full_at (pixel_at plain s a) (suc n) _ _ (λ v b. one (ltb max v) v (fault_of plain max s b n) (gray_pixels_of plain max s b n) (full n b)) e
    where
      one : (t : Bool) (v : ℕ) (x : Result (Unit {0}) Fault) (l : List ℕ) → (x ≡ Ok tt → length l ≡ n) → pick t (Err Above) x ≡ Ok tt → length (pick t [] (v ∷ l)) ≡ suc n
      one true v x l h e = cc
      one false v x l h e = ap suc (h e)

-- ---- a record that is made

long : (w h : ℕ) (p : List ℕ) → length p ≡ w * h → length (head_bytes w h ++ p) ≡ 10 + w * h
unfolding head_bytes start_bytes word_bytes half_bytes
long w h p e = omega (arith, e)

-- what is put never leaves the room
pub record_fits : (s : List ℕ) (room : ℕ) (found : Result Header Fault) → length (record_of s room found) ≤ room
unfolding record_of head_bytes start_bytes word_bytes half_bytes
record_fits s room (Err k) = zero-le
record_fits s room (Ok p) =
    either (λ (l : List ℕ). length l ≤ room) _ _ _ (λ e. zero-le) (λ e. omega (arith, ltb-false room (10 + p.w * p.h) e, few p.is_plain p.max s (p.w * p.h) p.at))

-- n bytes within the room, which hold the picture
pub record Whole (s : List ℕ) (room n : ℕ) (found : Result Header Fault) : Type 0 where
  pub header : Header
  pub good : found ≡ Ok header
  pub size : n ≡ 10 + header.w * header.h
  pub fits : n ≤ room
  pub bytes : length (record_of s room found) ≡ n
  pub framed : Framed (record_of s room found)

module _ (s : List ℕ) (room n : ℕ) where
  -- by the test and by what is wrong
  tests : (b : Bool) (m : ℕ) (f : Result (Unit {0}) Fault) → pick b (Err Room) (unless_fault m f) ≡ Ok n → (b ≡ false) × (f ≡ Ok tt) × (m ≡ n)
  unfolding pick
  tests true m f e = cc
  tests false m (Ok tt) e = (refl, refl, cc)
  tests false m (Err k) e = cc

  whole_by : (found : Result Header Fault) → Right found → made_of s room found ≡ Ok n → Whole s room n found
  unfolding made_of record_of
  whole_by (Err k) r e = cc
  whole_by (Ok p) r e =
      let t = tests _ _ _ e in
      let w = p.w in
      let h = p.h in
      let pixels = gray_pixels_of p.is_plain p.max s p.at (w * h) in
      let side = sides p r in
      let l : length pixels ≡ w * h = full p.is_plain p.max s (w * h) p.at t.1 in
      let is : record_of s room (Ok p) ≡ head_bytes w h ++ pixels = pick_false _ _ _ t.0 in
      record {
        header = p;
        good = refl;
        size = sym t.2;
        fits = let k : 10 + w * h ≤ room = ltb-false room (10 + w * h) t.0 in omega (arith, t.2);
        bytes = ap (λ (z : List ℕ). length z) is ∙ long w h pixels l ∙ t.2;
        framed = record {
          w = w;
          h = h;
          size = ap (λ (z : List ℕ). length z) is ∙ long w h pixels l;
          small = λ k z. ap (λ (x : List ℕ). next_of (x ++ z)) is ∙ frame_back w h pixels z side.0 side.1 l k;
          large = λ k z. ap (λ (x : List ℕ). next_of (x ++ z)) is ∙ large_back w h pixels z side.0 side.1 l k;
        };
      }

  -- THE LAW
  pub whole : made_of s room (header_of s) ≡ Ok n → Whole s room n (header_of s)
  whole e = whole_by (header_of s) (right s) e
