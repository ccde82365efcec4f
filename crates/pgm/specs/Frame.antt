-- From a picture to a frame record. Definitions only. Pixels are taken as they are, not scaled to 255; what follows the last one is not looked at.
use Rattle.std.specs.Prelude.{ℕ, zero, suc, ◌+◌, ◌*◌, ◌≤◌, ◌<◌, Bool, ◌≡◌, List, [], ◌∷◌, ◌++◌, ltb, length, get_or, Option, Some, None, Result, Ok, Err}
use Rattle.lists.specs.Marked.{pick}
use Rattle.records.specs.declared.Record.TheVariants.{Frame, Large}
use Rattle.records.specs.Reading.{next_of}
use Rattle.encode.specs.Bytes.{head_bytes}
use Rattle.scan.specs.declared.Digits.{Digits}
use Rattle.pgm.specs.declared.Header.{Header}
use Rattle.pgm.specs.declared.Fault.{Fault}
use Rattle.pgm.specs.declared.Fault.TheVariants.{Room, Missing, Above}
use Rattle.pgm.specs.Pgm.{number_at, on_number}

-- a pixel: a number, or a byte
unfoldable pub pixel_at : Bool → List ℕ → ℕ → Option Digits
pixel_at plain s a = pick plain (number_at s a) (pick (ltb a (length s)) (Some (record { value = get_or s a 0; next = a + 1 })) None)

-- n pixels from a on, up to the first that is missing or too large
unfoldable pub gray_pixels_of : Bool → ℕ → List ℕ → ℕ → ℕ → List ℕ
unfolding pixel_at on_number
gray_pixels_of plain max s a zero = []
gray_pixels_of plain max s a (suc n) = on_number (pixel_at plain s a) [] (λ v b. pick (ltb max v) [] (v ∷ gray_pixels_of plain max s b n))

-- what is wrong with that one, if there is one
unfoldable pub fault_of : Bool → ℕ → List ℕ → ℕ → ℕ → Result (Unit {0}) Fault
unfolding pixel_at on_number
fault_of plain max s a zero = Ok tt
fault_of plain max s a (suc n) = on_number (pixel_at plain s a) (Err Missing) (λ v b. pick (ltb max v) (Err Above) (fault_of plain max s b n))

-- n, unless something is wrong
abbrev pub unless_fault : ℕ → Result (Unit {0}) Fault → Result ℕ Fault
unless_fault n (Ok u) = Ok n
unless_fault n (Err k) = Err k

-- by the header, with room for so many bytes
unfoldable pub made_of : List ℕ → ℕ → Result Header Fault → Result ℕ Fault
unfolding fault_of
made_of s room (Err k) = Err k
made_of s room (Ok p) = pick (ltb room (10 + p.w * p.h)) (Err Room) (unless_fault (10 + p.w * p.h) (fault_of p.is_plain p.max s p.at (p.w * p.h)))

-- what is put at the front of the room; of a picture that is refused late, as far as it is right
unfoldable pub record_of : List ℕ → ℕ → Result Header Fault → List ℕ
unfolding gray_pixels_of
record_of s room (Err k) = []
record_of s room (Ok p) = pick (ltb room (10 + p.w * p.h)) [] (head_bytes p.w p.h ++ gray_pixels_of p.is_plain p.max s p.at (p.w * p.h))

-- bytes that the program `pinlog` reads as one frame, all of it, whatever follows: w by h pixels, or a body that is too large for it
pub record Framed (l : List ℕ) : Type 0 where
  pub w : ℕ
  pub h : ℕ
  pub size : length l ≡ 10 + w * h
  pub small : w * h ≤ 1024 → (t : List ℕ) → next_of (l ++ t) ≡ Frame w h (w * h)
  pub large : 1024 < w * h → (t : List ℕ) → next_of (l ++ t) ≡ Large (4 + w * h)
