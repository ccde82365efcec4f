-- The PGM format, plain (P2) and binary (P5), with 8 bits to a pixel: what stands before the pixels. Definitions only. Numbers are whole and in decimal; one
-- above 65,535 counts as 65,536, which nothing takes.
use Rattle.std.specs.Prelude.{ℕ, suc, ◌+◌, Bool, true, false, not, ◌&&◌, ◌||◌, List, [], ◌∷◌, ltb, leb, eqb, drop, get_or, Option, Some, None, Result, Ok, Err, codes}
use Rattle.lists.specs.Marked.{pick}
use Rattle.scan.specs.Scan.{is_digit, digits_at}
use Rattle.scan.specs.declared.Digits.{Digits}
use Rattle.pgm.specs.declared.Header.{Header}
use Rattle.pgm.specs.declared.Fault.{Fault}
use Rattle.pgm.specs.declared.Fault.TheVariants.{Magic, Head, Side, Gray, Room, Missing, Above}

-- ---- what is said of a refusal
abbrev pub fault_text : Fault → List ℕ
fault_text Magic = codes "no PGM picture (P2 or P5)"
fault_text Head = codes "what stands before the pixels is cut short or wrong"
fault_text Side = codes "a side is 0 or above 65535"
fault_text Gray = codes "the largest gray is 0 or above 255"
fault_text Room = codes "more than 65526 pixels"
fault_text Missing = codes "too few pixels, or one that is no number"
fault_text Above = codes "a pixel is above the largest gray"

-- ---- white space and comments

-- blank, TAB, LF, VT, FF, CR
unfoldable pub blank : ℕ → Bool
blank b = eqb b 32 || (leb 9 b && leb b 13)

-- a comment is from # up to the next LF or CR. Whether one is open after b, as one was or was not before
unfoldable pub open_after : Bool → ℕ → Bool
open_after true b = not (eqb b 10 || eqb b 13)
open_after false b = eqb b 35

-- whether b stands between two words
unfoldable pub between : Bool → ℕ → Bool
unfolding blank
between true b = true
between false b = eqb b 35 || blank b

-- how many bytes of white space and comments stand at the start
unfoldable pub gap_of : Bool → List ℕ → ℕ
unfolding between open_after
gap_of c [] = 0
gap_of c (b ∷ s) = pick (between c b) (suc (gap_of (open_after c b) s)) 0

-- ---- numbers

-- the digits from a on, if any
unfoldable pub digits_from : List ℕ → ℕ → Option Digits
digits_from s a = pick (is_digit (get_or s a 0)) (Some (digits_at s a 0 65536)) None

-- a number behind white space and comments
unfoldable pub number_at : List ℕ → ℕ → Option Digits
unfolding gap_of digits_from
number_at s a = digits_from s (a + gap_of false (drop a s))

-- by whether a number was found: its value and the index after it
unfoldable pub on_number : {A : Type 0} → Option Digits → A → (ℕ → ℕ → A) → A
on_number None x f = x
on_number (Some d) x f = f d.value d.next

-- ---- what stands before the pixels
abbrev pub head : Bool → ℕ → ℕ → ℕ → ℕ → Header
head plain width height most a = record { is_plain = plain; w = width; h = height; max = most; at = a }

-- '2' or '5'
unfoldable pub kind : ℕ → Bool
kind b = eqb b 50 || eqb b 53

-- P2 or P5, and then white space or a comment
unfoldable pub magic : List ℕ → Bool
unfolding kind between
magic s = eqb (get_or s 0 0) 80 && (kind (get_or s 1 0) && between false (get_or s 2 0))

-- pixels in decimal, or as bytes behind one byte of white space
unfoldable pub start_of : List ℕ → ℕ → ℕ → ℕ → ℕ → Result Header Fault
unfolding blank
start_of s w h max a = pick (eqb (get_or s 1 0) 50) (Ok (head true w h max a)) (pick (blank (get_or s a 0)) (Ok (head false w h max (a + 1))) (Err Head))

-- from 1 to most
unfoldable pub from1_to : ℕ → ℕ → Bool
from1_to n most = ltb 0 n && leb n most

unfoldable pub ranges_of : List ℕ → ℕ → ℕ → ℕ → ℕ → Result Header Fault
unfolding from1_to start_of
ranges_of s w h max a =
    pick (from1_to w 65535) (pick (from1_to h 65535) (pick (from1_to max 255) (start_of s w h max a) (Err Gray)) (Err Side)) (Err Side)

-- width, height, largest gray
unfoldable pub header_of : List ℕ → Result Header Fault
unfolding magic number_at on_number ranges_of
header_of s =
    pick (magic s)
    (on_number (number_at s 2) (Err Head) (λ w a. on_number (number_at s a) (Err Head) (λ h b. on_number (number_at s b) (Err Head) (λ max c. ranges_of s w h max c))))
    (Err Magic)
