-- Whole numbers in decimal, and the lines that the program prints, in ASCII. Definitions only.
use Rattle.std.specs.Prelude.{ℕ, zero, suc, ◌+◌, ◌/◌, ◌%◌, ◌≤◌, Bool, List, [], ◌∷◌, ◌++◌, ◌≡◌, ltb, ℤ, pos, negsuc, length}
use Rattle.lists.specs.Lists.{put}
use Rattle.lists.specs.Marked.{pick}

-- the digits of n, most significant first, with no zero in front; of more than f + 1 digits the last ones
unfoldable pub digits_of : ℕ → ℕ → List ℕ
digits_of zero n = (48 + n % 10) ∷ []
digits_of (suc f) n = pick (ltb n 10) ((48 + n) ∷ []) (digits_of f (n / 10) ++ ((48 + n % 10) ∷ []))

-- a number has no more digits than n + 1
unfoldable pub decimal_of : ℕ → List ℕ
unfolding digits_of
decimal_of n = digits_of n n

-- the distance to 0
abbrev pub distance_of : ℤ → ℕ
distance_of (pos n) = n
distance_of (negsuc n) = n + 1

-- with a '-' in front where the number is negative
unfoldable pub signed_of : ℤ → List ℕ
unfolding decimal_of
signed_of (pos n) = decimal_of n
signed_of (negsuc n) = 45 ∷ decimal_of (n + 1)

-- words with a blank between two of them and a newline at the end
unfoldable pub words_line : List (List ℕ) → List ℕ
words_line [] = 10 ∷ []
words_line (w ∷ []) = w ++ (10 ∷ [])
words_line (w ∷ v ∷ ws) = w ++ (32 ∷ words_line (v ∷ ws))

-- a frame's line: its position from 1, number, passes, dx, dy, turn
unfoldable pub frame_line : ℕ → ℕ → ℕ → ℤ → ℤ → ℤ → List ℕ
unfolding words_line decimal_of signed_of
frame_line position number passes dx dy turn =
    words_line (decimal_of position ∷ decimal_of number ∷ decimal_of passes ∷ signed_of dx ∷ signed_of dy ∷ signed_of turn ∷ [])

-- `done` or `cut`
unfoldable pub end_word : Bool → List ℕ
end_word done = pick done (100 ∷ 111 ∷ 110 ∷ 101 ∷ []) (99 ∷ 117 ∷ 116 ∷ [])

-- the last line: the word and the count of frames
unfoldable pub end_line : Bool → ℕ → List ℕ
unfolding words_line end_word decimal_of
end_line done frames = words_line (end_word done ∷ decimal_of frames ∷ [])

-- ys is xs with l in place of what stood from a on; r is the index after l, and l has at most `most` bytes
pub record Wrote (xs : List ℕ) (a : ℕ) (l : List ℕ) (most : ℕ) (ys : List ℕ) (r : ℕ) : Type 0 where
  pub next : r ≡ a + length l
  pub bound : length l ≤ most
  pub text : ys ≡ put xs a l
