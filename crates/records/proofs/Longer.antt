-- More bytes behind those at hand change nothing, unless more were wanted. Assumes nothing.
use mathlib.Core.Path.{◌≡◌, refl, ap}
use mathlib.Core.Bool.{Bool, true, false}
use mathlib.Core.List.{List, ◌++◌}
use mathlib.Core.Logic.{◌⊎◌, inl, inr}
use Prim.Native.Nat.{ℕ, ◌+◌, ◌-◌, ◌≤◌}
use native.Mathlib.Omega.{arith}
use borrow.Author.Tests.{ltb-false, le-ltb}
use lib.Dec.{ltb}
use lib.ListN.{length, length-append, get_or-append}
use Rattle.lists.specs.Marked.{pick}
use Rattle.records.specs.declared.Record.{Record}
use Rattle.records.specs.declared.Record.TheVariants.{More, Settings}
use Rattle.records.specs.Reading.{half_at, word_at, config_at, settings_of, frame_of, body_of, next_of}

-- r wants more bytes, or with more of them the same is read
abbrev pub Grows : Record → Record → Type 0
Grows r r' = (r ≡ More) ⊎ (r' ≡ r)

-- ---- a test that does not depend on how many bytes are at hand, and one that does

both : (b : Bool) (x x' y y' : Record) → (b ≡ true → Grows x x') → (b ≡ false → Grows y y') → Grows (pick b x y) (pick b x' y')
unfolding pick
both true x x' y y' f g = f refl
both false x x' y y' f g = g refl

short : (b b' : Bool) (x x' : Record) → (b ≡ false → b' ≡ false) → (b ≡ false → Grows x x') → Grows (pick b More x) (pick b' More x')
unfolding pick
short true b' x x' f g = inl refl
short false b' x x' f g = rw (f refl) (g refl)

module _ (s t : List ℕ) where
  longer : (k : ℕ) → ltb (length s) k ≡ false → ltb (length (s ++ t)) k ≡ false
  longer k e = le-ltb (length (s ++ t)) k (omega (arith, ltb-false (length s) k e, length-append s t))

  -- ---- numbers of bytes that are at hand

  half_same : (i : ℕ) → i + 2 ≤ length s → half_at (s ++ t) i ≡ half_at s i
  unfolding half_at
  half_same i h = rw (get_or-append s t 0 i (omega arith), get_or-append s t 0 (i + 1) (omega arith))

  word_same : (i : ℕ) → i + 4 ≤ length s → word_at (s ++ t) i ≡ word_at s i
  unfolding word_at
  word_same i h = rw (half_same i (omega arith), half_same (i + 2) (omega arith))

  config_same : 20 ≤ length s → config_at (s ++ t) ≡ config_at s
  unfolding config_at
  config_same h = rw (word_same 6 (omega arith), word_same 10 (omega arith), half_same 14 (omega arith), word_same 16 (omega arith))

  -- ---- records

  settings_grow : (n : ℕ) → Grows (settings_of s n) (settings_of (s ++ t) n)
  unfolding settings_of
  settings_grow n = both _ _ _ _ _ (λ a. short _ _ _ _ (longer 20) (λ b. inr (ap Settings (config_same (ltb-false (length s) 20 b))))) (λ a. inr refl)

  frame_grow : (n : ℕ) → Grows (frame_of s n) (frame_of (s ++ t) n)
  unfolding frame_of
  frame_grow n =
      both _ _ _ _ _ (λ a. inr refl)
      (λ a. both _ _ _ _ _ (λ b. inr refl)
      (λ b. short _ _ _ _ (longer (6 + n))
      (λ d.
      let some : 4 ≤ n = ltb-false n 4 a in
      let all : 6 + n ≤ length s = ltb-false (length s) (6 + n) d in
      inr (rw (half_same 6 (omega arith), half_same 8 (omega arith))))))

  body_grow : (kind n : ℕ) → Grows (body_of s kind n) (body_of (s ++ t) kind n)
  unfolding body_of
  body_grow kind n = both _ _ _ _ _ (λ a. settings_grow n) (λ a. both _ _ _ _ _ (λ b. frame_grow n) (λ b. inr refl))

  -- THE LAW
  pub grow : Grows (next_of s) (next_of (s ++ t))
  unfolding next_of
  grow =
      short _ _ _ _ (longer 4)
      (λ a. rw (word_same 0 (ltb-false (length s) 4 a))
      (both _ _ _ _ _ (λ b. inr refl)
      (λ b. short _ _ _ _ (longer 6)
      (λ d.
      let head : 6 ≤ length s = ltb-false (length s) 6 d in
      rw (half_same 4 head) (body_grow (half_at s 4) (word_at s 0 - 2))))))
