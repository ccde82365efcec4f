-- What the bytes at hand are known by: a record that is read lies within them, and where more are wanted, they are few. Assumes nothing.
use mathlib.Core.List.{List}
use Prim.Native.Nat.{ℕ, ◌+◌, ◌-◌, ◌≤◌, ◌<◌}
use native.Mathlib.Omega.{arith}
use borrow.Author.Tests.{ltb-true, ltb-false}
use lib.Dec.{ltb, eqb}
use lib.ListN.{length}
use Rattle.lists.specs.Marked.{pick}
use Rattle.lists.proofs.Cases.{either}
use Rattle.records.specs.declared.Record.{Record}
use Rattle.records.specs.declared.Record.TheVariants.{More, Settings, Frame, Large, Other, Broken}
use Rattle.records.specs.Reading.{half_at, word_at, config_at, settings_of, frame_of, body_of, next_of}

-- what each record says of the bytes at whose start it stands
abbrev pub Known : List ℕ → Record → Type 0
Known s More = length s < 1034
Known s (Settings cfg) = 20 ≤ length s
Known s (Frame w h n) = (10 + n ≤ length s) × (n ≤ 1024)
Known s (Large n) = (6 ≤ length s) × (1028 < n)
Known s (Other n) = 6 ≤ length s
Known s Broken = 4 ≤ length s

module _ (s : List ℕ) (head : 6 ≤ length s) where
  known_settings : (n : ℕ) → Known s (settings_of s n)
  unfolding settings_of
  known_settings n =
      either (Known s) (eqb n 14) (pick (ltb (length s) 20) More (Settings (config_at s))) Broken
      (λ a. either (Known s) (ltb (length s) 20) More (Settings (config_at s)) (λ b. omega (arith, ltb-true (length s) 20 b)) (λ b. ltb-false (length s) 20 b))
      (λ a. omega arith)

  known_frame : (n : ℕ) → Known s (frame_of s n)
  unfolding frame_of
  known_frame n =
      let held = Frame (half_at s 6) (half_at s 8) (n - 4) in
      either (Known s) (ltb n 4) Broken (pick (ltb 1028 n) (Large n) (pick (ltb (length s) (6 + n)) More held)) (λ a. omega arith)
      (λ a. either (Known s) (ltb 1028 n) (Large n) (pick (ltb (length s) (6 + n)) More held) (λ b. (head, ltb-true 1028 n b))
      (λ b.
      let small : n ≤ 1028 = ltb-false 1028 n b in
      let some : 4 ≤ n = ltb-false n 4 a in
      either (Known s) (ltb (length s) (6 + n)) More held (λ d. omega (arith, ltb-true (length s) (6 + n) d))
      (λ d. (omega (arith, ltb-false (length s) (6 + n) d), omega arith))))

  known_body : (kind n : ℕ) → Known s (body_of s kind n)
  unfolding body_of
  known_body kind n =
      either (Known s) (eqb kind 1) (settings_of s n) (pick (eqb kind 2) (frame_of s n) (Other n)) (λ a. known_settings n)
      (λ a. either (Known s) (eqb kind 2) (frame_of s n) (Other n) (λ b. known_frame n) (λ b. head))

-- THE LAW
pub known : (s : List ℕ) → Known s (next_of s)
unfolding next_of
known s =
    let body = body_of s (half_at s 4) (word_at s 0 - 2) in
    let tail = pick (ltb (length s) 6) More body in
    either (Known s) (ltb (length s) 4) More (pick (ltb (word_at s 0) 2) Broken tail) (λ a. omega (arith, ltb-true (length s) 4 a))
    (λ a. either (Known s) (ltb (word_at s 0) 2) Broken tail (λ b. ltb-false (length s) 4 a)
    (λ b. either (Known s) (ltb (length s) 6) More body (λ d. omega (arith, ltb-true (length s) 6 d))
    (λ d. known_body s (ltb-false (length s) 6 d) (half_at s 4) (word_at s 0 - 2))))
