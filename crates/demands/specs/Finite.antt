-- How a call of the alignment may end: what demand 1 asks of its answer, its passes and the lent memory, by the answer's number. Definitions only.
use Rattle.std.specs.Prelude.{ℕ, ◌*◌, ◌≤◌, ◌≡◌, Bool, true, false, ◌&&◌, ◌||◌, List, ◌++◌, T, leb, eqb, length, drop, replicate, Float, Ok, Err}
use Rattle.std.specs.Float.Ieee.{neg, le}
use Rattle.std.specs.Float.Ieee.Scale.{finite}
use Rattle.lists.specs.Marked.{words_for}
use Rattle.floats.specs.F32.{0f, 2f}
use Rattle.refusals.specs.Refusals.{number}
use Rattle.pose.specs.Pose.{Answer, number_of}
use Rattle.pose.specs.declared.Outcome.{Outcome}

-- a pose of four finite numbers with theta in -2..2, or a refusal number from a to b
unfoldable pub ends_in : ℕ → ℕ → Answer → Bool
ends_in a b (Ok p) = finite p.theta && finite p.tx && finite p.ty && finite p.rho && le (neg 2f) p.theta && le p.theta 2f
ends_in a b (Err r) = leb a (number r) && leb (number r) b

-- the numbers with which passes were begun, and work and marks are left cleared: 0, and 5 to 10
unfoldable pub clears : ℕ → Bool
clears n = eqb n 0 || (leb 5 n && leb n 10)

-- the first n of xs have become v, and the rest is as it was
abbrev pub Cleared : {A : Type 0} → ℕ → A → List A → List A → Type 0
Cleared n v xs xs' = (n ≤ length xs) × (xs' ≡ replicate n v ++ drop n xs)

-- the end of a call at n pixels and at most `most` passes, with work and marks before and after it
pub record CallEnded (n most : ℕ) (o : Outcome) (work work' : List Float) (marks marks' : List ℕ) : Type 0 where
  pub answer : T (ends_in 1 10 o.answer)
  -- none with 1 to 4
  pub few : o.passes ≤ most
  pub no_pass : clears (number_of o.answer) ≡ false → o.passes ≡ 0
  -- with 0 and 5 to 10 the first 12n floats are +0 and the words of the first n marks 0, whole; with 1 to 4 both are as they were
  pub cleared : clears (number_of o.answer) ≡ true → Cleared (12 * n) 0f work work' × Cleared (words_for n) 0 marks marks'
  pub stays : clears (number_of o.answer) ≡ false → (work' ≡ work) × (marks' ≡ marks)
