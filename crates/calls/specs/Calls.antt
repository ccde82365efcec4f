-- When a vector of a whole call agrees with the definitions: the answer, and what work and marks hold afterwards. Definitions only.
-- The words: the kind; w, h; the lengths of both frames; eps, max_iter, the filter, whether there is an edge, the edge; how many floats and
-- words of marks are lent; both frames; number, passes, theta, tx, ty, rho, the matrix; how many floats and words are cleared.
use Rattle.std.specs.Prelude.{ℕ, ◌+◌, ◌%◌, Bool, ◌&&◌, not, List, [], ◌∷◌, leb, ltb, eqb, length, get_or, Float, ◌≡◌, ◌≤◌, true, false, None, Some, Option, MatchOption, Ok, Err}
use Rattle.std.specs.Float.{nan, binary32}
use Rattle.std.specs.Float.Ieee.{neg, to_bits}
use Rattle.lists.specs.Lists.{tab}
use Rattle.lists.specs.Marked.{pick}
use Rattle.floats.specs.F32.{0f, 1f}
use Rattle.settings.specs.declared.EccConfig.{EccConfig}
use Rattle.checks.specs.Checks.{size_of, check_of}
use Rattle.pose.specs.Pose.{Answer, matrix_of}
use Rattle.refusals.specs.Refusals.{number}
use Rattle.pose.specs.declared.Outcome.{Outcome}
use Rattle.alignment.specs.Aligned.{aligned_of, work_after, marks_after}
use Rattle.words.specs.Words.{stored_at, float_of, bytes_at, all_below, floats_agree}
use Rattle.inverse.specs.Inverse.{entries_of}
use Rattle.calls.specs.declared.Lengths.{Lengths}

-- the settings, from the word 5 on; an edge stands behind a word that is not 0
unfoldable pub edge_at : List ℕ → Option ℕ
edge_at words = pick (eqb (stored_at words 8) 0) None (Some (stored_at words 9))

unfoldable pub settings_at : List ℕ → EccConfig
settings_at words = record { eps = float_of (stored_at words 5); max_iter = stored_at words 6; gauss_filt_size = stored_at words 7; resize_long_edge = edge_at words }

-- what stands in the lent memory before the call: no zero of the sign that clearing writes, and words with each bit set
abbrev pub word_before : ℕ
word_before = 18446744073709551615

unfoldable pub float_before : ℕ → Float
float_before i = pick (eqb (i % 3) 0) (neg 0f) 1f

-- the first `zeros` are cleared, and the rest is as it was
unfoldable pub work_agrees : ℕ → List Float → Bool
work_agrees zeros work = all_below (length work) (λ i. eqb (to_bits binary32 (get_or work i nan)) (to_bits binary32 (pick (ltb i zeros) 0f (float_before i))))

unfoldable pub marks_agree : ℕ → List ℕ → Bool
marks_agree zeros marks = all_below (length marks) (λ i. eqb (get_or marks i 0) (pick (ltb i zeros) 0 word_before))

-- number and pose, from the word `at` on: zeros for a refusal, whose number is not 0. The passes stand between them
abbrev pub answer_agrees : List ℕ → ℕ → Answer → Bool
answer_agrees words at (Err r) = eqb (stored_at words at) (number r) && not (eqb (number r) 0) && floats_agree words (at + 2) (0f ∷ 0f ∷ 0f ∷ 0f ∷ [])
answer_agrees words at (Ok p) = eqb (stored_at words at) 0 && floats_agree words (at + 2) (p.theta ∷ p.tx ∷ p.ty ∷ p.rho ∷ [])

-- number, passes, pose and matrix
unfoldable pub outcome_agrees : List ℕ → ℕ → Outcome → Bool
outcome_agrees words at o = eqb o.passes (stored_at words (at + 1)) && floats_agree words (at + 6) (entries_of (matrix_of o.answer)) && answer_agrees words at o.answer

-- a call by k floats and m words of marks, its answer from the word `at` on
unfoldable pub called_agrees : List ℕ → ℕ → List ℕ → List ℕ → ℕ → ℕ → Bool
called_agrees words at template input k m =
    let w = stored_at words 1 in
    let h = stored_at words 2 in
    let cfg = settings_at words in
    let number = check_of (length template) (length input) w h cfg k m in
    let n = size_of cfg w h in
    outcome_agrees words at (aligned_of template input w h cfg k m)
    && work_agrees (stored_at words (at + 15)) (work_after number n (tab k float_before))
    && marks_agree (stored_at words (at + 16)) (marks_after number n (tab m (λ _. word_before)))

-- where the answer begins: behind both frames
abbrev pub answer_from : List ℕ → ℕ
answer_from words = 12 + stored_at words 3 + stored_at words 4

-- the lengths fit the arrays of the test, and the line ends with the answer's words
unfoldable pub is_whole : List ℕ → Bool
is_whole words = leb (stored_at words 3) 4200 && leb (stored_at words 4) 4200 && leb (stored_at words 10) 50000 && leb (stored_at words 11) 80 && eqb (length words) (answer_from words + 17)

-- r is v where v is at most `most`, else none
abbrev pub LengthAt : ℕ → ℕ → Option ℕ → Type 0
LengthAt v most r = MatchOption r (leb v most ≡ false) (λ n. (n ≡ v) × (leb v most ≡ true) × (n ≤ most))

-- the lengths of a line that is whole
pub record Whole (words : List ℕ) (n : Lengths) : Type 0 where
  pub is : is_whole words ≡ true
  pub template : n.template ≡ stored_at words 3
  pub input : n.input ≡ stored_at words 4
  pub work : n.work ≡ stored_at words 10
  pub marks : n.marks ≡ stored_at words 11
  pub template_fits : n.template ≤ 4200
  pub input_fits : n.input ≤ 4200
  pub work_fits : n.work ≤ 50000
  pub marks_fit : n.marks ≤ 80

-- the lengths of the line, or none where it is not whole
abbrev pub WholeOrNone : List ℕ → Option Lengths → Type 0
WholeOrNone words r = MatchOption r (is_whole words ≡ false) (Whole words)

unfoldable pub call_agrees : List ℕ → Bool
call_agrees words =
    let t = stored_at words 3 in
    let i = stored_at words 4 in
    is_whole words && called_agrees words (answer_from words) (bytes_at words 12 t) (bytes_at words (12 + t) i) (stored_at words 10) (stored_at words 11)
