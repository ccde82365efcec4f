-- The same for the program's step and its last line. Definitions only.
use Rattle.std.specs.Prelude.{ℕ, List, Float}
use Rattle.stream.specs.declared.End.{End}
use Rattle.stream.specs.declared.Step.{Step}
use Rattle.stream.proofs.advance.Reads as advance
use Rattle.stream.proofs.advance.Kinds as advance_kinds
use Rattle.stream.proofs.finish.Reads as finish
use Rattle.stream.proofs.finish.Kinds as finish_kinds
use Rattle.commits.specs.Commits.{Commits}

-- a step: how many bytes it uses, what comes of them and the state after it; store, work and marks
abbrev pub AdvanceCommits : Type 0
AdvanceCommits =
    Commits advance_kinds.ps advance_kinds.r advance.Post (Step × List ℕ × List Float × List ℕ)
    (λ κs r s. (r, s.1.1.0.now, s.1.1.1.0.now, s.1.1.1.1.0.now))

-- the last line
abbrev pub FinishCommits : Type 0
FinishCommits = Commits finish_kinds.ps finish_kinds.r finish.Post End (λ κs r s. r)
