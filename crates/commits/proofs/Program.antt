-- The program's step and its last line commit. Assumes nothing.
use Rattle.commits.specs.Program.{AdvanceCommits, FinishCommits}
use Rattle.commits.proofs.Commits.{only_one}

pub advance_one : AdvanceCommits
advance_one κs a r r' s s' e e' =
    λ i. (only_one _ _ _ e.0.0 e'.0.0 i, only_one _ _ _ e.1.0 e'.1.0 i, only_one _ _ _ e.1.1.0 e'.1.1.0 i, only_one _ _ _ e.1.1.1 e'.1.1.1 i)

pub finish_one : FinishCommits
finish_one κs a r r' s s' e e' = only_one _ _ _ e e'
