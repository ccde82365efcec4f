-- For each public function: any two results that its contract admits are equal, and so is what each lent slice holds afterwards. Assumes nothing.
use mathlib.Core.Path.{◌≡◌, sym, ◌∙◌}
use Rattle.commits.specs.Commits.{MatrixCommits, AlignmentCommits, EstimateCommits, FreshCommits, PinsCommits, NextCommits}

-- THE LAW: what is held to be a definition's value can be that value alone
pub only_one : {A : Type 0} (d r r' : A) → r ≡ d → r' ≡ d → r ≡ r'
only_one d r r' e e' = e ∙ sym e'

pub matrix_one : MatrixCommits
matrix_one κs a r r' s s' e e' = only_one _ _ _ e e'

pub alignment_one : AlignmentCommits
alignment_one κs a r r' s s' e e' = λ i. (only_one _ _ _ e.0 e'.0 i, only_one _ _ _ e.1.0 e'.1.0 i, only_one _ _ _ e.1.1 e'.1.1 i)

pub estimate_one : EstimateCommits
estimate_one κs a r r' s s' e e' =
    λ i. (only_one _ _ _ e.0 e'.0 i, only_one _ _ _ e.1.0 e'.1.0 i, only_one _ _ _ e.1.1.0 e'.1.1.0 i, only_one _ _ _ e.1.1.1 e'.1.1.1 i)

pub fresh_one : FreshCommits
fresh_one κs a r r' s s' e e' = only_one _ _ _ e e'

pub pins_one : PinsCommits
pins_one κs a r r' s s' e e' = only_one _ _ _ e e'

pub next_one : NextCommits
next_one κs a r r' s s' e e' = only_one _ _ _ e e'
