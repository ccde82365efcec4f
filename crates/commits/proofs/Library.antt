-- The same for each function of the library for C and Rust. Assumes nothing.
use Rattle.commits.specs.Library.{VersionCommits, WorkLenCommits, MarksLenCommits, StoreLenCommits, AlignCodeCommits, EstimateCodeCommits, MatrixFloatsCommits, PinsNumbersCommits}
use Rattle.commits.proofs.Commits.{only_one}

pub version_one : VersionCommits
version_one κs a r r' s s' e e' = only_one _ _ _ e e'

pub work_len_one : WorkLenCommits
work_len_one κs a r r' s s' e e' = only_one _ _ _ e e'

pub marks_len_one : MarksLenCommits
marks_len_one κs a r r' s s' e e' = only_one _ _ _ e e'

pub store_len_one : StoreLenCommits
store_len_one κs a r r' s s' e e' = only_one _ _ _ e e'

pub align_code_one : AlignCodeCommits
align_code_one κs a r r' s s' e e' =
    λ i. (only_one _ _ _ e.0.0 e'.0.0 i, only_one _ _ _ e.0.1 e'.0.1 i, only_one _ _ _ e.1.0 e'.1.0 i, only_one _ _ _ e.1.1 e'.1.1 i)

pub estimate_code_one : EstimateCodeCommits
estimate_code_one κs a r r' s s' e e' =
    λ i. (
      only_one _ _ _ e.0.0 e'.0.0 i,
      only_one _ _ _ e.0.1 e'.0.1 i,
      only_one _ _ _ e.1.0.0 e'.1.0.0 i,
      only_one _ _ _ e.1.0.1 e'.1.0.1 i,
      only_one _ _ _ e.1.1.0 e'.1.1.0 i,
      only_one _ _ _ e.1.1.1 e'.1.1.1 i,
    )

pub matrix_floats_one : MatrixFloatsCommits
matrix_floats_one κs a r r' s s' e e' = only_one _ _ _ e e'

pub pins_numbers_one : PinsNumbersCommits
pins_numbers_one κs a r r' s s' e e' = only_one _ _ _ e e'
