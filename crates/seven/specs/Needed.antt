-- Why the statements about calls ask that frames are bytes: a list of larger numbers can be answered with 7. Definitions only.
use Rattle.std.specs.Prelude.{ℕ, ◌^◌, ◌≡◌, List, [], ◌∷◌, ◌++◌, Err}
use Rattle.settings.specs.Settings.{defaults_of}
use Rattle.refusals.specs.declared.Refusal.TheVariants.{RhoNotFinite}
use Rattle.alignment.specs.Aligned.{aligned_of}

-- 5 by 5 numbers, five rows of 0 and 2^68, both as template and as input: the squares leave the range of f32
abbrev pub BeyondBytes : Type 0
BeyondBytes =
    let row : List ℕ = 0 ∷ 2 ^ 68 ∷ 0 ∷ 2 ^ 68 ∷ 0 ∷ [] in
    let frame = row ++ (row ++ (row ++ (row ++ row))) in
    aligned_of frame frame 5 5 defaults_of 300 25 ≡ record { passes = 1; answer = Err RhoNotFinite }
