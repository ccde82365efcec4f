-- Document 01's table: a refusal's number, and the refusal of a number. Definitions only.
use Rattle.std.specs.Prelude.{◌≡◌, ℕ, ◌≤◌, Result, Ok, Err, eqb}
use Rattle.lists.specs.Marked.{pick}
use Rattle.refusals.specs.declared.Refusal.{Refusal}
use Rattle.refusals.specs.declared.Refusal.TheVariants.{InvalidInput, SideTooLarge, SettingTooLarge, RoomTooShort, FewPixels, Flat, RhoNotFinite, NoInverse, NoStep, PoseLost, NoPrevious, OtherSides, StoreTooShort, Handed}

abbrev pub number : Refusal → ℕ
number InvalidInput = 1
number SideTooLarge = 2
number SettingTooLarge = 3
number RoomTooShort = 4
number FewPixels = 5
number Flat = 6
number RhoNotFinite = 7
number NoInverse = 8
number NoStep = 9
number PoseLost = 10
number NoPrevious = 11
number OtherSides = 12
number StoreTooShort = 13
number (Handed n) = n

-- the refusal with a number from 1 to 13
unfoldable pub refusal_of : ℕ → Refusal
refusal_of n =
    pick (eqb n 1) InvalidInput
    (pick (eqb n 2) SideTooLarge
    (pick (eqb n 3) SettingTooLarge
    (pick (eqb n 4) RoomTooShort
    (pick (eqb n 5) FewPixels
    (pick (eqb n 6) Flat
    (pick (eqb n 7) RhoNotFinite
    (pick (eqb n 8) NoInverse
    (pick (eqb n 9) NoStep
    (pick (eqb n 10) PoseLost
    (pick (eqb n 11) NoPrevious
    (pick (eqb n 12) OtherSides StoreTooShort)))))))))))

-- what a check answers, by the number of the first that fails: 0 where all pass
unfoldable pub checked : ℕ → Result (Unit {0}) Refusal
checked n = pick (eqb n 0) (Ok tt) (Err (refusal_of n))

-- THE STATEMENT: the number of the refusal with the number n is n, so the table's numbers tell the refusals apart
unfoldable pub Numbered : Type 0
Numbered = (n : ℕ) → 1 ≤ n → n ≤ 13 → number (refusal_of n) ≡ n
