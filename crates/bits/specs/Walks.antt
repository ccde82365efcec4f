-- A walk by stretches: what each turn gives, and what is left. Definitions only.
use Rattle.std.specs.Prelude.{◌≡◌, ◌<◌, Option, MatchOption}
use Rattle.bits.specs.Stretches.{StretchOf}
use Rattle.bits.specs.declared.Stretch.{Stretch}
use Rattle.bits.specs.declared.walk.MarkedStretches.{MarkedStretches}

-- a turn from s gives the next stretch and goes on behind it, or there is none since the end is reached
abbrev pub NextStretch : MarkedStretches → Option Stretch → MarkedStretches → Type 0
NextStretch s r t = MatchOption r ((s.at ≡ s.end) × (t.at ≡ s.at)) (λ x. (s.at < s.end) × StretchOf s.words.now s.at s.end x × (t.at ≡ x.to)) × (t.words ≡ s.words) × (t.end ≡ s.end)
