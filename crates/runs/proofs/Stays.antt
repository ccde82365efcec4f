-- What every pass keeps, no pass and pass after pass keep. Assumes nothing.
use Prim.Native.Nat.{ℕ}
use mathlib.Core.Path.{refl, ◌∙◌}
use mathlib.Core.List.{List}
use lib.Ieee.{Float}
use Rattle.pass.specs.Kept.{Kept, KeptMarks}

pub kept_none : {n : ℕ} {xs : List Float} → Kept n xs xs
kept_none = record { input = refl; gx = refl; gy = refl; template = refl; rest = refl; size = refl }

pub marks_none : {n : ℕ} {ms : List ℕ} → KeptMarks n ms ms
marks_none = record { rest = refl; size = refl }

pub marks_kept : {n : ℕ} {ms ns os : List ℕ} → KeptMarks n ms ns → KeptMarks n ns os → KeptMarks n ms os
marks_kept a b = record { rest = b.rest ∙ a.rest; size = b.size ∙ a.size }
