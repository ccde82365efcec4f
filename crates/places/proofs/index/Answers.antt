-- `places::index` meets its contract: the signed number is the unsigned one, so nothing is lost on the way. Assumes nothing.
use mathlib.Core.Path.{◌≡◌, ap, ◌∙◌}
use lib.IntN.{pos, nat_abs}
use lib.Ieee.{to_signed, to_unsigned}
use lib.Ieee.Casts.{to_signed_in, to_unsigned-lt}
use mir.Syntax.{w32}
use mir.Val.{to_z, of_z}
use mir.ValLaws.{to_z-of_z}
use Rattle.places.proofs.index.Goals as goal

pub overflow_cast-result : goal.overflow_cast-result
overflow_cast-result c =
    let between : let v = c.args.v in to_z w32 (of_z w32 (to_signed 31 v)) ≡ pos (to_unsigned 32 v) =
    let v = c.args.v in to_z-of_z w32 (to_signed 31 v) (record { sfits = to_signed_in 31 v }) ∙ c.requires.1 in
    rw between (tt, record { fits = to_unsigned-lt 32 c.args.v })

pub returns : goal.returns
returns c =
    let between : let v = c.args.v in to_z w32 (of_z w32 (to_signed 31 v)) ≡ pos (to_unsigned 32 v) =
    let v = c.args.v in to_z-of_z w32 (to_signed 31 v) (record { sfits = to_signed_in 31 v }) ∙ c.requires.1 in
    ap nat_abs between
