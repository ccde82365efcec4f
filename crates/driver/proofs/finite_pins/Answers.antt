-- `driver::finite_pins` meets its contract. Assumes nothing.
use Rattle.std.proofs.Common.{◌≡◌, ℕ, ◌^◌, ◌<◌, true, false, T, ℤ, pos, sym, ◌∙◌, subst, w16, to_z, of_z, rules}
use lib.Signed.{mag}
use lib.Ieee.{Float, fin, binary32, mul, fits, of_bits}
use lib.Ieee.Scale.{finite}
use mir.ValLaws.{to_z-of_z}
use Rattle.driver.specs.Pins.{pin_of, finite_of}
use Rattle.driver.proofs.Entries.{Rows, rows_posed}
use Rattle.driver.proofs.Scaled.{times_number, pin_times}
use Rattle.driver.proofs.finite_pins.Goals as goal

-- a number as a field of the answer
same : {r : ℤ} → mag r < 2 ^ 15 → to_z w16 (of_z w16 r) ≡ r
same {r} h = to_z-of_z w16 r (record { sfits = h })

pin_is : (x : Float) (t : ℕ) (r : ℤ) → fits binary32 x ≡ true → T (finite x) → mag r < 2 ^ 15 → r ≡ pin_of 1 (mul binary32 x (fin false 1 (pos t))) → to_z w16 (of_z w16 r) ≡ pin_of (2 ^ t) x
pin_is x t r f g h e = same h ∙ e ∙ pin_times x t (subst T (sym f) tt) g

pub motion-requires : goal.motion-requires
motion-requires c =
    let m : Rows c.posed_matrix-m.result =
    subst Rows (sym c.posed_matrix-m.ensures) (rows_posed c.args.theta c.args.tx c.args.ty c.requires.t.1 c.requires.t.2) in
    search rules

pub motion-requires-2 : goal.motion-requires-2
motion-requires-2 c =
    let m : Rows c.posed_matrix-m.result =
    subst Rows (sym c.posed_matrix-m.ensures) (rows_posed c.args.theta c.args.tx c.args.ty c.requires.t.1 c.requires.t.2) in
    search rules

pub capped-requires : goal.capped-requires
unfolding of_bits
capped-requires c = times_number c.args.theta 13 c.requires.t.0

pub returns : goal.returns
unfolding finite_of of_bits
returns c =
    rw (
      same c.motion.type_inv,
      same c.motion-2.type_inv,
      pin_is c.args.theta 13 _ c.well_formed.0.1 c.requires.t.0 c.capped.type_inv c.capped.ensures,
      c.motion.ensures,
      c.motion-2.ensures,
      c.posed_matrix-m.ensures,
    )
