-- `places::fill_row` meets its contract. Assumes nothing.
use mathlib.Core.Path.{◌≡◌, refl}
use native.Mathlib.Omega.{arith}
use lib.ListN.{length-set}
use Rattle.places.proofs.Places.{places_start, places_turn}
use Rattle.places.proofs.fill_row.Goals as goal

pub loop-k-init : goal.loop-k-init
loop-k-init g c =
    let a = c.args in
    (places_start a.map a.w a.h a.x a.y a.len a.spots.now a.across.now a.down.now a.flags.now c.requires.4, refl, refl, refl, refl)

pub loop-k-preserved : goal.loop-k-preserved
loop-k-preserved g c =
    let l = c.loop-k in
    let a = c.args in (
      places_turn a.map a.w a.h a.x a.y a.len l.spots l.across l.down l.flags l.k c.place_of-p.result (omega arith) l.invariant.0 c.place_of-p.ensures,
      simp length-set l.invariant.1,
      simp length-set l.invariant.2,
      simp length-set l.invariant.3,
      simp length-set l.invariant.4,
    )

pub returns : goal.returns
returns g c =
    let l = c.loop-k in
    let e : l.k ≡ c.args.len = omega (arith, l.invariant.0.bound) in
    rw e at l.invariant.0.so_far
