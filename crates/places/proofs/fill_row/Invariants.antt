-- `places::fill_row` meets its contract. Assumes nothing.
use mathlib.Core.Path.{◌≡◌}
use lib.ListN.{length}
use Rattle.places.proofs.Places.{PlacesHeld}
use Rattle.places.proofs.fill_row.Given as goal

abbrev pub invariant-loop-k : goal.invariant-loop-k
invariant-loop-k g l = PlacesHeld l.map l.w l.h l.x l.y l.len l.spots l.across l.down l.flags l.k × (length l.spots ≡ length l.initial.spots) × (length l.across ≡ length l.initial.across) × (length l.down ≡ length l.initial.down) × (length l.flags ≡ length l.initial.flags)
