-- That some bytes were handed to a write, and that some came from a read. Of either there is nothing to say but that the call was made, so both are
-- shut: what is behind them can't be seen. The two laws that give them are for the proofs of `flush` and `fetch` alone, and nothing else may cite
-- them. So a contract above that speaks of either is met by a call of these functions. Definitions only.
use Rattle.std.specs.Prelude.{ℕ, List}

pub Handed : List ℕ → Type 0
Handed l = Unit

pub Came : List ℕ → Type 0
Came l = Unit

pub by_flush : (l : List ℕ) → Handed l
unfolding Handed
by_flush l = tt

pub by_fetch : (l : List ℕ) → Came l
unfolding Came
by_fetch l = tt
