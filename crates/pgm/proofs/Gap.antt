-- White space and comments, byte after byte. Assumes nothing.
use Prim.Native.Nat.{ℕ, suc, ◌+◌, ◌≤◌, ◌<◌}
use mathlib.Core.Path.{◌≡◌, ap, ◌∙◌}
use mathlib.Core.Bool.{Bool, true, false}
use mathlib.Core.List.{List, ◌∷◌}
use native.Mathlib.Numerals.{add-one}
use native.Mathlib.Omega.{arith}
use lib.ListN.{length, drop, get_or, drop_of_length-le}
use lib.Seq.{drop-cons}
use Rattle.lists.proofs.Cases.{pick_true, pick_false}
use Rattle.pgm.specs.Pgm.{open_after, between, gap_of}

module _ (c : Bool) (b : ℕ) (s : List ℕ) where
  more : between c b ≡ true → gap_of c (b ∷ s) ≡ suc (gap_of (open_after c b) s)
  unfolding gap_of
  more e = pick_true _ _ _ e

  none : between c b ≡ false → gap_of c (b ∷ s) ≡ 0
  unfolding gap_of
  none e = pick_false _ _ _ e

-- ---- the loop: from i on, in a comment or not, the gap goes on up to n
pub record Skipped (s : List ℕ) (c : Bool) (i n : ℕ) : Type 0 where
  pub to : i + gap_of c (drop i s) ≡ n

module _ {s : List ℕ} {c : Bool} {i n : ℕ} (k : Skipped s c i n) where
  pub gap_end : length s ≤ i → i ≡ n
  unfolding gap_of
  gap_end h = let e : gap_of c (drop i s) ≡ 0 = ap (gap_of c) (drop_of_length-le s h) in omega (arith, k.to)

  pub gap_stop : i < length s → between c (get_or s i 0) ≡ false → i ≡ n
  gap_stop h e =
      let g : gap_of c (drop i s) ≡ 0 = ap (gap_of c) (drop-cons s i 0 h) ∙ none c (get_or s i 0) (drop (suc i) s) e in
      omega (arith, k.to)

  pub gap_more : {d : Bool} → i < length s → between c (get_or s i 0) ≡ true → d ≡ open_after c (get_or s i 0) → Skipped s d (i + 1) n
  gap_more {d} h e q =
      let g : gap_of c (drop i s) ≡ suc (gap_of (open_after c (get_or s i 0)) (drop (suc i) s)) = ap (gap_of c) (drop-cons s i 0 h) ∙ more c (get_or s i 0) (drop (suc i) s) e in
      let j : gap_of d (drop (suc i) s) ≡ gap_of (open_after c (get_or s i 0)) (drop (suc i) s) = ap (λ (t : Bool). gap_of t (drop (suc i) s)) q in
      rw add-one record { to = omega (arith, k.to) }
