-- Digits byte after byte: what one more digit does to the count and the number, and that a number held on the way is held at the end. Assumes nothing.
use Prim.Native.Nat.{ℕ, suc, ◌+◌, ◌-◌, ◌*◌, ◌≤◌, ◌<◌, min}
use mathlib.Core.Path.{◌≡◌, refl, sym, ap, ◌∙◌}
use mathlib.Core.Bool.{Bool, true, false, ◌&&◌}
use mathlib.Core.List.{List, [], ◌∷◌}
use native.Mathlib.Numerals.{add-one}
use native.Mathlib.Omega.{arith}
use borrow.Author.Tests.{leb-true}
use lib.Dec.{leb}
use lib.ListN.{length, drop, get_or, drop_of_length-le}
use lib.Seq.{drop-cons}
use Rattle.lists.specs.Marked.{pick}
use Rattle.lists.proofs.Cases.{pick_true, pick_false}
use Rattle.scan.specs.Scan.{is_digit, count_of, value_of, digits_at}

pub digit_low : (b : ℕ) → is_digit b ≡ true → 48 ≤ b
unfolding is_digit
digit_low b e = leb-true 48 b (left (leb 48 b) (leb b 57) e)
  where
    left : (a b : Bool) → a && b ≡ true → a ≡ true
    left true b e = refl
    left false b e = e

-- a list that begins with b
module _ (b : ℕ) (s : List ℕ) where
  count_more : is_digit b ≡ true → count_of (b ∷ s) ≡ suc (count_of s)
  unfolding count_of
  count_more e = pick_true _ _ _ e

  count_none : is_digit b ≡ false → count_of (b ∷ s) ≡ 0
  unfolding count_of
  count_none e = pick_false _ _ _ e

  value_more : (v : ℕ) → is_digit b ≡ true → value_of v (b ∷ s) ≡ value_of (10 * v + (b - 48)) s
  unfolding value_of
  value_more v e = pick_true _ _ _ e

  value_none : (v : ℕ) → is_digit b ≡ false → value_of v (b ∷ s) ≡ v
  unfolding value_of
  value_none v e = pick_false _ _ _ e

-- the byte at i of a list
module _ (s : List ℕ) (i : ℕ) (h : i < length s) where
  count_step : is_digit (get_or s i 0) ≡ true → count_of (drop i s) ≡ suc (count_of (drop (suc i) s))
  count_step e = ap count_of (drop-cons s i 0 h) ∙ count_more (get_or s i 0) (drop (suc i) s) e

  count_stop : is_digit (get_or s i 0) ≡ false → count_of (drop i s) ≡ 0
  count_stop e = ap count_of (drop-cons s i 0 h) ∙ count_none (get_or s i 0) (drop (suc i) s) e

  value_step : (v : ℕ) → is_digit (get_or s i 0) ≡ true → value_of v (drop i s) ≡ value_of (10 * v + (get_or s i 0 - 48)) (drop (suc i) s)
  value_step v e = ap (value_of v) (drop-cons s i 0 h) ∙ value_more (get_or s i 0) (drop (suc i) s) v e

  value_stop : (v : ℕ) → is_digit (get_or s i 0) ≡ false → value_of v (drop i s) ≡ v
  value_stop v e = ap (value_of v) (drop-cons s i 0 h) ∙ value_none (get_or s i 0) (drop (suc i) s) v e

-- a number that is held on the way
held : (s : List ℕ) (u v m : ℕ) → min u m ≡ min v m → min (value_of u s) m ≡ min (value_of v s) m
unfolding value_of pick
held [] u v m e = e
held (b ∷ s) u v m e = go (is_digit b) (held s (10 * u + (b - 48)) (10 * v + (b - 48)) m (omega (arith, e)))
  where
    go : (d : Bool) → min (value_of (10 * u + (b - 48)) s) m ≡ min (value_of (10 * v + (b - 48)) s) m →
        min (pick d (value_of (10 * u + (b - 48)) s) u) m ≡ min (pick d (value_of (10 * v + (b - 48)) s) v) m
    go true h = h
    go false h = e

-- ---- the loop: v is the number that the digits from a up to i make behind u, held to m
pub record Read (s : List ℕ) (a u m v i : ℕ) : Type 0 where
  pub small : v ≤ m
  pub count : i + count_of (drop i s) ≡ a + count_of (drop a s)
  pub value : min (value_of v (drop i s)) m ≡ min (value_of u (drop a s)) m

pub read_none : (s : List ℕ) (a u m : ℕ) → u ≤ m → Read s a u m u a
read_none s a u m h = record { small = h; count = refl; value = refl }

module _ {s : List ℕ} {a u m v i : ℕ} (r : Read s a u m v i) where
  ended : count_of (drop i s) ≡ 0 → value_of v (drop i s) ≡ v → record { value = v; next = i } ≡ digits_at s a u m
  unfolding digits_at
  ended c w =
      let small : v ≤ m = r.small in
      let held : v ≡ min v m = omega arith in
      let last : i ≡ a + count_of (drop a s) = omega (arith, r.count) in
      ap (λ (x : ℕ). record { value = x; next = i }) (held ∙ ap (λ (x : ℕ). min x m) (sym w) ∙ r.value)
      ∙ ap (λ (x : ℕ). record { value = min (value_of u (drop a s)) m; next = x }) last

  pub read_end : length s ≤ i → record { value = v; next = i } ≡ digits_at s a u m
  unfolding count_of value_of
  read_end h = ended (ap count_of (drop_of_length-le s h)) (ap (value_of v) (drop_of_length-le s h))

  pub read_stop : i < length s → is_digit (get_or s i 0) ≡ false → record { value = v; next = i } ≡ digits_at s a u m
  read_stop h e = ended (count_stop s i h e) (value_stop s i h v e)

  pub read_more : {w : ℕ} → i < length s → is_digit (get_or s i 0) ≡ true → w ≡ min (10 * v + (get_or s i 0 - 48)) m → Read s a u m w (i + 1)
  read_more {w} h e q =
      let x = 10 * v + (get_or s i 0 - 48) in
      let t = drop (suc i) s in
      rw add-one
      record {
        small = omega (arith, q);
        count = omega (arith, r.count, count_step s i h e);
        value = held t w x m (omega (arith, q)) ∙ ap (λ (y : ℕ). min y m) (sym (value_step s i h v e)) ∙ r.value;
      }
