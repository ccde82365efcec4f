-- What a pass leaves as it was: setting images of its own keeps those that a pass reads, and so does one change after another. Assumes nothing.
use Prim.Native.Nat.{ℕ, ◌≤◌, ◌<◌}
use mathlib.Core.Path.{◌≡◌, ◌∙◌}
use mathlib.Core.List.{List, [], ◌∷◌}
use native.Mathlib.Omega.{arith}
use lib.ListN.{length}
use lib.Ieee.{Float}
use Rattle.lists.proofs.Sets.{Sets, set_all, Fits, Spared, Under, length_set_all, image_spared, drop_set_all}
use Rattle.pass.specs.Kept.{Kept}

-- the images that a pass may set: from 5 to 11 and not 8, the template's
abbrev pub Own : Sets Float → Type 0
Own [] = Unit {0}
Own (s ∷ ss) = (4 < s.0) × (s.0 < 12) × (8 ≡ s.0 → ⊥) × Own ss

own_under : (ss : Sets Float) → Own ss → Under 12 ss
own_under [] o = tt
own_under (s ∷ ss) o = (o.1, own_under ss o.3)

own_template : (ss : Sets Float) → Own ss → Spared 8 ss
own_template [] o = tt
own_template (s ∷ ss) o = (o.2, own_template ss o.3)

own_input : (k : ℕ) → k ≤ 4 → (ss : Sets Float) → Own ss → Spared k ss
own_input k l [] o = tt
own_input k l (s ∷ ss) o = ((λ e. above s.0 e o.0), own_input k l ss o.3)
  where
    above : (i : ℕ) → k ≡ i → 4 < i → ⊥
    above i e h = omega arith

pub kept_sets : (n : ℕ) (xs : List Float) (ss : Sets Float) → Fits n (length xs) ss → Own ss → Kept n xs (set_all n ss xs)
kept_sets n xs ss f o = record {
  input = image_spared n xs 2 ss f (own_input 2 (omega arith) ss o);
  gx = image_spared n xs 3 ss f (own_input 3 (omega arith) ss o);
  gy = image_spared n xs 4 ss f (own_input 4 (omega arith) ss o);
  template = image_spared n xs 8 ss f (own_template ss o);
  rest = drop_set_all n xs 12 ss f (own_under ss o);
  size = length_set_all n xs ss f;
}

pub kept_kept : {n : ℕ} {xs ys zs : List Float} → Kept n xs ys → Kept n ys zs → Kept n xs zs
kept_kept a b = record {
  input = b.input ∙ a.input;
  gx = b.gx ∙ a.gx;
  gy = b.gy ∙ a.gy;
  template = b.template ∙ a.template;
  rest = b.rest ∙ a.rest;
  size = b.size ∙ a.size;
}
