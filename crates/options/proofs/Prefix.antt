-- Whether one list begins with another. Assumes nothing.
use Prim.Native.Nat.{ℕ, ◌≤◌}
use mathlib.Core.Path.{◌≡◌, refl, sym, ap, ◌∙◌}
use mathlib.Core.Bool.{Bool, true, ◌&&◌, true≢false}
use mathlib.Core.List.{List, [], ◌∷◌}
use native.Mathlib.Omega.{arith}
use borrow.Author.Tests.{eq-eqb, ne_eqb, eqb-true}
use lib.Dec.{eqb}
use lib.ListN.{length}
use Rattle.lists.proofs.Cases.{choose}
use Rattle.std.specs.List.{starts_with}
use Rattle.options.specs.Words.{begins}

-- what begins with a list is no shorter
pub begins_long : (s p : List ℕ) → begins s p ≡ true → length p ≤ length s
unfolding begins
begins_long s [] e = omega arith
begins_long [] (b ∷ p) e = absurd (true≢false (sym e))
begins_long (c ∷ s) (b ∷ p) e = choose (eqb c b) (λ g. omega (arith, begins_long s p (sym (ap (λ (t : Bool). t && begins s p) g) ∙ e))) (λ g. absurd (true≢false (sym e ∙ ap (λ (t : Bool). t && begins s p) g)))

-- the library's word for it
eqb_turned : (a b : ℕ) → eqb a b ≡ eqb b a
eqb_turned a b = choose (eqb a b) (λ e. e ∙ sym (eq-eqb b a (sym (eqb-true a b e)))) (λ e. e ∙ sym (ne_eqb b a (λ q. absurd (true≢false (sym (eq-eqb a b (sym q)) ∙ e)))))

pub begins_is : (s p : List ℕ) → starts_with eqb s p ≡ begins s p
unfolding begins
begins_is s [] = refl
begins_is [] (b ∷ p) = refl
begins_is (c ∷ s) (b ∷ p) = ap (λ (t : Bool). t && starts_with eqb s p) (eqb_turned b c) ∙ ap (λ (t : Bool). eqb c b && t) (begins_is s p)
