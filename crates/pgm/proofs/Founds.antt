-- By whether a number was found. Assumes nothing.
use Prim.Native.Nat.{ℕ}
use mathlib.Core.Path.{◌≡◌, refl, sym, ap, ◌∙◌}
use Rattle.std.specs.Prelude.{Option, Some, None, Ok, Err}
use Rattle.std.specs.Option.{ok_or}
use Rattle.scan.specs.declared.Digits.{Digits}
use Rattle.pgm.specs.declared.Fault.{Fault}
use Rattle.pgm.specs.Pgm.{on_number}

module _ {A : Type 0} (x : A) (k : ℕ → ℕ → A) {f g : Option Digits} (e : f ≡ g) where
  pub no_number : f ≡ None → on_number g x k ≡ x
  unfolding on_number
  no_number n = ap (λ (z : Option Digits). on_number z x k) (sym e ∙ n)

  pub a_number : (d : Digits) → f ≡ Some d → on_number g x k ≡ k d.value d.next
  unfolding on_number
  a_number d n = ap (λ (z : Option Digits). on_number z x k) (sym e ∙ n)

-- where a number is asked for by ok_or: it was found, or the fault is the one that was named
pub found_by : (o : Option Digits) (k : Fault) {d : Digits} → Ok d ≡ ok_or o k → o ≡ Some d
found_by None k h = cc
found_by (Some x) k h = cc

pub none_by : (o : Option Digits) (k : Fault) {e : Fault} → Err e ≡ ok_or o k → (o ≡ None) × (e ≡ k)
none_by None k h = (refl, cc)
none_by (Some x) k h = cc
