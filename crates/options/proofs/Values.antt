-- By whether a word has its number. Assumes nothing.
use Prim.Native.Nat.{ℕ}
use mathlib.Core.Path.{◌≡◌, sym, ap, ◌∙◌}
use Rattle.std.specs.Prelude.{Result, Ok, Err}
use Rattle.options.specs.declared.Options.{Options}
use Rattle.options.specs.declared.Word.TheVariants.{Settings}
use Rattle.options.specs.declared.Wrong.{Wrong}
use Rattle.options.specs.Words.{on_value}

module _ (f : ℕ → Options) {v w : Result ℕ Wrong} (e : v ≡ w) where
  pub no_value : (k : Wrong) → v ≡ Err k → Err k ≡ on_value w f
  unfolding on_value
  no_value k h = sym (ap (λ (z : Result ℕ Wrong). on_value z f) (sym e ∙ h))

  pub a_value : (n : ℕ) → v ≡ Ok n → Ok (Settings (f n)) ≡ on_value w f
  unfolding on_value
  a_value n h = sym (ap (λ (z : Result ℕ Wrong). on_value z f) (sym e ∙ h))
