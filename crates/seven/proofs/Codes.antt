-- No code of the library has number 7. Assumes nothing.
use Prim.Native.Nat.{ℕ, ◌%◌}
use mathlib.Core.Path.{◌≡◌, sym, ap, ◌∙◌}
use native.Mathlib.Omega.{arith}
use Rattle.pose.specs.declared.Outcome.{Outcome}
use Rattle.boundary.specs.Boundary.{code_of}
use Rattle.quayhollow.specs.Told.{Small}
use Rattle.quayhollow.proofs.Codes.{code_told, aligned_small, estimate_small}
use Rattle.seven.specs.Calls.{AlignCodeNeverSeven, EstimateCodeNeverSeven}
use Rattle.seven.proofs.Calls.{NotNumber, aligned_other, estimated_other}

-- a code's number is that of its outcome
code_other : (k code : ℕ) (o : Outcome) → code ≡ code_of o → Small o → NotNumber k o → code % 256 ≡ k → ⊥
code_other k code o e s other z = other (sym (code_told o (omega (arith, s.0))).0 ∙ ap (λ (n : ℕ). n % 256) (sym e) ∙ z)

pub align_code_never : AlignCodeNeverSeven
align_code_never c bt bi = code_other _ c.result _ c.admitted.0.0 (aligned_small _ _ _ _ _ _ _) (aligned_other _ tt _ _ bt bi _ _ _ _ _)

pub estimate_code_never : EstimateCodeNeverSeven
estimate_code_never c bf bs = code_other _ c.result _ c.admitted.0.0 (estimate_small _ _ _ _ _ _ _) (estimated_other _ tt _ _ _ _ _ _ _ bf bs)
