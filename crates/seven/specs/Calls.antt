-- No call is answered with number 7, whatever is handed in. Of frames and store it is asked that they are bytes, as all that lies in a slice of bytes is. Statements only.
use Rattle.std.specs.Prelude.{◌%◌, ◌≡◌}
use Rattle.lists.specs.Premises.{AreBytes}
use Rattle.pose.specs.Pose.{number_of}
use Rattle.demands.specs.Calls.{Admitted, Alignment, template, input}
use Rattle.sequences.specs.Estimates.{Estimate, frame, entering}
use Rattle.quayhollow.proofs.quayhollow_align.Reads as align
use Rattle.quayhollow.proofs.quayhollow_align.Kinds as align_kinds
use Rattle.quayhollow.proofs.quayhollow_estimate.Reads as estimate
use Rattle.quayhollow.proofs.quayhollow_estimate.Kinds as estimate_kinds

-- a call of the alignment, and one of the aligner, with a result that the contract admits
abbrev pub AlignmentNeverSeven : Type 0
AlignmentNeverSeven = (c : Alignment) → AreBytes (template c) → AreBytes (input c) → number_of c.result.answer ≡ 7 → ⊥

abbrev pub EstimateNeverSeven : Type 0
EstimateNeverSeven = (c : Estimate) → AreBytes (frame c) → AreBytes (entering c).store → number_of c.result.outcome.answer ≡ 7 → ⊥

-- the same of the library's two functions over them: the number of a code is its remainder by 256
abbrev pub AlignCode : Type 0
AlignCode = Admitted align_kinds.ps align_kinds.r align.Post

abbrev pub AlignCodeNeverSeven : Type 0
AlignCodeNeverSeven = (c : AlignCode) → let template = c.handed.0.now in let input = c.handed.1.0.now in AreBytes template → AreBytes input → c.result % 256 ≡ 7 → ⊥

abbrev pub EstimateCode : Type 0
EstimateCode = Admitted estimate_kinds.ps estimate_kinds.r estimate.Post

abbrev pub EstimateCodeNeverSeven : Type 0
EstimateCodeNeverSeven = (c : EstimateCode) → let frame = c.handed.0.now in let store = c.handed.1.1.1.1.1.1.1.1.0.now in AreBytes frame → AreBytes store → c.result % 256 ≡ 7 → ⊥
