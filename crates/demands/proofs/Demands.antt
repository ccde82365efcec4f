-- Demands 1 and 3 hold of any results that the alignment's contract admits. Assumes nothing.
use Prim.Native.Nat.{ℕ, ◌*◌}
use mathlib.Core.Path.{◌≡◌, sym, subst}
use mathlib.Core.List.{List}
use lib.ListN.{length}
use lib.Ieee.{Float}
use Rattle.checks.proofs.Past.{past}
use Rattle.pose.specs.declared.Outcome.{Outcome}
use Rattle.demands.specs.Finite.{CallEnded}
use Rattle.demands.specs.Agree.{BytesAlike}
use Rattle.demands.specs.Calls.{template, input, w, h, cfg, work, marks}
use Rattle.demands.specs.Demands.{CallEnds, SameAnswer, SameBytes, ByteUnseen}
use Rattle.demands.proofs.Finite.{memory_ends}
use Rattle.demands.proofs.Agree.{same_result}
use Rattle.demands.proofs.Bytes.{bytes_seen, changed_alike}

-- what holds of the definitions holds of what equals them
as_defined : {n most : ℕ} {o o' : Outcome} {work v v' : List Float} {marks u u' : List ℕ} → o ≡ o' → v ≡ v' → u ≡ u' → CallEnded n most o' work v' marks u' → CallEnded n most o work v marks u
as_defined e f g x = rw (e, f, g) x

pub demand_1 : CallEnds
unfolding CallEnds
demand_1 c =
    as_defined c.admitted.0 c.admitted.1.0 c.admitted.1.1 (memory_ends (template c) (input c) (w c) (h c) (cfg c) (work c) (marks c))

pub demand_3 : SameAnswer
unfolding SameAnswer
demand_3 c c' b alike =
    same_result (template c) (template c') (length (work c)) (length (marks c)) (length (work c')) (length (marks c')) b.same_input b.same_w b.same_h b.same_cfg b.past b.past' alike c.admitted.0 c'.admitted.0

-- of the templates' bytes
pub demand_3_bytes : SameBytes
unfolding SameBytes SameAnswer
demand_3_bytes c c' b P alike =
    demand_3 c c' b
    (bytes_seen (template c) (template c') (input c) (w c) (h c) (cfg c) P
    (past _ _ _ _ _ _ _ b.past).template_fits
    (sized b.same_w b.same_h (past _ _ _ _ _ _ _ b.past').template_fits)
    alike)
  where
    sized : {x x' y y' z : ℕ} → x ≡ x' → y ≡ y' → z ≡ x' * y' → z ≡ x * y
    sized e f g = rw (e, f) g

-- of one byte
pub demand_3_byte : ByteUnseen
unfolding ByteUnseen SameBytes
demand_3_byte c c' b P i v e unmarked =
    demand_3_bytes c c' b P
    (subst (λ (t : List ℕ). BytesAlike (template c) t (input c) (w c) (h c) (cfg c)) (sym e) (changed_alike (template c) (input c) (w c) (h c) (cfg c) i v unmarked))
