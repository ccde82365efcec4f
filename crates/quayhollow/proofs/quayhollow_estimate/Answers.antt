-- `quayhollow::quayhollow_estimate` meets its contract: the settings and the record are made, the aligner answers, and its answer is handed on. Assumes nothing.
use mathlib.Core.Path.{ap}
use Rattle.aligner.specs.declared.Reply.{Reply}
use Rattle.quayhollow.proofs.Codes.{handed_on, estimate_small}
use Rattle.quayhollow.proofs.State.{remembered_cfg}
use Rattle.quayhollow.proofs.quayhollow_estimate.Goals as goal

pub code-requires : goal.code-requires
code-requires c = rw c.estimate-reply.ensures.value (estimate_small _ _ _ _ _ _ _).1

pub returns : goal.returns
returns c =
    let e = c.estimate-reply.ensures in
    let cfg = remembered_cfg c.config-cfg.result c.args.state.now in
    rw (← c.config-cfg.ensures, ← c.remembered-before.ensures)
    record {
      value = handed_on _ (ap (λ (r : Reply). r.outcome) e.value) c.code.ensures c.put_pose.ensures;
      state_after = (c.put_state.ensures, e.store_after);
      leaves = rw (← cfg, ← c.remembered-before.ensures) e.leaves;
    }
