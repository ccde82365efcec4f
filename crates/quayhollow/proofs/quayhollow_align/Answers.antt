-- `quayhollow::quayhollow_align` meets its contract: the settings are made, the alignment answers, and its answer is handed on. Assumes nothing.
use Rattle.quayhollow.proofs.Codes.{handed_on, aligned_small}
use Rattle.quayhollow.proofs.quayhollow_align.Goals as goal

pub code-requires : goal.code-requires
code-requires c = rw c.find_transform_ecc_euclidean-o.ensures.value (aligned_small _ _ _ _ _ _ _).1

pub returns : goal.returns
returns c =
    let e = c.find_transform_ecc_euclidean-o.ensures in
    rw (← c.config-cfg.ensures) record { value = handed_on _ e.value c.code.ensures c.put_pose.ensures; leaves = e.leaves }
