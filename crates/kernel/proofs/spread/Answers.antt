-- `kernel::spread` meets its contract. Assumes nothing.
use mathlib.Core.Path.{ap}
use lib.Ieee.{Float, binary32, of_bits}
use Rattle.floats.specs.F32.{◌⊕◌, ◌⊖◌, ◌⊗◌, 1f, half, 2f}
use Rattle.kernel.specs.Kernel.{sigma_of}
use Rattle.kernel.proofs.spread.Goals as goal

pub returns : goal.returns
unfolding sigma_of
returns c =
    let sigma : Float → Float = λ size. of_bits binary32 0x3e99_999a ⊗ ((size ⊖ 1f) ⊗ half ⊖ 1f) ⊕ of_bits binary32 0x3f4c_cccd in
    ap (λ (size : Float). 2f ⊗ sigma size ⊗ sigma size) c.to_f32.ensures
