-- `bits::flag` meets its contract. Assumes nothing.
use Prim.Native.Nat.{ℕ, ◌*◌, ◌%◌, ◌^◌}
use mathlib.Core.Path.{◌≡◌, sym, ◌∙◌}
use native.Mathlib.Nat.{one-mul}
use native.Mathlib.Omega.{arith}
use lib.Dec.{lit<}
use lib.Pow.{shl_exact}
use Rattle.lists.proofs.Cases.{pick_true, pick_false}
use Rattle.bits.specs.Packing.{flag_of}
use Rattle.bits.proofs.flag.Goals as goal

-- the bit is shifted within the word
bit_is : (q : ℕ) → (1 * 2 ^ (q % 32)) % 2 ^ 32 ≡ 2 ^ (q % 32)
bit_is q = shl_exact 1 (q % 32) 32 (lit< tt) (omega arith) ∙ one-mul (2 ^ (q % 32))

pub returns-then-marked : goal.returns-then-marked
unfolding flag_of
returns-then-marked c = bit_is c.args.q ∙ sym (pick_true _ _ _ c.if-marked.true)

pub returns-else-marked : goal.returns-else-marked
unfolding flag_of
returns-else-marked c = sym (pick_false _ _ _ c.if-marked.false)
