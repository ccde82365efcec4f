-- `bits::first_other` meets its contract. The invariant: the pixels passed have the bit that is passed by. Assumes nothing.
use Prim.Native.Nat.{ℕ, ◌+◌, ◌-◌, ◌^◌, ◌≤◌, ◌<◌, min}
use mathlib.Core.Path.{◌≡◌, subst}
use mathlib.Core.List.{List}
use mathlib.Core.Logic.{◌⊎◌, inl, inr}
use native.Mathlib.Omega.{arith}
use Rattle.lists.specs.Marked.{pick}
use Rattle.bits.specs.Words.{bit_at}
use Rattle.bits.proofs.Scan.{lt_or_le, none_left, found_in, found_other, found_same}
use Rattle.bits.proofs.first_other.Invariants.{Passed}
use Rattle.bits.proofs.first_other.Goals as goal

-- pixels passed before `at`, and those from `at` on
on : (ws : List ℕ) (b i e at to : ℕ) → i ≤ at → Passed ws b i e at → ((s : ℕ) → at + s < to → bit_at ws (at + s) ≡ b) → Passed ws b i e to
on ws b i e at to h p q k l m n = by (lt_or_le k at)
  where
    by : (k < at) ⊎ (at ≤ k) → bit_at ws k ≡ b
    by (inl o) = p k l o n
    by (inr o) =
        let z : at + (k - at) ≡ k = omega arith in
        subst (λ (j : ℕ). bit_at ws j ≡ b) z (q (k - at) (omega arith))

pub returns-then-left-ne0 : goal.returns-then-left-ne0
returns-then-left-ne0 c =
    let few : c.seen.result < 2 ^ 64 =
    c.seen.type_inv in
    let l = c.loop-at in
    let a = c.args in
    let ws = a.words.now in
    let o = c.lowest.ensures in
    let r = c.lowest.result in
    let v = c.seen.result in
    let inside = found_in ws a.marked l.at v few c.seen.ensures r o.2 o.1 in
    let same = on ws (pick a.marked 1 0) a.i a.e l.at (l.at + r) l.invariant.0 l.invariant.2
    (λ s h. found_same ws a.marked l.at v few c.seen.ensures r o.2 o.1 s (omega arith)) in
    rw c.min.ensures
    (record {
      low = omega arith;
      high = omega arith;
      same = λ k h m. same k h (omega arith) (omega arith);
      other = λ h.
          let e : min (l.at + r) a.e ≡ l.at + r = omega arith in
          rw e (found_other ws a.marked l.at v few c.seen.ensures r o.2 o.1);
    })

pub loop-at-preserved : goal.loop-at-preserved
loop-at-preserved c =
    let few : c.seen.result < 2 ^ 64 =
    c.seen.type_inv in
    let l = c.loop-at in
    let a = c.args in
    let ws = a.words.now in (
      omega arith,
      omega arith,
      on ws (pick a.marked 1 0) a.i a.e l.at _ l.invariant.0 l.invariant.2
          (λ s h. none_left ws a.marked l.at c.seen.result few c.seen.ensures c.if-left-ne0.false s (omega arith)),
    )
