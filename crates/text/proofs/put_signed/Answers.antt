-- `text::put_signed` puts a sign first where the number is negative. Assumes nothing.
use Rattle.std.proofs.Common.{◌≡◌, ◌<◌, ◌^◌, [], ◌∷◌, ◌++◌, ℕ, List, sym, ap, ◌∙◌, arith, w16}
use lib.IntN.{nat_abs}
use mir.ValLaws.{to_z-of_z}
use Rattle.std.specs.Fmt.{decimal}
use Rattle.text.specs.Text.{signed_of}
use Rattle.text.proofs.Digits.{signed_below, signed_above}
use Rattle.text.proofs.Pieces.{then_wrote_at, wrote_as, ended}
use Rattle.text.proofs.put_signed.Goals as goal

pub returns-then-n-lt0 : goal.returns-then-n-lt0
returns-then-n-lt0 c =
    let a = c.args in
    let same = to_z-of_z w16 a.n c.ranges.n in
    let size : c.unsigned_abs.result ≡ nat_abs a.n = rw same at c.unsigned_abs.ensures.value in
    let few : nat_abs a.n < 2 ^ 16 = omega (arith, size, c.unsigned_abs.type_inv) in
    let e : signed_of a.n ≡ 45 ∷ decimal c.unsigned_abs.result = signed_below a.n few (rw same at c.if-n-lt0.true) ∙ ap (λ (k : ℕ). 45 ∷ decimal k) (sym size) in
    let w = then_wrote_at c.put_bytes-next.ensures (omega (arith, c.put_bytes-next.ensures.next)) c.put_number.ensures (omega (arith, c.requires)) in
    wrote_as w (sym (ap (λ (l : List ℕ). ended l a.end) e)) w.bound

pub returns : goal.returns
returns c =
    let a = c.args in
    let same = to_z-of_z w16 a.n c.ranges.n in
    let size : c.unsigned_abs-2.result ≡ nat_abs a.n = rw same at c.unsigned_abs-2.ensures.value in
    let few : nat_abs a.n < 2 ^ 16 = omega (arith, size, c.unsigned_abs-2.type_inv) in
    let e : signed_of a.n ≡ decimal c.unsigned_abs-2.result = signed_above a.n few (rw same at c.if-n-lt0.false) ∙ ap decimal (sym size) in
    wrote_as c.put_number-2.ensures (sym (ap (λ (l : List ℕ). ended l a.end) e)) (omega (arith, c.put_number-2.ensures.bound))
