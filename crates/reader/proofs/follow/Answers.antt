-- `reader::follow` meets its contract, by what the step found. Assumes nothing.
use Prim.Native.Nat.{ℕ}
use mathlib.Core.Path.{◌≡◌, refl, sym, subst}
use mathlib.Core.List.{List}
use native.Mathlib.Omega.{arith}
use borrow.Author.Rules.{rules}
use Rattle.text.specs.Text.{Wrote}
use Rattle.ports.specs.Ports.{Handed, nothing_handed}
use Rattle.stream.specs.declared.Event.{Event}
use Rattle.stream.specs.declared.Event.TheVariants as event
use Rattle.stream.specs.declared.Step.{Step}
use Rattle.reader.specs.Run.{Followed, handed_by, turned_by, pushed_of}
use Rattle.reader.specs.Text.{text_of}
use Rattle.reader.specs.declared.Run.{Run}
use Rattle.reader.proofs.follow.Goals as goal

by_event : (run r : Run) (step : Step) (buf buf' out out' : List ℕ) (e : Event) → step.event ≡ e → Handed (handed_by run out e) → turned_by run r step buf buf' out out' e
    → Followed run r step buf buf' out out'
by_event run r step buf buf' out out' e q h t = record {
  handed = subst (λ (y : Event). Handed (handed_by run out y)) (sym q) h;
  turned = subst (λ (y : Event). turned_by run r step buf buf' out out' y) (sym q) t;
}

pub refill-requires : goal.refill-requires
refill-requires g c =
    let q : c.args.step.event ≡ event.More = cc in
    (search rules, omega (arith, c.requires.0.holds, c.requires.1.few q))

pub returns-in-More : goal.returns-in-More
unfolding handed_by pushed_of
returns-in-More g c =
    let a = c.args in
    let q : a.step.event ≡ event.More = cc in
    (search rules, by_event a.run _ a.step a.buf.now _ a.out.now _ (event.More) q c.refill.ensures.2 ((c.refill.ensures.1, refl)))

pub returns-in-Quiet : goal.returns-in-Quiet
unfolding handed_by pushed_of
returns-in-Quiet g c =
    let a = c.args in
    let q : a.step.event ≡ event.Quiet = cc in
    (search rules, by_event a.run _ a.step a.buf.now _ a.out.now _ (event.Quiet) q nothing_handed ((record { start = refl; end = refl; bytes = refl; state = refl }, refl, refl, refl)))

pub returns-in-Print : goal.returns-in-Print
unfolding handed_by pushed_of
returns-in-Print g c =
    let a = c.args in
    let l = c.in-Print.l in
    let h = c.room-here in
    let p = c.put_line-put in
    let q : a.step.event ≡ event.Print l = cc in
    (search rules, by_event a.run _ a.step a.buf.now _ a.out.now _ (event.Print l) q h.ensures.2 ((record { start = refl; end = refl; bytes = refl; state = refl }, subst (λ (i : ℕ). Wrote a.out.now i (text_of l) 100 p.new.out p.result) h.ensures.1 p.ensures, refl)))

pub returns-in-Broken : goal.returns-in-Broken
unfolding handed_by pushed_of
returns-in-Broken g c =
    let a = c.args in
    let q : a.step.event ≡ event.Broken = cc in
    (search rules, by_event a.run _ a.step a.buf.now _ a.out.now _ (event.Broken) q nothing_handed ((record { start = refl; end = refl; bytes = refl; state = refl }, refl, refl, refl)))
