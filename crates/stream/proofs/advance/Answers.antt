-- `stream::advance` meets its contract, by what is read over or by the record that stands at the start of the bytes. Assumes nothing.
use mathlib.Core.Path.{◌≡◌, refl, subst}
use borrow.Author.Tests.{eq-eqb, ne_eqb}
use Rattle.records.specs.Reading.{next_of}
use Rattle.records.specs.declared.Record.TheVariants.{More, Settings, Frame, Large, Other, Broken}
use Rattle.records.proofs.Known.{Known, known}
use Rattle.stream.specs.Stream.{act_of}
use Rattle.stream.specs.Memory.{at_frame, store_by, work_by, marks_by}
use Rattle.stream.proofs.Meets.{at_record, read_over}
use Rattle.stream.proofs.advance.Goals as goal

pub returns-then-state-ne0 : goal.returns-then-state-ne0
returns-then-state-ne0 c =
    let a = c.args in
    let m = read_over a.state a.s.now a.store.now a.work.now a.marks.now (ne_eqb _ 0 c.if-state-ne0.true) c.over.ensures in
    record { value = m.0; store_after = m.1.0; work_after = m.1.1 }

pub answer-requires : goal.answer-requires
answer-requires c =
    let a = c.args in
    let r = c.in-Frame in
    let e : next_of a.s.now ≡ Frame r.w r.h r.size = cc in
    (c.requires, (subst (Known a.s.now) e (known a.s.now)).0)

pub returns-in-More : goal.returns-in-More
unfolding act_of at_frame store_by work_by marks_by
returns-in-More c =
    let a = c.args in
    let e : next_of a.s.now ≡ More = cc in
    let m = at_record a.state a.s.now a.store.now a.work.now a.marks.now (eq-eqb _ 0 c.if-state-ne0.false) (More) e refl refl refl refl in
    record { value = m.0; store_after = m.1.0; work_after = m.1.1 }

pub returns-in-Settings : goal.returns-in-Settings
unfolding act_of at_frame store_by work_by marks_by
returns-in-Settings c =
    let a = c.args in
    let cfg = c.in-Settings.cfg in
    let e : next_of a.s.now ≡ Settings cfg = cc in
    let m = at_record a.state a.s.now a.store.now a.work.now a.marks.now (eq-eqb _ 0 c.if-state-ne0.false) (Settings cfg) e (rw c.new.ensures) refl refl refl in
    record { value = m.0; store_after = m.1.0; work_after = m.1.1 }

pub returns-in-Frame : goal.returns-in-Frame
returns-in-Frame c =
    let a = c.args in
    let r = c.in-Frame in
    let f = c.answer.ensures in
    let e : next_of a.s.now ≡ Frame r.w r.h r.size = cc in
    let m = at_record a.state a.s.now a.store.now a.work.now a.marks.now (eq-eqb _ 0 c.if-state-ne0.false) (Frame r.w r.h r.size) e f.value f.store_after f.work_after.0 f.work_after.1 in
    record { value = m.0; store_after = m.1.0; work_after = m.1.1 }

pub returns-in-Large : goal.returns-in-Large
unfolding act_of at_frame store_by work_by marks_by
returns-in-Large c =
    let a = c.args in
    let n = c.in-Large.n in
    let e : next_of a.s.now ≡ Large n = cc in
    let m = at_record a.state a.s.now a.store.now a.work.now a.marks.now (eq-eqb _ 0 c.if-state-ne0.false) (Large n) e c.skip.ensures refl refl refl in
    record { value = m.0; store_after = m.1.0; work_after = m.1.1 }

pub returns-in-Other : goal.returns-in-Other
unfolding act_of at_frame store_by work_by marks_by
returns-in-Other c =
    let a = c.args in
    let n = c.in-Other.n in
    let e : next_of a.s.now ≡ Other n = cc in
    let m = at_record a.state a.s.now a.store.now a.work.now a.marks.now (eq-eqb _ 0 c.if-state-ne0.false) (Other n) e c.skip-in-Other.ensures refl refl refl in
    record { value = m.0; store_after = m.1.0; work_after = m.1.1 }

pub returns-in-Broken : goal.returns-in-Broken
unfolding act_of at_frame store_by work_by marks_by
returns-in-Broken c =
    let a = c.args in
    let e : next_of a.s.now ≡ Broken = cc in
    let m = at_record a.state a.s.now a.store.now a.work.now a.marks.now (eq-eqb _ 0 c.if-state-ne0.false) (Broken) e refl refl refl refl in
    record { value = m.0; store_after = m.1.0; work_after = m.1.1 }
