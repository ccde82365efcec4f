-- `prepare::load` meets its contract: the frame is resized just where a side changes. Assumes nothing.
use mathlib.Core.Path.{◌≡◌}
use mathlib.Core.Logic.{inl, inr}
use Rattle.prepare.proofs.Frames.{scaled_same, scaled_changed}
use Rattle.prepare.proofs.load.Goals as goal

pub returns-then-th-h : goal.returns-then-th-h
returns-then-th-h c =
    let changed : let a = c.args in a.tw ≡ a.w → a.th ≡ a.h → ⊥ =
    λ p q. elim c.if-th-h.either [ inl n ↦ n p | inr r ↦ r.1 q ] in
    rw (scaled_changed _ _ _ _ _ changed) c.resize_bilinear.ensures

pub returns-else-th-h : goal.returns-else-th-h
returns-else-th-h c = let s = c.if-th-h.false in rw (scaled_same _ _ _ _ _ s.0 s.1) c.gray_u8_to_f32.ensures
