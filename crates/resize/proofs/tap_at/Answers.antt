-- `resize::tap_at` gives the tap of a target place: the first index is the cast of the place, and lies inside. Assumes nothing.
use mathlib.Core.Path.{◌≡◌, sym, ap, ◌∙◌}
use Prim.Native.Nat.{ℕ, ◌+◌, ◌-◌, ◌<◌, ◌≤◌, min}
use native.Mathlib.Omega.{arith}
use lib.Ieee.{Float, to_unsigned}
use Rattle.floats.specs.F32.{◌⊖◌, f32}
use Rattle.resize.specs.Resize.{place_of, tap_of}
use Rattle.resize.proofs.Inside.{first_cast, tap_inside}
use Rattle.resize.proofs.tap_at.Goals as goal

first_is : (src dst d i : ℕ) (s : Float) → i ≡ to_unsigned 64 s → s ≡ place_of src dst d → i ≡ (tap_of src dst d).first
unfolding tap_of
first_is src dst d i s e p = e ∙ ap (to_unsigned 64) p ∙ sym (first_cast src dst d)

first_below : (src dst d i : ℕ) → i ≡ (tap_of src dst d).first → 0 < src → src ≤ 4096 → dst ≤ 4096 → d < dst → i < src
first_below src dst d i e S S' D h = rw e (tap_inside src dst d S S' D h).0

pub next-second-requires : goal.next-second-requires
next-second-requires c =
    let a = c.args in
    (first_below a.src a.dst a.d _ (first_is a.src a.dst a.d _ _ c.as_usize-first.ensures c.place-s.ensures) c.requires.0 c.requires.1 c.requires.2 c.requires.3, c.requires.1)

pub to_f32-base-requires : goal.to_f32-base-requires
to_f32-base-requires c =
    let a = c.args in
    let below = first_below a.src a.dst a.d _ (first_is a.src a.dst a.d _ _ c.as_usize-first.ensures c.place-s.ensures) c.requires.0 c.requires.1 c.requires.2 c.requires.3 in
    omega (arith, below)

pub overflow_cast-result : goal.overflow_cast-result
overflow_cast-result c =
    let a = c.args in
    let below = first_below a.src a.dst a.d _ (first_is a.src a.dst a.d _ _ c.as_usize-first.ensures c.place-s.ensures) c.requires.0 c.requires.1 c.requires.2 c.requires.3 in
    record { fits = omega (arith, below) }

pub returns : goal.returns
unfolding tap_of
returns c =
    let a = c.args in
    let i = first_is a.src a.dst a.d _ _ c.as_usize-first.ensures c.place-s.ensures in
    let below = first_below a.src a.dst a.d _ i c.requires.0 c.requires.1 c.requires.2 c.requires.3 in
    let n = c.next-second.ensures.0 ∙ ap (λ (k : ℕ). min (k + 1) (a.src - 1)) i in
    let w = ap (λ (z : Float). z ⊖ c.to_f32-base.result) c.place-s.ensures ∙ ap (λ (z : Float). place_of a.src a.dst a.d ⊖ z) (c.to_f32-base.ensures ∙ ap f32 i) in
    (rw (n, w, i), below, c.next-second.ensures.1)
