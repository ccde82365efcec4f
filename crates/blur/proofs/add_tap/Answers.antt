-- `blur::add_tap` meets its contract. Assumes nothing.
use mathlib.Core.Path.{◌≡◌, sym, ap, ◌∙◌}
use Prim.Native.Nat.{ℕ, ◌<◌}
use native.Mathlib.Omega.{arith}
use Rattle.blur.specs.declared.Along.{Along}
use Rattle.blur.specs.Pass.{added_of, spot_of}
use Rattle.blur.proofs.Taps.{added_ext}
use Rattle.blur.proofs.add_tap.Goals as goal

pub returns-then-k-radius : goal.returns-then-k-radius
returns-then-k-radius c =
    let told : (along : Along) (f : ℕ → ℕ) → c.args.along ≡ along → ((x : ℕ) → x < c.args.w → f x ≡ spot_of along c.args.ksize c.args.w c.args.h x c.args.y c.args.k) →
    added_of c.args.part.now c.args.dst c.args.w f c.args.weight ≡ added_of c.args.part.now c.args.dst c.args.w (λ x. spot_of c.args.along c.args.ksize c.args.w c.args.h x c.args.y c.args.k) c.args.weight =
    λ along f e same. let a = c.args in
    added_ext a.part.now a.dst a.w f (λ x. spot_of along a.ksize a.w a.h x a.y a.k) a.weight same
    ∙ ap (λ (z : Along). added_of a.part.now a.dst a.w (λ x. spot_of z a.ksize a.w a.h x a.y a.k) a.weight) (sym e) in
    c.add_left.ensures ∙ told _ _ c.in-Rows.is (λ x l. omega arith)
