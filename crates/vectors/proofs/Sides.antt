-- Sides and filters: what the tests of the code say of the words. Assumes nothing.
use Prim.Native.Nat.{ℕ, ◌*◌, ◌≤◌, ◌<◌}
use mathlib.Core.Bool.{true, false, ◌&&◌, true≢false}
use mathlib.Core.Path.{◌≡◌, refl, sym, ◌∙◌}
use native.Mathlib.Nat.{mul-le-mul, mul-one, one-mul, le_refl}
use native.Mathlib.Omega.{arith}
use borrow.Author.Tests.{lt-ltb, le-leb, lt-leb, ltb-true, leb-true}
use lib.Dec.{leb, ltb}
use Rattle.lists.proofs.Cases.{choose}
use Rattle.lists.specs.Premises.{is_side}
use Rattle.vectors.specs.Shapes.{is_shape, is_kernel, SideIs, FilterIs, Fitting}
use Rattle.vectors.proofs.Tests.{both, second_failed, first_of, second_of}

-- ---- a side
side_is : (v : ℕ) → 1 ≤ v → v ≤ 4096 → SideIs v v
unfolding is_side
side_is v h k = record { is = both (le-leb v 4096 k) (lt-ltb 0 v h); same = refl; least = h; most = k }

-- ---- two sides
pub shape_facts : (v u : ℕ) → is_shape v u ≡ true → (1 ≤ v) × (1 ≤ u) × (v * u ≤ 1024)
unfolding is_shape
shape_facts v u e =
    let sides = first_of (ltb 0 v && ltb 0 u) (leb (v * u) 1024) e in
    (ltb-true 0 v (first_of (ltb 0 v) (ltb 0 u) sides), ltb-true 0 u (second_of (ltb 0 v) (ltb 0 u) sides), leb-true (v * u) 1024 (second_of (ltb 0 v && ltb 0 u) (leb (v * u) 1024) e))

-- sides with few pixels are short
pub short_left : (v u : ℕ) → 1 ≤ u → v * u ≤ 1024 → v ≤ 1024
short_left v u h k = let q : v * 1 ≤ v * u = mul-le-mul (le_refl v) h in omega (arith, mul-one v)

pub short_right : (v u : ℕ) → 1 ≤ v → v * u ≤ 1024 → u ≤ 1024
short_right v u h k = let q : 1 * u ≤ v * u = mul-le-mul h (le_refl u) in omega (arith, one-mul u)

module _ (v u : ℕ) where
  pub no_shape_left : is_side v ≡ false → is_shape v u ≡ false
  no_shape_left e =
      choose (is_shape v u)
      (λ t. let f = shape_facts v u t in absurd (true≢false (sym ((side_is v f.0 (omega (arith, short_left v u f.1 f.2))).is) ∙ e)))
      (λ t. t)

  pub no_shape_right : is_side u ≡ false → is_shape v u ≡ false
  no_shape_right e =
      choose (is_shape v u)
      (λ t. let f = shape_facts v u t in absurd (true≢false (sym ((side_is u f.1 (omega (arith, short_right v u f.0 f.2))).is) ∙ e)))
      (λ t. t)

  pub no_shape_large : {w h : ℕ} → SideIs v w → SideIs u h → 1024 < w * h → is_shape v u ≡ false
  unfolding is_shape
  no_shape_large f g many = second_failed (ltb 0 v && ltb 0 u) (lt-leb (v * u) 1024 (rw (← f.same, ← g.same) many))

  pub fit : {w h : ℕ} (n : ℕ) → SideIs v w → SideIs u h → n ≡ w * h → n ≤ 1024 → Fitting v u (record { w = w; h = h; n = n })
  unfolding is_shape
  fit {w} {h} n f g q few =
      let p : n ≡ v * u = rw (← f.same, ← g.same) q in
      record {
        is = both (both (lt-ltb 0 v (omega (arith, f.same, f.least))) (lt-ltb 0 u (omega (arith, g.same, g.least)))) (le-leb (v * u) 1024 (omega arith));
        w_is = f.same;
        h_is = g.same;
        few = few;
        pixels = q;
        w_least = f.least;
        w_most = f.most;
        h_least = g.least;
        h_most = g.most;
      }

-- ---- a filter
module _ {v k : ℕ} (f : FilterIs v k) where
  -- a kernel's size is told by 3 or more
  pub kernel_is : 3 ≤ k → is_kernel v ≡ true
  unfolding is_kernel
  kernel_is h = both (le-leb 3 v (omega (arith, f.same))) f.is
