-- The sums over the marked places as folds: what a pixel adds, and the end. The code reads it from the part, the definitions from the images. Assumes nothing.
use Prim.Native.Nat.{ℕ, ◌+◌, ◌*◌, ◌<◌}
use mathlib.Core.Path.{◌≡◌, refl, ap, ◌∙◌}
use mathlib.Core.List.{List}
use native.Mathlib.Omega.{arith}
use lib.ListN.{get_or}
use lib.Ieee.{Float, nan}
use Rattle.lists.specs.Lists.{image}
use Rattle.lists.proofs.Images.{get_d_place}
use Rattle.floats.specs.F32.{◌⊖◌, ◌⊗◌, 0f}
use Rattle.bits.specs.Words.{unpacked_of}
use Rattle.rows.proofs.Folds.{fold_to}
use Rattle.stats.proofs.Turns.{product_part}
use Rattle.sums.specs.Sums.{error_of}
use Rattle.sums.proofs.Folds.{product_comm, error_at}
use Rattle.inverse2.specs.declared.Vector2.{Vector2}
use Rattle.inverse2.specs.declared.Matrix2.{Matrix2}
use Rattle.sums2.specs.Steps.{seven_more, seven_at, scaled_more}
use Rattle.sums2.specs.Sums.{proj2_of, hessian2_of}
use Rattle.sums2.specs.declared.Seven.{Seven}

module _ (ws : List ℕ) (n : ℕ) (part : List Float) where
  abbrev ms : List ℕ
  ms = unpacked_of ws n

  abbrev gx : List Float
  gx = image n 0 part

  abbrev gy : List Float
  gy = image n 1 part

  abbrev tz : List Float
  tz = image n 3 part

  abbrev iz : List Float
  iz = image n 4 part

  gx_is : (i : ℕ) → i < n → get_or part i nan ≡ get_or gx i nan
  gx_is i h = get_d_place n 0 i i part nan h (omega arith)

  gy_is : (i : ℕ) → i < n → get_or part (n + i) nan ≡ get_or gy i nan
  gy_is i h = get_d_place n 1 i (n + i) part nan h (omega arith)

  -- ---- the seven sums
  abbrev pub seven_step : Seven → ℕ → Seven
  seven_step s i = seven_more s (get_or gx i nan) (get_or gy i nan) (get_or iz i nan) (get_or tz i nan)

  pub seven_same : (u : Seven) (i : ℕ) → i < n → seven_at part n u i ≡ seven_step u i
  seven_same u i h =
      let a = gx_is i h in
      let b = gy_is i h in
      let c = get_d_place n 4 i _ part nan h refl in
      let d = get_d_place n 3 i _ part nan h refl in
      λ k. seven_more u (a k) (b k) (c k) (d k)

  abbrev pub no_seven : Seven
  no_seven = (0f, 0f, 0f, 0f, 0f, 0f, 0f)

  pub seven_end : (s : Seven) → s ≡ fold_to ws n seven_step no_seven n →
      (◌≡◌ {A = Matrix2} (record { m00 = s.4; m01 = s.5; m10 = s.5; m11 = s.6 }) (hessian2_of ms n gx gy))
      × (◌≡◌ {A = Vector2} (s.0, s.1) (proj2_of ms n gx gy iz))
      × (◌≡◌ {A = Vector2} (s.2, s.3) (proj2_of ms n gx gy tz))
  unfolding fold_to hessian2_of proj2_of
  seven_end s e =
      let xi = ap (λ (s : Seven). s.0) e ∙ product_part ms seven_step no_seven n (λ s. s.0) refl gx iz (λ s i l m. refl) in
      let yi = ap (λ (s : Seven). s.1) e ∙ product_part ms seven_step no_seven n (λ s. s.1) refl gy iz (λ s i l m. refl) in
      let xt = ap (λ (s : Seven). s.2) e ∙ product_part ms seven_step no_seven n (λ s. s.2) refl gx tz (λ s i l m. refl) in
      let yt = ap (λ (s : Seven). s.3) e ∙ product_part ms seven_step no_seven n (λ s. s.3) refl gy tz (λ s i l m. refl) in
      let xx = ap (λ (s : Seven). s.4) e ∙ product_part ms seven_step no_seven n (λ s. s.4) refl gx gx (λ s i l m. refl) in
      let xy = ap (λ (s : Seven). s.5) e ∙ product_part ms seven_step no_seven n (λ s. s.5) refl gx gy (λ s i l m. refl) in
      let yy = ap (λ (s : Seven). s.6) e ∙ product_part ms seven_step no_seven n (λ s. s.6) refl gy gy (λ s i l m. refl) in
      let yx = xy ∙ product_comm ms n gx gy in
      (λ k. record { m00 = xx k; m01 = xy k; m10 = yx k; m11 = yy k }, λ k. (xi k, yi k), λ k. (xt k, yt k))

  -- ---- the error sums
  module _ (lambda : Float) where
    abbrev pub error_step : Vector2 → ℕ → Vector2
    error_step s i = scaled_more s (get_or gx i nan, get_or gy i nan) (get_or (error_of n lambda tz iz) i nan)

    pub error_same : (u : Vector2) (i : ℕ) → i < n →
        scaled_more u (get_or part i nan, get_or part (n + i) nan) (lambda ⊗ get_or part (3 * n + i) nan ⊖ get_or part (4 * n + i) nan) ≡ error_step u i
    error_same u i h =
        let a = gx_is i h in
        let b = gy_is i h in
        let e = error_at n part lambda i h in
        λ k. scaled_more u (a k, b k) (e k)

    pub errors_end : (s : Vector2) → s ≡ fold_to ws n error_step (0f, 0f) n → s ≡ proj2_of ms n gx gy (error_of n lambda tz iz)
    unfolding fold_to proj2_of
    errors_end s e =
        let x = product_part ms error_step (0f, 0f) n (λ s. s.0) refl gx (error_of n lambda tz iz) (λ s i l m. refl) in
        let y = product_part ms error_step (0f, 0f) n (λ s. s.1) refl gy (error_of n lambda tz iz) (λ s i l m. refl) in
        e ∙ λ k. (x k, y k)
