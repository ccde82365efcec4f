-- Where the turn does not move the middle, dx and dy are those of document 01. Assumes nothing.
use Rattle.std.specs.Prelude.{Ok}
use mathlib.Core.Path.{◌≡◌, refl, sym, ap, ◌∙◌}
use mathlib.Core.Logic.{inl, inr}
use mathlib.Core.Bool.{Bool, true, false}
use Prim.Native.Nat.{ℕ, ◌+◌, ◌-◌, ◌*◌, ◌^◌, ◌<◌}
use native.Mathlib.Nat.{mul_assoc}
use native.Mathlib.Omega.{arith}
use lib.Dec.{T}
use lib.IntN.{pos}
use lib.Pow.{pow_pos}
use lib.Ieee.{Float, nan, inf, fin, binary32, up, down, round, mul, neg, fits, of_bits}
use lib.Ieee.Exact.{HasValue}
use lib.Ieee.Fits.{down_pos}
use lib.Ieee.Scale.{finite}
use Rattle.lists.specs.Marked.{pick}
use Rattle.lists.specs.Premises.{is_side}
use Rattle.floats.specs.F32.{0f, 1f}
use Rattle.floats.specs.Units.{units_of, sign_of}
use Rattle.floats.proofs.Patterns.{lt_or_le}
use Rattle.floats.proofs.Units.{units_value}
use Rattle.series.specs.Recurrence.{steps_of}
use Rattle.series.specs.Series.{z_of, over30_of, cos_of, sin_of}
use Rattle.pose.specs.Pose.{is_pose}
use Rattle.pose.proofs.Tests.{pose_tx, pose_ty}
use Rattle.middle.specs.Held.{nearest_capped, difference_of}
use Rattle.middle.specs.Motion.{share_of, image_of, motion_of}
use Rattle.middle.proofs.Nearest.{back, ahead}
use Rattle.felt.proofs.Posed.{by_entries}
use Rattle.felt.proofs.Still.{small_zero}
use Rattle.middle.proofs.Terms.{own_share, other_share}
use Rattle.driver.specs.Pins.{pin_of, posed_of}
use Rattle.felt.specs.Felt.{ShiftAsBefore, OnePixelAsBefore}
use Rattle.driver.proofs.Scaled.{nearest_same}
use Rattle.driver.proofs.Sides.{of_pose}

-- ---- what is added and what is taken away differ by one number

differs_ahead : (g l n d : ℕ) → 0 < d → g ≡ l + n → difference_of g l d ≡ nearest_capped false n d
differs_ahead g l n d D e = let m : g - l ≡ n = omega arith in ahead g l d (omega arith) ∙ ap (λ (k : ℕ). nearest_capped false k d) m

differs_back : (g l n d : ℕ) → 0 < d → g + n ≡ l → difference_of g l d ≡ nearest_capped true n d
differs_back g l n d D e = elim (lt_or_le g l) [
  | inl h ↦ let m : l - g ≡ n = omega arith in back g l d h ∙ ap (λ (k : ℕ). nearest_capped true k d) m
  | inr h ↦ ahead g l d h ∙ small_zero false (g - l) d (omega arith) ∙ sym (small_zero true n d (omega arith))
]

-- ---- the number of a value by its units

units_pin : (k : ℕ) (x : Float) (s : Bool) (u : ℕ) → HasValue x s u (2 ^ 149) → nearest_capped s (k * u) (2 ^ 149) ≡ pin_of k x
unfolding pin_of
units_pin k nan s u h = absurd h
units_pin k (inf t) s u h = absurd h
units_pin k (fin t m e) s u h =
    rw h.0 (nearest_same s (k * u) (2 ^ 149) (k * (m * up e)) (down e) (pow_pos 149) (down_pos e) (mul_assoc k u (down e) ∙ ap (λ (z : ℕ). k * z) (sym h.1) ∙ sym (mul_assoc k (m * up e) (2 ^ 149))))

-- ---- THE LAW: a row that without its shift leaves the point in its place

module _ (p : Float) (a : ℕ) (q : Float) (b : ℕ) (t : Float) (F : T (fits binary32 t)) (N : T (finite t))
    (even : share_of false p * a + share_of false q * b ≡ share_of true p * a + share_of true q * b + 2 ^ 149 * a) where
  pub shift_alone : motion_of p a q b t ≡ pin_of 256 t
  unfolding motion_of
  shift_alone = go (sign_of t) refl
    where
      added : (g l z h m : ℕ) → g ≡ l + z → m ≡ 0 → 128 * g + 256 * h ≡ 128 * l + 256 * m + 128 * z + 256 * h
      added g l z h m e n = omega arith

      taken : (g l z h m : ℕ) → g ≡ l + z → m ≡ 0 → 128 * g + 256 * m + 256 * h ≡ 128 * l + 256 * h + 128 * z
      taken g l z h m e n = omega arith

      g : ℕ
      g = share_of false p * a + share_of false q * b

      l : ℕ
      l = share_of true p * a + share_of true q * b

      go : (s : Bool) → sign_of t ≡ s → motion_of p a q b t ≡ pin_of 256 t
      go true e =
          differs_back (image_of false p a q b t) (image_of true p a q b t + 128 * (2 ^ 149 * a)) (256 * share_of true t) (2 ^ 149) (pow_pos 149)
          (taken g l (2 ^ 149 * a) (share_of true t) (share_of false t) even (other_share true t e))
          ∙ rw (own_share true t e) (units_pin 256 t true (units_of t) (rw (sym e) (units_value t F N)))
      go false e =
          differs_ahead (image_of false p a q b t) (image_of true p a q b t + 128 * (2 ^ 149 * a)) (256 * share_of false t) (2 ^ 149) (pow_pos 149)
          (added g l (2 ^ 149 * a) (share_of false t) (share_of true t) even (other_share false t e))
          ∙ rw (own_share false t e) (units_pin 256 t false (units_of t) (rw (sym e) (units_value t F N)))

-- ---- what is felt of a pose whose matrix is that of a turn and a shift

abbrev Even : Float → ℕ → Float → ℕ → Type 0
Even p a q b = share_of false p * a + share_of false q * b ≡ share_of true p * a + share_of true q * b + 2 ^ 149 * a

module _ (theta tx ty : Float) (a b : ℕ) (X : T (fits binary32 tx)) (Y : T (fits binary32 ty)) (P : is_pose theta tx ty ≡ true)
    (across : Even (cos_of theta) a (neg (sin_of theta)) b) (along : Even (cos_of theta) b (sin_of theta) a) where
  shifted : posed_of theta tx ty a b ≡ record { dx = pin_of 256 tx; dy = pin_of 256 ty; turn = pin_of 8192 theta }
  shifted =
      by_entries theta tx ty a b P
      ∙ rw (shift_alone (cos_of theta) a (neg (sin_of theta)) b tx X (pose_tx theta tx ty P) across, shift_alone (cos_of theta) b (sin_of theta) a ty Y (pose_ty theta tx ty P) along)

-- ---- a frame of one pixel

none : (p q : Float) → Even p 0 q 0
none p q = zeros (share_of false p) (share_of false q) (share_of true p) (share_of true q) (2 ^ 149)
  where
    zeros : (x y z w u : ℕ) → x * 0 + y * 0 ≡ z * 0 + w * 0 + u * 0
    zeros x y z w u = omega arith

pub one_pixel : OnePixelAsBefore
unfolding is_side
one_pixel theta tx ty rho X Y P =
    of_pose (Ok (record { theta = theta; tx = tx; ty = ty; rho = rho })) (record { theta = theta; tx = tx; ty = ty; rho = rho }) 1 1 refl refl refl
    ∙ shifted theta tx ty 0 0 X Y P (none (cos_of theta) (neg (sin_of theta))) (none (cos_of theta) (sin_of theta))

-- ---- a shift alone

turn_none : (minus : Bool) → pin_of 8192 (pick minus (neg 0f) 0f) ≡ pos 0
unfolding pin_of nearest_capped pick of_bits neg
turn_none true = refl
turn_none false = refl

cancels : (u a b : ℕ) → u * a + 0 * b ≡ 0 * a + 0 * b + u * a
cancels u a b = omega arith

cosine_one : (minus : Bool) → cos_of (pick minus (neg 0f) 0f) ≡ 1f
unfolding cos_of over30_of steps_of z_of round of_bits neg pick
cosine_one true = refl
cosine_one false = refl

sine_none : (minus : Bool) → sin_of (pick minus (neg 0f) 0f) ≡ pick minus (neg 0f) 0f
unfolding sin_of steps_of z_of round mul of_bits neg pick
sine_none true = refl
sine_none false = refl

even : (minus : Bool) (a b : ℕ) → Even 1f a (pick minus (neg 0f) 0f) b
unfolding pick units_of of_bits neg
even true a b = cancels (2 ^ 149) a b
even false a b = cancels (2 ^ 149) a b

even_negated : (minus : Bool) (a b : ℕ) → Even 1f a (neg (pick minus (neg 0f) 0f)) b
unfolding pick units_of of_bits neg
even_negated true a b = cancels (2 ^ 149) a b
even_negated false a b = cancels (2 ^ 149) a b

pub shift_as_before : ShiftAsBefore
shift_as_before minus tx ty rho w h X Y P W H =
    let theta = pick minus (neg 0f) 0f in
    of_pose (Ok (record { theta = theta; tx = tx; ty = ty; rho = rho })) (record { theta = theta; tx = tx; ty = ty; rho = rho }) w h refl W H
    ∙ shifted theta tx ty (w - 1) (h - 1) X Y P
    (rw (cosine_one minus, sine_none minus) (even_negated minus (w - 1) (h - 1)))
    (rw (cosine_one minus, sine_none minus) (even minus (h - 1) (w - 1)))
    ∙ rw (turn_none minus)
