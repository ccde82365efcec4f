-- Every number of a prepared frame is finite, and of size at most 2 ^ 22: a byte as f32 is below 2 ^ 8, a resize adds at most 4 to the exponent and a
-- blur at most 10. Stated for frames whose numbers are below 2 ^ k. Assumes nothing.
use Prim.Native.Nat.{ℕ, ◌+◌, ◌*◌, ◌^◌, ◌≤◌, ◌<◌}
use mathlib.Core.Path.{◌≡◌, sym, ap₂, ◌∙◌}
use mathlib.Core.List.{List}
use native.Mathlib.Omega.{arith}
use lib.Dec.{lit<, lit≤}
use lib.Pow.{pow_mono}
use lib.ListN.{length, get_or}
use lib.Ieee.{nan}
use Rattle.lists.specs.Premises.{InRange, OddFilter}
use Rattle.lists.proofs.Grow.{get_d_tab}
use Rattle.floats.specs.Bound.{Bounded}
use Rattle.floats.proofs.Within.{within_more}
use Rattle.floats.proofs.Exactly.{whole_within}
use Rattle.resize.proofs.Bounds.{resize_within}
use Rattle.blur.proofs.Bounds.{blur_within}
use Rattle.prepare.specs.Prepared.{gray_of, scaled_of, prepared_of, PreparedWithin}
use Rattle.prepare.proofs.Frames.{gray_at, scaled_either}

module _ (bytes : List ℕ) (k : ℕ) (small : k ≤ 16) (below : (i : ℕ) → get_or bytes i 0 < 2 ^ k) where
  -- a frame whose sides stay
  pub gray_within : Bounded (gray_of bytes) (length bytes) k
  unfolding gray_of
  gray_within i l = rw (get_d_tab (length bytes) i (gray_at bytes) nan l) (whole_within (get_or bytes i 0) k (omega arith) (below i))

  module _ (w h tw th : ℕ) (r : InRange w h) (s : InRange tw th) (sized : length bytes ≡ w * h) where
    pub scaled_within : Bounded (scaled_of bytes w h tw th) (tw * th) (k + 4)
    scaled_within =
        scaled_either bytes w h tw th (λ z. Bounded z (tw * th) (k + 4))
        (λ m n i l.
        let here : i < length bytes = rw (sized ∙ sym (ap₂ (λ (a b : ℕ). a * b) m n)) l in
        within_more (get_or (gray_of bytes) i nan) (2 ^ k) 1 (2 ^ (k + 4)) 1 (lit< tt) (gray_within i here) (omega (arith, pow_mono {i = k} {j = k + 4} (omega arith))))
        (λ i l. resize_within bytes k small below w h tw th r.w_least r.w_most r.h_least r.h_most s.w_most s.h_most s.w_least i nan l)

    pub prepared_within : (ksize : ℕ) → OddFilter ksize → Bounded (prepared_of bytes w h tw th ksize) (tw * th) (k + 14)
    unfolding prepared_of
    prepared_within ksize f i l =
        let e : k + 4 + 10 ≡ k + 14 = omega arith in
        rw e at (blur_within ksize f.most f.odd tw th (k + 4) (scaled_of bytes w h tw th) scaled_within (omega arith) i l)

-- THE BOUND, of bytes
pub prepared_bytes_within : PreparedWithin
prepared_bytes_within bytes w h tw th ksize r s f sized below = prepared_within bytes 8 (lit≤ tt) below w h tw th r s sized ksize f
