-- Each number of a prepared frame is a value of f32, so two that have the same bits are the same. Assumes nothing.
use Prim.Native.Nat.{ℕ, ◌*◌, ◌<◌}
use mathlib.Core.Path.{◌≡◌, sym, ap, ◌∙◌}
use mathlib.Core.List.{List}
use lib.ListN.{length, get_or}
use lib.Ieee.{binary32, nan, of_bits, to_bits}
use lib.Ieee.Bits.{of_bits-to_bits}
use Rattle.prepare.specs.Prepared.{prepared_of}
use Rattle.prepare.proofs.Fits.{prepared_fits}

-- THE LAW
pub prepared_same : (xs ys : List ℕ) (w h tw th ksize : ℕ) → length xs ≡ w * h → length ys ≡ w * h → (i : ℕ) → i < tw * th →
    (let x = get_or (prepared_of xs w h tw th ksize) i nan in let y = get_or (prepared_of ys w h tw th ksize) i nan in to_bits binary32 x ≡ to_bits binary32 y → x ≡ y)
prepared_same xs ys w h tw th ksize f g i l e =
    sym (of_bits-to_bits binary32 _ (prepared_fits xs w h tw th ksize f i l)) ∙ ap (of_bits binary32) e ∙ of_bits-to_bits binary32 _ (prepared_fits ys w h tw th ksize g i l)
