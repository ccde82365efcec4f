-- What a header that is good says of its numbers. Assumes nothing.
use Prim.Native.Nat.{ℕ, ◌+◌, ◌≤◌}
use mathlib.Core.Path.{◌≡◌, refl}
use mathlib.Core.Bool.{Bool, true, false, ◌&&◌}
use mathlib.Core.List.{List}
use borrow.Author.Tests.{leb-true}
use lib.Dec.{ltb, leb}
use Rattle.lists.proofs.Cases.{either}
use Rattle.std.specs.Prelude.{Option, Some, None, Result, Ok, Err}
use Rattle.scan.specs.declared.Digits.{Digits}
use Rattle.pgm.specs.declared.Header.{Header}
use Rattle.pgm.specs.declared.Fault.{Fault}
use Rattle.pgm.specs.declared.Fault.TheVariants.{Magic, Head, Side, Gray}
use Rattle.pgm.specs.Pgm.{number_at, on_number, head, start_of, from1_to, ranges_of, header_of}

unfoldable pub Right : Result Header Fault → Type 0
Right (Err k) = Unit {0}
Right (Ok p) = (p.w ≤ 65535) × (p.h ≤ 65535) × (p.max ≤ 255)

bad : (k : Fault) → Right (Err k)
unfolding Right
bad k = tt

pub good : (p : Header) → (p.w ≤ 65535) × (p.h ≤ 65535) × (p.max ≤ 255) → Right (Ok p)
unfolding Right
good p r = r

pub sides : (p : Header) → Right (Ok p) → (p.w ≤ 65535) × (p.h ≤ 65535) × (p.max ≤ 255)
unfolding Right
sides p r = r

most : (n m : ℕ) → from1_to n m ≡ true → n ≤ m
unfolding from1_to
most n m e = leb-true n m (second (ltb 0 n) (leb n m) e)
  where
    second : (a b : Bool) → a && b ≡ true → b ≡ true
    second true b e = e
    second false true e = refl
    second false false e = e

right_start : (s : List ℕ) (w h max a : ℕ) → (w ≤ 65535) × (h ≤ 65535) × (max ≤ 255) → Right (start_of s w h max a)
unfolding start_of
right_start s w h max a r = either Right _ _ _ (λ p. good (head true w h max a) r) (λ p. either Right _ _ _ (λ q. good (head false w h max (a + 1)) r) (λ q. bad Head))

right_ranges : (s : List ℕ) (w h max a : ℕ) → Right (ranges_of s w h max a)
unfolding ranges_of
right_ranges s w h max a =
    either Right _ _ _
    (λ p. either Right _ _ _ (λ q. either Right _ _ _ (λ r. right_start s w h max a (most w 65535 p, most h 65535 q, most max 255 r)) (λ r. bad Gray)) (λ q. bad Side)) (λ p. bad Side)

right_number : (f : Option Digits) (k : ℕ → ℕ → Result Header Fault) → ((v n : ℕ) → Right (k v n)) → Right (on_number f (Err Head) k)
unfolding on_number
right_number None k h = bad Head
right_number (Some d) k h = h d.value d.next

-- THE LAW
pub right : (s : List ℕ) → Right (header_of s)
unfolding header_of
right s =
    either Right _ _ _
    (λ p. right_number (number_at s 2) _ (λ w a. right_number (number_at s a) _ (λ h b. right_number (number_at s b) _ (λ max c. right_ranges s w h max c)))) (λ p. bad Magic)
