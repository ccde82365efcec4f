-- Pixel after pixel. Assumes nothing.
use Prim.Native.Nat.{ℕ, suc, ◌+◌, ◌-◌, ◌≤◌, ◌<◌}
use mathlib.Core.Path.{◌≡◌, refl, sym, ap, ◌∙◌}
use mathlib.Core.Bool.{Bool}
use mathlib.Core.List.{List, [], ◌∷◌, ◌++◌}
use native.Mathlib.Nat.{sub-zero}
use native.Mathlib.Numerals.{add-one}
use native.Mathlib.Omega.{arith}
use borrow.Author.Tests.{lt-ltb, le-ltb}
use lib.ListN.{length, take, drop, get_or, set, length-set, length-drop}
use lib.Seq.{length-take-le, take_all, take-suc, drop-cons}
use Rattle.lists.specs.Lists.{put}
use Rattle.lists.proofs.Cases.{pick_true, pick_false}
use Rattle.lists.proofs.Put.{set_put, put_none}
use Rattle.scan.specs.declared.Digits.{Digits}
use Rattle.std.specs.Prelude.{Option, Some, None, Result, Ok, Err}
use Rattle.pgm.specs.declared.Fault.{Fault}
use Rattle.pgm.specs.declared.Fault.TheVariants.{Missing, Above}
use Rattle.pgm.specs.Frame.{pixel_at, gray_pixels_of, fault_of}
use Rattle.pgm.proofs.Founds.{no_number, a_number}

module _ (plain : Bool) (max : ℕ) (s : List ℕ) where
  abbrev pixels : ℕ → ℕ → List ℕ
  pixels a n = gray_pixels_of plain max s a n

  abbrev fault : ℕ → ℕ → Result (Unit {0}) Fault
  fault a n = fault_of plain max s a n

  -- ---- the first of them: missing, too large, or a pixel
  module _ (a m : ℕ) {f : Option Digits} (e : f ≡ pixel_at plain s a) where
    missing_pixels : f ≡ None → pixels a (suc m) ≡ []
    unfolding gray_pixels_of
    missing_pixels n = no_number _ _ e n

    missing_fault : f ≡ None → fault a (suc m) ≡ Err Missing
    unfolding fault_of
    missing_fault n = no_number _ _ e n

    module _ (d : Digits) (n : f ≡ Some d) where
      large_pixels : max < d.value → pixels a (suc m) ≡ []
      unfolding gray_pixels_of
      large_pixels h = a_number _ _ e d n ∙ pick_true _ _ _ (lt-ltb max d.value h)

      large_fault : max < d.value → fault a (suc m) ≡ Err Above
      unfolding fault_of
      large_fault h = a_number _ _ e d n ∙ pick_true _ _ _ (lt-ltb max d.value h)

      next_pixels : d.value ≤ max → pixels a (suc m) ≡ d.value ∷ pixels d.next m
      unfolding gray_pixels_of
      next_pixels h = a_number _ _ e d n ∙ pick_false _ _ _ (le-ltb max d.value h)

      next_fault : d.value ≤ max → fault a (suc m) ≡ fault d.next m
      unfolding fault_of
      next_fault h = a_number _ _ e d n ∙ pick_false _ _ _ (le-ltb max d.value h)

  pub no_pixels : (a : ℕ) → pixels a 0 ≡ []
  unfolding gray_pixels_of
  no_pixels a = refl

  pub no_fault : (a : ℕ) → fault a 0 ≡ Ok tt
  unfolding fault_of
  no_fault a = refl

-- ---- the loop: i of n pixels stand in ys, which was xs, and the next one begins at a
pub record Filled (plain : Bool) (max : ℕ) (s : List ℕ) (at n : ℕ) (xs ys : List ℕ) (a i : ℕ) : Type 0 where
  pub below : i ≤ n
  pub some : i ≤ length (gray_pixels_of plain max s at n)
  pub same : length ys ≡ length xs
  pub done : ys ≡ put xs 10 (take i (gray_pixels_of plain max s at n))
  pub rest : drop i (gray_pixels_of plain max s at n) ≡ gray_pixels_of plain max s a (n - i)
  pub fault : fault_of plain max s a (n - i) ≡ fault_of plain max s at n

pub filled_none : (plain : Bool) (max : ℕ) (s : List ℕ) (at n : ℕ) (xs : List ℕ) → Filled plain max s at n xs xs at 0
filled_none plain max s at n xs = record {
  below = omega arith;
  some = omega arith;
  same = refl;
  done = sym (put_none xs 10);
  rest = rw sub-zero refl;
  fault = rw sub-zero refl;
}

module _ {plain : Bool} {max : ℕ} {s : List ℕ} {at n : ℕ} {xs ys : List ℕ} {a i : ℕ} (r : Filled plain max s at n xs ys a i) where
  abbrev all : List ℕ
  all = gray_pixels_of plain max s at n

  -- no pixel more
  stopped : drop i all ≡ [] → ys ≡ put xs 10 all
  stopped e =
      let l : length all - i ≡ 0 = sym (length-drop i all) ∙ ap (λ (z : List ℕ). length z) e in
      r.done ∙ ap (put xs 10) (take_all i all (omega (arith, r.some)))

  pub filled_end : n ≤ i → (Ok tt ≡ fault_of plain max s at n) × (ys ≡ put xs 10 all)
  filled_end h =
      let e : n - i ≡ 0 = omega arith in
      (sym (no_fault plain max s a) ∙ ap (fault_of plain max s a) (sym e) ∙ r.fault, stopped (r.rest ∙ ap (gray_pixels_of plain max s a) e ∙ no_pixels plain max s a))

  module _ (h : i < n) {f : Option Digits} (e : f ≡ pixel_at plain s a) where
    abbrev left : ℕ
    left = n - suc i

    count : n - i ≡ suc left
    count = omega arith

    pub filled_missing : f ≡ None → (Err Missing ≡ fault_of plain max s at n) × (ys ≡ put xs 10 all)
    filled_missing m =
        (sym (missing_fault plain max s a left e m) ∙ ap (fault_of plain max s a) (sym count) ∙ r.fault, stopped (r.rest ∙ ap (gray_pixels_of plain max s a) count ∙ missing_pixels plain max s a left e m))

    module _ (d : Digits) (m : f ≡ Some d) where
      pub filled_large : max < d.value → (Err Above ≡ fault_of plain max s at n) × (ys ≡ put xs 10 all)
      filled_large k =
          (sym (large_fault plain max s a left e d m k) ∙ ap (fault_of plain max s a) (sym count) ∙ r.fault, stopped (r.rest ∙ ap (gray_pixels_of plain max s a) count ∙ large_pixels plain max s a left e d m k))

      module _ (k : d.value ≤ max) (room : 10 + n ≤ length xs) where
        tail : drop i all ≡ d.value ∷ gray_pixels_of plain max s d.next left
        tail = r.rest ∙ ap (gray_pixels_of plain max s a) count ∙ next_pixels plain max s a left e d m k

        more : i < length all
        more = omega (arith, length-drop i all, ap (λ (z : List ℕ). length z) tail)

        both : get_or all i 0 ∷ drop (suc i) all ≡ d.value ∷ gray_pixels_of plain max s d.next left
        both = sym (drop-cons all i 0 more) ∙ tail

        longer : take (suc i) all ≡ take i all ++ (d.value ∷ [])
        longer = take-suc all i 0 more ∙ ap (λ (v : ℕ). take i all ++ (v ∷ [])) (ap (λ (z : List ℕ). get_or z 0 0) both)

        stored : set ys (10 + i) d.value ≡ put xs 10 (take (suc i) all)
        stored =
            let t : length (take i all) ≡ i = length-take-le i all (omega arith) in
            ap (λ (z : List ℕ). set z (10 + i) d.value) r.done
            ∙ ap (λ (j : ℕ). set (put xs 10 (take i all)) (10 + j) d.value) (sym t)
            ∙ set_put xs 10 (take i all) d.value (omega arith)
            ∙ ap (put xs 10) (sym longer)

        pub filled_more : Filled plain max s at n xs (set ys (10 + i) d.value) d.next (i + 1)
        filled_more =
            rw add-one
            record {
              below = h;
              some = more;
              same = length-set ys (10 + i) d.value ∙ r.same;
              done = stored;
              rest = ap (λ (z : List ℕ). drop 1 z) both;
              fault = sym (next_fault plain max s a left e d m k) ∙ ap (fault_of plain max s a) (sym count) ∙ r.fault;
            }
