-- What a read leaves, by its answer: it is held within the buffer, and each read that is not the last brings bytes. Assumes nothing.
use Prim.Native.Nat.{ℕ, ◌+◌, ◌-◌, ◌≤◌, ◌<◌}
use mathlib.Core.Path.{◌≡◌, subst, sym, ◌∙◌, ap}
use native.Mathlib.Omega.{arith}
use borrow.Author.Tests.{eq-eqb, ne_eqb, eqb-false}
use lib.Dec.{eqb}
use lib.IntN.{ℤ, pos, negsuc}
use Rattle.std.specs.Prelude.{Option, Some, None, Result, Ok, Err}
use Rattle.lists.proofs.Cases.{choose, pick_true, pick_false}
use Rattle.files.specs.declared.Failed.{Failed}
use Rattle.files.specs.Fill.{Moved, Going, Over, held_of, after_read, filled_of, Grown, Gathered, one_more}

module _ (n : ℕ) where
  -- bytes that have come
  more_by : (size : ℕ) → n ≤ size → (z : ℤ) → Moved (size - n) z → (m : ℕ) → after_read n z ≡ Ok (Some m) → (n < m) × (m ≤ size)
  unfolding after_read
  more_by size h (pos k) w m e =
      choose (eqb k 0)
      (λ t. absurd (none (sym (pick_true _ _ _ t) ∙ e)))
      (λ t. came (sym (pick_false _ _ _ t) ∙ e) (eqb-false k 0 t))
    where
      none : ◌≡◌ {A = Result (Option ℕ) Failed} (Ok None) (Ok (Some m)) → ⊥
      none q = cc

      came : ◌≡◌ {A = Result (Option ℕ) Failed} (Ok (Some (n + k))) (Ok (Some m)) → (k ≡ 0 → ⊥) → (n < m) × (m ≤ size)
      came q p = let s : n + k ≡ m = cc in (omega arith, omega arith)
  more_by size h (negsuc k) w m e = cc

  failed_by : (z : ℤ) (x : Failed) → after_read n z ≡ Err x → x.count ≡ n
  unfolding after_read
  failed_by (pos k) x e =
      choose (eqb k 0) (λ t. absurd (none (sym (pick_true _ _ _ t) ∙ e))) (λ t. absurd (some (sym (pick_false _ _ _ t) ∙ e)))
    where
      none : ◌≡◌ {A = Result (Option ℕ) Failed} (Ok None) (Err x) → ⊥
      none q = cc

      some : ◌≡◌ {A = Result (Option ℕ) Failed} (Ok (Some (n + k))) (Err x) → ⊥
      some q = cc
  failed_by (negsuc k) x e = let q : record { count = n } ≡ x = cc in sym (ap (λ (y : Failed). y.count) q)

module _ (size : ℕ) {n : ℕ} (h : n < size) (g : Gathered size (held_of size n)) {r : Result (Option ℕ) Failed} (w : Grown size n r) where
  going : Gathered size (Going n)
  going = subst (Gathered size) (pick_false _ _ _ (ne_eqb n size (λ e. omega (arith, h, e)))) g

  pub grown_more : (m : ℕ) → r ≡ Ok (Some m) → Gathered size (held_of size m)
  grown_more m e = subst (λ (z : Result (Option ℕ) Failed). Gathered size (filled_of size n z)) e (one_more going w)

  pub grown_by : (m : ℕ) → r ≡ Ok (Some m) → (n < m) × (m ≤ size)
  grown_by m e = more_by n size (omega arith) w.got w.moved m (sym w.after ∙ e)

  pub grown_end : r ≡ Ok None → Gathered size (Over (Ok n))
  grown_end e = subst (λ (z : Result (Option ℕ) Failed). Gathered size (filled_of size n z)) e (one_more going w)

  pub grown_failed : (x : Failed) → r ≡ Err x → Gathered size (Over (Err x)) × (x.count ≤ size)
  grown_failed x e =
      let q : x.count ≡ n = failed_by n w.got x (sym w.after ∙ e) in
      (subst (λ (z : Result (Option ℕ) Failed). Gathered size (filled_of size n z)) e (one_more going w), omega arith)

pub grown_full : (size n : ℕ) → n ≡ size → Gathered size (held_of size n) → Gathered size (Over (Ok n))
grown_full size n e g = subst (Gathered size) (pick_true _ _ _ (eq-eqb n size e)) g
