-- What the caller keeps of the aligner's record: read again it is the record that the aligner handed back. Assumes nothing.
use Rattle.std.specs.Prelude.{Some}
use Prim.Native.Nat.{ℕ, ◌≤◌}
use mathlib.Core.Path.{◌≡◌, refl, sym, ap, ◌∙◌}
use mathlib.Core.Bool.{Bool, true, false}
use mathlib.Core.List.{List, [], ◌∷◌}
use native.Mathlib.Nat.{zero-add}
use native.Mathlib.Omega.{arith}
use borrow.Author.Tests.{le-ltb}
use lib.Dec.{eqb, lit≤}
use lib.ListN.{length, get_or}
use Rattle.lists.specs.Lists.{put}
use Rattle.lists.proofs.Cases.{pick_true, pick_false, pick_both}
use Rattle.lists.proofs.Put.{length_put, get_d_put_in}
use Rattle.settings.specs.declared.EccConfig.{EccConfig}
use Rattle.aligner.specs.Aligner.{fresh_of, entry_of, estimate_of}
use Rattle.aligner.specs.declared.EccAligner.{EccAligner}
use Rattle.aligner.specs.declared.Reply.{Reply}
use Rattle.boundary.specs.Boundary.{fronted}
use Rattle.quayhollow.specs.State.{remembered_of, state_after}
use Rattle.quayhollow.specs.Told.{StateTold}
use Rattle.lists.specs.Marked.{pick}

module _ (cfg : EccConfig) where
  -- the settings are those handed in
  pub remembered_cfg : (s : List ℕ) → (remembered_of cfg s).cfg ≡ cfg
  unfolding remembered_of
  remembered_cfg s = pick_both (λ (a : EccAligner). a.cfg ≡ cfg) _ _ _ refl (pick_both (λ (a : EccAligner). a.cfg ≡ cfg) _ _ _ refl refl)

  module _ (s : List ℕ) (room : 3 ≤ length s) where
    -- a frame of w by h is held
    held_told : (w h : ℕ) → remembered_of cfg (fronted (1 ∷ w ∷ h ∷ []) s) ≡ record { cfg = cfg; prev = Some (record { w = w; h = h }) }
    unfolding remembered_of fronted
    held_told w h =
        let l : List ℕ = 1 ∷ w ∷ h ∷ [] in
        let at : (k : ℕ) → k ≤ 2 → get_or (put s 0 l) k 0 ≡ get_or l k 0 =
        λ k small. ap (λ (i : ℕ). get_or (put s 0 l) i 0) (sym (zero-add k)) ∙ get_d_put_in s 0 l k 0 room (omega arith) in
        let long : 3 ≤ length (put s 0 l) = rw (length_put s 0 l room) room in
        let read : List ℕ → EccAligner = λ t. pick (eqb (get_or t 0 0) 0) (fresh_of cfg) (record { cfg = cfg; prev = Some (record { w = get_or t 1 0; h = get_or t 2 0 }) }) in
        let same : read (put s 0 l) ≡ read l = rw (at 0 (lit≤ tt), at 1 (lit≤ tt), at 2 (lit≤ tt)) in
        ap (remembered_of cfg) (pick_false _ _ _ (le-ltb _ _ room)) ∙ pick_false _ (fresh_of cfg) (read (put s 0 l)) (le-ltb _ _ long) ∙ same ∙ pick_false _ (fresh_of cfg) _ refl

    told : (frame store : List ℕ) (w h k m : ℕ) →
        remembered_of cfg (state_after (length frame) w h (length store) s) ≡ (estimate_of (remembered_of cfg s) frame w h store k m).aligner
    unfolding state_after estimate_of
    told frame store w h k m = by (eqb (entry_of (length frame) w h (length store)) 0) refl
      where
        by : (b : Bool) → eqb (entry_of (length frame) w h (length store)) 0 ≡ b →
            remembered_of cfg (state_after (length frame) w h (length store) s) ≡ (estimate_of (remembered_of cfg s) frame w h store k m).aligner
        by true e =
            ap (remembered_of cfg) (pick_true _ _ _ e)
            ∙ held_told w h
            ∙ ap (λ (c : EccConfig). record { cfg = c; prev = Some (record { w = w; h = h }) }) (sym (remembered_cfg s))
            ∙ sym (ap (λ (r : Reply). r.aligner) (pick_true _ _ _ e))
        by false e = ap (remembered_of cfg) (pick_false _ _ _ e) ∙ sym (ap (λ (r : Reply). r.aligner) (pick_false _ _ _ e))

pub state_told : StateTold
state_told = told
