-- One word more, as long as the run goes on. Assumes nothing.
use Prim.Native.Nat.{ℕ, ◌+◌, ◌≤◌, ◌<◌}
use mathlib.Core.Path.{◌≡◌, sym, ap, ◌∙◌}
use mathlib.Core.Bool.{true, true≢false}
use mathlib.Core.List.{List, [], ◌∷◌, ◌++◌}
use native.Mathlib.Omega.{arith}
use Rattle.lists.proofs.Cases.{choose, pick_true, pick_false}
use Rattle.pgm2rec.specs.declared.Run.{Run}
use Rattle.pgm2rec.specs.Course.{fresh_run, WordTold, told_run}
use Rattle.pgm2rec.specs.Whole.{walked_run, Walked}
use Rattle.pgm2rec.proofs.Steps.{next_told}

run_more : (run : Run) (ts : List WordTold) (t : WordTold) → (walked_run run ts).is_going ≡ true → walked_run run (ts ++ (t ∷ [])) ≡ told_run (walked_run run ts) t
unfolding walked_run
run_more run [] t e = pick_true _ _ _ e
run_more run (s ∷ ts) t e =
    choose run.is_going
    (λ g.
    let p = pick_true run.is_going (walked_run (told_run run s) ts) run g in
    pick_true _ _ _ g ∙ run_more (told_run run s) ts t (sym (ap (λ (r : Run). r.is_going) p) ∙ e) ∙ sym (ap (λ (r : Run). told_run r t) p))
    (λ g. absurd (true≢false (sym e ∙ ap (λ (r : Run). r.is_going) (pick_false run.is_going (walked_run (told_run run s) ts) run g) ∙ g)))

-- between two words, of count
pub record Walking (count : ℕ) (r : Run) : Type 0 where
  pub told : List WordTold
  pub after : r ≡ walked_run fresh_run told
  pub nothing : count ≤ 1 → r ≡ fresh_run
  pub first : 1 ≤ r.next
  pub within : 1 < count → r.next ≤ count

pub walk_start : (count : ℕ) {r : Run} → r ≡ fresh_run → Walking count r
unfolding walked_run
walk_start count {r} e =
    let n : r.next ≡ 1 = ap (λ (z : Run). z.next) e in
    record { told = []; after = e; nothing = λ h. e; first = omega (arith, n); within = λ h. omega (arith, n, h) }

pub walk_more : (count : ℕ) {run r : Run} (t : WordTold) → Walking count run → run.is_going ≡ true → run.next < count → r ≡ told_run run t → Walking count r
walk_more count {run} {r} t w g h e =
    let n : r.next ≡ run.next + 1 = ap (λ (z : Run). z.next) e ∙ next_told run t in
    record {
      told = w.told ++ (t ∷ []);
      after =
          e
          ∙ ap (λ (z : Run). told_run z t) w.after
          ∙ sym (run_more fresh_run w.told t (sym (ap (λ (z : Run). z.is_going) w.after) ∙ g));
      nothing = λ k. absurd (omega (arith, w.first, k));
      first = omega (arith, n);
      within = λ k. omega (arith, n);
    }

pub walk_end : (count : ℕ) {r : Run} → Walking count r → (r.is_going ≡ true → count ≤ r.next) → Walked count r
walk_end count w h = record { told = w.told; after = w.after; all = h; nothing = w.nothing; within = w.within }
