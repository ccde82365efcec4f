-- A template of one gray: where every sum over it is exact, the call is refused in its first pass. A statement.
use Rattle.std.specs.Prelude.{ℕ, ◌*◌, ◌^◌, ◌≤◌, ◌≡◌, ◌⊎◌, Err}
use Rattle.lists.specs.Lists.{tab}
use Rattle.refusals.specs.declared.Refusal.TheVariants.{FewPixels, Flat}
use Rattle.pose.specs.declared.Outcome.{Outcome}
use Rattle.demands.specs.Agree.{Plain}
use Rattle.demands.specs.Calls.{Alignment, template, w, h, cfg, outcome, check}

-- after one warp, with 5 (under 16 pixels are marked) or with 6 (flat)
pub record RefusedAtOnce (o : Outcome) : Type 0 where
  pub passes : o.passes ≡ 1
  pub number : (o.answer ≡ Err FewPixels) ⊎ (o.answer ≡ Err Flat)

-- THE STATEMENT: a call past its checks, of at least one pass, that neither resizes nor blurs. Its template is of one gray, and w·h times the gray is at most 2^24
abbrev pub FlatIsRefused : Type 0
FlatIsRefused =
    (c : Alignment) (gray : ℕ) → check c ≡ 0 → 1 ≤ (cfg c).max_iter → Plain (w c) (h c) (cfg c) → template c ≡ tab (w c * h c) (λ _. gray) → w c * h c * gray ≤ 2 ^ 24 → RefusedAtOnce (outcome c)
