-- When a vector agrees with the definitions, by its kind, the first word. Definitions only.
use Rattle.std.specs.Prelude.{ℕ, Bool, List, ltb}
use Rattle.lists.specs.Marked.{pick}
use Rattle.words.specs.Words.{stored_at}
use Rattle.vectors.specs.Helpers.{helper_agrees}
use Rattle.vectors.specs.Images.{image_agrees}
use Rattle.vectors.specs.Passes.{pass_agrees}

unfoldable pub agrees_of : List ℕ → Bool
agrees_of words = let kind = stored_at words 0 in pick (ltb kind 16) (helper_agrees kind words) (pick (ltb kind 23) (image_agrees kind words) (pass_agrees kind words))
