-- The work with both frames made ready for the passes: which image holds what, and what stays. Definitions only.
use Rattle.std.specs.Prelude.{ℕ, ◌*◌, ◌≡◌, List, length, drop, Float}
use Rattle.lists.specs.Lists.{image}
use Rattle.gradients.specs.Gradients.{gradient_x, gradient_y}
use Rattle.prepare.specs.Prepared.{prepared_of}

-- xs before and xs' after, of frames w by h, prepared at tw by th
pub record Ready (template input : List ℕ) (w h tw th ksize : ℕ) (xs xs' : List Float) : Type 0 where
  pub template_is : image (tw * th) 8 xs' ≡ prepared_of template w h tw th ksize
  pub input_is : image (tw * th) 2 xs' ≡ prepared_of input w h tw th ksize
  pub gx_is : image (tw * th) 3 xs' ≡ gradient_x tw th (prepared_of input w h tw th ksize)
  pub gy_is : image (tw * th) 4 xs' ≡ gradient_y tw th (prepared_of input w h tw th ksize)
  pub rest : drop (12 * (tw * th)) xs' ≡ drop (12 * (tw * th)) xs
  pub size : length xs' ≡ length xs
