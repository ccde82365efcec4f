-- `quayhollow::quayhollow_pins` meets its contract. Assumes nothing.
use mathlib.Core.Path.{ap, ◌∙◌}
use Rattle.pose.specs.Pose.{Answer}
use Rattle.driver.specs.Pins.{pins_of}
use Rattle.driver.specs.declared.Pins.{Pins}
use Rattle.boundary.specs.Boundary.{fronted, three_of}
use Rattle.quayhollow.proofs.quayhollow_pins.Goals as goal

pub returns : goal.returns
returns c = c.put_pins.ensures ∙ ap (λ (x : Pins). fronted (three_of x) c.args.out.now) (c.pins_of.ensures ∙ ap (λ (a : Answer). pins_of a c.args.w c.args.h) c.handed.ensures)
