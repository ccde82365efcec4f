-- What is known of sides that a frame has. Assumes nothing.
use Rattle.std.specs.Prelude.{Ok}
use Rattle.std.proofs.Common.{◌≡◌, ℕ, ◌-◌, ◌≤◌, Bool, true, false, ◌&&◌, ltb, leb, sym, refl, true≢false, arith, ltb-true, leb-true}
use Rattle.lists.specs.Premises.{is_side}
use Rattle.lists.proofs.Cases.{pick_true}
use Rattle.pose.specs.declared.Posed.{Posed}
use Rattle.pose.specs.Pose.{Answer}
use Rattle.driver.specs.Pins.{posed_of, pins_of}

both : (a b : Bool) → (a && b) ≡ true → (a ≡ true) × (b ≡ true)
both true b e = (refl, e)
both false b e = absurd (true≢false (sym e))

-- 1 to 4,096
pub side_bounds : (n : ℕ) → is_side n ≡ true → (1 ≤ n) × (n - 1 ≤ 4095)
unfolding is_side
side_bounds n e = let b = both (leb n 4096) (ltb 0 n) e in (ltb-true 0 n b.1, less n (leb-true n 4096 b.0))
  where
    less : (n : ℕ) → n ≤ 4096 → n - 1 ≤ 4095
    less n h = omega arith

pub of_pose : (a : Answer) (p : Posed) (w h : ℕ) → a ≡ Ok p → is_side w ≡ true → is_side h ≡ true → pins_of a w h ≡ posed_of p.theta p.tx p.ty (w - 1) (h - 1)
unfolding pins_of
of_pose a p w h e x y = rw e (pick_true _ _ _ (rw (x, y)))
