-- The alignment's own checks, in document 01's order. Definitions only.
use Rattle.std.specs.Prelude.{ℕ, ◌*◌, ◌%◌, ltb, eqb}
use Rattle.lists.specs.Marked.{pick, words_for}
use Rattle.settings.specs.Settings.{edge_of}
use Rattle.settings.specs.Sides.{resized_of}
use Rattle.settings.specs.declared.EccConfig.{EccConfig}

-- n = tw * th
unfoldable pub size_of : EccConfig → ℕ → ℕ → ℕ
size_of cfg w h = let s = resized_of (edge_of cfg) w h in s.w * s.h

-- 4: work or marks too short: 12n floats, and words for n marks. `work` and `marks` are their lengths, here and below
unfoldable pub room_of : EccConfig → ℕ → ℕ → ℕ → ℕ → ℕ
room_of cfg w h work marks = pick (ltb work (12 * size_of cfg w h)) 4 (pick (ltb marks (words_for (size_of cfg w h))) 4 0)

-- filter 0 or even: 1; then filter above 31 or max_iter above 1,000: 3; then the room
unfoldable pub limits_of : EccConfig → ℕ → ℕ → ℕ → ℕ → ℕ
limits_of cfg w h work marks =
    pick (eqb (cfg.gauss_filt_size % 2) 0) 1
    (pick (ltb 31 cfg.gauss_filt_size) 3
    (pick (ltb 1000 cfg.max_iter) 3 (room_of cfg w h work marks)))

-- the checks in document 01's order: 2, zero side, lengths, filter 0 or even, 3, 4; 0 where all pass. Template, input, work and marks
-- are given by their lengths
unfoldable pub check_of : ℕ → ℕ → ℕ → ℕ → EccConfig → ℕ → ℕ → ℕ
check_of template input w h cfg work marks =
    pick (ltb 4096 w) 2
    (pick (ltb 4096 h) 2
    (pick (eqb w 0) 1
    (pick (eqb h 0) 1
    (pick (eqb template (w * h)) (pick (eqb input (w * h)) (limits_of cfg w h work marks) 1) 1))))
