-- The starred cases of document 01 by their numbers: each line is one claim about the definitions that the contracts cite. Floats stand by their bit patterns.
use Rattle.std.specs.Prelude.{◌≡◌, ℕ, ◌*◌, List, [], ◌∷◌, ◌++◌, map, ℤ, pos, neg_ℤ, Float, Ok, Err}
use Rattle.std.specs.Float.{binary32}
use Rattle.std.specs.Float.Ieee.{neg, of_bits, to_bits}
use Rattle.floats.specs.F32.{f32, 0f, 1f}
use Rattle.root.specs.Root.{sqrt_of}
use Rattle.series.specs.Series.{cos_of, sin_of, exp_neg_of}
use Rattle.settings.specs.Settings.{defaults_of}
use Rattle.settings.specs.Sides.{resized_of}
use Rattle.settings.specs.declared.EccConfig.{EccConfig}
use Rattle.resize.specs.Resize.{resize_of}
use Rattle.gradients.specs.Gradients.{gradient_x}
use Rattle.marks.specs.Marks.{count_on}
use Rattle.pose.specs.Pose.{affine_from_theta_tx_ty, matrix_of}
use Rattle.refusals.specs.declared.Refusal.TheVariants.{InvalidInput, FewPixels, NoInverse}
use Rattle.pose.specs.declared.Outcome.{Outcome}
use Rattle.places.specs.Point.{marks_of}
use Rattle.alignment.specs.Aligned.{aligned_of}
use Rattle.driver.specs.Pins.{pins_of}

-- an image by the bit patterns of its numbers
abbrev pub patterns : List Float → List ℕ
patterns xs = map (to_bits binary32) xs

-- the bit pattern of a function's value at a bit pattern
abbrev pub at : (Float → Float) → ℕ → ℕ
at f b = to_bits binary32 (f (of_bits binary32 b))

-- eight rows alike
abbrev pub eight : List ℕ → List ℕ
eight r = r ++ (r ++ (r ++ (r ++ (r ++ (r ++ (r ++ r))))))

-- how many pixels of w by h the pose at rest marks
abbrev pub marked_at_rest : ℕ → ℕ → ℕ
marked_at_rest w h = count_on (marks_of (affine_from_theta_tx_ty (record { theta = 0f; tx = 0f; ty = 0f })) w h) (w * h)

-- a call with both frames alike and just the room that it needs
abbrev pub alike : List ℕ → ℕ → ℕ → EccConfig → Outcome
alike frame w h cfg = aligned_of frame frame w h cfg (12 * (w * h)) (w * h)

-- the default settings with another filter, and with another number of passes
abbrev pub filter : ℕ → EccConfig
filter k = record { eps = defaults_of.eps; max_iter = defaults_of.max_iter; gauss_filt_size = k; resize_long_edge = defaults_of.resize_long_edge }

abbrev pub passes : ℕ → EccConfig
passes k = record { eps = defaults_of.eps; max_iter = k; gauss_filt_size = defaults_of.gauss_filt_size; resize_long_edge = defaults_of.resize_long_edge }

-- dx of a pose with this bit pattern for tx, for a frame of 1x1: its middle is its one pixel
abbrev pub dx_at : ℕ → ℤ
dx_at b = (pins_of (Ok (record { theta = 0f; tx = of_bits binary32 b; ty = 0f; rho = 0f })) 1 1).dx

-- a row 0 10 20 30 40
abbrev pub steps : List ℕ
steps = 0 ∷ 10 ∷ 20 ∷ 30 ∷ 40 ∷ []

pub record Starred : Type 0 where
  -- 1: at rest 16 pixels of 5x5 are marked, and 12 of 4x5: number 5
  pub marks_of_5x5 : marked_at_rest 5 5 ≡ 16
  pub marks_of_4x5 : marked_at_rest 4 5 ≡ 12
  pub too_few_marks : alike (steps ++ (steps ++ (steps ++ steps))) 4 5 defaults_of ≡ record { passes = 1; answer = Err FewPixels }
  -- 2: filter 0 and filter 2: number 1
  pub no_filter : alike (7 ∷ []) 1 1 (filter 0) ≡ record { passes = 0; answer = Err InvalidInput }
  pub even_filter : alike (7 ∷ []) 1 1 (filter 2) ≡ record { passes = 0; answer = Err InvalidInput }
  -- 3: max_iter 0 on a 1x1 frame: a pose, all zero, rho -1, no pass; the first row of that answer's matrix has -0.0 second
  pub no_pass : alike (7 ∷ []) 1 1 (passes 0) ≡ record { passes = 0; answer = Ok (record { theta = 0f; tx = 0f; ty = 0f; rho = neg 1f }) }
  pub no_pass_row : to_bits binary32 (matrix_of (alike (7 ∷ []) 1 1 (passes 0)).answer).m01 ≡ 0x8000_0000
  -- 4: 700x350 at edge 350 becomes 350x175; 400x4 becomes 350x8; 400x12 becomes 350x11
  pub sides_halved : resized_of 350 700 350 ≡ record { w = 350; h = 175 }
  pub side_at_least_8 : resized_of 350 400 4 ≡ record { w = 350; h = 8 }
  pub side_rounded : resized_of 350 400 12 ≡ record { w = 350; h = 11 }
  -- 5: a 4x4 frame, each row 0 8 16 24, to 8x8: each row -2 2 6 10 14 18 22 24
  pub resized_past_the_edges :
      patterns (resize_of (0 ∷ 8 ∷ 16 ∷ 24 ∷ 0 ∷ 8 ∷ 16 ∷ 24 ∷ 0 ∷ 8 ∷ 16 ∷ 24 ∷ 0 ∷ 8 ∷ 16 ∷ 24 ∷ []) 4 4 8 8)
      ≡ eight (0xc000_0000 ∷ 0x4000_0000 ∷ 0x40c0_0000 ∷ 0x4120_0000 ∷ 0x4160_0000 ∷ 0x4190_0000 ∷ 0x41b0_0000 ∷ 0x41c0_0000 ∷ [])
  -- 6: gradient_x of a row 0 10 40: 5 20 15
  pub gradient_of_a_row : patterns (gradient_x 3 1 (f32 0 ∷ f32 10 ∷ f32 40 ∷ [])) ≡ 0x40a0_0000 ∷ 0x41a0_0000 ∷ 0x4170_0000 ∷ []
  -- 7: the root of 2; the cosine of 0 is 1; the sine of -0 is -0; e^-0 is 1
  pub root_of_two : at sqrt_of 0x4000_0000 ≡ 0x3fb5_04f3
  pub cosine_of_zero : at cos_of 0 ≡ 0x3f80_0000
  pub sine_of_minus_zero : at sin_of 0x8000_0000 ≡ 0x8000_0000
  pub exponential_of_zero : at exp_neg_of 0 ≡ 0x3f80_0000
  -- 8, which by document 02 reads for a 1x1 frame: tx 1/512 gives 1 for the pins, tx -1/512 gives -1
  pub shift_up : dx_at 0x3b00_0000 ≡ pos 1
  pub shift_down : dx_at 0xbb00_0000 ≡ neg_ℤ (pos 1)
  -- 9: 5x5, columns 0 10 20 30 40, both frames, default settings: 8 after 1 pass
  pub no_inverse : alike (steps ++ (steps ++ (steps ++ (steps ++ steps)))) 5 5 defaults_of ≡ record { passes = 1; answer = Err NoInverse }
