-- The records are read as what they are: `next_of`, by which the program `pinlog` reads, finds in them the settings and the frame that were put, and never
-- calls them broken. Assumes nothing.
use Prim.Native.Nat.{ℕ, ◌+◌, ◌-◌, ◌*◌, ◌/◌, ◌%◌, ◌≤◌, ◌<◌}
use mathlib.Core.Path.{◌≡◌, refl, ap, ◌∙◌}
use mathlib.Core.List.{List, ◌++◌}
use native.Mathlib.Omega.{arith}
use borrow.Author.Tests.{lt-ltb, le-ltb, eq-eqb, ne_eqb}
use lib.Ieee.{binary32, of_bits}
use lib.ListN.{length, length-append}
use Rattle.lists.proofs.Cases.{pick_true, pick_false}
use Rattle.settings.specs.declared.EccConfig.{EccConfig}
use Rattle.records.specs.declared.Record.TheVariants.{Settings, Frame, Large}
use Rattle.records.specs.Reading.{half_at, word_at, choice_of, config_at, settings_of, frame_of, body_of, next_of}
use Rattle.encode.specs.Bytes.{half_bytes, word_bytes, start_bytes, settings_bytes, head_bytes}
use Rattle.encode.proofs.Pieces.{area}

-- ---- bytes of a number, put together again
half_back : (n : ℕ) → n < 65536 → n % 256 + 256 * (n / 256 % 256) ≡ n
half_back n h = omega arith

word_back : (n : ℕ) → n < 4294967296 → n % 256 + 256 * (n / 256 % 256) + 65536 * (n / 65536 % 256 + 256 * (n / 65536 / 256 % 256)) ≡ n
word_back n h = omega arith

module _ (eps passes filter edge : ℕ) (t : List ℕ) (e : eps < 4294967296) (p : passes < 4294967296) (f : filter < 65536) (g : edge < 4294967296) where
  abbrev all : List ℕ
  all = settings_bytes eps passes filter edge ++ t

  abbrev held : EccConfig
  held = record { eps = of_bits binary32 eps; max_iter = passes; gauss_filt_size = filter; resize_long_edge = choice_of edge }

  long : 20 ≤ length all
  unfolding settings_bytes start_bytes word_bytes half_bytes
  long = omega arith

  config_back : config_at all ≡ held
  unfolding config_at word_at half_at settings_bytes start_bytes word_bytes half_bytes
  config_back = rw (word_back eps e, word_back passes p, half_back filter f, word_back edge g)

  rest_back : word_at all 0 ≡ 16
  unfolding word_at half_at settings_bytes start_bytes word_bytes half_bytes
  rest_back = refl

  kind_back : half_at all 4 ≡ 1
  unfolding half_at settings_bytes start_bytes word_bytes half_bytes
  kind_back = refl

  pub settings_back : next_of all ≡ Settings held
  unfolding next_of body_of settings_of
  settings_back =
      pick_false _ _ _ (le-ltb (length all) 4 (omega (arith, long)))
      ∙ pick_false _ _ _ (le-ltb (word_at all 0) 2 (omega (arith, rest_back)))
      ∙ pick_false _ _ _ (le-ltb (length all) 6 (omega (arith, long)))
      ∙ pick_true _ _ _ (eq-eqb (half_at all 4) 1 kind_back)
      ∙ pick_true _ _ _ (eq-eqb (word_at all 0 - 2) 14 (omega (arith, rest_back)))
      ∙ pick_false _ _ _ (le-ltb (length all) 20 long)
      ∙ ap Settings config_back

module _ (w h : ℕ) (pixels t : List ℕ) (a : w ≤ 65535) (b : h ≤ 65535) (size : length pixels ≡ w * h) where
  abbrev whole : List ℕ
  whole = (head_bytes w h ++ pixels) ++ t

  some : 10 + w * h ≤ length whole
  unfolding head_bytes start_bytes word_bytes half_bytes
  some = omega (arith, size, length-append pixels t)

  rest_frame : word_at whole 0 ≡ w * h + 6
  unfolding word_at half_at head_bytes start_bytes word_bytes half_bytes
  rest_frame = word_back (4 + w * h + 2) (omega (arith, area w h a b)) ∙ omega arith

  kind_frame : half_at whole 4 ≡ 2
  unfolding half_at head_bytes start_bytes word_bytes half_bytes
  kind_frame = refl

  w_back : half_at whole 6 ≡ w
  unfolding half_at head_bytes start_bytes word_bytes half_bytes
  w_back = half_back w (omega arith)

  h_back : half_at whole 8 ≡ h
  unfolding half_at head_bytes start_bytes word_bytes half_bytes
  h_back = half_back h (omega arith)

  body_is : next_of whole ≡ frame_of whole (4 + w * h)
  unfolding next_of body_of
  body_is =
      let n : word_at whole 0 - 2 ≡ 4 + w * h = omega (arith, rest_frame) in
      pick_false _ _ _ (le-ltb (length whole) 4 (omega (arith, some)))
      ∙ pick_false _ _ _ (le-ltb (word_at whole 0) 2 (omega (arith, rest_frame)))
      ∙ pick_false _ _ _ (le-ltb (length whole) 6 (omega (arith, some)))
      ∙ pick_false _ _ _ (ne_eqb (half_at whole 4) 1 (λ q. omega (arith, kind_frame, q)))
      ∙ pick_true _ _ _ (eq-eqb (half_at whole 4) 2 kind_frame)
      ∙ ap (frame_of whole) n

  -- a frame that pinlog can hold, and one that it reads over
  pub frame_back : w * h ≤ 1024 → next_of whole ≡ Frame w h (w * h)
  unfolding frame_of
  frame_back small =
      let n : 4 + w * h - 4 ≡ w * h = omega arith in
      body_is
      ∙ pick_false _ _ _ (le-ltb (4 + w * h) 4 (omega arith))
      ∙ pick_false _ _ _ (le-ltb 1028 (4 + w * h) (omega arith))
      ∙ pick_false _ _ _ (le-ltb (length whole) (6 + (4 + w * h)) (omega (arith, some)))
      ∙ rw (w_back, h_back, n) refl

  pub large_back : 1024 < w * h → next_of whole ≡ Large (4 + w * h)
  unfolding frame_of
  large_back large =
      body_is
      ∙ pick_false _ _ _ (le-ltb (4 + w * h) 4 (omega arith))
      ∙ pick_true _ _ _ (lt-ltb 1028 (4 + w * h) (omega arith))
