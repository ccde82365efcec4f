-- Sides that fit their fields have a product that fits its own; the low bytes of a number are its bytes; bytes copied into a part are put there. Assumes nothing.
use Prim.Native.Nat.{ℕ, ◌*◌, ◌/◌, ◌%◌, ◌≤◌}
use mathlib.Core.Path.{◌≡◌}
use mathlib.Core.List.{List, [], ◌∷◌, ◌++◌}
use native.Mathlib.Nat.{mul-le-mul}
use native.Mathlib.Omega.{arith}
use lib.ListN.{length, take, drop}
use lib.Seq.{drop-drop}
use Rattle.lists.specs.Lists.{put}
use Rattle.encode.specs.Bytes.{half_bytes, word_bytes}

pub area : (w h : ℕ) → w ≤ 65535 → h ≤ 65535 → w * h ≤ 4294836225
area w h p q = mul-le-mul p q

pub low_half : (n : ℕ) → (n % 65536 % 256) ∷ (n % 65536 / 256 % 256) ∷ [] ≡ half_bytes n
unfolding half_bytes
low_half n =
    let a : n % 65536 % 256 ≡ n % 256 = omega arith in
    let b : n % 65536 / 256 % 256 ≡ n / 256 % 256 = omega arith in
    rw (a, b)

pub low_word : (n : ℕ) → (n % 4294967296 % 256) ∷ (n % 4294967296 / 256 % 256) ∷ (n % 4294967296 / 65536 % 256) ∷ (n % 4294967296 / 16777216 % 256) ∷ [] ≡ word_bytes n
unfolding word_bytes half_bytes
low_word n =
    let a : n % 4294967296 % 256 ≡ n % 256 = omega arith in
    let b : n % 4294967296 / 256 % 256 ≡ n / 256 % 256 = omega arith in
    let c : n % 4294967296 / 65536 % 256 ≡ n / 65536 % 256 = omega arith in
    let d : n % 4294967296 / 16777216 % 256 ≡ n / 65536 / 256 % 256 = omega arith in
    rw (a, b, c, d)

pub copied : (xs : List ℕ) (a n : ℕ) (l : List ℕ) {p : List ℕ} → p ≡ l → n ≡ length l → take a xs ++ (p ++ drop n (drop a xs)) ≡ put xs a l
unfolding put
copied xs a n l e q = rw (e, q, drop-drop)
