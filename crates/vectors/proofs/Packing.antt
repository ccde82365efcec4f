-- Marks from bytes into words, by their flags, and a bit back as a byte. Assumes nothing.
use Prim.Native.Nat.{ℕ, zero, suc, ◌+◌, ◌≤◌, ◌<◌}
use mathlib.Core.Path.{◌≡◌, refl, sym, ap, ap₂, ◌∙◌}
use mathlib.Core.List.{List}
use native.Mathlib.Nat.{zero-add}
use native.Mathlib.Omega.{arith}
use Rattle.std.specs.Int.{from_bool}
use lib.Dec.{eqb}
use lib.ListN.{length, get_or}
use Rattle.lists.specs.Lists.{tab, put}
use Rattle.lists.specs.Marked.{words_for}
use Rattle.lists.proofs.Fill.{get_d_fill}
use Rattle.marks.specs.Marks.{on}
use Rattle.bits.specs.Words.{words_of, bit_at}
use Rattle.bits.specs.Packing.{flag_of, Flags, words_to, Packed}
use Rattle.bits.proofs.Packing.{flags_on, flags_are}
use Rattle.bits.proofs.Equal.{words_none, words_all}

-- a bit that is read, as a byte
pub bit_byte : (ws : List ℕ) (i : ℕ) → from_bool (eqb (bit_at ws i) 1) ≡ bit_at ws i
unfolding bit_at
bit_byte ws i = by (bit_at ws i) (few ws i)
  where
    few : (ws : List ℕ) (i : ℕ) → bit_at ws i ≤ 1
    few ws i = omega arith

    by : (b : ℕ) → b ≤ 1 → from_bool (eqb b 1) ≡ b
    by zero l = refl
    by (suc zero) l = refl
    by (suc (suc b)) l = absurd (many b l)
      where
        many : (b : ℕ) → suc (suc b) ≤ 1 → ⊥
        many b h = omega arith

-- the flags of the marks, and the words that they are packed into
module _ (ms fs gs : List ℕ) (n : ℕ) (room : n ≤ length fs) (e : gs ≡ put fs 0 (tab n (λ i. flag_of (on ms i) i))) where
  flag_at : (x : ℕ) → x < n → get_or gs x 0 ≡ flag_of (on ms x) (0 + x)
  flag_at x h = ap₂ (λ (l : List ℕ) (k : ℕ). get_or l k 0) e (sym (zero-add x)) ∙ get_d_fill fs 0 n _ (omega arith) x 0 h ∙ ap (flag_of (on ms x)) (sym (zero-add x))

  pub flags_made : Flags gs 0 n
  flags_made = flags_are gs 0 n (on ms) flag_at

  pub words_made : (xs ws us : List ℕ) → words_for n ≤ length xs → ws ≡ put xs 0 (tab (words_for n) (λ _. 0)) → Packed gs 0 n ws us → us ≡ put xs 0 (words_of ms n)
  words_made xs ws us fits none p =
      p.packs ms xs n fits (omega arith) (λ x h. ap (on ms) (zero-add x) ∙ sym (flags_on gs 0 n (on ms) flag_at x h)) (none ∙ ap (put xs 0) (words_none ms n))
      ∙ ap (put xs 0) (ap (words_to ms n) (zero-add n) ∙ words_all ms n)
