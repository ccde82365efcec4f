-- The words of a command line: settings as `--eps=0.0001`, `--max-iter=100`, `--filter=1`, `--edge=350`, and any other word a picture's name, unless it begins
-- with `--`. One that begins with `--help` asks for the usage. Why a word is none of these:
--     NoSetting      no such setting: any other word that begins with `--`
--     NoWhole        no whole number behind `=`: nothing, or a byte that is no digit
--     LargeWhole     the number is above what its field holds: 65,535 for the filter, 4,294,967,295 for the others
--     NoDecimal      eps is no decimal number
--     ManyPlaces     eps has more than 7 digits behind the point, `e_4` counting as four
--     LargeDecimal   eps without its point is above 16,777,216
-- Definitions only.
use Rattle.std.specs.Prelude.{ℕ, ◌+◌, ◌-◌, ◌^◌, ◌<◌, Bool, true, false, ◌&&◌, ◌||◌, List, [], ◌∷◌, ltb, leb, eqb, length, drop, Result, Ok, Err, codes}
use Rattle.std.specs.Float.{binary32}
use Rattle.std.specs.Float.Ieee.{round, to_bits}
use Rattle.lists.specs.Marked.{pick}
use Rattle.settings.specs.declared.EccConfig.{EccConfig}
use Rattle.settings.specs.Settings.{edge_of}
use Rattle.scan.specs.Scan.{digits_at}
use Rattle.options.specs.declared.Wrong.{Wrong}
use Rattle.options.specs.declared.Wrong.TheVariants.{NoSetting, NoWhole, LargeWhole, NoDecimal, ManyPlaces, LargeDecimal}
use Rattle.options.specs.declared.Options.{Options}
use Rattle.options.specs.declared.Word.{Word}
use Rattle.options.specs.declared.Word.TheVariants.{Settings, Picture, Help}

-- ---- what is said of a wrong word
abbrev pub wrong_text : Wrong → List ℕ
wrong_text NoSetting = codes "no such setting; there are --eps=, --max-iter=, --filter=, --edge="
wrong_text NoWhole = codes "no whole number such as 3 behind the ="
wrong_text LargeWhole = codes "too large; at most 65535 for --filter, 4294967295 for --max-iter and --edge"
wrong_text NoDecimal = codes "no decimal number such as 0.0001, .5 or 1e-4"
wrong_text ManyPlaces = codes "too many digits; at most 7 behind the point, and e-4 counts as 4"
wrong_text LargeDecimal = codes "too large; at most 16777216 without its point"

-- ---- bytes

-- whether s begins with p
unfoldable pub begins : List ℕ → List ℕ → Bool
begins s [] = true
begins [] (b ∷ p) = false
begins (c ∷ s) (b ∷ p) = eqb c b && begins s p

-- ---- numbers that fill a word from a on, or why there is none

-- a whole number in decimal, up to most
unfoldable pub whole_of : List ℕ → ℕ → ℕ → Result ℕ Wrong
whole_of s a most =
    let d = digits_at s a 0 (most + 1) in
    pick (ltb a (length s)) (pick (eqb d.next (length s)) (pick (leb d.value most) (Ok d.value) (Err LargeWhole)) (Err NoWhole)) (Err NoWhole)

-- the bits of the f32 nearest to n / 10^k. Up to 7 digits behind the point and up to 2^24 without the point, a division of two f32 gives it
unfoldable pub ratio_of : ℕ → ℕ → Result ℕ Wrong
ratio_of n k = pick (leb k 7) (pick (leb n 16777216) (Ok (to_bits binary32 (round binary32 false n (10 ^ k)))) (Err LargeDecimal)) (Err ManyPlaces)

-- n / 10^k, and digits of an exponent from b on, at least one: as many places more as they say. Above 8 they are too many anyway
unfoldable pub exponent_of : List ℕ → ℕ → ℕ → ℕ → Result ℕ Wrong
unfolding ratio_of
exponent_of s b n k =
    let m = digits_at s b 0 8 in
    pick (ltb b (length s)) (pick (eqb m.next (length s)) (ratio_of n (k + m.value)) (Err NoDecimal)) (Err NoDecimal)

-- n / 10^k, and at b the end, or `e-` or `E-` and an exponent
unfoldable pub tail_of : List ℕ → ℕ → ℕ → ℕ → Result ℕ Wrong
unfolding ratio_of begins exponent_of
tail_of s b n k =
    pick (eqb b (length s)) (ratio_of n k)
    (pick (begins (drop b s) (101 ∷ 45 ∷ []) || begins (drop b s) (69 ∷ 45 ∷ [])) (exponent_of s (b + 2) n k) (Err NoDecimal))

-- digits behind a point, b being the index after it and v the number before it, which begins at a: at least one digit, before the point or behind it
unfoldable pub behind_of : List ℕ → ℕ → ℕ → ℕ → Result ℕ Wrong
unfolding tail_of
behind_of s a b v = let d = digits_at s b v 16777217 in pick (ltb (a + 1) d.next) (tail_of s d.next d.value (d.next - b)) (Err NoDecimal)

-- digits, and then possibly a point and more digits; at least one digit in all
unfoldable pub eps_of : List ℕ → ℕ → Result ℕ Wrong
unfolding begins tail_of behind_of
eps_of s a =
    let d = digits_at s a 0 16777217 in
    pick (begins (drop d.next s) (46 ∷ [])) (behind_of s a (d.next + 1) d.value)
    (pick (ltb a d.next) (tail_of s d.next d.value 0) (Err NoDecimal))

-- ---- words

-- with a number, if it is one
unfoldable pub on_value : Result ℕ Wrong → (ℕ → Options) → Result Word Wrong
on_value (Ok n) f = Ok (Settings (f n))
on_value (Err k) f = Err k

-- one number changed
abbrev pub with_eps : Options → ℕ → Options
with_eps o n = record { eps = n; passes = o.passes; filter = o.filter; edge = o.edge }

abbrev pub with_passes : Options → ℕ → Options
with_passes o n = record { eps = o.eps; passes = n; filter = o.filter; edge = o.edge }

abbrev pub with_filter : Options → ℕ → Options
with_filter o n = record { eps = o.eps; passes = o.passes; filter = n; edge = o.edge }

abbrev pub with_edge : Options → ℕ → Options
with_edge o n = record { eps = o.eps; passes = o.passes; filter = o.filter; edge = n }

-- no setting: `--help`, `--`
unfoldable pub other_of : List ℕ → Result Word Wrong
unfolding begins
other_of s = pick (begins s (45 ∷ 45 ∷ 104 ∷ 101 ∷ 108 ∷ 112 ∷ [])) (Ok Help) (pick (begins s (45 ∷ 45 ∷ [])) (Err NoSetting) (Ok Picture))

-- `--eps=`, `--max-iter=`, `--filter=`, `--edge=`
unfoldable pub word_of : Options → List ℕ → Result Word Wrong
unfolding begins on_value eps_of whole_of other_of
word_of o s =
    pick (begins s (45 ∷ 45 ∷ 101 ∷ 112 ∷ 115 ∷ 61 ∷ [])) (on_value (eps_of s 6) (with_eps o))
    (pick (begins s (45 ∷ 45 ∷ 109 ∷ 97 ∷ 120 ∷ 45 ∷ 105 ∷ 116 ∷ 101 ∷ 114 ∷ 61 ∷ [])) (on_value (whole_of s 11 4294967295) (with_passes o))
    (pick (begins s (45 ∷ 45 ∷ 102 ∷ 105 ∷ 108 ∷ 116 ∷ 101 ∷ 114 ∷ 61 ∷ [])) (on_value (whole_of s 9 65535) (with_filter o))
    (pick (begins s (45 ∷ 45 ∷ 101 ∷ 100 ∷ 103 ∷ 101 ∷ 61 ∷ [])) (on_value (whole_of s 7 4294967295) (with_edge o))
    (other_of s))))

-- ---- a settings record as options
unfoldable pub options_of : EccConfig → Options
options_of cfg = record { eps = to_bits binary32 cfg.eps; passes = cfg.max_iter; filter = cfg.gauss_filt_size; edge = edge_of cfg }

-- each number fits its field of a settings record
pub record Ranged (o : Options) : Type 0 where
  pub eps : o.eps < 4294967296
  pub passes : o.passes < 4294967296
  pub filter : o.filter < 65536
  pub edge : o.edge < 4294967296
