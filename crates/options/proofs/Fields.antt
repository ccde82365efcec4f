-- The numbers of the options fit the fields of a settings record, whatever the words are. Assumes nothing.
use Prim.Native.Nat.{ℕ, ◌+◌, ◌-◌, ◌<◌, ◌^◌}
use mathlib.Core.Bool.{false}
use mathlib.Core.Path.{◌≡◌, subst}
use mathlib.Core.List.{List}
use native.Mathlib.Omega.{arith}
use borrow.Author.Tests.{leb-true}
use lib.Ieee.{binary32, round}
use lib.Ieee.Bits.{to_bits-lt, of_bits-fits}
use lib.Ieee.Fits.{round-fits}
use Rattle.lists.proofs.Cases.{either}
use Rattle.scan.specs.Scan.{digits_at}
use Rattle.settings.specs.Settings.{defaults_of}
use Rattle.std.specs.Prelude.{Result, Ok, Err}
use Rattle.options.specs.declared.Wrong.{Wrong}
use Rattle.options.specs.declared.Wrong.TheVariants.{NoSetting, NoWhole, LargeWhole, NoDecimal, ManyPlaces, LargeDecimal}
use Rattle.options.specs.declared.Options.{Options}
use Rattle.options.specs.declared.Word.{Word}
use Rattle.options.specs.declared.Word.TheVariants.{Settings, Picture, Help}
use Rattle.options.specs.Words.{whole_of, ratio_of, exponent_of, tail_of, behind_of, eps_of, on_value, with_eps, with_passes, with_filter, with_edge, other_of, word_of, options_of, Ranged}

unfoldable RangedTaken : Result Word Wrong → Type 0
RangedTaken (Ok (Settings o)) = Ranged o
RangedTaken (Ok Picture) = Unit {0}
RangedTaken (Ok Help) = Unit {0}
RangedTaken (Err k) = Unit {0}

unfoldable Below : ℕ → Result ℕ Wrong → Type 0
Below m (Ok n) = n < m
Below m (Err k) = Unit {0}

wrong : (m : ℕ) (k : Wrong) → Below m (Err k)
unfolding Below
wrong m k = tt

is : (m n : ℕ) → n < m → Below m (Ok n)
unfolding Below
is m n h = h

below_whole : (s : List ℕ) (a most : ℕ) → Below (most + 1) (whole_of s a most)
unfolding whole_of
below_whole s a most =
    either (Below (most + 1)) _ _ _
    (λ p. either (Below (most + 1)) _ _ _ (λ q. either (Below (most + 1)) _ _ _ (λ r. is _ _ (omega (arith, leb-true _ most r))) (λ r. wrong _ LargeWhole)) (λ q. wrong _ NoWhole)) (λ p. wrong _ NoWhole)

abbrev Fits : Result ℕ Wrong → Type 0
Fits = Below 4294967296

fits_ratio : (n k : ℕ) → Fits (ratio_of n k)
unfolding ratio_of
fits_ratio n k =
    either Fits _ _ _
    (λ p. either Fits _ _ _ (λ q. is _ _ (to_bits-lt binary32 (round binary32 false n (10 ^ k)) (round-fits binary32 false n (10 ^ k)))) (λ q. wrong _ LargeDecimal)) (λ p. wrong _ ManyPlaces)

fits_exponent : (s : List ℕ) (b n k : ℕ) → Fits (exponent_of s b n k)
unfolding exponent_of
fits_exponent s b n k =
    either Fits _ _ _ (λ p. either Fits _ _ _ (λ q. fits_ratio n (k + (digits_at s b 0 8).value)) (λ q. wrong _ NoDecimal)) (λ p. wrong _ NoDecimal)

fits_tail : (s : List ℕ) (b n k : ℕ) → Fits (tail_of s b n k)
unfolding tail_of
fits_tail s b n k =
    either Fits _ _ _ (λ p. fits_ratio n k) (λ p. either Fits _ _ _ (λ q. fits_exponent s (b + 2) n k) (λ q. wrong _ NoDecimal))

fits_behind : (s : List ℕ) (a b v : ℕ) → Fits (behind_of s a b v)
unfolding behind_of
fits_behind s a b v =
    let d = digits_at s b v 16777217 in
    either Fits _ _ _ (λ p. fits_tail s d.next d.value (d.next - b)) (λ p. wrong _ NoDecimal)

fits_eps : (s : List ℕ) (a : ℕ) → Fits (eps_of s a)
unfolding eps_of
fits_eps s a =
    let d = digits_at s a 0 16777217 in
    either Fits _ _ _ (λ p. fits_behind s a (d.next + 1) d.value)
    (λ p. either Fits _ _ _ (λ q. fits_tail s d.next d.value 0) (λ q. wrong _ NoDecimal))

on_value_lem : (m : ℕ) (v : Result ℕ Wrong) (f : ℕ → Options) → Below m v → ((n : ℕ) → n < m → Ranged (f n)) → RangedTaken (on_value v f)
unfolding Below on_value RangedTaken
on_value_lem m (Ok n) f h g = g n h
on_value_lem m (Err k) f h g = tt

bad : (k : Wrong) → RangedTaken (Err k)
unfolding RangedTaken
bad k = tt

help : RangedTaken (Ok Help)
unfolding RangedTaken
help = tt

picture : RangedTaken (Ok Picture)
unfolding RangedTaken
picture = tt

other : (s : List ℕ) → RangedTaken (other_of s)
unfolding other_of
other s = either RangedTaken _ _ _ (λ a. help) (λ a. either RangedTaken _ _ _ (λ b. bad NoSetting) (λ b. picture))

-- THE LAW
ranged : (o : Options) (s : List ℕ) → Ranged o → RangedTaken (word_of o s)
unfolding word_of
ranged o s r =
    either RangedTaken _ _ _ (λ a. on_value_lem 4294967296 (eps_of s 6) (with_eps o) (fits_eps s 6) (λ n h. record { eps = h; passes = r.passes; filter = r.filter; edge = r.edge }))
    (λ a. either RangedTaken _ _ _ (λ b. on_value_lem 4294967296 (whole_of s 11 4294967295) (with_passes o) (below_whole s 11 4294967295) (λ n h. record { eps = r.eps; passes = h; filter = r.filter; edge = r.edge }))
    (λ b. either RangedTaken _ _ _ (λ d. on_value_lem 65536 (whole_of s 9 65535) (with_filter o) (below_whole s 9 65535) (λ n h. record { eps = r.eps; passes = r.passes; filter = h; edge = r.edge }))
    (λ d. either RangedTaken _ _ _ (λ e. on_value_lem 4294967296 (whole_of s 7 4294967295) (with_edge o) (below_whole s 7 4294967295) (λ n h. record { eps = r.eps; passes = r.passes; filter = r.filter; edge = h }))
    (λ e. other s))))

pub defaults_ranged : Ranged (options_of defaults_of)
unfolding options_of
defaults_ranged = record { eps = to_bits-lt binary32 defaults_of.eps (of_bits-fits binary32 0x38d1_b717); passes = omega arith; filter = omega arith; edge = omega arith }

pub stays : (o : Options) (s : List ℕ) (p : Options) → Ranged o → word_of o s ≡ Ok (Settings p) → Ranged p
unfolding RangedTaken
stays o s p r e = subst RangedTaken e (ranged o s r)
