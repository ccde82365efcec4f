-- Sides and filters that a vector may have: images of at most 1,024 pixels. Definitions only.
use Rattle.std.specs.Prelude.{ℕ, ◌*◌, ◌%◌, ◌≤◌, Bool, true, false, ◌&&◌, ◌≡◌, leb, ltb, eqb, Option, MatchOption}
use Rattle.lists.specs.Premises.{is_side}
use Rattle.vectors.specs.declared.shapes.Shape.{Shape}

-- no side is 0, and there are at most 1,024 pixels
unfoldable pub is_shape : ℕ → ℕ → Bool
is_shape w h = ltb 0 w && ltb 0 h && leb (w * h) 1024

-- the size of a filter: odd, at most 31
unfoldable pub is_filter : ℕ → Bool
is_filter k = leb k 31 && eqb (k % 2) 1

-- the size of a kernel: of a filter that is not 1
unfoldable pub is_kernel : ℕ → Bool
is_kernel k = leb 3 k && is_filter k

-- s is v, which is a side
pub record SideIs (v s : ℕ) : Type 0 where
  pub is : is_side v ≡ true
  pub same : s ≡ v
  pub least : 1 ≤ s
  pub most : s ≤ 4096

-- r is v where v is a side, else none
abbrev pub OneSide : ℕ → Option ℕ → Type 0
OneSide v r = MatchOption r (is_side v ≡ false) (SideIs v)

-- k is v, which is the size of a filter
pub record FilterIs (v k : ℕ) : Type 0 where
  pub is : is_filter v ≡ true
  pub same : k ≡ v
  pub most : k ≤ 31
  pub odd : k % 2 ≡ 1

-- r is v where v is the size of a filter, else none
abbrev pub Filtered : ℕ → Option ℕ → Type 0
Filtered v r = MatchOption r (is_filter v ≡ false) (FilterIs v)

-- s has w and h, which are such sides, and they fit the arrays of the tests
pub record Fitting (w h : ℕ) (s : Shape) : Type 0 where
  pub is : is_shape w h ≡ true
  pub w_is : s.w ≡ w
  pub h_is : s.h ≡ h
  pub few : s.n ≤ 1024
  pub pixels : s.n ≡ s.w * s.h
  pub w_least : 1 ≤ s.w
  pub w_most : s.w ≤ 4096
  pub h_least : 1 ≤ s.h
  pub h_most : s.h ≤ 4096

-- w and h where they are such sides, else none
abbrev pub Shaped : ℕ → ℕ → Option Shape → Type 0
Shaped w h r = MatchOption r (is_shape w h ≡ false) (Fitting w h)
