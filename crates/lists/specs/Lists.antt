-- Lists by a rule, and equal images that lie one after another in one list. Definitions only.
use Rattle.std.specs.Prelude.{ℕ, zero, suc, ◌+◌, ◌*◌, List, [], ◌∷◌, ◌++◌, length, take, drop}

-- p 0, p 1, .., p (n - 1), one after another
unfoldable pub grow : {A : Type 0} → (ℕ → List A) → ℕ → List A
grow p zero = []
grow p (suc n) = grow p n ++ p n

-- f 0, f 1, .., f (n - 1)
unfoldable pub tab : {A : Type 0} → ℕ → (ℕ → A) → List A
unfolding grow
tab n f = grow (λ i. f i ∷ []) n

-- h rows, one after another, of w numbers each: g x y in column x of row y
unfoldable pub grid : {A : Type 0} → ℕ → ℕ → (ℕ → ℕ → A) → List A
unfolding grow tab
grid w h g = grow (λ y. tab w (λ x. g x y)) h

-- xs with l in place of what stands from a on
unfoldable pub put : {A : Type 0} → List A → ℕ → List A → List A
put xs a l = take a xs ++ (l ++ drop (a + length l) xs)

-- the image k of xs: the n elements from k * n on
unfoldable pub image : {A : Type 0} → ℕ → ℕ → List A → List A
image n k xs = take n (drop (k * n) xs)

-- xs with l in place of its image k
unfoldable pub set_image : {A : Type 0} → ℕ → ℕ → List A → List A → List A
unfolding put
set_image n k l xs = put xs (k * n) l
