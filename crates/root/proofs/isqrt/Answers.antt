-- `root::isqrt` meets its contract. The invariant: with k digits to come, some r has the root's digits from 2 ^ k up, so that the root is from r to below r + 2 ^ k;
-- s is its square, p is r * 2 ^ k, and bit is a quarter of the square of 2 ^ k, which is the square of the next digit's weight. Assumes nothing.
use mathlib.Core.Path.{◌≡◌, refl, sym, ap, ◌∙◌}
use Prim.Native.Nat.{ℕ, zero, suc, ◌+◌, ◌*◌, ◌/◌, ◌^◌, ◌≤◌, ◌<◌}
use native.Mathlib.Nat.{le_trans, le_of_eq, lt_of_le_of_lt, two-pow-succ, add-mul, mul-add, mul_comm, mul-one, mul-pos}
use native.Mathlib.Omega.{arith}
use lib.Pow.{pow_pos}
use lib.Dec.{lit<, lit≤}
use Rattle.root.proofs.Squares.{sq_mono}
use Rattle.root.proofs.isqrt.Invariants.{Part, Found}
use Rattle.root.proofs.isqrt.Goals.{then-t-n, else-t-n}
use Rattle.root.proofs.isqrt.Goals as goal

-- ---- one digit of the weight w
square_more : (r w : ℕ) → r * r + r * (w + w) + w * w ≡ (r + w) * (r + w)
square_more r w = omega (arith, add-mul r w (r + w), mul-add r r w, mul-add w r w, mul_comm w r, mul-add r w w)

quarter : (w : ℕ) → (w + w) * (w + w) / 4 ≡ w * w
quarter w = omega (arith, add-mul w w (w + w), mul-add w w w)

halved : (r w : ℕ) → r * (w + w) / 2 ≡ r * w
halved r w = omega (arith, mul-add r w w)

module _ (n s p bit k : ℕ) (o : Found n s p bit (suc k)) where
  half : p / 2 ≡ o.r * 2 ^ k
  half = ap (λ (z : ℕ). z / 2) (o.scaled ∙ ap (λ (z : ℕ). o.r * z) (two-pow-succ k)) ∙ halved o.r (2 ^ k)

  weighs : bit ≡ 2 ^ k * 2 ^ k
  weighs = o.weight ∙ ap (λ (z : ℕ). z * z / 4) (two-pow-succ k) ∙ quarter (2 ^ k)

  tried : s + p + bit ≡ (o.r + 2 ^ k) * (o.r + 2 ^ k)
  tried = rw (o.square, o.scaled ∙ ap (λ (z : ℕ). o.r * z) (two-pow-succ k), weighs) (square_more o.r (2 ^ k))

  -- the bound of the root as it was, by the next weight
  bound : o.r + 2 ^ suc k ≡ o.r + 2 ^ k + 2 ^ k
  bound = omega (arith, two-pow-succ k)

  set : (s' p' : ℕ) → s' ≡ s + p + bit → p' ≡ p / 2 + bit → s + p + bit ≤ n → Part n s' p' (bit / 4)
  set s' p' e f l = record {
    k = k;
    found = record {
      r = o.r + 2 ^ k;
      low = rw tried at l;
      high = rw bound at o.high;
      few = rw bound at o.few;
      square = e ∙ tried;
      scaled = f ∙ rw (half, weighs) (sym (add-mul o.r (2 ^ k) (2 ^ k)));
      weight = ap (λ (z : ℕ). z / 4) weighs;
    };
  }

  clear : (s' p' : ℕ) → s' ≡ s → p' ≡ p / 2 → n < s + p + bit → Part n s' p' (bit / 4)
  clear s' p' e f l = record {
    k = k;
    found = record {
      r = o.r;
      low = o.low;
      high = rw tried at l;
      few = omega (arith, bound, o.few);
      square = e ∙ o.square;
      scaled = f ∙ half;
      weight = ap (λ (z : ℕ). z / 4) weighs;
    };
  }

  -- every sum on the way is at most the square of a number below 2 ^ 25
  room : s + p + bit < 2 ^ 50
  room = lt_of_le_of_lt (le_of_eq tried) (lt_of_le_of_lt (sq_mono (o.r + 2 ^ k) 33554431 (cap (o.r + 2 ^ k) (2 ^ k) (pow_pos k) (le_trans (le_of_eq (sym bound)) o.few))) (lit< tt))
    where
      cap : (t w : ℕ) → 0 < w → t + w ≤ 33554432 → t ≤ 33554431
      cap t w p h = omega arith

-- while the next digit has a weight there is one to come
record Open (n s p bit : ℕ) : Type 0 where
  k : ℕ
  found : Found n s p bit (suc k)

opened : (n s p bit : ℕ) → 0 < bit → Part n s p bit → Open n s p bit
opened n s p bit h o = go o.k o.found
  where
    go : (k : ℕ) → Found n s p bit k → Open n s p bit
    go zero f = absurd (no bit h f.weight)
      where
        no : (bit : ℕ) → 0 < bit → bit ≡ 0 → ⊥
        no bit h e = omega arith
    go (suc k) f = record { k = k; found = f }

-- and with none to come, p is the root
closed : (n s p bit : ℕ) → bit ≤ 0 → Part n s p bit → (p * p ≤ n) × (n < (p + 1) * (p + 1)) × (p < 2 ^ 25)
closed n s p bit h o = go o.k o.found
  where
    go : (k : ℕ) → Found n s p bit k → (p * p ≤ n) × (n < (p + 1) * (p + 1)) × (p < 2 ^ 25)
    go zero f = let q : p ≡ f.r = f.scaled ∙ mul-one f.r in rw q (f.low, f.high, omega (arith, f.few))
    go (suc k) f = absurd (no bit (2 ^ k) h (pow_pos k) (weighs n s p bit k f))
      where
        no : (bit w : ℕ) → bit ≤ 0 → 0 < w → bit ≡ w * w → ⊥
        no bit w h p e = omega (arith, mul-pos p p)

pub loop-bit-init : goal.loop-bit-init
loop-bit-init c = record { k = 25; found = record { r = 0; low = omega arith; high = c.requires; few = lit≤ tt; square = refl; scaled = refl; weight = refl } }

pub overflow_add-t : goal.overflow_add-t
overflow_add-t c =
    let here : let l = c.loop-bit in Open c.args.n l.s l.p l.bit =
    let l = c.loop-bit in opened c.args.n l.s l.p l.bit (omega arith) l.invariant in
    let sum : let l = c.loop-bit in l.s + l.p + l.bit < 2 ^ 50 =
    let l = c.loop-bit in room c.args.n l.s l.p l.bit here.k here.found in
    omega (arith, sum)

pub overflow_add-t-in-loop-bit : goal.overflow_add-t-in-loop-bit
overflow_add-t-in-loop-bit c =
    let here : let l = c.loop-bit in Open c.args.n l.s l.p l.bit =
    let l = c.loop-bit in opened c.args.n l.s l.p l.bit (omega arith) l.invariant in
    let sum : let l = c.loop-bit in l.s + l.p + l.bit < 2 ^ 50 =
    let l = c.loop-bit in room c.args.n l.s l.p l.bit here.k here.found in
    omega (arith, sum)

pub overflow_add-p : goal.overflow_add-p
overflow_add-p c =
    let here : let l = c.loop-bit in Open c.args.n l.s l.p l.bit =
    let l = c.loop-bit in opened c.args.n l.s l.p l.bit (omega arith) l.invariant in
    let sum : let l = c.loop-bit in l.s + l.p + l.bit < 2 ^ 50 =
    let l = c.loop-bit in room c.args.n l.s l.p l.bit here.k here.found in
    omega (arith, sum)

pub loop-bit-smaller : goal.loop-bit-smaller
loop-bit-smaller c = omega arith

pub loop-bit-preserved : goal.loop-bit-preserved
loop-bit-preserved c =
    let here : let l = c.loop-bit in Open c.args.n l.s l.p l.bit =
    let l = c.loop-bit in opened c.args.n l.s l.p l.bit (omega arith) l.invariant in
    let l = c.loop-bit in
    let n = c.args.n in
    let o = here in
    elim c.if-t-n.branch [
      | then-t-n w ↦ set n l.s l.p l.bit o.k o.found c.if-t-n.s c.if-t-n.p (omega (arith, w.s-is)) (omega (arith, w.p-is)) (omega (arith, w.if-t-n.true))
      | else-t-n w ↦ clear n l.s l.p l.bit o.k o.found c.if-t-n.s c.if-t-n.p (omega (arith, w.s-is)) (omega (arith, w.p-is)) (omega (arith, w.if-t-n.false))
    ]

pub returns : goal.returns
returns c =
    let l = c.loop-bit in closed c.args.n l.s l.p l.bit (omega arith) l.invariant
