-- A file read into a buffer: what the buffer holds after each read, by what the read answered. Definitions only.
use Rattle.std.specs.Prelude.{ℕ, ◌+◌, ◌-◌, ◌≤◌, ◌≡◌, eqb, ℤ, pos, negsuc, Option, Some, None, Result, Ok, Err}
use Rattle.lists.specs.Marked.{pick}
use Rattle.files.specs.declared.Failed.{Failed}

-- what a read that is handed room for n bytes may answer: -1, or how many bytes it moved, at most n
abbrev pub Moved : ℕ → ℤ → Type 0
Moved n (pos k) = k ≤ n
Moved n (negsuc k) = k ≡ 0

-- what a read answers, as a number: -1 where it failed
abbrev pub answer_of : {E : Type 0} → Result ℕ E → ℤ
answer_of (Ok k) = pos k
answer_of (Err e) = negsuc 0

-- a file as it is read: so many bytes are held and another read follows, or no read follows
pub data Filled : Type 0 where
  Going : ℕ → Filled
  Over : Result ℕ Failed → Filled

-- n bytes in a buffer of so many, and all reads went well: no read follows where it is full
abbrev pub held_of : ℕ → ℕ → Filled
held_of size n = pick (eqb n size) (Over (Ok n)) (Going n)

-- before the first read, with a buffer of so many bytes: one of none is full
abbrev pub empty_of : ℕ → Filled
empty_of size = held_of size 0

-- after a read behind n bytes. A negative answer: it failed. 0: the file has ended. Else so many bytes have come
unfoldable pub after_read : ℕ → ℤ → Result (Option ℕ) Failed
after_read n (negsuc k) = Err (record { count = n })
after_read n (pos k) = pick (eqb k 0) (Ok None) (Ok (Some (n + k)))

-- as the buffer holds it then
abbrev pub filled_of : ℕ → ℕ → Result (Option ℕ) Failed → Filled
filled_of size n (Err e) = Over (Err e)
filled_of size n (Ok None) = Over (Ok n)
filled_of size n (Ok (Some m)) = held_of size m

-- one read more behind n bytes of a buffer of so many: the system's answer is one that its own contract admits
pub record Grown (size n : ℕ) (r : Result (Option ℕ) Failed) : Type 0 where
  pub got : ℤ
  pub moved : Moved (size - n) got
  pub after : r ≡ after_read n got

-- what reads, one after another, can make of a buffer of so many bytes: none follows where it is over
pub data Gathered (size : ℕ) : Filled → Type 0 where
  no_read : Gathered size (empty_of size)
  one_more : {n : ℕ} {r : Result (Option ℕ) Failed} → Gathered size (Going n) → Grown size n r → Gathered size (filled_of size n r)

-- how many bytes are held where it is over
abbrev pub count_of : Result ℕ Failed → ℕ
count_of (Ok n) = n
count_of (Err e) = e.count
