-- `reader::refill` meets its contract: the bytes that were still to be used stand in front of those that were read. Assumes nothing.
use Prim.Native.Nat.{ℕ, ◌+◌, ◌-◌}
use mathlib.Core.Path.{◌≡◌, refl, sym, ap, subst, ◌∙◌}
use native.Mathlib.Omega.{arith}
use borrow.Author.Rules.{rules}
use borrow.Author.Tests.{ltb-true, ltb-false, lt-ltb, le-ltb}
use lib.Dec.{ltb}
use lib.ListN.{length, take, drop, length-drop}
use lib.Seq.{length-take-le}
use Rattle.lists.specs.Lists.{put}
use Rattle.lists.proofs.Cases.{choose}
use Rattle.lists.proofs.Put.{take_put_front}
use Rattle.ports.specs.Ports.{Came}
use Rattle.reader.proofs.refill.Goals as goal

-- something came exactly where the bytes at hand are more than before
more_came : (n m k : ℕ) → m ≡ n → ltb 0 k ≡ ltb n (m + k)
more_came n m k e = choose (ltb 0 k) (λ h. h ∙ sym (lt-ltb n (m + k) (omega (arith, e, ltb-true 0 k h)))) (λ h. h ∙ sym (le-ltb n (m + k) (omega (arith, e, ltb-false 0 k h))))

pub returns : goal.returns
returns g c =
    let a = c.args in
    let s = c.slide-n in
    let w = c.flush-put in
    let f = c.fetch-k in
    let xs = a.buf.now in
    let ys = f.new.buf in
    let n = a.run.end - a.run.at in
    let e : s.result ≡ n = s.ensures.0 in
    let b : f.result ≡ s.result + f.result - n = omega (arith, e) in
    let k : length (take n (drop a.run.at xs)) ≡ n = length-take-le n (drop a.run.at xs) (omega (arith, length-drop a.run.at xs)) in (
      search rules,
      record {
        size = omega (arith, f.ensures.size, s.auto.buf);
        room = omega arith;
        start = refl;
        grows = omega (arith, e);
        front =
            ap (λ (m : ℕ). take m ys) (sym e)
            ∙ f.ensures.front
            ∙ ap (take s.result) s.ensures.1
            ∙ ap (λ (m : ℕ). take m (put xs 0 (take m (drop a.run.at xs)))) e
            ∙ take_put_front xs (take n (drop a.run.at xs)) n k;
        came = subst (λ (i : ℕ). Came (take i (drop n ys))) b (subst (λ (m : ℕ). Came (take f.result (drop m ys))) e f.ensures.came);
        going = more_came n s.result f.result e;
        empty = w.ensures.0;
        state = refl;
      },
      w.ensures.1,
    )
