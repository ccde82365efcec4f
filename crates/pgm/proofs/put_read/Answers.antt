-- `pgm::put_read` asks for room, and then whether each pixel is right. Assumes nothing.
use Prim.Native.Nat.{ℕ, ◌+◌, ◌*◌, ◌≤◌}
use mathlib.Core.Path.{◌≡◌, sym, ap, ◌∙◌}
use mathlib.Core.List.{List}
use native.Mathlib.Omega.{arith}
use borrow.Author.Tests.{lt-ltb, le-ltb}
use lib.ListN.{length}
use Rattle.std.specs.Prelude.{Result, Ok}
use Rattle.std.proofs.lemmas.Result.{err_from_is_err_and}
use Rattle.lists.specs.Lists.{put}
use Rattle.lists.proofs.Cases.{pick_true, pick_false}
use Rattle.lists.proofs.Put.{put_none}
use Rattle.encode.specs.Bytes.{head_bytes}
use Rattle.encode.proofs.Pieces.{area}
use Rattle.pgm.specs.declared.Header.{Header}
use Rattle.pgm.specs.declared.Fault.{Fault}
use Rattle.pgm.specs.Frame.{gray_pixels_of, fault_of, unless_fault, made_of, record_of}
use Rattle.pgm.proofs.Record.{put_all}
use Rattle.pgm.proofs.put_read.Goals as goal

-- with room for all
module _ (s xs : List ℕ) (p : Header) (h : 10 + p.w * p.h ≤ length xs) where
  by_fault : {f : Result (Unit {0}) Fault} → fault_of p.is_plain p.max s p.at (p.w * p.h) ≡ f → unless_fault (10 + p.w * p.h) f ≡ made_of s (length xs) (Ok p)
  unfolding made_of
  by_fault e = sym (pick_false _ _ _ (le-ltb _ _ h) ∙ ap (unless_fault (10 + p.w * p.h)) e)

  put_behind : {ys zs : List ℕ} → ys ≡ put xs 0 (head_bytes p.w p.h) → zs ≡ put ys 10 (gray_pixels_of p.is_plain p.max s p.at (p.w * p.h)) → zs ≡ put xs 0 (record_of s (length xs) (Ok p))
  unfolding record_of
  put_behind a b =
      b
      ∙ ap (λ (z : List ℕ). put z 10 (gray_pixels_of p.is_plain p.max s p.at (p.w * p.h))) a
      ∙ put_all p.is_plain p.max s xs p.w p.h p.at h
      ∙ sym (ap (put xs 0) (pick_false _ _ _ (le-ltb _ _ h)))

pub overflow_mul-n : goal.overflow_mul-n
overflow_mul-n c = record { fits = omega (arith, area c.args.header.w c.args.header.h c.requires.0 c.requires.1) }

pub overflow_add-n : goal.overflow_add-n
overflow_add-n c = record { fits = omega (arith, area c.args.header.w c.args.header.h c.requires.0 c.requires.1) }

pub returns-then-out-n : goal.returns-then-out-n
unfolding made_of record_of
returns-then-out-n c =
    let xs = c.args.out.now in
    let short = lt-ltb _ _ c.if-out-n.true in
    record { value = sym (pick_true _ _ _ short); out_after = sym (ap (put xs 0) (pick_true _ _ _ short) ∙ put_none xs 0) }

pub returns-in_err-put_pixels : goal.returns-in_err-put_pixels
returns-in_err-put_pixels c =
    let a = c.args in
    let p = err_from_is_err_and c.from_residual.result c.from_residual.ensures.1 in
    record {
      value = rw (p.1, p.2) (by_fault a.s.now a.out.now a.header c.if-out-n.false (sym c.put_pixels.ensures.0 ∙ c.in_err-put_pixels.was));
      out_after = put_behind a.s.now a.out.now a.header c.if-out-n.false c.put_head.ensures c.put_pixels.ensures.1;
    }

pub returns : goal.returns
returns c =
    let a = c.args in
    record {
      value = by_fault a.s.now a.out.now a.header c.if-out-n.false (sym c.put_pixels.ensures.0 ∙ c.in_ok-put_pixels.was);
      out_after = put_behind a.s.now a.out.now a.header c.if-out-n.false c.put_head.ensures c.put_pixels.ensures.1;
    }
