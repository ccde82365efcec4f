-- `options::ratio` asks both ranges; within them one division is right. Assumes nothing.
use mathlib.Core.Path.{sym, ap, ◌∙◌}
use native.Mathlib.Omega.{arith}
use borrow.Author.Tests.{le-leb}
use lib.Ieee.{binary32, to_bits}
use Rattle.lists.proofs.Cases.{pick_true}
use Rattle.std.specs.Prelude.{Ok}
use Rattle.options.specs.Words.{ratio_of}
use Rattle.options.proofs.Tens.{tens, quotient}
use Rattle.options.proofs.ratio.Goals as goal

pub to_f32-requires-2 : goal.to_f32-requires-2
to_f32-requires-2 c = omega (arith, c.pow.ensures, tens c.args.k 7 c.if-k-gt7.false)

pub pow-requires : goal.pow-requires
pow-requires c = omega (arith, tens c.args.k 7 c.if-k-gt7.false)

pub returns : goal.returns
unfolding ratio_of
returns c = ap Ok (c.to_bits.ensures ∙ ap (to_bits binary32) (quotient c.args.n c.args.k c.pow.result c.if-n-gt16777216.false c.if-k-gt7.false c.pow.ensures c.to_f32.ensures c.to_f32-2.ensures)) ∙ sym (pick_true _ _ _ (le-leb _ _ c.if-k-gt7.false) ∙ pick_true _ _ _ (le-leb _ _ c.if-n-gt16777216.false))
