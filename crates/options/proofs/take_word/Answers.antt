-- `options::take_word` asks for each beginning in turn. Assumes nothing.
use Prim.Native.Nat.{ℕ}
use mathlib.Core.Path.{◌≡◌, sym, ◌∙◌}
use mathlib.Core.Bool.{Bool, true, false}
use mathlib.Core.List.{List}
use lib.Dec.{eqb}
use Rattle.std.specs.Prelude.{codes}
use Rattle.std.specs.List.{starts_with}
use Rattle.std.proofs.lemmas.Result.{err_from_is_err_and}
use Rattle.lists.proofs.Cases.{pick_true, pick_false}
use Rattle.options.specs.declared.Options.{Options}
use Rattle.options.specs.Words.{begins, whole_of, on_value, with_passes, with_filter, with_edge, other_of, word_of}
use Rattle.options.proofs.Prefix.{begins_is}
use Rattle.options.proofs.Values.{no_value, a_value}
use Rattle.options.proofs.take_word.Goals as goal

-- the four beginnings
abbrev to_eps : List ℕ
to_eps = codes "--eps="

abbrev to_passes : List ℕ
to_passes = codes "--max-iter="

abbrev to_filter : List ℕ
to_filter = codes "--filter="

abbrev to_edge : List ℕ
to_edge = codes "--edge="

begun : (s p : List ℕ) {r t : Bool} → r ≡ starts_with eqb s p → r ≡ t → begins s p ≡ t
begun s p e h = sym (begins_is s p) ∙ sym e ∙ h

-- a word by the first beginning that it has
module _ (o : Options) (s : List ℕ) where
  module _ (a : begins s to_eps ≡ false) where
    by_passes : begins s to_passes ≡ true → word_of o s ≡ on_value (whole_of s 11 4294967295) (with_passes o)
    unfolding word_of
    by_passes b = pick_false _ _ _ a ∙ pick_true _ _ _ b

    module _ (b : begins s to_passes ≡ false) where
      by_filter : begins s to_filter ≡ true → word_of o s ≡ on_value (whole_of s 9 65535) (with_filter o)
      unfolding word_of
      by_filter d = pick_false _ _ _ a ∙ pick_false _ _ _ b ∙ pick_true _ _ _ d

      module _ (d : begins s to_filter ≡ false) where
        by_edge : begins s to_edge ≡ true → word_of o s ≡ on_value (whole_of s 7 4294967295) (with_edge o)
        unfolding word_of
        by_edge e = pick_false _ _ _ a ∙ pick_false _ _ _ b ∙ pick_false _ _ _ d ∙ pick_true _ _ _ e

        by_none : begins s to_edge ≡ false → word_of o s ≡ other_of s
        unfolding word_of
        by_none e = pick_false _ _ _ a ∙ pick_false _ _ _ b ∙ pick_false _ _ _ d ∙ pick_false _ _ _ e

pub returns-in_err-passes : goal.returns-in_err-passes
returns-in_err-passes c =
    let s = c.args.s.now in
    let p = err_from_is_err_and c.from_residual-in_err-passes.result c.from_residual-in_err-passes.ensures.1 in
    let a = begun s to_eps c.starts_with.ensures.value c.if-starts_with.false in
    let w = by_passes c.args.o s a (begun s to_passes c.starts_with-2.ensures.value c.if-starts_with-2.true) in
    rw (p.1, p.2) (no_value (with_passes c.args.o) c.whole.ensures _ c.in_err-passes.was ∙ sym w)

pub returns-then-starts_with-2 : goal.returns-then-starts_with-2
returns-then-starts_with-2 c =
    let s = c.args.s.now in
    let a = begun s to_eps c.starts_with.ensures.value c.if-starts_with.false in
    let w = by_passes c.args.o s a (begun s to_passes c.starts_with-2.ensures.value c.if-starts_with-2.true) in
    a_value (with_passes c.args.o) c.whole.ensures _ c.in_ok-passes.was ∙ sym w

pub returns-in_err-filter : goal.returns-in_err-filter
returns-in_err-filter c =
    let s = c.args.s.now in
    let p = err_from_is_err_and c.from_residual-in_err-filter.result c.from_residual-in_err-filter.ensures.1 in
    let a = begun s to_eps c.starts_with.ensures.value c.if-starts_with.false in
    let b = begun s to_passes c.starts_with-2.ensures.value c.if-starts_with-2.false in
    let w = by_filter c.args.o s a b (begun s to_filter c.starts_with-3.ensures.value c.if-starts_with-3.true) in
    rw (p.1, p.2) (no_value (with_filter c.args.o) c.whole-then-starts_with-3.ensures _ c.in_err-filter.was ∙ sym w)

pub returns-then-starts_with-3 : goal.returns-then-starts_with-3
returns-then-starts_with-3 c =
    let s = c.args.s.now in
    let a = begun s to_eps c.starts_with.ensures.value c.if-starts_with.false in
    let b = begun s to_passes c.starts_with-2.ensures.value c.if-starts_with-2.false in
    let w = by_filter c.args.o s a b (begun s to_filter c.starts_with-3.ensures.value c.if-starts_with-3.true) in
    a_value (with_filter c.args.o) c.whole-then-starts_with-3.ensures _ c.in_ok-filter.was ∙ sym w

pub returns-in_err-edge : goal.returns-in_err-edge
returns-in_err-edge c =
    let s = c.args.s.now in
    let p = err_from_is_err_and c.from_residual-in_err-edge.result c.from_residual-in_err-edge.ensures.1 in
    let a = begun s to_eps c.starts_with.ensures.value c.if-starts_with.false in
    let b = begun s to_passes c.starts_with-2.ensures.value c.if-starts_with-2.false in
    let d = begun s to_filter c.starts_with-3.ensures.value c.if-starts_with-3.false in
    let w = by_edge c.args.o s a b d (begun s to_edge c.starts_with-4.ensures.value c.if-starts_with-4.true) in
    rw (p.1, p.2) (no_value (with_edge c.args.o) c.whole-then-starts_with-4.ensures _ c.in_err-edge.was ∙ sym w)

pub returns-then-starts_with-4 : goal.returns-then-starts_with-4
returns-then-starts_with-4 c =
    let s = c.args.s.now in
    let a = begun s to_eps c.starts_with.ensures.value c.if-starts_with.false in
    let b = begun s to_passes c.starts_with-2.ensures.value c.if-starts_with-2.false in
    let d = begun s to_filter c.starts_with-3.ensures.value c.if-starts_with-3.false in
    let w = by_edge c.args.o s a b d (begun s to_edge c.starts_with-4.ensures.value c.if-starts_with-4.true) in
    a_value (with_edge c.args.o) c.whole-then-starts_with-4.ensures _ c.in_ok-edge.was ∙ sym w

pub returns : goal.returns
returns c =
    let s = c.args.s.now in
    let a = begun s to_eps c.starts_with.ensures.value c.if-starts_with.false in
    let b = begun s to_passes c.starts_with-2.ensures.value c.if-starts_with-2.false in
    let d = begun s to_filter c.starts_with-3.ensures.value c.if-starts_with-3.false in
    c.other.ensures ∙ sym (by_none c.args.o s a b d (begun s to_edge c.starts_with-4.ensures.value c.if-starts_with-4.false))
