-- A line that is whole: what the code compares is what the definition says; and a line of no kind does not agree. Assumes nothing.
use Prim.Native.Nat.{ℕ, ◌+◌}
use mathlib.Core.Bool.{false}
use mathlib.Core.Path.{◌≡◌, sym, ap, ◌∙◌}
use mathlib.Core.List.{List}
use lib.ListN.{take}
use Rattle.words.specs.Words.{bytes_at}
use Rattle.vectors.specs.Kinds.{number_of}
use Rattle.vectors.specs.declared.kinds.Kind.{Kind}
use Rattle.vectors.specs.declared.kinds.Kind.TheVariants.{Call, Pins}
use Rattle.vectors.proofs.Tests.{and_passed, kind_none}
use Rattle.vectors.proofs.Runs.{take_bytes}
use Rattle.calls.specs.Calls.{called_agrees, Whole, call_agrees}
use Rattle.calls.specs.Pins.{call_table, calls_agree}
use Rattle.calls.specs.declared.Lengths.{Lengths}

pub call_told : (words : List ℕ) {n : Lengths} → Whole words n → {work marks : ℕ} {template input : List ℕ} →
    template ≡ bytes_at words 12 4200 → input ≡ bytes_at words (12 + n.template) 4200 → work ≡ n.work → marks ≡ n.marks →
    called_agrees words (12 + n.template + n.input) (take n.template template) (take n.input input) work marks ≡ call_agrees words
unfolding call_agrees
call_told words {n} whole {work} {marks} {template} {input} template_is input_is work_is marks_is =
    let f : take n.template template ≡ bytes_at words 12 n.template = ap (take n.template) template_is ∙ take_bytes words 12 n.template 4200 whole.template_fits in
    let g : take n.input input ≡ bytes_at words (12 + n.template) n.input = ap (take n.input) input_is ∙ take_bytes words (12 + n.template) n.input 4200 whole.input_fits in
    and_passed whole.is cc

pub no_kind : (number : ℕ) → ((kind : Kind) → number_of kind ≡ number → ⊥) → (words : List ℕ) → false ≡ calls_agree number words
unfolding calls_agree
no_kind number other words = kind_none number (call_table words) (λ e. other Call (sym e), (λ e. other Pins (sym e), tt))
