use Rattle.std.proofs.Common.{◌≡◌, ◌+◌, ◌-◌, ◌∙◌, sym, arith}
use Rattle.dl_reloc.specs.Changes.{change_size}
use Rattle.dl_reloc.proofs.AppliedLemmas.{entry_applied, entry_outside, entry_without_symbol}
use Rattle.dl_reloc.proofs.apply.apply_change.Goals as goal

pub returns : goal.returns
returns c =
    let at = c.in-Some.at in
    let size = c.size-size.result in
    let told = c.size-size.ensures.size in
    let within = c.in-Some.ensures in
    let width : at + size - at ≡ change_size c.args.change = omega (arith, told) in
    entry_applied c.args.target.now c.args.symbols.now c.args.entry.now c.args.bytes.now c.args.change
    c.in-Some-symbol_value.value at (at + size - at) c.change_place.new.place
    (λ none. c.if-size-eq0.false (told ∙ none)) (rw (← told) within.1)
    (sym c.symbol_value.ensures ∙ c.in-Some-symbol_value.is) within.0 width c.change_place.ensures

pub returns-in_default : goal.returns-in_default
returns-in_default c =
    let told = c.size-size.ensures.size in
    entry_outside c.args.target.now c.args.symbols.now c.args.entry.now c.args.bytes.now c.args.change
    (λ none. c.if-size-eq0.false (told ∙ none))
    (rw (← told) c.in_default.ensures)

pub returns-in_default-symbol_value : goal.returns-in_default-symbol_value
returns-in_default-symbol_value c =
    let told = c.size-size.ensures.size in
    entry_without_symbol c.args.target.now c.args.symbols.now c.args.entry.now c.args.bytes.now c.args.change
    (λ none. c.if-size-eq0.false (told ∙ none))
    (rw (← told) c.in-Some.ensures.1) (sym c.symbol_value.ensures ∙ c.in_default-symbol_value.is)
