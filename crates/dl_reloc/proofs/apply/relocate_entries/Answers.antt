use Rattle.std.proofs.Common.{◌≡◌, ◌∙◌, ◌++◌, sym, ap, arith, Err}
use Rattle.std.proofs.lemmas.Result.{err_from_is_err_and}
use Rattle.dl_reloc.specs.Entries.{count}
use Rattle.dl_reloc.specs.Relocated.{applied_upto, relocated}
use Rattle.dl_reloc.proofs.AppliedLemmas.{entry_is, next_applied, relocated_to_fault}
use Rattle.dl_reloc.proofs.PartLemmas.{part_fault, parts_relocated}
use Rattle.dl_reloc.proofs.apply.relocate_entries.Goals as goal

pub returns-in_err-apply : goal.returns-in_err-apply
returns-in_err-apply c =
    let p = err_from_is_err_and c.from_residual.result c.from_residual.ensures.1 in
    let t = c.args.target.now in
    let form = c.args.form in
    let entries = c.args.entries.now in
    let symbols = c.args.symbols.now in
    let fault = c.in_err-apply.field-0.0 in
    let made : relocated t form entries symbols c.args.bytes.now ≡ Err fault =
    relocated_to_fault t form entries symbols c.loop-index.index c.count-index-end.result c.args.bytes.now
    c.loop-index.bytes c.read-entry.result fault c.loop-index-test.true
    (c.count-index-end.ensures ∙ ap (λ size. count size entries) c.entry_size-size.ensures.size)
    c.loop-index.invariant.made
    (entry_is t form entries c.loop-index.index c.entry_size-size.result c.item-entry.result.now
    c.read-entry.result c.entry_size-size.ensures.size c.item-entry.ensures.item c.read-entry.ensures)
    c.in_err-apply.ensures.made in
    record {
      made = rw (p.1, p.2) made;
      follows = λ before first whole is. rw (p.1, p.2) (λ rest.
          part_fault t form (before ++ entries) rest symbols first fault
          (parts_relocated t form before entries symbols first c.args.bytes.now whole is ∙ made));
    }

pub returns-clause-follows : goal.returns-clause-follows
returns-clause-follows c = λ before first whole is.
    let t = c.args.target.now in
    let form = c.args.form in
    let entries = c.args.entries.now in
    let symbols = c.args.symbols.now in
    let past : c.loop-index.index ≡ c.count-index-end.result =
    omega (arith, c.loop-index-test.false, c.loop-index.auto.index-end) in
    let all = past ∙ (c.count-index-end.ensures ∙ ap (λ size. count size entries) c.entry_size-size.ensures.size) in
    parts_relocated t form before entries symbols first c.args.bytes.now whole is
    ∙ (ap (λ k. applied_upto t form entries symbols k c.args.bytes.now) (sym all) ∙ c.loop-index.invariant.made)

pub loop-index-preserved : goal.loop-index-preserved
loop-index-preserved c = record {
  made = next_applied c.args.target.now c.args.form c.args.entries.now c.args.symbols.now c.loop-index.index
      c.args.bytes.now c.loop-index.bytes c.apply.new.bytes c.read-entry.result c.loop-index.invariant.made
      (entry_is c.args.target.now c.args.form c.args.entries.now c.loop-index.index c.entry_size-size.result
      c.item-entry.result.now c.read-entry.result c.entry_size-size.ensures.size c.item-entry.ensures.item
      c.read-entry.ensures) c.in_ok-apply.ensures.made;
  long = c.in_ok-apply.ensures.long;
}
