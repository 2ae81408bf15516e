use Rattle.std.proofs.Common.{◌≡◌, ◌∙◌, sym, Err}
use Rattle.std.proofs.lemmas.Result.{err_from_is_err_and}
use Rattle.dl_reloc.specs.Compact.{relocated_compact}
use Rattle.dl_reloc.proofs.CompactSteps.{begun, next_damaged, next_made, next_refused}
use Rattle.dl_reloc.proofs.apply.relocate_compact.Goals as goal

pub loop-init : goal.loop-init
loop-init c =
    let read = c.in-Some.ensures in
    record {
      made = begun c.args.target.now c.args.section.now c.args.symbols.now c.args.bytes.now c.in-Some.header
          c.before_all-entry.result c.in-Some.rest.now read.0 read.1 read.2 c.before_all-entry.ensures read.3;
      long = tt;
    }

pub loop-preserved : goal.loop-preserved
loop-preserved c = record {
  made = c.loop.invariant.made ∙ next_made c.args.target.now c.args.symbols.now c.in-Some.header c.loop.entry
      c.in-Some-next_entry.next c.loop.rest.now c.in-Some-next_entry.after.now c.loop.bytes c.apply.new.bytes
      c.in-Some.header.count c.loop.counter c.loop-test.true (sym c.in-Some-next_entry.ensures)
      c.in_ok-apply.ensures.made;
  long = c.in_ok-apply.ensures.long;
}

pub returns-in_err-apply : goal.returns-in_err-apply
returns-in_err-apply c =
    let p = err_from_is_err_and c.from_residual.result c.from_residual.ensures.1 in
    let fault = c.in_err-apply.field-0.0 in
    let made : relocated_compact c.args.target.now c.args.section.now c.args.symbols.now c.args.bytes.now ≡ Err fault =
    c.loop.invariant.made ∙ next_refused c.args.target.now c.args.symbols.now c.in-Some.header c.loop.entry
    c.in-Some-next_entry.next c.loop.rest.now c.in-Some-next_entry.after.now c.loop.bytes c.in-Some.header.count
    c.loop.counter fault c.loop-test.true (sym c.in-Some-next_entry.ensures) c.in_err-apply.ensures.made in
    rw (p.1, p.2) made

pub returns-in_default-next_entry : goal.returns-in_default-next_entry
returns-in_default-next_entry c =
    c.loop.invariant.made ∙ next_damaged c.args.target.now c.args.symbols.now c.in-Some.header c.loop.entry
    c.loop.rest.now c.loop.bytes c.in-Some.header.count c.loop.counter c.loop-test.true
    (sym c.in_default-next_entry.ensures)
