use Rattle.std.proofs.Common.{ap, refl}
use Rattle.dl_sections.specs.Section.{of_header}
use Rattle.dl_dump.specs.declared.range_dumping.RangeDumper.{RangeDumper}
use Rattle.dl_dump.proofs.RangeLemmas.{goes_on_one, not_both, nothing_printed}
use Rattle.dl_dump.proofs.range_dumping.RangeDumperVisitor.header.Goals as goal

pub returns-clause-heard : goal.returns-clause-heard
returns-clause-heard g c first start visits ranged =
    let old = c.args.self.now in
    let out = g.W.Write.contents c.args._output.now in
    let others = c.begin.ensures.others in
    let whole = ap (λ (d : RangeDumper g.row.M.Denot g.row.D.Denot). d.is_refused) others in
    goes_on_one ranged (record c.begin.new.self { at = c.at_program-self.result }) out
    (of_header c.args.offset c.args.lengths c.args.header.now)
    (rw others (nothing_printed out old.printer.now _ refl))
    (rw others refl) (rw others refl) refl (rw others refl) (rw others refl)
    (record {
      at = c.at_program-self.ensures;
      unit = ap (λ (d : RangeDumper g.row.M.Denot g.row.D.Denot). d.unit) others;
      whole = λ e. c.begin.ensures.none;
      refused = λ e. absurd (not_both c.begin.new.self.is_refused whole e);
    })
