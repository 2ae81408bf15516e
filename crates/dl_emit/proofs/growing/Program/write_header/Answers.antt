use Rattle.std.proofs.Common.{◌∙◌, sym, ap, subst, arith, Ok, Err, ◌+◌, length}
use Rattle.std.proofs.lemmas.List.{length-take}
use Rattle.std.proofs.lemmas.Result.{err_from_is_err_and}
use Rattle.std.proofs.KnownBytes.{Keeps-refl}
use Rattle.dl_num.specs.declared.fixed.Order.{Order}
use Rattle.dl_field.specs.declared.params.Params.{Params}
use Rattle.dl_emit.specs.declared.fault.EmitFault.TheVariants as fault
use Rattle.dl_emit.specs.Grown.{ProgramData}
use Rattle.dl_head.specs.Writing.{WritesHeader}
use Rattle.dl_emit.proofs.ProgramLemmas.{refused_version}
use Rattle.dl_emit.proofs.GrownLemmas.{refuses_row, refuses_none, counts_all}
use Rattle.dl_emit.proofs.UnitLemmas.{refuses_header, header_written}
use Rattle.dl_head.specs.Dialect.{version_5}
use Rattle.dl_emit.proofs.ReadAgain.{unit_is_read_again}
use Rattle.dl_emit.proofs.growing.Program.write_header.Goals as goal

pub returns-then-params-ne5-clause-written : goal.returns-then-params-ne5-clause-written
returns-then-params-ne5-clause-written g c rows grown =
    refuses_header c.args.header.now rows c.args.self.now.order _ _ fault.Version
    (refused_version c.args.header.now.params rows
    (λ own. c.if-params-ne5.true (ap (λ (q : Params). q.version) c.params-params.ensures.value ∙ own))) (Keeps-refl _)

pub returns-then-params-ne13-clause-written : goal.returns-then-params-ne13-clause-written
returns-then-params-ne13-clause-written g c rows grown =
    absurd (c.if-params-ne13.true (ap (λ (q : Params). q.opcode_base) c.params-params.ensures.value ∙ grown.standard))

pub returns-in-Some-clause-written : goal.returns-in-Some-clause-written
returns-in-Some-clause-written g c rows grown =
    let is = ap (λ (p : ProgramData). p.refused) (sym c.self.view_is) ∙ c.in-Some.is in
    refuses_header c.args.header.now rows c.args.self.now.order _ _ (fault.RowRange c.in-Some.row)
    (refuses_row c.args.self.now c.args.header.now.params rows grown c.in-Some.row
    (ap (λ (q : Params). q.version) (sym c.params-params.ensures.value) ∙ c.if-params-ne5.false) is) (Keeps-refl _)

pub returns-in_err-write_header-clause-written : goal.returns-in_err-write_header-clause-written
returns-in_err-write_header-clause-written g c rows grown =
    let p = c.args.self.now in
    let h = c.args.header.now in
    let same = c.self.view_is in
    let none = ap (λ (p : ProgramData). p.refused) (sym same) ∙ c.in_default.is in
    let first = c.as_slice-first in
    let last = c.last_bytes-last in
    let m = length first.result.now + length last.result.now in
    let of_first = ap length (first.ensures.value ∙ ap (λ (p : ProgramData). p.first) same) in
    let of_last = ap length last.ensures in
    let len = counts_all p h.params rows grown none m (omega (arith, of_first, of_last))
    (omega (
      arith,
      first.ensures.len,
      of_last,
      length-take c.self.inside.held c.self.inside.last,
      ap (λ (p : ProgramData). length p.last) same,
      c.self.invariant.2,
    )) in
    let e = err_from_is_err_and c.from_residual.result c.from_residual.ensures.1 in
    let header =
    subst (λ (o : Order). WritesHeader o h m (g.W.Write.contents c.args.output.now)
    (g.W.Write.contents c.write_header.new.output) (Err c.in_err-write_header.field-0.0))
    (ap (λ (p : ProgramData). p.order) same) c.in_err-write_header.ensures.written in
    rw (e.1, e.2) (header_written h rows p.order _ _ m (Err c.in_err-write_header.field-0.0)
    (refuses_none p h.params rows grown none
    (ap (λ (q : Params). q.version) (sym c.params-params.ensures.value) ∙ c.if-params-ne5.false)) len header)

pub returns-clause-written : goal.returns-clause-written
returns-clause-written g c rows grown =
    let p = c.args.self.now in
    let h = c.args.header.now in
    let same = c.self.view_is in
    let none = ap (λ (p : ProgramData). p.refused) (sym same) ∙ c.in_default.is in
    let first = c.as_slice-first in
    let last = c.last_bytes-last in
    let m = length first.result.now + length last.result.now in
    let of_first = ap length (first.ensures.value ∙ ap (λ (p : ProgramData). p.first) same) in
    let of_last = ap length last.ensures in
    let len = counts_all p h.params rows grown none m (omega (arith, of_first, of_last))
    (omega (
      arith,
      first.ensures.len,
      of_last,
      length-take c.self.inside.held c.self.inside.last,
      ap (λ (p : ProgramData). length p.last) same,
      c.self.invariant.2,
    )) in
    let header =
    subst (λ (o : Order). WritesHeader o h m (g.W.Write.contents c.args.output.now)
    (g.W.Write.contents c.write_header.new.output) (Ok c.in_ok-write_header.field-0))
    (ap (λ (p : ProgramData). p.order) same) c.in_ok-write_header.ensures.written in
    header_written h rows p.order _ _ m (Ok c.in_ok-write_header.field-0)
    (refuses_none p h.params rows grown none
    (ap (λ (q : Params). q.version) (sym c.params-params.ensures.value) ∙ c.if-params-ne5.false)) len header

pub returns-clause-readable : goal.returns-clause-readable
returns-clause-readable g c rows grown =
    let h = c.args.header.now in
    let none = ap (λ (p : ProgramData). p.refused) (sym c.self.view_is) ∙ c.in_default.is in
    unit_is_read_again (version_5 c.args.self.now.order) h rows c.params-params.ensures.sound (grown.holds none).each
    (returns-clause-written g c rows grown).0
