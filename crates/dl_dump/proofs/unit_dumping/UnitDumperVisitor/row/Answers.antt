use Rattle.std.proofs.Common.{◌++◌, ◌∷◌, [], Bool, refl, sym, ap}
use Rattle.std.specs.Prelude.{if◌then◌else◌}
use Rattle.dl_rows.specs.Items.{a_row}
use Rattle.dl_sections.specs.Section.{of_item}
use Rattle.dl_dump.specs.UnitDumping.{told_since}
use Rattle.dl_dump.proofs.UnitLemmas.{hears, or-false, passes}
use Rattle.dl_dump.proofs.unit_dumping.UnitDumperVisitor.row.Goals as goal

pub returns-then-not-self-clause-heard : goal.returns-then-not-self-clause-heard
returns-then-not-self-clause-heard g c first start visits showed =
    let v = of_item (a_row c.args.header.now c.args.row.now) in
    let self = c.args.self.now in
    passes showed self (g.W.Write.contents c.args.output.now) (v ∷ []) refl refl (sym (or-false self.has_begun)) refl refl refl refl
    (ap (λ (is : Bool). (if is then v ∷ [] else []) ++ []) c.if-not-self.true)

pub returns-clause-heard : goal.returns-clause-heard
returns-clause-heard g c first start visits showed =
    let v = of_item (a_row c.args.header.now c.args.row.now) in
    let self = c.args.self.now in
    hears showed (record self { dumper = c.row.new.self }) (g.W.Write.contents c.row.new.output) (v ∷ [])
    c.row.result (c.if-not-self.false, tt) refl refl refl (sym (or-false self.has_begun)) refl refl
    (c.row.ensures.heard first.dumper start (told_since first visits) showed.told.shown)
