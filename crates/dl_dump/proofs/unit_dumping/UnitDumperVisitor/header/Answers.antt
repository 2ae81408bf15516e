use Rattle.std.proofs.Common.{◌++◌, ◌∷◌, ◌∙◌, ◌||◌, [], Bool, refl, sym, ap, subst}
use Rattle.std.specs.Prelude.{◌==◌, if◌then◌else◌}
use Rattle.dl_sections.specs.Section.{of_header}
use Rattle.dl_dump.specs.declared.dumping.Dumper.{Dumper}
use Rattle.dl_dump.specs.declared.dumping.NoneTold.{NoneTold}
use Rattle.dl_dump.specs.declared.unit_dumping.UnitDumper.{UnitDumper}
use Rattle.dl_dump.specs.Dumping.{HasShown}
use Rattle.dl_dump.specs.UnitDumping.{none_heard, told_since}
use Rattle.dl_dump.proofs.UnitLemmas.{hears, or-false, passes}
use Rattle.dl_dump.proofs.unit_dumping.UnitDumperVisitor.header.Goals as goal

pub returns-then-not-self-clause-heard : goal.returns-then-not-self-clause-heard
returns-then-not-self-clause-heard g c first start visits showed =
    let v = of_header c.args.offset c.args.lengths c.args.header.now in
    let self = c.args.self.now in
    let current = ap (λ (u : UnitDumper). u.is_current) c.begin.ensures in
    passes showed c.begin.new.self (g.W.Write.contents c.args.output.now) (v ∷ [])
    (ap (λ (u : UnitDumper). u.unit) c.begin.ensures) current
    (ap (λ (u : UnitDumper). u.has_begun) c.begin.ensures
    ∙ ap (λ (b : Bool). self.has_begun || b) (sym (or-false (c.args.offset == self.unit))))
    (ap (λ (u : UnitDumper). u.damage) c.begin.ensures) refl (ap (λ (u : UnitDumper). u.dumper) c.begin.ensures) refl
    (ap (λ (is : Bool). (if is then v ∷ [] else []) ++ []) (sym current ∙ c.if-not-self.true))

pub returns-clause-heard : goal.returns-clause-heard
returns-clause-heard g c first start visits showed =
    let v = of_header c.args.offset c.args.lengths c.args.header.now in
    let self = c.args.self.now in
    let current = ap (λ (u : UnitDumper). u.is_current) c.begin.ensures in
    hears showed (record c.begin.new.self { dumper = c.header.new.self }) (g.W.Write.contents c.header.new.output) (v ∷ [])
    c.header.result (sym current ∙ c.if-not-self.false, tt) refl (ap (λ (u : UnitDumper). u.unit) c.begin.ensures) current
    (ap (λ (u : UnitDumper). u.has_begun) c.begin.ensures
    ∙ ap (λ (b : Bool). self.has_begun || b) (sym (or-false (c.args.offset == self.unit))))
    (ap (λ (u : UnitDumper). u.damage) c.begin.ensures) refl
    (c.header.ensures.heard first.dumper start (told_since first visits)
    (subst (λ (d : Dumper NoneTold). HasShown none_heard first.dumper d start (g.W.Write.contents c.args.output.now)
    (told_since first visits)) (sym (ap (λ (u : UnitDumper). u.dumper) c.begin.ensures)) showed.told.shown))
