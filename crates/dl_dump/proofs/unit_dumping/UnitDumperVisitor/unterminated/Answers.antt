use Rattle.std.proofs.Common.{◌++◌, ◌∷◌, [], Bool, refl, sym, ap}
use Rattle.std.specs.Prelude.{if◌then◌else◌}
use Rattle.dl_sections.specs.Section.{of_open}
use Rattle.dl_dump.specs.UnitDumping.{told_since}
use Rattle.dl_dump.proofs.UnitLemmas.{hears, or-false, passes}
use Rattle.dl_dump.proofs.unit_dumping.UnitDumperVisitor.unterminated.Goals as goal

pub returns-then-not-self-clause-heard : goal.returns-then-not-self-clause-heard
returns-then-not-self-clause-heard g c first start visits showed =
    let v = of_open in
    let self = c.args.self.now in
    passes showed self (g.W.Write.contents c.args.output.now) (v ∷ []) refl refl (sym (or-false self.has_begun)) refl refl refl refl
    (ap (λ (is : Bool). (if is then v ∷ [] else []) ++ []) c.if-not-self.true)

pub returns-clause-heard : goal.returns-clause-heard
returns-clause-heard g c first start visits showed =
    let v = of_open in
    let self = c.args.self.now in
    hears showed (record self { dumper = c.unterminated.new.self }) (g.W.Write.contents c.unterminated.new.output) (v ∷ [])
    c.unterminated.result (c.if-not-self.false, tt) refl refl refl (sym (or-false self.has_begun)) refl refl
    (c.unterminated.ensures.heard first.dumper start (told_since first visits) showed.told.shown)
