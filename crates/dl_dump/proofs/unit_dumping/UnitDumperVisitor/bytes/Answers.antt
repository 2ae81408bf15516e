use Rattle.std.proofs.Common.{◌∙◌, ◌||◌, Bool, refl, sym, ap}
use Rattle.std.specs.Prelude.{map}
use Rattle.dl_rows.specs.Items.{a_byte}
use Rattle.dl_sections.specs.Visiting.{as_run}
use Rattle.dl_dump.specs.UnitCommand.{visits_of}
use Rattle.dl_dump.specs.UnitDumping.{told_since}
use Rattle.dl_dump.proofs.ShowingLemmas.{byte_visits}
use Rattle.dl_dump.proofs.UnitLemmas.{begins_no_item, each_item, ends_item, hears, no_item, no_item_damage, or-false, over_no_item, passes}
use Rattle.dl_dump.proofs.unit_dumping.UnitDumperVisitor.bytes.Goals as goal

pub returns-then-not-self-clause-heard : goal.returns-then-not-self-clause-heard
returns-then-not-self-clause-heard g c first start visits showed =
    let self = c.args.self.now in
    let items = map a_byte c.args.bytes.now in
    let more = byte_visits c.args.bytes.now in
    passes showed self (g.W.Write.contents c.args.output.now) more refl (sym (ends_item self.unit self.is_current items))
    (sym (ap (λ (b : Bool). self.has_begun || b) (begins_no_item self.unit items) ∙ or-false self.has_begun)) refl
    (over_no_item self.unit self.has_begun items) refl refl
    (ap (λ (is : Bool). visits_of self.unit is more) c.if-not-self.true ∙ no_item self.unit items)

pub returns-clause-heard : goal.returns-clause-heard
returns-clause-heard g c first start visits showed =
    let self = c.args.self.now in
    let items = map a_byte c.args.bytes.now in
    let more = byte_visits c.args.bytes.now in
    hears showed (record self { dumper = c.bytes.new.self }) (g.W.Write.contents c.bytes.new.output) more
    (as_run c.bytes.result) (each_item self.unit self.is_current c.if-not-self.false items) (no_item_damage items) refl
    (sym (ends_item self.unit self.is_current items))
    (sym (ap (λ (b : Bool). self.has_begun || b) (begins_no_item self.unit items) ∙ or-false self.has_begun)) refl
    (over_no_item self.unit self.has_begun items)
    (c.bytes.ensures.heard first.dumper start (told_since first visits) showed.told.shown)
