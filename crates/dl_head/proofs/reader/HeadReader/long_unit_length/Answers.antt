use Rattle.std.proofs.Common.{◌∙◌}
use Rattle.dl_table.specs.declared.form.Format.TheVariants.{Dwarf64}
use Rattle.dl_head.proofs.OneFieldMore.{at_phase}
use Rattle.dl_head.proofs.EarlyFields.{started_long, starts_counts}
use Rattle.dl_head.proofs.reader.HeadReader.long_unit_length.Goals as goal

pub returns-in-Ok-clause-follows : goal.returns-in-Ok-clause-follows
returns-in-Ok-clause-follows c = record {
  made = λ items rest at.
      let a = at_phase c.args.self.now _ items rest c.requires at in
      let o = c.in-Ok.ensures in
      started_long c.args.self.now _ c.in-Ok.length items rest _ c.args.byte _ a.0 a.1 (o.last ∙ a.2) o.whole
      c.start_unit.ensures.follows;
  counts = starts_counts c.args.self.now _ Dwarf64 c.in-Ok.length _ c.start_unit.ensures.follows;
}
