use Rattle.std.proofs.Common.{◌≡◌, ◌++◌, ◌∷◌, ℕ, List, [], length, sym, ap, arith, ◌∙◌}
use Rattle.dl_num.specs.Fixed.{fixed}
use Rattle.dl_table.specs.declared.form.Format.TheVariants.{Dwarf32}
use Rattle.dl_head.proofs.OneFieldMore.{at_phase}
use Rattle.dl_head.proofs.EarlyFields.{started_short, starts_counts}
use Rattle.dl_head.proofs.reader.HeadReader.unit_length.Goals as goal

pub returns-in-Ok-2-clause-follows : goal.returns-in-Ok-2-clause-follows
returns-in-Ok-2-clause-follows c = record {
  made = λ items rest at.
      let a = at_phase c.args.self.now _ items rest c.requires at in
      let o = c.in-Ok.ensures in
      let w : rest ++ c.args.byte ∷ [] ≡ _ = ap (λ (l : List ℕ). l ++ c.args.byte ∷ []) (sym a.1) in
      started_short c.args.self.now _ c.in-Ok.length items (rest ++ c.args.byte ∷ []) _ a.0 (ap length w ∙ o.last ∙ a.2)
      (o.whole ∙ ap (λ (l : List ℕ). fixed c.args.self.now.dialect.order l) (sym w))
      (omega (arith, c.if-length-ge4294967280.false)) c.start_unit.ensures.follows;
  counts = starts_counts c.args.self.now _ Dwarf32 c.in-Ok.length _ c.start_unit.ensures.follows;
}
