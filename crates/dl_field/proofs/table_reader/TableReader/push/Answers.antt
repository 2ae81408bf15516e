use Rattle.std.proofs.Common.{[], ◌∷◌, ◌++◌}
use Rattle.dl_field.proofs.PairLemmas.{table_at}
use Rattle.dl_field.proofs.ByteCells.{adds_number, adds_form}
use Rattle.dl_field.proofs.table_reader.TableReader.push.Goals as goal

pub returns-in-PairCount-clause-follows : goal.returns-in-PairCount-clause-follows
returns-in-PairCount-clause-follows c = record {
  made = λ going next layout rest at. c.pair_count.ensures.made c.args.order c.args.format next layout rest at;
  cells = λ going next layout rest at.
      let a = table_at c.args.order c.args.self.now _ c.args.format next layout rest c.in-PairCount.is at in
      adds_number c.args.order c.args.self.now c.pair_count.new.self _ _ layout rest (rest ++ c.args.byte ∷ [])
      c.pair_count.result a.1 c.pair_count.ensures.cells;
}

pub returns-in-ContentCode-clause-follows : goal.returns-in-ContentCode-clause-follows
returns-in-ContentCode-clause-follows c = record {
  made = λ going next layout rest at. c.content_code.ensures.made c.args.order c.args.format next layout rest at;
  cells = λ going next layout rest at.
      let a = table_at c.args.order c.args.self.now _ c.args.format next layout rest c.in-ContentCode.is at in
      adds_number c.args.order c.args.self.now c.content_code.new.self _ _ layout rest (rest ++ c.args.byte ∷ [])
      c.content_code.result a.1 c.content_code.ensures.cells;
}

pub returns-in-FormCode-clause-follows : goal.returns-in-FormCode-clause-follows
returns-in-FormCode-clause-follows c = record {
  made = λ going next layout rest at. c.form_code.ensures.made c.args.order c.args.format next layout rest at;
  cells = λ going next layout rest at.
      let a = table_at c.args.order c.args.self.now _ c.args.format next layout rest c.in-FormCode.is at in
      adds_form c.args.order c.args.self.now c.form_code.new.self c.args.format next _ layout rest
      (rest ++ c.args.byte ∷ []) c.form_code.result a.1
      (c.form_code.ensures.made c.args.order c.args.format next layout rest at) c.form_code.ensures.cells;
}

pub returns-in-EntryCount-clause-follows : goal.returns-in-EntryCount-clause-follows
returns-in-EntryCount-clause-follows c = record {
  made = λ going next layout rest at. c.entry_count.ensures.made c.args.order next layout rest at;
  cells = λ going next layout rest at.
      let a = table_at c.args.order c.args.self.now _ c.args.format next layout rest c.in-EntryCount.is at in
      adds_number c.args.order c.args.self.now c.entry_count.new.self _ _ layout rest (rest ++ c.args.byte ∷ [])
      c.entry_count.result a.1 c.entry_count.ensures.cells;
}
