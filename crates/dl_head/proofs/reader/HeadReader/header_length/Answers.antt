use Rattle.std.proofs.Common.{◌≡◌, ◌++◌, ◌∷◌, ℕ, List, [], length, sym, ap, ◌∙◌}
use Rattle.dl_num.specs.Fixed.{fixed}
use Rattle.dl_head.proofs.OneFieldMore.{at_phase}
use Rattle.dl_head.proofs.EarlyFields.{started_header, header_counts}
use Rattle.dl_head.proofs.reader.HeadReader.header_length.Goals as goal

pub returns-in-Ok-clause-follows : goal.returns-in-Ok-clause-follows
returns-in-Ok-clause-follows c = record {
  made = λ items rest at.
      let a = at_phase c.args.self.now _ items rest c.requires at in
      let o = c.in-Ok.ensures in
      let w : rest ++ c.args.byte ∷ [] ≡ _ = ap (λ (l : List ℕ). l ++ c.args.byte ∷ []) (sym a.2) in
      started_header c.args.self.now _ c.in-Ok.length items (rest ++ c.args.byte ∷ []) _ a.0 a.1
      (ap length w ∙ o.last ∙ a.3) (o.whole ∙ ap (λ (l : List ℕ). fixed c.args.self.now.dialect.order l) (sym w))
      c.start_header.ensures.follows;
  counts = header_counts c.args.self.now _ c.in-Ok.length _ c.start_header.ensures.follows;
}
