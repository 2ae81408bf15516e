use Rattle.std.proofs.Common.{refl, sym, ap, ◌∙◌}
use Rattle.dl_field.specs.Layout.{number_is, judged}
use Rattle.dl_head.proofs.OneFieldMore.{at_phase, byte_spelt}
use Rattle.dl_head.proofs.reader.HeadReader.byte_field.Goals as goal

pub returns-in-Some-clause-follows : goal.returns-in-Some-clause-follows
returns-in-Some-clause-follows c = record {
  made = λ items rest at.
      byte_spelt c.args.self.now c.args.field items rest c.args.byte
      (at_phase c.args.self.now _ items rest c.requires at)
      ∙ ap (λ o. judged o c.args.byte) (sym c.in-Some.ensures);
  counts = record { dialect = refl; start = refl; taken = refl; header = refl };
}

pub returns-clause-follows : goal.returns-clause-follows
returns-clause-follows c = record {
  made = λ items rest at. (
    number_is c.args.byte,
    byte_spelt c.args.self.now c.args.field items rest c.args.byte
        (at_phase c.args.self.now _ items rest c.requires at)
        ∙ ap (λ o. judged o c.args.byte) (sym c.in_default.ensures),
    c.store.ensures.at items rest at,
  );
  counts = c.store.ensures.counts;
}
