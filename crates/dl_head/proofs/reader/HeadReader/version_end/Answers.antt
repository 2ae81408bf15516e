use Rattle.std.proofs.Common.{refl, ap, sym, ◌∙◌, inr}
use Rattle.dl_field.specs.Layout.{number_is}
use Rattle.dl_head.proofs.OneFieldMore.{at_phase}
use Rattle.dl_head.proofs.EarlyFields.{version_spelt, items_on, older_early}
use Rattle.dl_head.proofs.reader.HeadReader.version_end.Goals as goal

pub returns-then-version-eq5-clause-follows : goal.returns-then-version-eq5-clause-follows
returns-then-version-eq5-clause-follows c = record {
  made = λ items rest at.
      let a = at_phase c.args.self.now _ items rest c.requires at in (
        number_is c.version_of-version.result,
        version_spelt c.args.self.now items rest c.args.first c.args.byte _ a.0.items_are a.1
            c.version_of-version.ensures,
        (
          record {
            items_are = items_on items _ _ (number_is 5) a.0.items_are (ap number_is c.if-version-eq5.true);
            end = a.0.end;
            overrun = a.0.overrun;
            before = a.0.before;
          },
          refl,
          a.2.version,
        ),
      );
  counts = record { dialect = refl; start = refl; taken = refl; header = refl };
}

pub returns-in-Some-clause-follows : goal.returns-in-Some-clause-follows
returns-in-Some-clause-follows c = record {
  made = λ items rest at.
      let a = at_phase c.args.self.now _ items rest c.requires at in (
        number_is c.version_of-version.result,
        version_spelt c.args.self.now items rest c.args.first c.args.byte _ a.0.items_are a.1
            c.version_of-version.ensures,
        (
          older_early _ _ c.if-version-eq5.false (items_on items _ _ _ a.0.items_are refl) a.0.end a.0.overrun
              a.0.before,
          inr (record {
            other = c.if-version-eq5.false;
            size = sym c.older_size.ensures.value ∙ c.in-Some.is;
            segments = a.2.segments;
            operations = refl;
          }),
          c.new.ensures.empty,
          c.new.ensures.size ∙ c.offset_size.ensures,
        ),
      );
  counts = record { dialect = refl; start = refl; taken = refl; header = refl };
}

pub returns-in_default-clause-follows : goal.returns-in_default-clause-follows
returns-in_default-clause-follows c = record {
  made = λ items rest at.
      let a = at_phase c.args.self.now _ items rest c.requires at in (
        number_is c.version_of-version.result,
        version_spelt c.args.self.now items rest c.args.first c.args.byte _ a.0.items_are a.1
            c.version_of-version.ensures,
        (
          record {
            items_are = items_on items _ _ _ a.0.items_are refl;
            end = a.0.end;
            overrun = a.0.overrun;
            before = a.0.before;
          },
          c.if-version-eq5.false,
          sym c.older_size.ensures.value ∙ c.in_default.is,
        ),
      );
  counts = record { dialect = refl; start = refl; taken = refl; header = refl };
}
