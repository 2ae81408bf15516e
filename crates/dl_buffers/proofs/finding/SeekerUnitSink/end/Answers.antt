use Rattle.std.proofs.Common.{◌≡◌, None, refl, sym, ◌∙◌, [], subst}
use Rattle.dl_look.specs.declared.place.Place.{Place}
use Rattle.dl_look.specs.FinderRows.{StandsFor}
use Rattle.dl_look.specs.Answer.{answer}
use Rattle.dl_sections.specs.InMemory.{UnitTold}
use Rattle.dl_buffers.proofs.FindLemmas.{all_push}
use Rattle.dl_buffers.proofs.finding.SeekerUnitSink.end.Goals as goal

pub returns-in_default : goal.returns-in_default
returns-in_default c first units rows looks = record {
  place = looks.place;
  found = looks.found;
  none = all_push (λ (t : UnitTold). answer t.rows first.place ≡ None) units _ looks.none
      (sym (c.answer.ensures first.place rows looks.stands) ∙ c.in_default.is);
  stands = subst (λ (x : Place). StandsFor c.new-self.result x []) looks.place c.new-self.ensures;
}

pub returns : goal.returns
returns c first units rows looks = record {
  before = units;
  last = record { unit = c.args.unit; rows = rows };
  whole = refl;
  none = looks.none;
  row = c.in-Some.row;
  answers = sym (c.answer.ensures first.place rows looks.stands) ∙ c.in-Some.is;
  found = refl;
}
