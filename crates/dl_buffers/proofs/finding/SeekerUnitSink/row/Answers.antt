use Rattle.dl_buffers.proofs.finding.SeekerUnitSink.row.Goals as goal

pub returns : goal.returns
returns c first units rows looks = record {
  place = looks.place;
  found = looks.found;
  none = looks.none;
  stands = c.row.ensures first.place rows looks.stands;
}
