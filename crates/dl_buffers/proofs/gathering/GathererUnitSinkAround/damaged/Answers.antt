use Rattle.dl_buffers.proofs.gathering.GathererUnitSinkAround.damaged.Goals as goal

pub returns : goal.returns
returns c first units rows so = record {
  same_rows = so.same_rows;
  same_units = so.same_units;
  stand = λ addresses stands. c.forget_unit.ensures.stand _ _ rows (so.stand addresses stands);
  told = so.told;
}
