use Rattle.dl_buffers.proofs.gathering.GathererUnitSink.row.Goals as goal

pub returns : goal.returns
returns c first units rows so = record {
  same_rows = so.same_rows;
  same_units = so.same_units;
  stand = λ addresses stands. c.row.ensures.stand _ _ rows (so.stand addresses stands);
  told = so.told;
}
