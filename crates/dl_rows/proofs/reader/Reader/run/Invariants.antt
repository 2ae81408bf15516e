use Rattle.std.proofs.Common.{◌≡◌, ◌≤◌, ℕ, List, length, false}
use Rattle.dl_rows.specs.ReaderStands.{StandsFor}
use Rattle.dl_rows.proofs.RunTurns.{Going}
use Rattle.dl_rows.proofs.reader.Reader.run.Given as goal

abbrev pub invariant-loop-turn : goal.invariant-loop-turn
invariant-loop-turn g l = record {
  within : l.run.taken ≤ length l.bytes;
  refusals : l.run.refused ≤ l.turn-index;
  goes : l.run.ended ≡ false;
  dialect : l.self.dialect ≡ l.fn.self.dialect;
  going : (b : List ℕ) → StandsFor l.fn.self b
      → Going g.L.Listener.heard l.fn.self.dialect b l.bytes l.turns l.turn-index l.run.taken l.run.refused
      l.fn.listener l.listener l.self;
}
