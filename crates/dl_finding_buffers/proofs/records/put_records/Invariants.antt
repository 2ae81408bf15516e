-- The records so far stand in the room.
use Rattle.std.proofs.Common.{◌≡◌, List}
use Rattle.dl_buffers.specs.UnitCalls.{written_over}
use Rattle.dl_findings.specs.declared.finding.Finding.{Finding}
use Rattle.dl_finding_buffers.proofs.RecordLemmas.{records_upto, text_of}
use Rattle.dl_finding_buffers.proofs.records.put_records.Given as goal

abbrev pub invariant-loop-number : goal.invariant-loop-number
invariant-loop-number l = record {
  room : (found : List Finding) → l.text ≡ text_of found → l.room ≡ written_over l.initial.room (records_upto l.number found);
}
