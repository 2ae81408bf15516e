use Rattle.std.proofs.Common.{◌∙◌, ◌*◌, ◌<◌, ◌++◌, ◌∷◌, [], List, ℕ, ap, arith, drop, length, map, sym, take}
use Rattle.std.proofs.lemmas.List.{take_all}
use Rattle.dl_buffers.proofs.RoomLemmas.{over_none}
use Rattle.dl_buffers.specs.UnitCalls.{written_over}
use Rattle.dl_findings.specs.FindingRecord.{finding_record}
use Rattle.dl_findings.specs.declared.finding.Finding.{Finding}
use Rattle.dl_finding_buffers.proofs.RecordLemmas.{any_finding, count_of, record_of, records_count, records_more, records_upto}
use Rattle.dl_finding_buffers.proofs.records.put_records.Goals as goal

pub loop-number-init : goal.loop-number-init
loop-number-init c = record { room = λ found is. over_none c.args.room.now }

pub loop-number-preserved : goal.loop-number-preserved
loop-number-preserved c =
    let l = c.loop-number in
    record {
      room = λ found is.
          let count = count_of found (length c.args.text.now) (ap length is) in
          let lt : l.number < length found = omega (arith, c.loop-number-test.true, count) in
          let before = records_upto l.number found in
          c.put.ensures c.args.room.now before (l.invariant.room found is) (records_count found l.number lt)
          ∙ ap (λ (x : List ℕ). written_over c.args.room.now (before ++ x ∷ []))
          (c.record_at.ensures ∙ ap (λ (t : List ℕ). take 72 (drop (l.number * 72) t)) is ∙ record_of found l.number any_finding lt)
          ∙ ap (written_over c.args.room.now) (sym (records_more found l.number any_finding lt));
    }

pub returns-clause-written : goal.returns-clause-written
returns-clause-written c found is =
    let l = c.loop-number in
    let count = count_of found (length c.args.text.now) (ap length is) in
    l.invariant.room found is
    ∙ ap (λ (fs : List Finding). written_over c.args.room.now (map finding_record fs))
    (take_all l.number found (omega (arith, c.loop-number-test.false, count)))

pub returns-clause-count : goal.returns-clause-count
returns-clause-count c found is = count_of found (length c.args.text.now) (ap length is)
