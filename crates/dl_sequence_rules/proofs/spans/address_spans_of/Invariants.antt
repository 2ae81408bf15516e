use Rattle.std.proofs.Common.{◌≡◌, ◌≤◌, length, take, vec_capacity}
use Rattle.dl_sequence_rules.specs.Cutting.{address_spans_of}
use Rattle.dl_sequence_rules.proofs.spans.address_spans_of.Given as goal

abbrev pub invariant-loop-sequence : goal.invariant-loop-sequence
invariant-loop-sequence g l =
    record {
      so_far : l.spans.items ≡ address_spans_of (take l.sequence-index l.sequences);
      capacity : length l.sequences ≤ vec_capacity l.spans;
    }
