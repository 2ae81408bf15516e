use Rattle.std.proofs.Common.{◌≤◌, ◌∙◌, length, length-drop, drop, sym, ap, arith}
use Rattle.std.proofs.lemmas.Slice.{between_to_end}
use Rattle.dl_object.proofs.ProgramLemmas.{wanted_stays, other_passed, rest_stays}
use Rattle.dl_object.proofs.PassedOver.{passed_in}
use Rattle.dl_object.proofs.program.keep_sequences.Goals as goal

pub loop-sequence-preserved-then-not-is_wanted : goal.loop-sequence-preserved-then-not-is_wanted
loop-sequence-preserved-then-not-is_wanted c =
    let program = c.loop-sequence.program in
    let at = c.loop-sequence.at in
    let q = c.in-Sequence.sequence in
    let le = c.loop-sequence.invariant.within in
    let same = between_to_end program at (length program) (omega arith) in
    let found = c.in-Sequence.ensures in
    let room : q.len ≤ length (drop at program) = (let n = ap length same in omega (arith, n, found.within.1)) in
    let next = passed_in program c.pass_over.new.bytes at q.len found.within.0 le room c.pass_over.ensures in
    let was = c.loop-sequence.invariant.len in
    let size = next.size in
    let dropped = length-drop at program in
    record {
      len = size ∙ was;
      within = omega (arith, size, room, dropped, le);
      so_far = other_passed c.args.order c.args.params.now c.args.wanted.now.places.now c.args.wanted.now.section c.args.offset
          c.args.program.now program at c.loop-sequence.invariant.so_far q _ same found.front
          (sym c.if-not-is_wanted.true ∙ c.is_wanted.ensures) _ next.rest next.front;
    }

pub loop-sequence-preserved : goal.loop-sequence-preserved
loop-sequence-preserved c =
    let program = c.loop-sequence.program in
    let at = c.loop-sequence.at in
    let q = c.in-Sequence.sequence in
    let le = c.loop-sequence.invariant.within in
    let same = between_to_end program at (length program) (omega arith) in
    let found = c.in-Sequence.ensures in
    let room : q.len ≤ length (drop at program) = (let n = ap length same in omega (arith, n, found.within.1)) in
    let dropped = length-drop at program in
    record {
      len = c.loop-sequence.invariant.len;
      within = omega (arith, room, dropped, le);
      so_far = wanted_stays c.args.order c.args.params.now c.args.wanted.now.places.now c.args.wanted.now.section c.args.offset
          c.args.program.now program at c.loop-sequence.invariant.so_far q _ same found.front
          (sym c.if-not-is_wanted.false ∙ c.is_wanted.ensures);
    }

pub returns-in-Open : goal.returns-in-Open
returns-in-Open c =
    let program = c.loop-sequence.program in
    rest_stays c.args.order c.args.params.now c.args.wanted.now.places.now c.args.wanted.now.section c.args.offset
    c.args.program.now program c.loop-sequence.at c.loop-sequence.invariant.so_far _
    (between_to_end program c.loop-sequence.at (length program) (omega arith)) c.sequence_at_front.result c.in-Open.is
    c.sequence_at_front.ensures.front
