use Rattle.std.proofs.Common.{◌≡◌, ◌<◌, ℕ, None, Some, List, length, map, get_or, slice_get, option_map, arith, ap, ◌∙◌}
use Rattle.std.proofs.KnownBytes.{Appends-nil}
use Rattle.std.proofs.lemmas.Option.{slice_get-get_or, slice_get-map}
use Rattle.std.proofs.lemmas.Result.{err_from_is_err_and}
use Rattle.std.specs.Prelude.{is_some}
use Rattle.dl_print.proofs.Outs.{HasPrinted-nothing}
use Rattle.dl_look.specs.declared.asked.Asked.{Asked}
use Rattle.dl_addr.specs.Answers.{answer_seen}
use Rattle.dl_look.specs.Asked.{looked_up}
use Rattle.dl_addr.specs.Commands.{is_answered}
use Rattle.dl_addr.specs.Printing.{answer_for}
use Rattle.dl_addr.proofs.LinesLemmas.{all_out, found_all, found_more, loses_all, loses_line, prints_line, some_mapped}
use Rattle.dl_addr.proofs.answering.print_all.Goals as goal

abbrev no_asked : Asked
no_asked = record { address = None }

-- the place of what is asked by this number
place_at : (base : ℕ) (asked : List Asked) (n : ℕ) → n < length asked
    → slice_get (map (looked_up base) asked) n ≡ Some (looked_up base (get_or asked n no_asked))
place_at base asked n lt =
    slice_get-map (looked_up base) asked n ∙ ap (option_map (looked_up base)) (slice_get-get_or asked n no_asked lt)

pub returns-in_err-print_line-clause-printed : goal.returns-in_err-print_line-clause-printed
returns-in_err-print_line-clause-printed g c first start held visits s made =
    let p = err_from_is_err_and c.from_residual.result c.from_residual.ensures.1 in
    let q = c.args.question.now in
    let l = c.loop-number in
    let lt : l.number < length q.asked.now = c.loop-number-test.true in
    let old = g.W.Write.contents c.args.output.now in
    let is = c.answer_to-answer.ensures first start held visits (map (looked_up q.base) q.asked.now) s made
    (place_at q.base q.asked.now l.number lt) in
    let nothing = HasPrinted-nothing old old c.new-printer.result (Appends-nil old)
    c.new-printer.ensures.nothing_pending
    c.new-printer.ensures.nothing_out in
    rw (p.1, p.2) (loses_line q.style (answer_for first visits q.base) q.asked.now old (g.W.Write.contents l.output)
    (g.W.Write.contents c.print_line.new.output) c.new-printer.result l.printer l.number no_asked
    (option_map answer_seen c.answer_to-answer.result) _ lt is nothing
    (l.invariant.printed first start held visits s made) c.in_err-print_line.ensures.printed)

pub loop-number-preserved : goal.loop-number-preserved
loop-number-preserved g c =
    let q = c.args.question.now in
    let l = c.loop-number in
    let lt : l.number < length q.asked.now = c.loop-number-test.true in
    let old = g.W.Write.contents c.args.output.now in
    record {
      within = omega arith;
      printed =
          λ first start held visits s made. prints_line q.style (answer_for first visits q.base) q.asked.now old
          (g.W.Write.contents l.output) (g.W.Write.contents c.print_line.new.output) c.new-printer.result l.printer
          c.print_line.new.printer l.number no_asked
          (option_map answer_seen c.answer_to-answer.result) lt
          (c.answer_to-answer.ensures first start held visits (map (looked_up q.base) q.asked.now) s made
          (place_at q.base q.asked.now l.number lt))
          (l.invariant.printed first start held visits s made) c.in_ok-print_line.ensures.printed;
      found = λ first start held visits s made. found_more q.style (answer_for first visits q.base) q.asked.now l.number
          no_asked c.is_answered.result l.found c.also-found.result lt
          (c.is_answered.ensures ∙ ap (is_answered (get_or q.asked.now l.number no_asked)) (c.is_some.ensures
          ∙ some_mapped answer_seen c.answer_to-answer.result
          ∙ ap is_some (c.answer_to-answer.ensures first start held visits (map (looked_up q.base) q.asked.now) s
          made (place_at q.base q.asked.now l.number lt))))
          (l.invariant.found first start held visits s made) c.also-found.ensures;
    }

pub returns-in_err-flush-clause-printed : goal.returns-in_err-flush-clause-printed
returns-in_err-flush-clause-printed g c first start held visits s made =
    let p = err_from_is_err_and c.from_residual-in_err-flush.result c.from_residual-in_err-flush.ensures.1 in
    let q = c.args.question.now in
    let l = c.loop-number in
    let old = g.W.Write.contents c.args.output.now in
    let nothing = HasPrinted-nothing old old c.new-printer.result (Appends-nil old)
    c.new-printer.ensures.nothing_pending
    c.new-printer.ensures.nothing_out in
    rw (p.1, p.2) (loses_all q.style (answer_for first visits q.base) q.asked.now old (g.W.Write.contents l.output)
    (g.W.Write.contents c.flush.new.output) c.new-printer.result l.printer l.number _ c.loop-number-test.false
    nothing
    (l.invariant.printed first start held visits s made) c.in_err-flush.ensures.printed)

pub returns-clause-printed : goal.returns-clause-printed
returns-clause-printed g c first start held visits s made =
    let q = c.args.question.now in
    let l = c.loop-number in
    let old = g.W.Write.contents c.args.output.now in
    let nothing = HasPrinted-nothing old old c.new-printer.result (Appends-nil old)
    c.new-printer.ensures.nothing_pending
    c.new-printer.ensures.nothing_out in (
      found_all q.style (answer_for first visits q.base) q.asked.now l.number l.found c.loop-number-test.false
          (l.invariant.found first start held visits s made),
      all_out q.style (answer_for first visits q.base) q.asked.now old (g.W.Write.contents l.output)
          (g.W.Write.contents c.flush.new.output) c.new-printer.result l.printer c.flush.new.self l.number
          c.loop-number-test.false nothing
          (l.invariant.printed first start held visits s made) c.in_ok-flush.ensures.printed
          c.in_ok-flush.ensures.empty,
    )
