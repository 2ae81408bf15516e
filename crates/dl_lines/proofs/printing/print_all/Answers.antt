use Rattle.std.proofs.Common.{◌≡◌, [], ℕ, List, length, not, arith, append-nil, sym, ap, subst, ◌∙◌, take, refl}
use Rattle.std.proofs.KnownBytes.{Appends-nil}
use Rattle.std.proofs.lemmas.List.{take_all}
use Rattle.std.proofs.lemmas.Bool.Decides.{nat_tests}
use Rattle.std.specs.Prelude.{◌==◌}
use Rattle.dl_path.proofs.PrintLemmas.{loses_same}
use Rattle.std.proofs.lemmas.Result.{err_from_is_err_and}
use Rattle.dl_print.specs.Output.{HasPrinted, PrintsMore, TellsOut}
use Rattle.dl_print.proofs.Outs.{HasPrinted-nothing, HasPrinted-out}
use Rattle.std.specs.Io.KnownBytes.{Appends}
use Rattle.dl_lines.specs.Printing.{found_by, has_place, search_text, searches_text}
use Rattle.dl_lines.proofs.LineLemmas.{found_more, has_some, loses_search, prints_search}
use Rattle.dl_lines.proofs.printing.print_all.Goals as goal

pub loop-number-init : goal.loop-number-init
loop-number-init g c = record {
  within = omega arith;
  printed = λ start text h. subst (λ (l : List ℕ). HasPrinted start (g.W.Write.contents c.args.output.now) l c.new-printer.result)
      (sym (append-nil text)) h;
  found = refl;
}

pub loop-number-preserved : goal.loop-number-preserved
loop-number-preserved g c =
    let searches = c.args.searches.now in
    let s = c.index-searches-number.result in
    let l = c.loop-number in
    let lt = c.loop-number-test.true in
    let is = c.index-searches-number.is in
    let empty = c.is_empty.ensures in
    let none : c.is_empty.result ≡ (length s.kept.places.items == 0) = grind (arith, nat_tests, empty) in
    record {
      within = omega (arith, lt);
      printed = prints_search searches (g.W.Write.contents c.args.output.now) (g.W.Write.contents l.output)
          (g.W.Write.contents c.print_search.new.output) c.new-printer.result l.printer l.number s lt l.invariant.printed
          c.print_search.new.printer
          (subst (PrintsMore (g.W.Write.contents l.output) (g.W.Write.contents c.print_search.new.output) l.printer
          c.print_search.new.printer) (ap search_text is) c.in_ok-print_search.ensures.printed);
      found = found_more searches l.number s (not c.is_empty.result) l.found c.also-found.result lt
          (ap not none ∙ has_some s ∙ ap has_place is) l.invariant.found c.also-found.ensures;
    }

pub returns-in_err-print_search-clause-printed : goal.returns-in_err-print_search-clause-printed
returns-in_err-print_search-clause-printed g c =
    let p = err_from_is_err_and c.from_residual.result c.from_residual.ensures.1 in
    let searches = c.args.searches.now in
    let l = c.loop-number in
    let old = g.W.Write.contents c.args.output.now in
    let nothing = HasPrinted-nothing old old c.new-printer.result (Appends-nil old)
    c.new-printer.ensures.nothing_pending c.new-printer.ensures.nothing_out in
    rw (p.1, p.2) (loses_search searches old (g.W.Write.contents l.output) (g.W.Write.contents c.print_search.new.output)
    c.new-printer.result l.printer l.number c.index-searches-number.result c.loop-number-test.true l.invariant.printed _
    (loses_same (g.W.Write.contents l.output) (g.W.Write.contents c.print_search.new.output) l.printer _ _ _
    (ap search_text c.index-searches-number.is) c.in_err-print_search.ensures.printed) old [] nothing)

pub returns-in_err-flush-clause-printed : goal.returns-in_err-flush-clause-printed
returns-in_err-flush-clause-printed g c =
    let p = err_from_is_err_and c.from_residual-in_err-flush.result c.from_residual-in_err-flush.ensures.1 in
    let searches = c.args.searches.now in
    let l = c.loop-number in
    let old = g.W.Write.contents c.args.output.now in
    let nothing = HasPrinted-nothing old old c.new-printer.result (Appends-nil old)
    c.new-printer.ensures.nothing_pending c.new-printer.ensures.nothing_out in
    rw (p.1, p.2) (subst (λ (t : List ℕ). TellsOut old (g.W.Write.contents c.flush.new.output) t c.in_err-flush.field-0.0)
    (ap searches_text (take_all l.number searches c.loop-number-test.false))
    (c.in_err-flush.ensures.printed old (searches_text (take l.number searches)) (l.invariant.printed old [] nothing)))

pub returns-clause-printed : goal.returns-clause-printed
returns-clause-printed g c =
    let searches = c.args.searches.now in
    let l = c.loop-number in
    let old = g.W.Write.contents c.args.output.now in
    let new = g.W.Write.contents c.flush.new.output in
    let all = take_all l.number searches c.loop-number-test.false in
    let nothing = HasPrinted-nothing old old c.new-printer.result (Appends-nil old)
    c.new-printer.ensures.nothing_pending c.new-printer.ensures.nothing_out in (
      l.invariant.found ∙ ap found_by all,
      subst (Appends old new) (ap searches_text all)
          (HasPrinted-out old new (searches_text (take l.number searches)) c.flush.new.self
          (c.in_ok-flush.ensures.printed old (searches_text (take l.number searches)) (l.invariant.printed old [] nothing))
          c.in_ok-flush.ensures.empty),
    )
