use Rattle.std.proofs.Common.{◌≡◌, ◌+◌, ◌<◌, [], length, take, drop, get_or, arith}
use Rattle.std.proofs.lemmas.Result.{err_from_is_err_and}
use Rattle.dl_table.specs.EntryData.{with_content}
use Rattle.dl_table.specs.EntryHeld.{entry_items}
use Rattle.dl_print.specs.HeaderText.{entry_line, entry_lines}
use Rattle.dl_print.specs.ValueText.{strings_of}
use Rattle.dl_print.proofs.HeaderLemmas.{items_at, never_none, lines_more, lines_split}
use Rattle.dl_print.proofs.Outs.{PrintsMore-then, TellsOut-part}
use Rattle.dl_print.proofs.output.Printer.table.Goals as goal
use Rattle.dl_print.proofs.output.Printer.table.Goals.{in-Some+in_ok-entry, in_default}

pub returns-in_err-entry-clause-printed : goal.returns-in_err-entry-clause-printed
returns-in_err-entry-clause-printed g c = λ start text h.
    let p = err_from_is_err_and c.from_residual.result c.from_residual.ensures.1 in
    let i = c.loop-i.i in
    let s = strings_of c.args.strings.now in
    let name = c.args.name.now in
    let first = c.args.first in
    let pairs = c.args.table.now.pairs in
    let entries = c.args.table.now.entries in
    let turn : i < length entries = omega (arith, c.loop-i-test.true, c.len-i-end.ensures) in
    let items = with_content pairs (get_or entries i []) in
    let held : entry_items c.in-Some.entry ≡ items =
    items_at pairs entries i turn (entry_items c.in-Some.entry) c.in-Some.ensures in
    let tells = c.in_err-entry.ensures.printed start _ (c.loop-i.invariant start text h) in
    rw (
      p.1,
      p.2,
    ) (TellsOut-part start _ text (entry_lines s name pairs first (take i entries)) (entry_line s name (first + i) items)
    (entry_lines s name pairs (first + length (take (i + 1) entries)) (drop (i + 1) entries))
    (entry_lines s name pairs first entries) _
    (lines_split s name pairs first entries i [] turn) (rw held at tells))

pub loop-i-preserved : goal.loop-i-preserved
loop-i-preserved g c =
    let i = c.loop-i.i in
    let s = strings_of c.args.strings.now in
    let name = c.args.name.now in
    let first = c.args.first in
    let pairs = c.args.table.now.pairs in
    let entries = c.args.table.now.entries in
    let turn : i < length entries = omega (arith, c.loop-i-test.true, c.len-i-end.ensures) in
    let items = with_content pairs (get_or entries i []) in
    elim c.match-entry.branch [
      | in-Some+in_ok-entry w ↦
          let held : entry_items w.in-Some.entry ≡ items =
          items_at pairs entries i turn (entry_items w.in-Some.entry) w.in-Some.ensures in
          rw (w.self-is, w.output-is) (PrintsMore-then _ _ _ _ _ _ (entry_lines s name pairs first (take i entries))
          (entry_line s name (first + i) items) (entry_lines s name pairs first (take (i + 1) entries))
          (lines_more s name pairs first entries i [] turn) c.loop-i.invariant (rw held at w.in_ok-entry.ensures.printed))
      | in_default w ↦ absurd (never_none pairs entries i turn w.in_default.ensures)
    ]
