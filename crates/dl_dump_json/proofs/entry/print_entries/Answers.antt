use Rattle.std.proofs.Common.{◌≡◌, ℕ, List, ◌+◌, ◌<◌, ◌++◌, [], length, take, drop, get_or, arith, subst}
use Rattle.std.proofs.lemmas.List.{take_all}
use Rattle.std.proofs.lemmas.Result.{err_from_is_err_and}
use Rattle.dl_table.specs.EntryData.{with_content}
use Rattle.dl_table.specs.EntryHeld.{entry_items}
use Rattle.dl_table.specs.Value.{Value}
use Rattle.dl_print.specs.ValueText.{strings_of}
use Rattle.dl_print.proofs.HeaderLemmas.{items_at, never_none}
use Rattle.dl_print.proofs.Outs.{PrintsMore-then, TellsOut-part}
use Rattle.dl_print.specs.Output.{PrintsMore}
use Rattle.dl_dump_json.specs.Members.{comma_before, elements}
use Rattle.dl_dump_json.specs.Values.{entry_object}
use Rattle.dl_dump_json.proofs.ArrayLemmas.{elements_more, elements_split}
use Rattle.dl_dump_json.proofs.entry.print_entries.Goals as goal
use Rattle.dl_dump_json.proofs.entry.print_entries.Goals.{in-Some+in_ok-print_one_entry, in_default}

pub returns-in_err-print_one_entry-clause-printed : goal.returns-in_err-print_one_entry-clause-printed
returns-in_err-print_one_entry-clause-printed g c start text h =
    let p = err_from_is_err_and c.from_residual.result c.from_residual.ensures.1 in
    let i = c.loop-place.place in
    let pairs = c.args.table.now.pairs in
    let entries = c.args.table.now.entries in
    let turn : i < length entries = omega (arith, c.loop-place-test.true, c.len-place-end.ensures) in
    let told = λ (place : ℕ) (values : List Value). entry_object (strings_of c.args.strings.now) (c.args.first + place)
    (with_content pairs values) in
    let held : entry_items c.in-Some.entry ≡ with_content pairs (get_or entries i []) =
    items_at pairs entries i turn (entry_items c.in-Some.entry) c.in-Some.ensures in
    let tells = c.in_err-print_one_entry.ensures.printed start _ (c.loop-place.invariant start text h) in
    rw (p.1, p.2) (TellsOut-part start _ text (elements told 0 (take i entries))
    (comma_before i ++ told i (get_or entries i []))
    (elements told (0 + length (take (i + 1) entries)) (drop (i + 1) entries)) (elements told 0 entries) _
    (elements_split told entries i [] turn) (rw held at tells))

pub loop-place-preserved : goal.loop-place-preserved
loop-place-preserved g c =
    let i = c.loop-place.place in
    let pairs = c.args.table.now.pairs in
    let entries = c.args.table.now.entries in
    let turn : i < length entries = omega (arith, c.loop-place-test.true, c.len-place-end.ensures) in
    let told = λ (place : ℕ) (values : List Value). entry_object (strings_of c.args.strings.now) (c.args.first + place)
    (with_content pairs values) in
    elim c.match-entry.branch [
      | in-Some+in_ok-print_one_entry w ↦
          let held : entry_items w.in-Some.entry ≡ with_content pairs (get_or entries i []) =
          items_at pairs entries i turn (entry_items w.in-Some.entry) w.in-Some.ensures in
          rw (w.printer-is, w.output-is) (PrintsMore-then _ _ _ _ _ _ (elements told 0 (take i entries))
          (comma_before i ++ told i (get_or entries i [])) (elements told 0 (take (i + 1) entries))
          (elements_more told entries i [] turn) c.loop-place.invariant (rw held at w.in_ok-print_one_entry.ensures.printed))
      | in_default w ↦ absurd (never_none pairs entries i turn w.in_default.ensures)
    ]

pub returns-clause-printed : goal.returns-clause-printed
returns-clause-printed g c =
    let i = c.loop-place.place in
    let pairs = c.args.table.now.pairs in
    let entries = c.args.table.now.entries in
    let told = λ (place : ℕ) (values : List Value). entry_object (strings_of c.args.strings.now) (c.args.first + place)
    (with_content pairs values) in
    let whole = take_all i entries (omega (arith, c.loop-place-test.false, c.len-place-end.ensures)) in
    subst (λ (xs : List (List Value)). PrintsMore (g.W.Write.contents c.args.output.now)
    (g.W.Write.contents c.loop-place.output) c.args.printer.now c.loop-place.printer (elements told 0 xs)) whole
    c.loop-place.invariant
