use Rattle.std.proofs.Common.{None, ap, ◌∙◌}
use Rattle.std.proofs.KnownBytes.{Appends-nil}
use Rattle.std.specs.Prelude.{OnOk}
use Rattle.dl_print.specs.ValueText.{strings_of}
use Rattle.dl_sections.specs.Commands.{strings_in}
use Rattle.dl_sections.proofs.BlameLemmas.{blames_where}
use Rattle.dl_sections.proofs.EndLemmas.{only_over}
use Rattle.dl_sources.specs.FoundSources.{asked}
use Rattle.dl_sources.proofs.CommandLemmas.{Knows, never_read}
use Rattle.dl_sources.proofs.FoundLemmas.{are_found, ends_with, read_before}
use Rattle.dl_sources.proofs.ListingLemmas.{begins}
use Rattle.dl_sources.proofs.finding.find_sources.Goals as goal

pub returns-clause-ran : goal.returns-clause-ran
returns-clause-ran g c =
    let options = c.args.options.now in
    let q = c.args.question.now in
    let s = strings_in options in
    let first = c.new-lister.result in
    let made = c.new-lister.ensures in
    let left = g.R.Read.remaining c.read_units-ended.new.input in
    let read = c.read_units-ended.ensures.ran in
    let begun = begins g.M.Memory.refuses first None made.sufficed made.counts made.table (Appends-nil None) in
    let knows : Knows first (asked q) s =
    record { question = made.question ∙ c.asked.ensures; strings = ap strings_of made.strings ∙ c.new-strings.ensures } in (
      read.0,
      read.1,
      are_found g.M.Memory.refuses options.dialect first q s knows c.args.memory.now made.memory options.limit read.0 left
          c.read_units-ended.new.visitor None None c.collect.result c.read_units-ended.result c.collect.ensures.wanted
          c.collect.ensures.found (read.2 begun (Appends-nil None)),
    )

pub returns-clause-blames : goal.returns-clause-blames
returns-clause-blames g c =
    let first = c.new-lister.result in
    let made = c.new-lister.ensures in
    let new = c.read_units-ended.new.visitor in
    let begun = begins g.M.Memory.refuses first None made.sufficed made.counts made.table (Appends-nil None) in
    blames_where c.read_units-ended.ensures.blames (λ e. (
      never_read g.M.Memory.refuses first None begun (Appends-nil None),
      read_before c.collect.result c.read_units-ended.result new.is_refused new.table c.collect.ensures.wanted
          c.collect.ensures.found e,
    ))

pub returns-clause-over : goal.returns-clause-over
returns-clause-over g c =
    let first = c.new-lister.result in
    let made = c.new-lister.ensures in
    let new = c.read_units-ended.new.visitor in
    let over = g.R.Source.over c.read_units-ended.new.input in
    let begun = begins g.M.Memory.refuses first None made.sufficed made.counts made.table (Appends-nil None) in
    ends_with c.collect.result c.read_units-ended.result new.is_refused new.table c.collect.ensures.wanted
    c.collect.ensures.found (λ r. OnOk r over) tt
    (only_over over c.read_units-ended.result (c.read_units-ended.ensures.over begun (Appends-nil None)))
