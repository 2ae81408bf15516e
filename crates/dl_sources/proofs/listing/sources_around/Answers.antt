use Rattle.std.proofs.Common.{ap, sym, ◌∙◌}
use Rattle.std.proofs.KnownBytes.{Appends-nil}
use Rattle.dl_print.specs.ValueText.{strings_of}
use Rattle.dl_sections.specs.Commands.{strings_in}
use Rattle.dl_sections.proofs.BlameLemmas.{blames_where}
use Rattle.dl_sources.proofs.AroundLemmas.{is_told_around, told_around_read, wanted_around}
use Rattle.dl_sources.proofs.CommandLemmas.{Knows, never_read}
use Rattle.dl_sources.proofs.ListingLemmas.{begins}
use Rattle.dl_sources.proofs.listing.sources_around.Goals as goal

pub returns-then-lacks_memory-clause-ran : goal.returns-then-lacks_memory-clause-ran
returns-then-lacks_memory-clause-ran g c =
    let options = c.args.options.now in
    let q = c.args.question.now in
    let s = strings_in options in
    let first = c.new-lister.result in
    let made = c.new-lister.ensures in
    let start = g.W.Write.contents c.args.output.now in
    let mid = g.W.Write.contents c.read_units_around-ended.new.output in
    let left = g.R.Read.remaining c.read_units_around-ended.new.input in
    let read = c.read_units_around-ended.ensures.ran in
    let begun = begins g.M.Memory.refuses first start made.sufficed made.counts made.table (Appends-nil start) in
    let knows : Knows first q s = record { question = made.question; strings = ap strings_of made.strings ∙ c.new-strings.ensures } in (
      read.0,
      read.1,
      wanted_around g.M.Memory.refuses options.dialect first q s knows c.args.memory.now made.memory options.limit read.0 left
          c.read_units_around-ended.new.visitor start mid c.read_units_around-ended.result (sym c.lacks_memory.ensures ∙ c.if-lacks_memory.true)
          (read.2 begun (Appends-nil start)),
    )

pub returns-then-lacks_memory-clause-blames : goal.returns-then-lacks_memory-clause-blames
returns-then-lacks_memory-clause-blames g c = blames_where c.read_units_around-ended.ensures.blames (λ e. absurd cc)

pub returns-clause-ran : goal.returns-clause-ran
returns-clause-ran g c =
    let options = c.args.options.now in
    let q = c.args.question.now in
    let s = strings_in options in
    let first = c.new-lister.result in
    let made = c.new-lister.ensures in
    let start = g.W.Write.contents c.args.output.now in
    let mid = g.W.Write.contents c.read_units_around-ended.new.output in
    let now = g.W.Write.contents c.print_table-printed.new.output in
    let left = g.R.Read.remaining c.read_units_around-ended.new.input in
    let read = c.read_units_around-ended.ensures.ran in
    let begun = begins g.M.Memory.refuses first start made.sufficed made.counts made.table (Appends-nil start) in
    let knows : Knows first q s = record { question = made.question; strings = ap strings_of made.strings ∙ c.new-strings.ensures } in (
      read.0,
      read.1,
      rw c.told_around.ensures (is_told_around g.M.Memory.refuses options.dialect first q s knows c.args.memory.now made.memory options.limit
          read.0 left c.read_units_around-ended.new.visitor start mid now c.read_units_around-ended.result c.print_table-printed.result
          (sym c.lacks_memory.ensures ∙ c.if-lacks_memory.false) (read.2 begun (Appends-nil start))
          (λ mentions held. c.print_table-printed.ensures.printed mentions held)),
    )

pub returns-clause-blames : goal.returns-clause-blames
returns-clause-blames g c =
    let first = c.new-lister.result in
    let made = c.new-lister.ensures in
    let start = g.W.Write.contents c.args.output.now in
    let begun = begins g.M.Memory.refuses first start made.sufficed made.counts made.table (Appends-nil start) in
    blames_where c.read_units_around-ended.ensures.blames (λ e. (
      never_read g.M.Memory.refuses first start begun (Appends-nil start),
      told_around_read c.read_units_around-ended.result c.print_table-printed.result (sym c.told_around.ensures ∙ e),
    ))
