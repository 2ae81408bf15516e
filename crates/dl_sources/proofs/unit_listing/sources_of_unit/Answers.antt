use Rattle.std.proofs.Common.{◌∙◌, ◌≡◌, ◌||◌, Err, Ok, Result, ap, false, refl, subst, sym}
use Rattle.std.proofs.KnownBytes.{Appends-nil}
use Rattle.std.proofs.lemmas.Result.{err_from_is_err_and}
use Rattle.std.specs.Prelude.{◌⊎◌}
use Rattle.dl_print.specs.ValueText.{strings_of}
use Rattle.dl_sections.specs.Around.{RanAround}
use Rattle.dl_sections.specs.Commands.{strings_in}
use Rattle.dl_sections.specs.Ending.{WantsNoMore, WhereWhole}
use Rattle.dl_sections.specs.declared.around.Survey.{Survey}
use Rattle.dl_sections.specs.declared.fault.RunFault.{RunFault}
use Rattle.dl_sections.specs.declared.fault.RunFault.TheVariants as fault
use Rattle.dl_sections.proofs.BlameLemmas.{blames_where, same_answer}
use Rattle.dl_sources.specs.Ended.{is_want}
use Rattle.dl_sources.specs.UnitListing.{unit_story}
use Rattle.dl_sources.proofs.CommandLemmas.{Knows, first_false}
use Rattle.dl_sources.proofs.UnitCommandLemmas.{damaged_read, fails_with, first_of_unit, found, is_told_of_unit, never_read, no_unit_read}
use Rattle.dl_sources.proofs.UnitCommandLemmas.{none_damaged, not_found, only_over, printed_read, printed_unit, printed_writer, same_unit}
use Rattle.dl_sources.proofs.UnitCommandLemmas.{wanted_of_unit}
use Rattle.dl_sources.proofs.UnitListingLemmas.{at_first}
use Rattle.dl_sources.proofs.unit_listing.sources_of_unit.Goals as goal

pub returns-then-lacks_memory-clause-ran : goal.returns-then-lacks_memory-clause-ran
returns-then-lacks_memory-clause-ran g c =
    let options = c.args.options.now in
    let q = c.args.question.now in
    let s = strings_in options in
    let l = c.new.result in
    let made = c.new.ensures in
    let start = g.W.Write.contents c.args.output.now in
    let mid = g.W.Write.contents c.read_units_around-ended.new.output in
    let left = g.R.Read.remaining c.read_units_around-ended.new.input in
    let read = c.read_units_around-ended.ensures.ran in
    let new = c.read_units_around-ended.new.visitor in
    let begun = at_first g.M.Memory.refuses (first_of_unit l c.args.unit) start refl made.sufficed made.counts made.table
    (Appends-nil start) in
    let knows : Knows l q s = record { question = made.question; strings = ap strings_of made.strings ∙ c.new-strings.ensures } in (
      read.0,
      read.1,
      wanted_of_unit g.M.Memory.refuses options.dialect l c.args.unit q s knows c.args.memory.now made.memory options.limit read.0 left new start mid
          c.read_units_around-ended.result (sym c.lacks_memory.ensures ∙ c.if-lacks_memory.true) (read.2 begun (Appends-nil start)),
    )

pub returns-then-lacks_memory-clause-blames : goal.returns-then-lacks_memory-clause-blames
returns-then-lacks_memory-clause-blames g c = blames_where c.read_units_around-ended.ensures.blames (λ e. absurd cc)

pub returns-in_err-survey-clause-ran : goal.returns-in_err-survey-clause-ran
returns-in_err-survey-clause-ran g c =
    let e = err_from_is_err_and c.from_residual.result c.from_residual.ensures.1 in
    let options = c.args.options.now in
    let q = c.args.question.now in
    let s = strings_in options in
    let l = c.new.result in
    let made = c.new.ensures in
    let start = g.W.Write.contents c.args.output.now in
    let mid = g.W.Write.contents c.read_units_around-ended.new.output in
    let left = g.R.Read.remaining c.read_units_around-ended.new.input in
    let read = c.read_units_around-ended.ensures.ran in
    let new = c.read_units_around-ended.new.visitor in
    let begun = at_first g.M.Memory.refuses (first_of_unit l c.args.unit) start refl made.sufficed made.counts made.table
    (Appends-nil start) in
    let knows : Knows l q s = record { question = made.question; strings = ap strings_of made.strings ∙ c.new-strings.ensures } in
    let ran = read.2 begun (Appends-nil start) in
    let neither = sym c.lacks_memory.ensures ∙ c.if-lacks_memory.false in
    let f = c.in_err-survey.field-0.0 in
    let was = c.in_err-survey.was in
    rw (e.1, e.2) (
      read.0,
      read.1,
      fails_with g.M.Memory.refuses options.dialect l c.args.unit q s knows c.args.memory.now made.memory options.limit read.0 left new start mid
          f (subst (λ (r : Result Survey RunFault). (new.lister.is_refused || is_want r) ≡ false) was neither)
          (subst (λ (r : Result Survey RunFault). RanAround (unit_story g.M.Memory.refuses) options.dialect options.limit read.0 left
          (first_of_unit l c.args.unit) new start mid r) was ran),
    )

pub returns-in_err-survey-clause-blames : goal.returns-in_err-survey-clause-blames
returns-in_err-survey-clause-blames g c =
    let e = err_from_is_err_and c.from_residual.result c.from_residual.ensures.1 in
    let options = c.args.options.now in
    let q = c.args.question.now in
    let s = strings_in options in
    let l = c.new.result in
    let made = c.new.ensures in
    let start = g.W.Write.contents c.args.output.now in
    let mid = g.W.Write.contents c.read_units_around-ended.new.output in
    let left = g.R.Read.remaining c.read_units_around-ended.new.input in
    let read = c.read_units_around-ended.ensures.ran in
    let new = c.read_units_around-ended.new.visitor in
    let begun = at_first g.M.Memory.refuses (first_of_unit l c.args.unit) start refl made.sufficed made.counts made.table
    (Appends-nil start) in
    rw (e.1, e.2) (blames_where c.read_units_around-ended.ensures.blames (λ blamed. (
      never_read g.M.Memory.refuses (first_of_unit l c.args.unit) start begun (Appends-nil start),
      c.in_err-survey.was ∙ same_answer _ blamed,
    )))

pub returns-in_err-survey-clause-over : goal.returns-in_err-survey-clause-over
returns-in_err-survey-clause-over g c told =
    let e = err_from_is_err_and c.from_residual.result c.from_residual.ensures.1 in
    let options = c.args.options.now in
    let q = c.args.question.now in
    let s = strings_in options in
    let l = c.new.result in
    let made = c.new.ensures in
    let start = g.W.Write.contents c.args.output.now in
    let mid = g.W.Write.contents c.read_units_around-ended.new.output in
    let left = g.R.Read.remaining c.read_units_around-ended.new.input in
    let read = c.read_units_around-ended.ensures.ran in
    let new = c.read_units_around-ended.new.visitor in
    let begun = at_first g.M.Memory.refuses (first_of_unit l c.args.unit) start refl made.sufficed made.counts made.table
    (Appends-nil start) in
    let knows : Knows l q s = record { question = made.question; strings = ap strings_of made.strings ∙ c.new-strings.ensures } in
    let was = c.in_err-survey.was in
    absurd (no_unit_read g.M.Memory.refuses options.dialect l c.args.unit q s knows c.args.memory.now made.memory options.limit read.0 left new start mid
    c.in_err-survey.field-0.0
    (subst (λ (r : Result Survey RunFault). RanAround (unit_story g.M.Memory.refuses) options.dialect options.limit read.0 left
    (first_of_unit l c.args.unit) new start mid r) was (read.2 begun (Appends-nil start)))
    (same_unit c.in_err-survey.field-0.0 (rw (e.1, e.2) at told)))

pub returns-then-not-lister-clause-ran : goal.returns-then-not-lister-clause-ran
returns-then-not-lister-clause-ran g c =
    let options = c.args.options.now in
    let q = c.args.question.now in
    let s = strings_in options in
    let l = c.new.result in
    let made = c.new.ensures in
    let start = g.W.Write.contents c.args.output.now in
    let mid = g.W.Write.contents c.read_units_around-ended.new.output in
    let left = g.R.Read.remaining c.read_units_around-ended.new.input in
    let read = c.read_units_around-ended.ensures.ran in
    let new = c.read_units_around-ended.new.visitor in
    let begun = at_first g.M.Memory.refuses (first_of_unit l c.args.unit) start refl made.sufficed made.counts made.table
    (Appends-nil start) in
    let knows : Knows l q s = record { question = made.question; strings = ap strings_of made.strings ∙ c.new-strings.ensures } in
    let ran = read.2 begun (Appends-nil start) in
    let neither = sym c.lacks_memory.ensures ∙ c.if-lacks_memory.false in
    rw c.not_whole.ensures (
      read.0,
      read.1,
      not_found g.M.Memory.refuses options.dialect l c.args.unit q s knows c.args.memory.now made.memory options.limit read.0 left new start mid
          c.in_ok-survey.survey c.if-not-lister.true
          (subst (λ (r : Result Survey RunFault). RanAround (unit_story g.M.Memory.refuses) options.dialect options.limit read.0 left
          (first_of_unit l c.args.unit) new start mid r) (c.in_ok-survey.was) ran),
    )

pub returns-then-not-lister-clause-blames : goal.returns-then-not-lister-clause-blames
returns-then-not-lister-clause-blames g c =
    blames_where c.read_units_around-ended.ensures.blames (λ e.
    absurd (damaged_read c.read_units_around-ended.new.visitor.damage c.in_ok-survey.survey.damaged
    (sym c.not_whole.ensures ∙ (let same : c.not_whole.result ≡ fault.Read = cc in same))))

pub returns-then-not-lister-clause-over : goal.returns-then-not-lister-clause-over
returns-then-not-lister-clause-over g c told =
    let options = c.args.options.now in
    let q = c.args.question.now in
    let s = strings_in options in
    let l = c.new.result in
    let made = c.new.ensures in
    let start = g.W.Write.contents c.args.output.now in
    let mid = g.W.Write.contents c.read_units_around-ended.new.output in
    let left = g.R.Read.remaining c.read_units_around-ended.new.input in
    let read = c.read_units_around-ended.ensures.ran in
    let new = c.read_units_around-ended.new.visitor in
    let begun = at_first g.M.Memory.refuses (first_of_unit l c.args.unit) start refl made.sufficed made.counts made.table
    (Appends-nil start) in
    let over = g.R.Source.over c.read_units_around-ended.new.input in
    let none = none_damaged new.damage c.in_ok-survey.survey.damaged (sym c.not_whole.ensures ∙ same_unit c.not_whole.result told) in
    only_over g.M.Memory.refuses (first_of_unit l c.args.unit) new start mid over c.if-not-lister.true none.0
    ((subst (λ (r : Result Survey RunFault). WhereWhole (over ⊎ WantsNoMore (unit_story g.M.Memory.refuses)
    (first_of_unit l c.args.unit) new start mid) r) (c.in_ok-survey.was)
    (c.read_units_around-ended.ensures.over begun (Appends-nil start))) none.1)

pub returns-clause-ran : goal.returns-clause-ran
returns-clause-ran g c =
    let options = c.args.options.now in
    let q = c.args.question.now in
    let s = strings_in options in
    let l = c.new.result in
    let made = c.new.ensures in
    let start = g.W.Write.contents c.args.output.now in
    let mid = g.W.Write.contents c.read_units_around-ended.new.output in
    let left = g.R.Read.remaining c.read_units_around-ended.new.input in
    let read = c.read_units_around-ended.ensures.ran in
    let new = c.read_units_around-ended.new.visitor in
    let begun = at_first g.M.Memory.refuses (first_of_unit l c.args.unit) start refl made.sufficed made.counts made.table
    (Appends-nil start) in
    let knows : Knows l q s = record { question = made.question; strings = ap strings_of made.strings ∙ c.new-strings.ensures } in
    let ran = read.2 begun (Appends-nil start) in
    let neither = sym c.lacks_memory.ensures ∙ c.if-lacks_memory.false in
    rw c.as_run.ensures (
      read.0,
      read.1,
      is_told_of_unit g.M.Memory.refuses options.dialect l c.args.unit q s knows c.args.memory.now made.memory options.limit read.0 left new start mid
          (g.W.Write.contents c.print_table.new.output) c.print_table.result
          (found g.M.Memory.refuses options.dialect l c.args.unit q s knows c.args.memory.now made.memory options.limit read.0 left new start mid
          c.in_ok-survey.survey c.if-not-lister.false (first_false new.lister.is_refused _ neither)
          (subst (λ (r : Result Survey RunFault). RanAround (unit_story g.M.Memory.refuses) options.dialect options.limit read.0 left
          (first_of_unit l c.args.unit) new start mid r) (c.in_ok-survey.was) ran))
          (λ mentions held. c.print_table.ensures.printed mentions held),
    )

pub returns-clause-blames : goal.returns-clause-blames
returns-clause-blames g c =
    blames_where c.read_units_around-ended.ensures.blames (λ e.
    absurd (printed_read c.print_table.result (sym c.as_run.ensures ∙ e)))

pub returns-clause-blames_writer : goal.returns-clause-blames_writer
returns-clause-blames_writer g c =
    rw c.as_run.ensures (printed_writer g.W.Destination.fails c.print_table.result c.print_table.ensures.blames_writer)

pub returns-clause-over : goal.returns-clause-over
returns-clause-over g c told = absurd (printed_unit c.print_table.result (sym c.as_run.ensures ∙ told))
