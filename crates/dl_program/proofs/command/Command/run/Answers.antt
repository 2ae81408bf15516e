use Rattle.std.proofs.Common.{◌∙◌, Ok, ap, refl, sym}
use Rattle.dl_program.specs.Answers.{all_whole, answered, answered_around, summed, summed_around}
use Rattle.dl_program.specs.declared.command.Command.TheVariants.{Addr, AddrAround, Lines, LinesAround, Sources, SourcesAround}
use Rattle.dl_sections.proofs.BlameLemmas.{blames_where}
use Rattle.dl_program.proofs.BlameLemmas.{around_read, around_writer, found_read, found_writer, sums_around_read, unit_read, unit_writer}
use Rattle.dl_program.proofs.BlameLemmas.{sums_around_writer, sums_read, sums_writer, whole_read, whole_writer}
use Rattle.dl_program.proofs.EndLemmas.{around_over, find_over, told_around_over, told_over, unit_over, unit_sources_over, whole_over}
use Rattle.dl_program.proofs.command.Command.run.Goals as goal

pub returns-in-DumpAround-clause-ran : goal.returns-in-DumpAround-clause-ran
returns-in-DumpAround-clause-ran g c =
    rw c.in-DumpAround.is c.dump_details_around.ensures.ran

pub returns-in-CheckAround-clause-ran : goal.returns-in-CheckAround-clause-ran
returns-in-CheckAround-clause-ran g c = rw c.in-CheckAround.is c.check_around.ensures.ran

pub returns-in-DumpAround-clause-blames : goal.returns-in-DumpAround-clause-blames
returns-in-DumpAround-clause-blames g c = c.dump_details_around.ensures.blames

pub returns-in-CheckAround-clause-blames : goal.returns-in-CheckAround-clause-blames
returns-in-CheckAround-clause-blames g c = c.check_around.ensures.blames

pub returns-in-DumpRangeAround-clause-ran : goal.returns-in-DumpRangeAround-clause-ran
returns-in-DumpRangeAround-clause-ran g c = rw c.in-DumpRangeAround.is c.dump_range_around.ensures.ran

pub returns-in-DumpRangeAround-clause-blames : goal.returns-in-DumpRangeAround-clause-blames
returns-in-DumpRangeAround-clause-blames g c = c.dump_range_around.ensures.blames

pub returns-in-DumpRange-clause-blames : goal.returns-in-DumpRange-clause-blames
returns-in-DumpRange-clause-blames g c =
    blames_where c.dump_range.ensures.blames (λ e. whole_read c.dump_range.result (sym c.all_whole-in-DumpRange.ensures ∙ e.1))

pub returns-in-DumpRange-clause-blames_writer : goal.returns-in-DumpRange-clause-blames_writer
returns-in-DumpRange-clause-blames_writer g c none =
    rw c.all_whole-in-DumpRange.ensures (whole_writer _ c.dump_range.result c.dump_range.ensures.blames_writer)

pub returns-in-DumpRange-clause-over : goal.returns-in-DumpRange-clause-over
returns-in-DumpRange-clause-over g c none =
    whole_over (g.R.Source.over c.dump_range.new.input) c.args.self _ c.dump_range.result c.all_whole-in-DumpRange.result c.in-DumpRange.is c.all_whole-in-DumpRange.ensures (λ f no. no) c.dump_range.ensures.over

pub returns-in-DumpRangeAround-clause-over : goal.returns-in-DumpRangeAround-clause-over
returns-in-DumpRangeAround-clause-over g c none =
    around_over (g.R.Source.over c.dump_range_around.new.input) c.args.self _ c.dump_range_around.result c.in-DumpRangeAround.is (λ f no. no) (λ survey whole. whole) (c.dump_range_around.ensures.over none)

pub returns-in-DumpJsonAround-clause-ran : goal.returns-in-DumpJsonAround-clause-ran
returns-in-DumpJsonAround-clause-ran g c = rw c.in-DumpJsonAround.is c.dump_json_around.ensures.ran

pub returns-in-DumpJsonAround-clause-blames : goal.returns-in-DumpJsonAround-clause-blames
returns-in-DumpJsonAround-clause-blames g c = c.dump_json_around.ensures.blames

pub returns-in-DumpJson-clause-blames : goal.returns-in-DumpJson-clause-blames
returns-in-DumpJson-clause-blames g c =
    blames_where c.dump_json.ensures.blames (λ e. whole_read c.dump_json.result (sym c.all_whole-in-DumpJson.ensures ∙ e.1))

pub returns-in-DumpUnit-clause-blames : goal.returns-in-DumpUnit-clause-blames
returns-in-DumpUnit-clause-blames g c =
    blames_where c.dump_unit.ensures.blames (λ e. unit_read c.dump_unit.result
    (sym c.unit_shown.ensures ∙ whole_read c.unit_shown.result (sym c.all_whole-in-DumpUnit.ensures ∙ e.1)))

pub returns-in-DumpJson-clause-blames_writer : goal.returns-in-DumpJson-clause-blames_writer
returns-in-DumpJson-clause-blames_writer g c none =
    rw c.all_whole-in-DumpJson.ensures (whole_writer _ c.dump_json.result c.dump_json.ensures.blames_writer)

pub returns-in-DumpUnit-clause-blames_writer : goal.returns-in-DumpUnit-clause-blames_writer
returns-in-DumpUnit-clause-blames_writer g c none =
    rw c.all_whole-in-DumpUnit.ensures (whole_writer _ c.unit_shown.result
    (rw c.unit_shown.ensures (unit_writer _ c.dump_unit.result c.dump_unit.ensures.blames_writer)))

pub returns-in-DumpJson-clause-over : goal.returns-in-DumpJson-clause-over
returns-in-DumpJson-clause-over g c none =
    whole_over (g.R.Source.over c.dump_json.new.input) c.args.self _ c.dump_json.result c.all_whole-in-DumpJson.result c.in-DumpJson.is c.all_whole-in-DumpJson.ensures (λ f no. no) c.dump_json.ensures.over

pub returns-in-DumpJsonAround-clause-over : goal.returns-in-DumpJsonAround-clause-over
returns-in-DumpJsonAround-clause-over g c none =
    around_over (g.R.Source.over c.dump_json_around.new.input) c.args.self _ c.dump_json_around.result c.in-DumpJsonAround.is (λ f no. no) (λ survey whole. whole) (c.dump_json_around.ensures.over none)

pub returns-in-DumpUnit-clause-over : goal.returns-in-DumpUnit-clause-over
returns-in-DumpUnit-clause-over g c none =
    unit_over (g.R.Source.over c.dump_unit.new.input) c.args.self _ _ c.dump_unit.result c.all_whole-in-DumpUnit.result
    c.in-DumpUnit.is (c.all_whole-in-DumpUnit.ensures ∙ ap all_whole c.unit_shown.ensures)
    (λ e. (let none = rw e at c.dump_unit.ensures.ran.2 in none.2)) c.dump_unit.ensures.over

pub returns-in-Dump-clause-blames : goal.returns-in-Dump-clause-blames
returns-in-Dump-clause-blames g c =
    blames_where c.dump_details.ensures.blames (λ e. whole_read c.dump_details.result (sym c.all_whole.ensures ∙ e.1))

pub returns-in-Check-clause-blames : goal.returns-in-Check-clause-blames
returns-in-Check-clause-blames g c =
    blames_where c.check.ensures.blames (λ e. whole_read c.check.result (sym c.all_whole-in-Check.ensures ∙ e.1))

pub returns-in-Find-clause-blames : goal.returns-in-Find-clause-blames
returns-in-Find-clause-blames g c =
    blames_where c.find.ensures.blames (λ e. whole_read c.find.result (sym c.all_whole-in-Find.ensures ∙ e.1))

pub returns-in-Copy-clause-blames : goal.returns-in-Copy-clause-blames
returns-in-Copy-clause-blames g c =
    blames_where c.copy.ensures.blames (λ e. whole_read c.copy.result (sym c.all_whole-in-Copy.ensures ∙ e.1))

pub returns-in-CopyTo5-clause-blames : goal.returns-in-CopyTo5-clause-blames
returns-in-CopyTo5-clause-blames g c =
    blames_where c.copy_to_5.ensures.blames (λ e. whole_read c.copy_to_5.result (sym c.all_whole-in-CopyTo5.ensures ∙ e.1))

pub returns-in-Index-clause-blames : goal.returns-in-Index-clause-blames
returns-in-Index-clause-blames g c =
    blames_where c.write_index.ensures.blames (λ e. whole_read c.write_index.result (sym c.all_whole-in-Index.ensures ∙ e.1))

pub returns-in-IndexUntil-clause-blames : goal.returns-in-IndexUntil-clause-blames
returns-in-IndexUntil-clause-blames g c =
    blames_where c.write_index_until.ensures.blames (λ e. whole_read c.write_index_until.result (sym c.all_whole-in-IndexUntil.ensures ∙ e.1))

pub returns-in-Addr-clause-blames : goal.returns-in-Addr-clause-blames
returns-in-Addr-clause-blames g c =
    blames_where c.addr.ensures.blames (λ e. found_read c.addr.result
    (sym c.answered.ensures ∙ whole_read c.answered.result (sym c.all_whole-in-Addr.ensures ∙ e.1)))

pub returns-in-AddrAround-clause-blames : goal.returns-in-AddrAround-clause-blames
returns-in-AddrAround-clause-blames g c =
    blames_where c.addr_around.ensures.blames (λ e. around_read c.addr_around.result
    (sym c.answered_around.ensures ∙ e.1))

pub returns-in-Lines-clause-blames : goal.returns-in-Lines-clause-blames
returns-in-Lines-clause-blames g c =
    blames_where c.lines.ensures.blames (λ e. found_read c.lines.result
    (sym c.answered-in-Lines.ensures ∙ whole_read c.answered-in-Lines.result (sym c.all_whole-in-Lines.ensures ∙ e.1)))

pub returns-in-LinesAround-clause-blames : goal.returns-in-LinesAround-clause-blames
returns-in-LinesAround-clause-blames g c =
    blames_where c.lines_around.ensures.blames (λ e. around_read c.lines_around.result
    (sym c.answered_around-in-LinesAround.ensures ∙ e.1))

pub returns-in-Sources-clause-blames : goal.returns-in-Sources-clause-blames
returns-in-Sources-clause-blames g c =
    blames_where c.sources.ensures.blames (λ e. sums_read c.sources.result
    (sym c.summed.ensures ∙ whole_read c.summed.result (sym c.all_whole-in-Sources.ensures ∙ e.1)))

pub returns-in-SourcesAround-clause-blames : goal.returns-in-SourcesAround-clause-blames
returns-in-SourcesAround-clause-blames g c =
    blames_where c.sources_around.ensures.blames (λ e. sums_around_read c.sources_around.result
    (sym c.summed_around.ensures ∙ e.1))

pub returns-in-SourcesUnit-clause-blames : goal.returns-in-SourcesUnit-clause-blames
returns-in-SourcesUnit-clause-blames g c =
    blames_where c.sources_of_unit.ensures.blames (λ e. sums_read c.sources_of_unit.result
    (sym c.summed-in-SourcesUnit.ensures ∙ whole_read c.summed-in-SourcesUnit.result (sym c.all_whole-in-SourcesUnit.ensures ∙ e.1)))

pub returns-in-IndexAround-clause-blames : goal.returns-in-IndexAround-clause-blames
returns-in-IndexAround-clause-blames g c = blames_where c.write_index_around.ensures.blames (λ e. e.1)

pub returns-in-IndexUntilAround-clause-blames : goal.returns-in-IndexUntilAround-clause-blames
returns-in-IndexUntilAround-clause-blames g c = blames_where c.write_index_until_around.ensures.blames (λ e. e.1)

pub returns-in-Dump-clause-blames_writer : goal.returns-in-Dump-clause-blames_writer
returns-in-Dump-clause-blames_writer g c none =
    rw c.all_whole.ensures (whole_writer _ c.dump_details.result c.dump_details.ensures.blames_writer)

pub returns-in-Check-clause-blames_writer : goal.returns-in-Check-clause-blames_writer
returns-in-Check-clause-blames_writer g c none =
    rw c.all_whole-in-Check.ensures (whole_writer _ c.check.result c.check.ensures.blames_writer)

pub returns-in-Find-clause-blames_writer : goal.returns-in-Find-clause-blames_writer
returns-in-Find-clause-blames_writer g c none =
    rw c.all_whole-in-Find.ensures (whole_writer _ c.find.result c.find.ensures.blames_writer)

pub returns-in-Copy-clause-blames_writer : goal.returns-in-Copy-clause-blames_writer
returns-in-Copy-clause-blames_writer g c none =
    rw c.all_whole-in-Copy.ensures (whole_writer _ c.copy.result c.copy.ensures.blames_writer)

pub returns-in-CopyTo5-clause-blames_writer : goal.returns-in-CopyTo5-clause-blames_writer
returns-in-CopyTo5-clause-blames_writer g c none =
    rw c.all_whole-in-CopyTo5.ensures (whole_writer _ c.copy_to_5.result c.copy_to_5.ensures.blames_writer)

pub returns-in-Index-clause-blames_writer : goal.returns-in-Index-clause-blames_writer
returns-in-Index-clause-blames_writer g c none =
    rw c.all_whole-in-Index.ensures (whole_writer _ c.write_index.result c.write_index.ensures.blames_writer)

pub returns-in-IndexUntil-clause-blames_writer : goal.returns-in-IndexUntil-clause-blames_writer
returns-in-IndexUntil-clause-blames_writer g c none =
    rw c.all_whole-in-IndexUntil.ensures (whole_writer _ c.write_index_until.result c.write_index_until.ensures.blames_writer)

pub returns-in-Addr-clause-blames_writer : goal.returns-in-Addr-clause-blames_writer
returns-in-Addr-clause-blames_writer g c none =
    rw c.all_whole-in-Addr.ensures (whole_writer _ c.answered.result
    (rw c.answered.ensures (found_writer _ c.addr.result c.addr.ensures.blames_writer)))

pub returns-in-AddrAround-clause-blames_writer : goal.returns-in-AddrAround-clause-blames_writer
returns-in-AddrAround-clause-blames_writer g c none =
    rw c.answered_around.ensures (around_writer _ c.addr_around.result c.addr_around.ensures.blames_writer)

pub returns-in-Lines-clause-blames_writer : goal.returns-in-Lines-clause-blames_writer
returns-in-Lines-clause-blames_writer g c none =
    rw c.all_whole-in-Lines.ensures (whole_writer _ c.answered-in-Lines.result
    (rw c.answered-in-Lines.ensures (found_writer _ c.lines.result c.lines.ensures.blames_writer)))

pub returns-in-LinesAround-clause-blames_writer : goal.returns-in-LinesAround-clause-blames_writer
returns-in-LinesAround-clause-blames_writer g c none =
    rw c.answered_around-in-LinesAround.ensures (around_writer _ c.lines_around.result c.lines_around.ensures.blames_writer)

pub returns-in-Sources-clause-blames_writer : goal.returns-in-Sources-clause-blames_writer
returns-in-Sources-clause-blames_writer g c none =
    rw c.all_whole-in-Sources.ensures (whole_writer _ c.summed.result
    (rw c.summed.ensures (sums_writer _ c.sources.result c.sources.ensures.blames_writer)))

pub returns-in-SourcesAround-clause-blames_writer : goal.returns-in-SourcesAround-clause-blames_writer
returns-in-SourcesAround-clause-blames_writer g c none =
    rw c.summed_around.ensures (sums_around_writer _ c.sources_around.result c.sources_around.ensures.blames_writer)

pub returns-in-SourcesUnit-clause-blames_writer : goal.returns-in-SourcesUnit-clause-blames_writer
returns-in-SourcesUnit-clause-blames_writer g c none =
    rw c.all_whole-in-SourcesUnit.ensures (whole_writer _ c.summed-in-SourcesUnit.result
    (rw c.summed-in-SourcesUnit.ensures (sums_writer _ c.sources_of_unit.result c.sources_of_unit.ensures.blames_writer)))

pub returns-in-SourcesUnit-clause-over : goal.returns-in-SourcesUnit-clause-over
returns-in-SourcesUnit-clause-over g c none =
    unit_sources_over (g.R.Source.over c.sources_of_unit.new.input) c.args.self _ _ c.sources_of_unit.result
    c.all_whole-in-SourcesUnit.result c.in-SourcesUnit.is
    (c.all_whole-in-SourcesUnit.ensures ∙ ap all_whole c.summed-in-SourcesUnit.ensures) c.sources_of_unit.ensures.over

pub returns-in-Dump-clause-over : goal.returns-in-Dump-clause-over
returns-in-Dump-clause-over g c none =
    whole_over (g.R.Source.over c.dump_details.new.input) c.args.self _ c.dump_details.result c.all_whole.result c.in-Dump.is c.all_whole.ensures (λ f no. no) c.dump_details.ensures.over

pub returns-in-Check-clause-over : goal.returns-in-Check-clause-over
returns-in-Check-clause-over g c none =
    whole_over (g.R.Source.over c.check.new.input) c.args.self _ c.check.result c.all_whole-in-Check.result c.in-Check.is c.all_whole-in-Check.ensures (λ f no. no) c.check.ensures.over

pub returns-in-Copy-clause-over : goal.returns-in-Copy-clause-over
returns-in-Copy-clause-over g c none =
    whole_over (g.R.Source.over c.copy.new.input) c.args.self _ c.copy.result c.all_whole-in-Copy.result c.in-Copy.is c.all_whole-in-Copy.ensures (λ f no. no) c.copy.ensures.over

pub returns-in-CopyTo5-clause-over : goal.returns-in-CopyTo5-clause-over
returns-in-CopyTo5-clause-over g c none =
    whole_over (g.R.Source.over c.copy_to_5.new.input) c.args.self _ c.copy_to_5.result c.all_whole-in-CopyTo5.result c.in-CopyTo5.is c.all_whole-in-CopyTo5.ensures (λ f no. no) c.copy_to_5.ensures.over

pub returns-in-Index-clause-over : goal.returns-in-Index-clause-over
returns-in-Index-clause-over g c none =
    whole_over (g.R.Source.over c.write_index.new.input) c.args.self _ c.write_index.result c.all_whole-in-Index.result c.in-Index.is c.all_whole-in-Index.ensures (λ f no. no) c.write_index.ensures.over

pub returns-in-IndexUntil-clause-over : goal.returns-in-IndexUntil-clause-over
returns-in-IndexUntil-clause-over g c none =
    whole_over (g.R.Source.over c.write_index_until.new.input) c.args.self _ c.write_index_until.result c.all_whole-in-IndexUntil.result c.in-IndexUntil.is c.all_whole-in-IndexUntil.ensures (λ f no. no) c.write_index_until.ensures.over

pub returns-in-DumpAround-clause-over : goal.returns-in-DumpAround-clause-over
returns-in-DumpAround-clause-over g c none =
    around_over (g.R.Source.over c.dump_details_around.new.input) c.args.self _ c.dump_details_around.result c.in-DumpAround.is (λ f no. no) (λ survey whole. whole) (c.dump_details_around.ensures.over none)

pub returns-in-CheckAround-clause-over : goal.returns-in-CheckAround-clause-over
returns-in-CheckAround-clause-over g c none =
    around_over (g.R.Source.over c.check_around.new.input) c.args.self _ c.check_around.result c.in-CheckAround.is (λ f no. no) (λ survey whole. whole) (c.check_around.ensures.over none)

pub returns-in-IndexAround-clause-over : goal.returns-in-IndexAround-clause-over
returns-in-IndexAround-clause-over g c none =
    around_over (g.R.Source.over c.write_index_around.new.input) c.args.self _ c.write_index_around.result c.in-IndexAround.is (λ f no. no) (λ survey whole. whole) c.write_index_around.ensures.over

pub returns-in-IndexUntilAround-clause-over : goal.returns-in-IndexUntilAround-clause-over
returns-in-IndexUntilAround-clause-over g c none =
    around_over (g.R.Source.over c.write_index_until_around.new.input) c.args.self _ c.write_index_until_around.result c.in-IndexUntilAround.is (λ f no. no) (λ survey whole. whole) c.write_index_until_around.ensures.over

pub returns-in-Find-clause-over : goal.returns-in-Find-clause-over
returns-in-Find-clause-over g c none =
    find_over (g.R.Source.over c.find.new.input) c.args.self c.in-Find.place c.find.result c.all_whole-in-Find.result c.in-Find.is c.all_whole-in-Find.ensures
    c.find.ensures.over

pub returns-in-Addr-clause-over : goal.returns-in-Addr-clause-over
returns-in-Addr-clause-over g c none =
    told_over (g.R.Source.over c.addr.new.input) c.args.self (Addr c.in-Addr.question) c.in-Addr.is (λ a. all_whole (answered a)) (λ f. refl)
    c.addr.result c.all_whole-in-Addr.result (c.all_whole-in-Addr.ensures ∙ ap all_whole c.answered.ensures)
    (λ e. (let none = rw e at c.addr.ensures.ran.2 in none.3)) c.addr.ensures.over

pub returns-in-Lines-clause-over : goal.returns-in-Lines-clause-over
returns-in-Lines-clause-over g c none =
    told_over (g.R.Source.over c.lines.new.input) c.args.self (Lines c.in-Lines.question) c.in-Lines.is (λ a. all_whole (answered a)) (λ f. refl)
    c.lines.result c.all_whole-in-Lines.result (c.all_whole-in-Lines.ensures ∙ ap all_whole c.answered-in-Lines.ensures)
    (λ e. (let none = rw e at c.lines.ensures.ran.2 in none.3)) c.lines.ensures.over

pub returns-in-Sources-clause-over : goal.returns-in-Sources-clause-over
returns-in-Sources-clause-over g c none =
    told_over (g.R.Source.over c.sources.new.input) c.args.self (Sources c.in-Sources.question) c.in-Sources.is (λ a. all_whole (summed a)) (λ f. refl)
    c.sources.result c.all_whole-in-Sources.result (c.all_whole-in-Sources.ensures ∙ ap all_whole c.summed.ensures)
    (λ e. (let none = rw e at c.sources.ensures.ran.2 in none.3)) c.sources.ensures.over

pub returns-in-AddrAround-clause-over : goal.returns-in-AddrAround-clause-over
returns-in-AddrAround-clause-over g c none =
    told_around_over (g.R.Source.over c.addr_around.new.input) c.args.self (AddrAround c.in-AddrAround.question) c.in-AddrAround.is answered_around (λ f. refl)
    (λ a. a.damaged) (λ a. all_whole (answered (Ok a.found))) (λ a. refl) c.addr_around.result c.answered_around.result c.answered_around.ensures
    (λ e. (let none = rw e at c.addr_around.ensures.ran.2 in none.2)) c.addr_around.ensures.over

pub returns-in-LinesAround-clause-over : goal.returns-in-LinesAround-clause-over
returns-in-LinesAround-clause-over g c none =
    told_around_over (g.R.Source.over c.lines_around.new.input) c.args.self (LinesAround c.in-LinesAround.question) c.in-LinesAround.is answered_around (λ f. refl)
    (λ a. a.damaged) (λ a. all_whole (answered (Ok a.found))) (λ a. refl) c.lines_around.result c.answered_around-in-LinesAround.result c.answered_around-in-LinesAround.ensures
    (λ e. (let none = rw e at c.lines_around.ensures.ran.2 in none.2)) c.lines_around.ensures.over

pub returns-in-SourcesAround-clause-over : goal.returns-in-SourcesAround-clause-over
returns-in-SourcesAround-clause-over g c none =
    told_around_over (g.R.Source.over c.sources_around.new.input) c.args.self (SourcesAround c.in-SourcesAround.question) c.in-SourcesAround.is summed_around (λ f. refl)
    (λ a. a.damaged) (λ a. all_whole (summed (Ok a.sums))) (λ a. refl) c.sources_around.result c.summed_around.result c.summed_around.ensures
    (λ e. (let none = rw e at c.sources_around.ensures.ran.2 in none.2)) c.sources_around.ensures.over
