-- The names that the lemmas cite of definitions and of other crates, passed on from one place. Declares nothing.
pub use Rattle.std.proofs.Common.{if◌then◌else◌, ◌%◌, ◌*◌, ◌++◌, ◌+◌, ◌-◌, ◌<◌, ◌^◌, ◌||◌, ◌∙◌, ◌∷◌, ◌≡◌, ◌≢◌, ◌≤◌}
pub use Rattle.std.proofs.Common.{◌⊎◌, [], add-zero, ap, append-nil, append_assoc, arith, Bool, cond, Contains}
pub use Rattle.std.proofs.Common.{count_by, drop, drop_at, eq-eqb, Err, false, flat_map, fold, inl, inr, is_none}
pub use Rattle.std.proofs.Common.{is_some, le-ltb, length, length-append, length-drop, length-take, List, lt-ltb, map}
pub use Rattle.std.proofs.Common.{MatchResult, max, min, mod-lt, nat_lt, negsuc, None, Ok, Option, option_map}
pub use Rattle.std.proofs.Common.{option_to_list, pos, pow_pos, refl, Result, Some, subst, suc, sym, take}
pub use Rattle.std.proofs.Common.{take-append-drop, take_all, take_at, true, true≢false, unwrap_or, zero, zero-add, ℕ}
pub use Rattle.std.proofs.Common.{ℤ}
pub use Rattle.std.proofs.KnownBytes.{Appends-nil, Consumes-trans}
pub use Rattle.std.proofs.Math.Seq.{take-append-add}
pub use Rattle.std.proofs.lemmas.Bool.{cases_lt}
pub use Rattle.std.proofs.lemmas.Grind.{flat_map-append}
pub use Rattle.std.proofs.lemmas.List.{append_cancel_left, map-append, nil_from_length, same_from_push}
pub use Rattle.std.proofs.lemmas.List.{take-append-le}
pub use Rattle.std.proofs.lemmas.List.Elements.{All-push, Contains-append_left, Contains-push}
pub use Rattle.std.proofs.lemmas.List.Folds.{concat-append, fold_stays}
pub use Rattle.std.proofs.lemmas.List.Sums.{count_by-le-length, fold-append, sum_by-append, sum_by-cons}
pub use Rattle.std.proofs.lemmas.Option.{same_Some}
pub use Rattle.std.proofs.lemmas.Result.{err_from_is_err_and}
pub use Rattle.std.specs.Io.KnownBytes.{Appends, Consumes, Keeps}
pub use Rattle.std.specs.List.{after_last, AllByRecursion, concat}
pub use Rattle.std.specs.Option.{option_or}
pub use Rattle.std.specs.Prelude.{⊤}
pub use Rattle.dl_num.proofs.FrontLemmas.{nothing_yet, standing-append}
pub use Rattle.dl_num.specs.Front.{Standing, standing_after}
pub use Rattle.dl_num.specs.Laws.{AllBytes}
pub use Rattle.dl_num.specs.declared.fixed.Order.{Order}
pub use Rattle.dl_table.proofs.SoundLemmas.{all_push}
pub use Rattle.dl_table.specs.Value.{Judgement}
pub use Rattle.dl_table.specs.declared.fault.FaultKind.{FaultKind}
pub use Rattle.dl_table.specs.declared.fault.FaultKind.TheVariants.{OpcodeOverrun, Truncated}
pub use Rattle.dl_table.specs.declared.form.Format.{Format}
pub use Rattle.dl_table.specs.declared.form.Format.TheVariants.{Dwarf32, Dwarf64}
pub use Rattle.dl_field.proofs.FieldLaws.{field_is_judged}
pub use Rattle.dl_field.proofs.FieldLemmas.{none_some}
pub use Rattle.dl_field.specs.Field.{IsInitialLength}
pub use Rattle.dl_field.specs.HeaderData.{HeaderData}
pub use Rattle.dl_field.specs.Layout.{Item, length_is}
pub use Rattle.dl_field.specs.declared.params.Params.{Params}
pub use Rattle.dl_head.proofs.CutLemmas.{cut_sound}
pub use Rattle.dl_head.proofs.ForeignLemmas.{foreign_on}
pub use Rattle.dl_head.proofs.FrontLemmas.{fronts}
pub use Rattle.dl_head.proofs.HeaderLaws.{found_is_header, header_is_found, header_is_not_foreign, lengths_stay}
pub use Rattle.dl_head.proofs.HeaderSound.{standard_fault, usable}
pub use Rattle.dl_head.proofs.QuietLemmas.{foreign_is_not_refused, header_is_not_refused}
pub use Rattle.dl_head.proofs.ReadSound.{header_is_sound}
pub use Rattle.dl_head.specs.Built.{with_standard_opcodes}
pub use Rattle.dl_head.specs.Header.{cut, foreign_in, header_in, IsHeader, lengths_in, SpellsFields}
pub use Rattle.dl_head.specs.Header.{unit_end, unit_len}
pub use Rattle.dl_head.specs.HeaderLayout.{header_layout, initial_size}
pub use Rattle.dl_head.specs.Refusal.{HeaderRefused}
pub use Rattle.dl_head.specs.Sound.{IsSoundHeader}
pub use Rattle.dl_head.specs.Written.{header_bytes, is_within_limit}
pub use Rattle.dl_head.specs.declared.dialect.Dialect.{Dialect}
pub use Rattle.dl_head.specs.declared.fault.Fault.{Fault}
pub use Rattle.dl_head.specs.declared.header.HeaderLengths.{HeaderLengths}
pub use Rattle.dl_rows.proofs.HeaderParams.{header_is_usable}
pub use Rattle.dl_rows.proofs.JoinLemmas.{no_events}
pub use Rattle.dl_rows.proofs.OperandRanges.{bytes_back, bytes_front}
pub use Rattle.dl_rows.proofs.OperationLaws.{no_spelling_is_faulty, spelt_is_spelled}
pub use Rattle.dl_rows.proofs.ProgramLaws.{found_is_program}
pub use Rattle.dl_rows.proofs.ReaderLemmas.{foreign_no_header, no_rows}
pub use Rattle.dl_rows.proofs.UnitFaults.{refused_in_program}
pub use Rattle.dl_rows.proofs.UnitKnown.{foreign_known}
pub use Rattle.dl_rows.proofs.UnitLaws.{one_refusal, row_for_program_byte}
pub use Rattle.dl_rows.proofs.UnitLemmas.{header_on, refused_in_header, unit_len_on}
pub use Rattle.dl_rows.proofs.UnitLengths.{foreign_of, length_is_computed, length_of_unit, some_same}
pub use Rattle.dl_rows.proofs.UnitQuiet.{unit_is_not_refused}
pub use Rattle.dl_rows.proofs.UnitWhole.{unit_unless_refused}
pub use Rattle.dl_rows.specs.BadOperation.{IsBadOperation}
pub use Rattle.dl_rows.specs.LineUnit.{ends_open, events, events_of, IsUnit, own_events, rows_in, rows_later}
pub use Rattle.dl_rows.specs.LineUnit.{unit_rows}
pub use Rattle.dl_rows.specs.Matrix.{address, appends_row, fresh, is_end, last_part, last_set, line, matrix, modulo}
pub use Rattle.dl_rows.specs.Matrix.{moves, op_index, parts, row, row_from, sequence, set_column, set_discriminator}
pub use Rattle.dl_rows.specs.Matrix.{set_file, set_isa}
pub use Rattle.dl_rows.specs.OperationSpelt.{good_one, operation_spelt, operations_in}
pub use Rattle.dl_rows.specs.ReaderAnswers.{SinkFed}
pub use Rattle.dl_rows.specs.Reading.{FeedsAfter, SinkAfter, SinkAt, told, WithinUnit}
pub use Rattle.dl_rows.specs.Refusal.{Refused}
pub use Rattle.dl_rows.specs.Runs.{Sound}
pub use Rattle.dl_rows.specs.Spelling.{SpellsOperation, SpellsProgram}
pub use Rattle.dl_rows.specs.UnitLaws.{IsCutShort, RefusesOperation}
pub use Rattle.dl_rows.specs.declared.operation.Operation.{Operation}
pub use Rattle.dl_rows.specs.declared.reader.Event.{Event}
pub use Rattle.dl_rows.specs.declared.reader.Fed.{Fed}
pub use Rattle.dl_rows.specs.declared.reader.Reader.{Reader}
pub use Rattle.dl_rows.specs.declared.row.Row.{Row}
pub use Rattle.dl_rows.specs.declared.sink.Flow.{Flow}
pub use Rattle.dl_emit.proofs.ConversionLemmas.{params_are}
pub use Rattle.dl_emit.proofs.ConversionSound.{tables_near, version_5_sound}
pub use Rattle.dl_emit.proofs.GrownLemmas.{bytes_of_rows}
pub use Rattle.dl_emit.proofs.ReadAgain.{unit_is_read_again}
pub use Rattle.dl_emit.specs.Conversion.{to_version_5}
pub use Rattle.dl_emit.specs.Grown.{IsGrown, ProgramData}
pub use Rattle.dl_emit.specs.Laws.{IsRow}
pub use Rattle.dl_emit.specs.WrittenUnit.{is_in_range, out_of_range, program_len, refusal, rows_refusal, unit_of}
pub use Rattle.dl_emit.specs.WrittenUnit.{unless}
pub use Rattle.dl_emit.specs.declared.fault.EmitFault.{EmitFault}
pub use Rattle.dl_emit.specs.declared.fault.EmitFault.TheVariants.{TooLong}
pub use Rattle.dl_look.specs.Answer.{answer}
pub use Rattle.dl_look.specs.declared.place.Place.{Place}
pub use Rattle.dl_print.proofs.Outs.{HasOut-pending, HasPrinted-flushed, HasPrinted-more, HasPrinted-nothing}
pub use Rattle.dl_print.proofs.Outs.{HasPrinted-out, keeps_by_nothing, TellsOut-front, TellsOut-more}
pub use Rattle.dl_print.specs.Output.{Flushes, HasPrinted, Prints}
pub use Rattle.dl_print.specs.Printed.{Printed}
pub use Rattle.dl_print.specs.Text.{row_line, summary_line}
pub use Rattle.dl_print.specs.ValueText.{Strings, strings_of}
pub use Rattle.dl_print.specs.declared.fault.WriteFault.{WriteFault}
pub use Rattle.dl_print.specs.declared.summary.Summary.{Summary}
pub use Rattle.dl_dirs.specs.Compilation.{directory_by}
pub use Rattle.dl_sections.specs.Checking.{check_story}
pub use Rattle.dl_sections.specs.Commands.{AreCopied, AreMade, Checks, copied_unit, copied_units, Copies, CopiesAs}
pub use Rattle.dl_sections.specs.Commands.{CopiesBy, Dumps, Finds, found_text, IsCopied, IsFound, IsMade, Made}
pub use Rattle.dl_sections.specs.Commands.{NoneAnswers, to_5, unit_as, units_as, WantsFor5, WantsForRows}
pub use Rattle.dl_sections.specs.CopyLaws.{AreNewer, CopiesAreNewer, CopiesAreUnits, IsAnew, IsNewer}
pub use Rattle.dl_sections.specs.Copying.{comes_to, copy_story, Copying, ended_as, goes, IsGrowth, made_by, Progress, RenewsTables}
pub use Rattle.dl_sections.specs.Copying.{row_count, stop_in, stopped, StopsAt, text_in, told_to, visited}
pub use Rattle.dl_sections.specs.Dumping.{dump_story, HasDumped, style_of}
pub use Rattle.dl_sections.specs.Finding.{answer_under, find_story, finds, HasFound, Search, search_of, Seeks, seeks, seen}
pub use Rattle.dl_sections.specs.Finding.{text_found}
pub use Rattle.dl_sections.specs.PassedOver.{AreTold, IsGreatest, IsLeast, other_versions, PassesOver}
pub use Rattle.dl_sections.specs.PassingOver.{IsPassedOver, Spans, version_story, version_told, versions_told}
pub use Rattle.dl_sections.specs.RunOutput.{TellsOut}
pub use Rattle.dl_sections.specs.Section.{end_visits, EndsAs, event_visits, HasBegun, HasUnits, header_of, header_read, HeaderRead, NoUnitBegins}
pub use Rattle.dl_sections.specs.Section.{of_end, of_header, of_item, of_open, of_version, open_visit, section_visits}
pub use Rattle.dl_sections.specs.Section.{summary_of, unit_visits, units_visits, Visit, visits}
pub use Rattle.dl_sections.specs.SectionLaws.{CopyIsFront, CopyTo5IsFront, DumpIsFront, IsOfBytes, MoreIsTold, OneChecking}
pub use Rattle.dl_sections.specs.SectionLaws.{OneCopy, OneCopying, OneCopyingTo5, OneCopyTo5, OneCut, OneDump, OneDumping}
pub use Rattle.dl_sections.specs.SectionLaws.{OneEnd, OneFinding, OneFound, OnePassingOver}
pub use Rattle.dl_sections.specs.SectionText.{DumpStyle, section_text, visit_text, visits_text}
pub use Rattle.dl_sections.specs.Told.{Counted, ends, FeedsTold, HeardItems, ItemsOf, ItemsTaken, StopsWithin, told_story}
pub use Rattle.dl_sections.specs.UnitPrinted.{PrintsPart}
pub use Rattle.dl_sections.specs.UnitsRead.{counted, is_foreign, rows_told, UnitsAre}
pub use Rattle.dl_rows.specs.Reading.{row_told}
pub use Rattle.dl_sections.specs.Visiting.{header_told, Hears, Ran, Settled, StopsIn, Story, VisitorStops}
pub use Rattle.dl_sections.specs.declared.checking.Checker.{Checker}
pub use Rattle.dl_sections.specs.declared.copying.Becomes.{Becomes}
pub use Rattle.dl_sections.specs.declared.copying.Copier.{Copier}
pub use Rattle.dl_sections.specs.declared.dumping.Dumper.{Dumper}
pub use Rattle.dl_sections.specs.declared.fault.RunFault.{RunFault}
pub use Rattle.dl_sections.specs.declared.fault.RunFault.TheVariants.{Write}
pub use Rattle.dl_sections.specs.declared.finding.Seeker.{Seeker}
pub use Rattle.dl_sections.specs.declared.passing_over.OtherVersions.{OtherVersions}
pub use Rattle.dl_sections.specs.declared.passing_over.PassedOver.{PassedOver}
pub use Rattle.dl_sections.specs.declared.passing_over.VersionRange.{VersionRange}
pub use Rattle.dl_sections.specs.declared.section.SectionUnits.{SectionUnits}
pub use Rattle.dl_sections.specs.declared.told.Told.{Told}
pub use Rattle.dl_emit.specs.declared.fault.EmitFault.TheVariants as emit
pub use Rattle.dl_rows.specs.declared.reader.Event.TheVariants as event
pub use Rattle.dl_sections.specs.declared.fault.RunFault.TheVariants as fault
pub use Rattle.dl_rows.specs.declared.sink.Flow.TheVariants as flow
pub use Rattle.dl_rows.specs.declared.operation.Operation.TheVariants as op
pub use Rattle.dl_print.proofs.Outs as outs
