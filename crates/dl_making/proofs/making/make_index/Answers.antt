use Rattle.std.proofs.Common.{None, ap, ◌∙◌}
use Rattle.std.proofs.KnownBytes.{Appends-nil}
use Rattle.dl_print.specs.ValueText.{strings_of}
use Rattle.dl_sections.proofs.Names.{err_from_is_err_and}
use Rattle.dl_sections.specs.Commands.{strings_in}
use Rattle.dl_making.proofs.MakerLemmas.{begins}
use Rattle.dl_making.proofs.MakingLemmas.{Knows, fails, makes, was_told, unmade}
use Rattle.dl_sections.proofs.BlameLemmas.{blames_where, same_answer}
use Rattle.dl_sections.proofs.EndLemmas.{only_left}
use Rattle.dl_making.proofs.BlameLemmas.{never_read}
use Rattle.dl_making.proofs.making.make_index.Goals as goal

pub returns-in_err-summary-clause-ran : goal.returns-in_err-summary-clause-ran
returns-in_err-summary-clause-ran g c =
    let p = err_from_is_err_and c.from_residual.result c.from_residual.ensures.1 in
    let read = c.in_err-summary.ensures.ran in
    let maker = c.new-maker.ensures in
    let options = c.args.options.now in
    let first = c.new-maker.result in
    let knows : Knows first c.args.table.now (strings_in options) =
    record { code = maker.code; directories = maker.directories; strings = ap strings_of maker.strings ∙ c.new-strings.ensures } in
    rw (p.1, p.2) (
      read.0,
      read.1,
      fails options.dialect first c.args.table.now (strings_in options) knows g.M.Memory.refuses c.args.memory.now maker.memory options.limit read.0
          (g.R.Read.remaining c.read_units.new.input) c.read_units.new.visitor None None _
          (read.2 (begins g.M.Memory.refuses first None maker.sufficed maker.count maker.runs maker.names maker.texts (Appends-nil None)) (Appends-nil None)),
    )

pub returns-in-Ok-clause-ran : goal.returns-in-Ok-clause-ran
returns-in-Ok-clause-ran g c =
    let read = c.in_ok-summary.ensures.ran in
    let maker = c.new-maker.ensures in
    let options = c.args.options.now in
    let first = c.new-maker.result in
    let new = c.read_units.new.visitor in
    let knows : Knows first c.args.table.now (strings_in options) =
    record { code = maker.code; directories = maker.directories; strings = ap strings_of maker.strings ∙ c.new-strings.ensures } in (
      read.0,
      read.1,
      makes options.dialect first c.args.table.now (strings_in options) knows g.M.Memory.refuses c.args.memory.now maker.memory options.limit read.0
          (g.R.Read.remaining c.read_units.new.input) new None None
          (record { index = c.in-Ok.index; summary = c.in_ok-summary.summary })
          (read.2 (begins g.M.Memory.refuses first None maker.sufficed maker.count maker.runs maker.names maker.texts (Appends-nil None)) (Appends-nil None))
          (λ visits m. c.in-Ok.ensures.index first None None visits m),
    )

pub told_index-requires : goal.told_index-requires
told_index-requires g c =
    let read = c.in_ok-summary.ensures.ran in
    let maker = c.new-maker.ensures in
    let options = c.args.options.now in
    let first = c.new-maker.result in
    was_told g.M.Memory.refuses options.dialect first options.limit read.0 (g.R.Read.remaining c.read_units.new.input) c.read_units.new.visitor
    None None c.in_ok-summary.summary (read.2 (begins g.M.Memory.refuses first None maker.sufficed maker.count maker.runs maker.names maker.texts (Appends-nil None)) (Appends-nil None))

pub returns-in_err-summary-clause-blames : goal.returns-in_err-summary-clause-blames
returns-in_err-summary-clause-blames g c =
    let p = err_from_is_err_and c.from_residual.result c.from_residual.ensures.1 in
    let maker = c.new-maker.ensures in
    rw (p.1, p.2) (blames_where c.in_err-summary.ensures.blames (λ e. (
      never_read g.M.Memory.refuses c.new-maker.result (begins g.M.Memory.refuses c.new-maker.result None maker.sufficed maker.count maker.runs maker.names maker.texts (Appends-nil None)),
      same_answer _ e,
    )))

pub returns-in-Ok-clause-blames : goal.returns-in-Ok-clause-blames
returns-in-Ok-clause-blames g c = blames_where c.in_ok-summary.ensures.blames (λ e. absurd cc)

pub returns-clause-blames : goal.returns-clause-blames
returns-clause-blames g c = blames_where c.in_ok-summary.ensures.blames (λ e. absurd cc)

pub returns-clause-ran : goal.returns-clause-ran
returns-clause-ran g c =
    let read = c.in_ok-summary.ensures.ran in
    let maker = c.new-maker.ensures in
    let options = c.args.options.now in
    let first = c.new-maker.result in
    let knows : Knows first c.args.table.now (strings_in options) =
    record { code = maker.code; directories = maker.directories; strings = ap strings_of maker.strings ∙ c.new-strings.ensures } in (
      read.0,
      read.1,
      unmade options.dialect first c.args.table.now (strings_in options) knows g.M.Memory.refuses
          c.args.memory.now maker.memory options.limit
          read.0 (g.R.Read.remaining c.read_units.new.input) c.read_units.new.visitor None None c.in_ok-summary.summary
          (read.2 (begins g.M.Memory.refuses first None maker.sufficed maker.count maker.runs maker.names maker.texts
          (Appends-nil None)) (Appends-nil None))
          (λ visits m. c.in-Err.ensures.wants first None None visits m),
    )

pub returns-in-Ok-clause-over : goal.returns-in-Ok-clause-over
returns-in-Ok-clause-over g c =
    let maker = c.new-maker.ensures in
    only_left (λ done. done.1) (c.in_ok-summary.ensures.over (begins g.M.Memory.refuses c.new-maker.result None maker.sufficed maker.count maker.runs maker.names maker.texts
    (Appends-nil None)) (Appends-nil None))
