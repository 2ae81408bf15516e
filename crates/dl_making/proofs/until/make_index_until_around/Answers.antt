use Rattle.std.proofs.Common.{None, ap, subst, sym, ◌∙◌}
use Rattle.std.proofs.KnownBytes.{Appends-nil}
use Rattle.dl_print.specs.ValueText.{strings_of}
use Rattle.dl_sections.specs.Commands.{strings_in}
use Rattle.dl_making.specs.Until.{MakesUntilAround, is_refused}
use Rattle.dl_making.proofs.MakerLemmas.{begins}
use Rattle.dl_making.proofs.MakingLemmas.{Knows}
use Rattle.dl_making.proofs.UntilLemmas.{told_until_around, until_around, refused_by, told_index_is}
use Rattle.dl_sections.proofs.BlameLemmas.{blames_where}
use Rattle.dl_sections.proofs.EndLemmas.{only_where}
use Rattle.dl_making.proofs.BlameLemmas.{never_read}
use Rattle.dl_making.proofs.until.make_index_until_around.Goals as goal

pub returns-clause-ran : goal.returns-clause-ran
returns-clause-ran g c =
    let read = c.read_units_around-ended.ensures.ran in
    let maker = c.new-maker.ensures in
    let options = c.args.options.now in
    let first = c.new-maker.result in
    let ended = c.read_units_around-ended.result in
    let left = g.R.Read.remaining c.read_units_around-ended.new.input in
    let index = c.index_until.result in
    let knows : Knows first c.args.table.now (strings_in options) =
    record { code = maker.code; directories = maker.directories; strings = ap strings_of maker.strings ∙ c.new-strings.ensures } in (
      read.0,
      read.1,
      subst (λ m. MakesUntilAround (g.M.Memory.refuses m) options.dialect (strings_in options) c.args.table.now options.limit read.0 left
          ended index) maker.memory
          (until_around g.M.Memory.refuses options.dialect first c.args.table.now (strings_in options) knows options.limit read.0 left
          c.read_units_around-ended.new.visitor None None index ended
          (λ e. c.index_until.ensures.refused (refused_by ended c.err.result c.err.ensures.value e))
          (λ some. told_index_is g.M.Memory.refuses c.args.table.now
          c.read_units_around-ended.new.visitor index c.index_until.ensures.told
          (c.index_until.ensures.wants (ap is_refused c.err.ensures.value ∙ some)))
          (read.2 (begins g.M.Memory.refuses first None maker.sufficed maker.count maker.runs maker.names maker.texts
          (Appends-nil None)) (Appends-nil None))),
    )

pub index_until-requires : goal.index_until-requires
index_until-requires g c =
    let read = c.read_units_around-ended.ensures.ran in
    let maker = c.new-maker.ensures in
    let first = c.new-maker.result in
    let ended = c.read_units_around-ended.result in
    λ some. told_until_around g.M.Memory.refuses c.args.options.now.dialect first c.args.options.now.limit read.0
    (g.R.Read.remaining c.read_units_around-ended.new.input) c.read_units_around-ended.new.visitor None None ended
    (ap is_refused (sym c.err.ensures.value) ∙ some)
    (read.2 (begins g.M.Memory.refuses first None maker.sufficed maker.count maker.runs maker.names maker.texts (Appends-nil None)) (Appends-nil None))

pub returns-clause-blames : goal.returns-clause-blames
returns-clause-blames g c =
    let maker = c.new-maker.ensures in
    blames_where c.read_units_around-ended.ensures.blames (λ e. (
      never_read g.M.Memory.refuses c.new-maker.result (begins g.M.Memory.refuses c.new-maker.result None maker.sufficed maker.count maker.runs maker.names maker.texts (Appends-nil None)),
      e,
    ))

pub returns-clause-over : goal.returns-clause-over
returns-clause-over g c =
    let maker = c.new-maker.ensures in
    only_where (g.R.Source.over c.read_units_around-ended.new.input) c.read_units_around-ended.result (c.read_units_around-ended.ensures.over
    (begins g.M.Memory.refuses c.new-maker.result None maker.sufficed maker.count maker.runs maker.names maker.texts
    (Appends-nil None)) (Appends-nil None))
