use Rattle.std.proofs.Common.{◌∙◌, sym, subst}
use Rattle.std.proofs.KnownBytes.{Appends-nil}
use Rattle.dl_sections.specs.Commands.{strings_in}
use Rattle.dl_addr.specs.Knowing.{Knows}
use Rattle.dl_addr.proofs.AnsweringLemmas.{is_told}
use Rattle.dl_sections.proofs.BlameLemmas.{blames_where}
use Rattle.dl_sections.proofs.EndLemmas.{only_over}
use Rattle.dl_addr.proofs.BlameLemmas.{never_read, told_over, told_read, told_writer}
use Rattle.dl_addr.proofs.answering.addr.Goals as goal

pub returns-clause-ran : goal.returns-clause-ran
returns-clause-ran g c =
    let options = c.args.options.now in
    let q = c.args.question.now in
    let s = strings_in options in
    let first = c.in-Ok.locator in
    let start = g.W.Write.contents c.args.output.now in
    let mid = g.W.Write.contents c.read_units-ended.new.output in
    let now = g.W.Write.contents c.print_all-printed.new.output in
    let left = g.R.Read.remaining c.read_units-ended.new.input in
    let read = c.read_units-ended.ensures.ran in
    let ran = read.2 (c.in-Ok.ensures.begins start) (Appends-nil start) in
    let new = c.read_units-ended.new.visitor in
    let knows = subst (Knows first q) c.new-strings.ensures c.in-Ok.ensures.knows in
    let refuses = g.M.Memory.refuses in
    let locates = is_told options.dialect q s first knows options.limit read.0 left new start mid
    c.in-Ok.ensures.made refuses now c.read_units-ended.result c.print_all-printed.result ran
    (λ visits stands. c.print_all-printed.ensures.printed first start mid visits stands c.in-Ok.ensures.made) in (
      read.0,
      read.1,
      rw (c.told.ensures, ← c.in-Ok.ensures.memory) locates,
    )

pub returns-clause-blames : goal.returns-clause-blames
returns-clause-blames g c =
    let start = g.W.Write.contents c.args.output.now in
    blames_where c.read_units-ended.ensures.blames (λ e. (
      record {
        tells = c.in-Ok.ensures.begins start;
        out = Appends-nil start;
        never = never_read c.in-Ok.locator;
      },
      told_read c.read_units-ended.result c.print_all-printed.result (sym c.told.ensures ∙ e),
    ))

pub returns-clause-blames_writer : goal.returns-clause-blames_writer
returns-clause-blames_writer g c =
    rw c.told.ensures (told_writer _ c.read_units-ended.result c.print_all-printed.result
    (c.read_units-ended.ensures.blames_writer (c.in-Ok.ensures.begins (g.W.Write.contents c.args.output.now)) (Appends-nil _))
    c.print_all-printed.ensures.blames_writer)

pub returns-clause-over : goal.returns-clause-over
returns-clause-over g c =
    rw c.told.ensures (told_over (g.R.Source.over c.read_units-ended.new.input) c.read_units-ended.result c.print_all-printed.result
    (only_over (g.R.Source.over c.read_units-ended.new.input) c.read_units-ended.result
    (c.read_units-ended.ensures.over (c.in-Ok.ensures.begins (g.W.Write.contents c.args.output.now)) (Appends-nil _))))
