use Rattle.std.proofs.Common.{◌∙◌, ap}
use Rattle.std.proofs.KnownBytes.{Appends-nil}
use Rattle.dl_sections.specs.Commands.{strings_in}
use Rattle.dl_sections.proofs.BlameLemmas.{blames_where}
use Rattle.dl_sections.proofs.EndLemmas.{only_where}
use Rattle.dl_lines.specs.Commands.{known_by}
use Rattle.dl_lines.proofs.AnsweringLemmas.{never_read}
use Rattle.dl_lines.proofs.AroundAnswers.{is_told_around, over_where}
use Rattle.dl_lines.proofs.around.lines_around.Goals as goal

pub returns-clause-ran : goal.returns-clause-ran
returns-clause-ran g c =
    let options = c.args.options.now in
    let q = c.args.question.now in
    let s = strings_in options in
    let first = c.in-Ok.seeker in
    let start = g.W.Write.contents c.args.output.now in
    let mid = g.W.Write.contents c.read_units_around-ended.new.output in
    let now = g.W.Write.contents c.answer_around.new.output in
    let left = g.R.Read.remaining c.read_units_around-ended.new.input in
    let read = c.read_units_around-ended.ensures.ran in
    let ran = read.2 (c.in-Ok.ensures.begins start (Appends-nil start)) (Appends-nil start) in
    let new = c.read_units_around-ended.new.visitor in
    let refuses = g.M.Memory.refuses in
    let told = is_told_around refuses options.dialect s q first new options.limit read.0 left start mid now
    (c.in-Ok.ensures.known ∙ ap (λ t. known_by t q) c.new-strings.ensures) c.in-Ok.ensures.made
    c.read_units_around-ended.result c.answer_around.result c.answer_around.ensures.refused
    (λ visits whole stands. c.answer_around.ensures.answered first start mid visits q.wanted.now q.exact whole stands
    c.in-Ok.ensures.made) ran in (
      read.0,
      read.1,
      rw (← c.in-Ok.ensures.memory) told,
    )

pub returns-clause-blames : goal.returns-clause-blames
returns-clause-blames g c =
    let start = g.W.Write.contents c.args.output.now in
    blames_where c.read_units_around-ended.ensures.blames (λ e. (
      record {
        tells = c.in-Ok.ensures.begins start (Appends-nil start);
        out = Appends-nil start;
        never = never_read g.M.Memory.refuses c.in-Ok.seeker;
      },
      c.answer_around.ensures.reads e,
    ))

pub returns-clause-blames_writer : goal.returns-clause-blames_writer
returns-clause-blames_writer g c =
    let start = g.W.Write.contents c.args.output.now in
    c.answer_around.ensures.blames_writer
    (c.read_units_around-ended.ensures.blames_writer (c.in-Ok.ensures.begins start (Appends-nil start)) (Appends-nil start))

pub returns-clause-over : goal.returns-clause-over
returns-clause-over g c =
    let start = g.W.Write.contents c.args.output.now in
    over_where (g.R.Source.over c.read_units_around-ended.new.input) c.answer_around.result c.read_units_around-ended.result
    c.answer_around.ensures.ok c.answer_around.ensures.ends
    (only_where (g.R.Source.over c.read_units_around-ended.new.input) c.read_units_around-ended.result
    (c.read_units_around-ended.ensures.over (c.in-Ok.ensures.begins start (Appends-nil start)) (Appends-nil start)))
