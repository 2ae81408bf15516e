use Rattle.dl_sections.specs.Commands.{strings_in}
use Rattle.dl_sections.proofs.BlameLemmas.{blames_where}
use Rattle.dl_making.proofs.BlameLemmas.{made_over, made_read, never_until}
use Rattle.dl_making.proofs.writing_until.write_index_until.Goals as goal

pub returns-clause-ran : goal.returns-clause-ran
returns-clause-ran g c =
    let read = c.make_index_until-made.ensures.ran in
    let made = c.make_index_until-made.result in
    (read.0, read.1, (made.ended, made.index, read.2, c.put_made.ensures.written))

pub returns-clause-blames : goal.returns-clause-blames
returns-clause-blames g c =
    let made = c.make_index_until-made.result in
    blames_where c.make_index_until-made.ensures.blames (made_read made.ended made.index _ _ c.put_made.result c.put_made.ensures.written)

pub returns-clause-blames_writer : goal.returns-clause-blames_writer
returns-clause-blames_writer g c =
    let options = c.args.options.now in
    let made = c.make_index_until-made.result in
    let read = c.make_index_until-made.ensures.ran in
    c.put_made.ensures.blames_writer (never_until _ (g.M.Memory.refuses c.args.memory.now) options.dialect (strings_in options) c.args.table.now options.limit
    read.0 (g.R.Read.remaining c.make_index_until-made.new.input) made.ended made.index read.2)

pub returns-clause-over : goal.returns-clause-over
returns-clause-over g c =
    let made = c.make_index_until-made.result in
    made_over (g.R.Source.over c.make_index_until-made.new.input) made.ended made.index _ _ c.put_made.result c.put_made.ensures.written c.make_index_until-made.ensures.over
