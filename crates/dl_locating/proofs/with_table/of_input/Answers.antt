use Rattle.std.proofs.Common.{◌∙◌, [], inl, refl, sym}
use Rattle.std.proofs.KnownBytes.{Consumes-nil, Keeps-refl}
use Rattle.dl_sections.proofs.BlameLemmas.{blames_where}
use Rattle.dl_locating.specs.WithTable.{table_seen}
use Rattle.dl_locating.proofs.TableLemmas.{input_done}
use Rattle.dl_locating.proofs.with_table.of_input.Goals as goal

pub returns-then-not-suits_input-clause-read : goal.returns-then-not-suits_input-clause-read
returns-then-not-suits_input-clause-read g c =
    ([], Consumes-nil _, inl (sym c.suits_input.ensures ∙ c.if-not-suits_input.true, (refl, refl, Keeps-refl _)))

pub returns-clause-read : goal.returns-clause-read
returns-clause-read g c =
    let e = c.on_input.ensures.ran in (
      e.0,
      e.1,
      input_done (g.M.Memory.refuses c.args.memory.now) (g.F.FileSource.held c.args.files.now) (g.F.FileSource.fails_with c.args.files.now)
          (table_seen c.args.words.now) c.args.wish c.everywhere.result c.directory_said.result c.command-command.result e.0 _ _ _ _
          (sym c.suits_input.ensures ∙ c.if-not-suits_input.false) c.everywhere.ensures c.directory_said.ensures.by
          c.command-command.ensures (e.2 tt),
    )

pub returns-then-not-suits_input-clause-blames : goal.returns-then-not-suits_input-clause-blames
returns-then-not-suits_input-clause-blames g c first is = (is, λ e. absurd (let e = e.0 in cc))

pub returns-clause-blames : goal.returns-clause-blames
returns-clause-blames g c = blames_where c.on_input.ensures.blames (λ e. (tt, e.0, e.1))

pub returns-clause-blames_writer : goal.returns-clause-blames_writer
returns-clause-blames_writer g c = c.on_input.ensures.blames_writer tt
