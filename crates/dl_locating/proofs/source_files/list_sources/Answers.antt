use Rattle.std.proofs.Common.{[], refl, subst, sym}
use Rattle.std.proofs.KnownBytes.{Consumes-nil, Keeps-refl}
use Rattle.dl_sections.proofs.BlameLemmas.{blames_where}
use Rattle.dl_locating.specs.WithTable.{BlamesTable, TableRead, TableTexts}
use Rattle.dl_locating.proofs.source_files.list_sources.Goals as goal

pub returns-in_default-clause-listed : goal.returns-in_default-clause-listed
returns-in_default-clause-listed g c = ([], Consumes-nil _, rw (← c.wish.ensures, c.in_default.is) (refl, refl, Keeps-refl _))

pub returns-in_default-clause-blames : goal.returns-in_default-clause-blames
returns-in_default-clause-blames g c first is = (is, λ e. absurd (let e = e.1.0 in cc))

pub returns-clause-listed : goal.returns-clause-listed
returns-clause-listed g c =
    let e = c.ask_table.ensures.read in (
      e.0,
      e.1,
      rw (← c.wish.ensures, c.in-Some.is) (
          subst (λ (t : TableTexts). TableRead (g.M.Memory.refuses c.args.memory.now) (g.F.FileSource.held c.args.files.now)
          (g.F.FileSource.fails_with c.args.files.now) t c.in-Some.wish e.0 (g.R.Read.remaining c.ask_table.new.input)
          (g.W.Write.contents c.args.output.now) (g.W.Write.contents c.ask_table.new.output) c.ask_table.result)
          c.table.ensures e.2),
    )

pub returns-clause-blames : goal.returns-clause-blames
returns-clause-blames g c =
    blames_where c.ask_table.ensures.blames (λ e.
    subst (λ t. BlamesTable (g.M.Memory.refuses c.args.memory.now) (g.F.FileSource.held c.args.files.now)
    (g.F.FileSource.fails_with c.args.files.now) t c.ask_table.result) (sym c.table.ensures) e)
