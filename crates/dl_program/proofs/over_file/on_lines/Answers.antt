use Rattle.std.proofs.Common.{ap, inl, inr, refl, subst, sym}
use Rattle.std.specs.Option.{option_copied}
use Rattle.dl_head.specs.declared.dialect.Dialect.{Dialect}
use Rattle.dl_file.specs.LineTable.{Plain}
use Rattle.dl_open.specs.Tables.{IsKept, KeepingStops}
use Rattle.dl_program.specs.Tables.{with_bytes}
use Rattle.dl_program.proofs.BlameLemmas.{of_file_blamed}
use Rattle.dl_program.proofs.TableLemmas.{of_part, runs_wider}
use Rattle.dl_program.proofs.over_file.on_lines.Goals as goal

pub returns-in-Ok-clause-ran : goal.returns-in-Ok-clause-ran
returns-in-Ok-clause-ran g c source units t gives ordered whole untold =
    let kept = c.in-Ok.bytes.items in
    of_part (g.M.Memory.refuses c.args.memory.now) _ _ _ _ t c.in-Some.part.now _ _ _ _ _ (ap option_copied c.in-Some.is) (inr (
      kept,
      subst (λ (d : Dialect). IsKept d c.in-Some.part.now t.line kept) ordered (c.in-Ok.ensures.kept source t.line gives),
      runs_wider (g.M.Memory.refuses c.args.memory.now) units (λ error. ⊥) (g.S.ReadAt.fails_with source) _ _ (with_bytes t kept) _ _ _ _ (λ error no. absurd no)
          (c.on_kept.ensures.ran units (with_bytes t kept) (ap Plain (sym c.as_slice.ensures.value)) ordered whole untold),
    ))

pub returns-in-Err-clause-blames : goal.returns-in-Err-clause-blames
returns-in-Err-clause-blames g c untold = of_file_blamed g.W.Destination.fails c.in-Err.stop c.in-Err.ensures.blames

pub returns-in-Err-clause-ran : goal.returns-in-Err-clause-ran
returns-in-Err-clause-ran g c source units t gives ordered whole untold =
    let refuses = g.M.Memory.refuses c.args.memory.now in
    let part = c.in-Some.part.now in
    of_part refuses _ _ _ _ t part _ _ _ _ _ (ap option_copied c.in-Some.is) (inl (
      c.in-Err.stop,
      refl,
      subst (λ (d : Dialect). KeepingStops refuses (g.S.ReadAt.fails_with source) c.args.path.now d part t.line c.in-Err.stop)
          ordered (c.in-Err.ensures.kept source t.line gives),
      c.without_table.ensures,
      untold,
    ))
