use Rattle.std.proofs.Common.{None, Some, Err, ap, arith, refl, subst, sym, ◌∙◌}
use Rattle.dl_file.specs.LineTable.{Content}
use Rattle.dl_open.specs.Stops.{StopsAt}
use Rattle.dl_open.specs.Tables.{stream_of}
use Rattle.dl_open.proofs.ReaderLemmas.{stops_at}
use Rattle.dl_program.proofs.BlameLemmas.{at_blamed}
use Rattle.dl_program.proofs.TableLemmas.{plain_known, plain_whole, ran}
use Rattle.dl_program.proofs.over_file.on_kept.Goals as goal

pub returns-in-Err-clause-ran : goal.returns-in-Err-clause-ran
returns-in-Err-clause-ran g c units t line ordered whole untold =
    let does = c.in-Err.ensures.ran in
    ran (g.M.Memory.refuses c.args.memory.now) _ _ _ _ t _ _ _ (Some c.args.bytes.now) (g.D.DamageSink.hears c.args.damages.now c.run.new.damages) _ _ _ _ _ _
    (λ read.
    plain_known t.line c.args.bytes.now (Some c.run.new.input.now) read line) whole ordered refl
    c.requires (does.0, does.1, does.2 untold) (
      c.at.result,
      refl,
      subst (λ (content : Content). StopsAt (λ error. ⊥) c.args.path.now (stream_of content) c.in-Err.fault c.at.result) (sym line)
          (stops_at (λ error. ⊥) c.args.path.now None None None c.in-Err.fault c.at.result refl (λ read.
          (let failed = ((c.run.ensures.blames c.args.bytes (0, refl)).1 (untold, c.in-Err.is ∙ ap Err read)).1 in
          omega (arith, failed.1, failed.2))) c.at.ensures),
    ) (λ read. plain_whole t.line c.args.bytes.now line)

pub returns-in-Err-clause-blames : goal.returns-in-Err-clause-blames
returns-in-Err-clause-blames g c untold =
    at_blamed g.W.Destination.fails c.args.path.now None None c.in-Err.fault c.at.result c.at.ensures (c.in-Err.ensures.blames_writer untold)
