use Rattle.std.proofs.Common.{None, Some, Err, ap, arith, refl, ◌∙◌}
use Rattle.dl_open.proofs.BlameLemmas.{naming_reads, of_file}
use Rattle.dl_open.proofs.ReaderLemmas.{stops_at}
use Rattle.dl_open.proofs.named.is_named_in.Goals as goal

pub returns-in-Err-clause-told : goal.returns-in-Err-clause-told
returns-in-Err-clause-told c = (
  c.in-Err.fault,
  c.in-Err.ensures.told,
  stops_at (λ error. ⊥) c.args.path.now None None None c.in-Err.fault c.at.result refl
      (λ read. (let failed = ((c.names_str.ensures.blames c.args.bytes (0, refl)).1 (c.in-Err.is ∙ ap Err read)).1 in
      omega (arith, failed.1, failed.2))) c.at.ensures,
)

pub returns-in-Err-clause-blames : goal.returns-in-Err-clause-blames
returns-in-Err-clause-blames c =
    of_file c.args.path.now None None c.in-Err.fault c.at.result
    (naming_reads c.args.dialect (Some c.args.bytes.now) c.in-Err.fault c.in-Err.ensures.told) c.at.ensures
