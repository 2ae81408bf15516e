use Rattle.std.proofs.Common.{Some, ap, arith, length, option_map, sym, ◌+◌, ◌∙◌}
use Rattle.std.proofs.lemmas.Result.{err_from_is_err_and}
use Rattle.dl_open.specs.Tables.{bytes_of}
use Rattle.dl_open.proofs.DirectoriesLemmas.{none_had, through, unread_more}
use Rattle.dl_open.proofs.SectionLemmas.{gives_file}
use Rattle.dl_open.proofs.directories.places_of.Goals as goal

pub returns-in-Some : goal.returns-in-Some
returns-in-Some g c source a i given gives =
    let all_bytes = g.S.ReadAt.all_bytes in
    let fails_with = g.S.ReadAt.fails_with in
    let told = c.in_ok-abbreviations.ensures.bytes source a
    (gives_file {S = g.row.S.Denot} all_bytes fails_with (fails_with source) c.args.abbreviations a given) in
    through (g.M.Memory.refuses c.args.memory.now) c.args.order c.deref.result.now a i c.walk_through.result (fails_with source)
    (ap Some c.deref.ensures.value ∙ (sym (ap (option_map (λ v. v.items)) c.in-Some.is) ∙ told))
    (c.walk_through.ensures.places source i gives) (c.walk_through.ensures.fails source i gives)

pub returns : goal.returns
returns g c source a i given gives =
    let all_bytes = g.S.ReadAt.all_bytes in
    let fails_with = g.S.ReadAt.fails_with in
    let told = c.in_ok-abbreviations.ensures.bytes source a
    (gives_file {S = g.row.S.Denot} all_bytes fails_with (fails_with source) c.args.abbreviations a given) in
    none_had c.args.order a i (sym (ap (option_map (λ v. v.items)) c.in-None.is) ∙ told)

pub returns-in_err-abbreviations : goal.returns-in_err-abbreviations
returns-in_err-abbreviations g c source a i given gives =
    let fails = g.S.ReadAt.fails_with source in
    let p = err_from_is_err_and c.from_residual.result c.from_residual.ensures.1 in
    rw (p.1, p.2) (unread_more (g.M.Memory.refuses c.args.memory.now) (length (bytes_of a)) (length (bytes_of a) + length (bytes_of i)) fails _ (omega arith)
    (c.in_err-abbreviations.ensures.fails source a
    (gives_file {S = g.row.S.Denot} g.S.ReadAt.all_bytes g.S.ReadAt.fails_with fails c.args.abbreviations a given)))
