use Rattle.dl_open.proofs.DirectoriesLemmas.{had_where_read}
use Rattle.dl_open.proofs.SectionLemmas.{gives_file}
use Rattle.dl_open.proofs.directories.whole_where.Goals as goal

pub returns-in-Some : goal.returns-in-Some
returns-in-Some g c source content gives =
    let fails = g.S.ReadAt.fails_with source in
    had_where_read {S = g.row.S.Denot} (g.M.Memory.refuses c.args.memory.now) g.S.ReadAt.all_bytes g.S.ReadAt.fails_with fails c.args.wanted c.args.section c.in-Some.section content
    c.whole.result c.in-Some.is gives
    (λ own given. c.whole.ensures.bytes source own (gives_file {S = g.row.S.Denot} g.S.ReadAt.all_bytes g.S.ReadAt.fails_with
    fails c.in-Some.section own given))
    (λ own given. c.whole.ensures.fails source own (gives_file {S = g.row.S.Denot} g.S.ReadAt.all_bytes g.S.ReadAt.fails_with
    fails c.in-Some.section own given))
