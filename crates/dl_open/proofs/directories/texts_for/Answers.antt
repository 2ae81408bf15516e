use Rattle.std.proofs.Common.{arith, ◌+◌}
use Rattle.std.proofs.lemmas.Result.{err_from_is_err_and}
use Rattle.dl_open.specs.Directories.{section_size}
use Rattle.dl_open.proofs.DirectoriesLemmas.{had_for, unread_more}
use Rattle.dl_open.proofs.directories.texts_for.Goals as goal

pub returns : goal.returns
returns g c source t offsets str line order abbreviations b placed = record {
  str_offsets = had_for _ _ t.str_offsets _ (c.wants_str_offsets.ensures order abbreviations b placed).1
      (c.in_ok-whole_where.ensures source t.str_offsets offsets);
  str = had_for _ _ t.str _ (c.wants_str.ensures order abbreviations b placed).1
      (c.in_ok-whole_where-2.ensures source t.str str);
  line_str = had_for _ _ t.line_str _ (c.wants_line_str.ensures order abbreviations b placed).1
      (c.in_ok-whole_where-3.ensures source t.line_str line);
}

pub returns-in_err-whole_where : goal.returns-in_err-whole_where
returns-in_err-whole_where g c source t offsets str line =
    let fails = g.S.ReadAt.fails_with source in
    let p = err_from_is_err_and c.from_residual.result c.from_residual.ensures.1 in
    rw (p.1, p.2) (unread_more (g.M.Memory.refuses c.args.memory.now) (section_size t.str_offsets) (section_size t.str_offsets + section_size t.str + section_size t.line_str) fails _ (omega arith)
    (c.in_err-whole_where.ensures source t.str_offsets offsets))

pub returns-in_err-whole_where-2 : goal.returns-in_err-whole_where-2
returns-in_err-whole_where-2 g c source t offsets str line =
    let fails = g.S.ReadAt.fails_with source in
    let p = err_from_is_err_and c.from_residual-in_err-whole_where-2.result c.from_residual-in_err-whole_where-2.ensures.1 in
    rw (p.1, p.2) (unread_more (g.M.Memory.refuses c.args.memory.now) (section_size t.str) (section_size t.str_offsets + section_size t.str + section_size t.line_str) fails _ (omega arith)
    (c.in_err-whole_where-2.ensures source t.str str))

pub returns-in_err-whole_where-3 : goal.returns-in_err-whole_where-3
returns-in_err-whole_where-3 g c source t offsets str line =
    let fails = g.S.ReadAt.fails_with source in
    let p = err_from_is_err_and c.from_residual-in_err-whole_where-3.result c.from_residual-in_err-whole_where-3.ensures.1 in
    rw (p.1, p.2) (unread_more (g.M.Memory.refuses c.args.memory.now) (section_size t.line_str) (section_size t.str_offsets + section_size t.str + section_size t.line_str) fails _ (omega arith)
    (c.in_err-whole_where-3.ensures source t.line_str line))
