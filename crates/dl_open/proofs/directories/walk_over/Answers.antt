use Rattle.std.proofs.Common.{◌++◌, arith, length, length-append, sym, ◌∙◌}
use Rattle.std.proofs.lemmas.Result.{err_from_is_err_and}
use Rattle.dl_open.proofs.DirectoriesLemmas.{line_only, read_unread}
use Rattle.dl_open.proofs.SectionLemmas.{had_all, lost, taken, taken_few}
use Rattle.dl_open.proofs.directories.walk_over.Goals as goal

pub loop-walk-preserved : goal.loop-walk-preserved
loop-walk-preserved g c =
    let l = c.loop-walk in
    let read = l.invariant.read in
    let more = taken _ _ _ _ _ _ _ read.0 c.in_ok-piece.field-0 c.in-Bytes.is read.1 read.3 c.in_ok-piece.ensures.piece in
    record {
      damage = c.next_piece.ensures.damage ∙ l.invariant.damage;
      later = λ error at. l.invariant.later error (c.next_piece.ensures.later error at);
      read = (
        read.0 ++ c.in-Bytes.piece.now,
        more.0,
        c.in-Ok.ensures.stands _ _ read.0 read.2,
        more.1,
        rw (length-append read.0 c.in-Bytes.piece.now) (c.in-Ok.ensures.few (length read.0) read.4),
      );
    }

pub returns-in-Lost-clause-walked : goal.returns-in-Lost-clause-walked
returns-in-Lost-clause-walked g c source content gives =
    let fails = g.S.ReadAt.fails_with source in
    let read = c.loop-walk.invariant.read in
    sym (lost {S = g.row.S.Denot} g.S.ReadAt.all_bytes g.S.ReadAt.fails_with fails c.args.info.now c.loop-walk.info c.next_piece.new.section
    content _ _ _ read.0 c.in_ok-piece.field-0 c.in-Lost.is gives read.1 read.3 c.loop-walk.invariant.damage
    c.in_ok-piece.ensures.piece)

pub returns-in-End-clause-walked : goal.returns-in-End-clause-walked
returns-in-End-clause-walked g c source content gives =
    let fails = g.S.ReadAt.fails_with source in
    let read = c.loop-walk.invariant.read in (
      read.0,
      sym (had_all {S = g.row.S.Denot} g.S.ReadAt.all_bytes g.S.ReadAt.fails_with fails c.args.info.now c.loop-walk.info c.next_piece.new.section
          content _ _ _ read.0 c.in_ok-piece.field-0 c.in-End.is gives read.1 read.3 c.loop-walk.invariant.damage
          c.in_ok-piece.ensures.piece),
      read.2,
      read.4,
    )

pub returns-in_err-piece-clause-fails : goal.returns-in_err-piece-clause-fails
returns-in_err-piece-clause-fails g c source content gives =
    let fails = g.S.ReadAt.fails_with source in
    let p = err_from_is_err_and c.from_residual.result c.from_residual.ensures.1 in
    rw (p.1, p.2) (read_unread (g.M.Memory.refuses c.args.memory.now) _ _ _ fails _ c.loop-walk.invariant.later
    (line_only {S = g.row.S.Denot} g.S.ReadAt.all_bytes g.S.ReadAt.fails_with fails c.args.info.now content gives)
    c.in_err-piece.ensures.fails)

pub returns-in-Err-clause-fails : goal.returns-in-Err-clause-fails
returns-in-Err-clause-fails g c source content gives =
    let read = c.loop-walk.invariant.read in
    let piece = c.in-Bytes.piece.now in
    let more = taken _ _ _ _ _ _ _ read.0 c.in_ok-piece.field-0 c.in-Bytes.is read.1 read.3 c.in_ok-piece.ensures.piece in
    let few = taken_few {S = g.row.S.Denot} g.S.ReadAt.all_bytes g.S.ReadAt.fails_with (g.S.ReadAt.fails_with source) c.args.info.now content
    _ (read.0 ++ piece) gives more.0 in
    let refused = c.in-Err.ensures.refused (length read.0) read.4 in
    (refused.0, omega (arith, refused.1, few, length-append read.0 piece), refused.2)
