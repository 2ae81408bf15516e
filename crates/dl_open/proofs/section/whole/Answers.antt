use Rattle.std.proofs.Common.{◌+◌, ◌++◌, List, ℕ, ap, arith, length, length-append, subst, sym, ◌∙◌}
use Rattle.std.specs.Io.KnownBytes.{Consumes}
use Rattle.std.proofs.lemmas.Result.{err_from_is_err_and}
use Rattle.dl_open.proofs.DirectoriesLemmas.{line_only, read_unread}
use Rattle.dl_open.proofs.SectionLemmas.{had_all, lost, taken, taken_few}
use Rattle.dl_open.proofs.section.whole.Goals as goal

pub loop-bytes-preserved : goal.loop-bytes-preserved
loop-bytes-preserved g c =
    let l = c.loop-bytes in
    let more = taken _ _ _ _ _ _ _ l.bytes.items c.in_ok-piece.field-0 c.in-Bytes.is l.invariant.read l.invariant.room
    c.in_ok-piece.ensures.piece in
    record {
      damage = c.next_piece.ensures.damage ∙ l.invariant.damage;
      later = λ error at. l.invariant.later error (c.next_piece.ensures.later error at);
      read = subst (Consumes _ _) (sym c.in-Ok.ensures.items) more.0;
      room = ap (λ (b : List ℕ). length b + c.next_piece.new.left) c.in-Ok.ensures.items ∙ more.1;
    }

pub returns-in-End-clause-bytes : goal.returns-in-End-clause-bytes
returns-in-End-clause-bytes g c source content gives =
    let fails = g.S.ReadAt.fails_with source in
    had_all {S = g.row.S.Denot} g.S.ReadAt.all_bytes g.S.ReadAt.fails_with fails c.args.section.now c.loop-bytes.section c.next_piece.new.section
    content _ _ _ c.loop-bytes.bytes.items c.in_ok-piece.field-0 c.in-End.is gives c.loop-bytes.invariant.read
    c.loop-bytes.invariant.room c.loop-bytes.invariant.damage c.in_ok-piece.ensures.piece

pub returns-in-Lost-clause-bytes : goal.returns-in-Lost-clause-bytes
returns-in-Lost-clause-bytes g c source content gives =
    let fails = g.S.ReadAt.fails_with source in
    lost {S = g.row.S.Denot} g.S.ReadAt.all_bytes g.S.ReadAt.fails_with fails c.args.section.now c.loop-bytes.section c.next_piece.new.section
    content _ _ _ c.loop-bytes.bytes.items c.in_ok-piece.field-0 c.in-Lost.is gives c.loop-bytes.invariant.read
    c.loop-bytes.invariant.room c.loop-bytes.invariant.damage c.in_ok-piece.ensures.piece

pub returns-in_default-clause-fails : goal.returns-in_default-clause-fails
returns-in_default-clause-fails g c source content gives =
    let l = c.loop-bytes in
    let piece = c.in-Bytes.piece.now in
    let more = taken _ _ _ _ _ _ _ l.bytes.items c.in_ok-piece.field-0 c.in-Bytes.is l.invariant.read l.invariant.room
    c.in_ok-piece.ensures.piece in
    let few = taken_few {S = g.row.S.Denot} g.S.ReadAt.all_bytes g.S.ReadAt.fails_with (g.S.ReadAt.fails_with source) c.args.section.now
    content _ (l.bytes.items ++ piece) gives more.0 in
    (length l.bytes.items + length piece, omega (arith, few, length-append l.bytes.items piece), c.in_default.ensures.refused)

pub returns-in_err-piece-clause-fails : goal.returns-in_err-piece-clause-fails
returns-in_err-piece-clause-fails g c source content gives =
    let fails = g.S.ReadAt.fails_with source in
    let p = err_from_is_err_and c.from_residual.result c.from_residual.ensures.1 in
    rw (p.1, p.2) (read_unread (g.M.Memory.refuses c.args.memory.now) _ _ _ fails _ c.loop-bytes.invariant.later
    (line_only {S = g.row.S.Denot} g.S.ReadAt.all_bytes g.S.ReadAt.fails_with fails c.args.section.now content gives)
    c.in_err-piece.ensures.fails)
