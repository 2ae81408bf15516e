use Rattle.std.proofs.Common.{refl, subst, sym}
use Rattle.std.proofs.lemmas.Grind.{common_steps}
use Rattle.dl_sections.proofs.Names.{◌++◌, arith, Consumes-trans, length-append}
use Rattle.dl_sections.proofs.BlameLemmas.{blames_next}
use Rattle.dl_sections.proofs.strings.read_strings.Goals as goal

pub returns-then-limit-len : goal.returns-then-limit-len
returns-then-limit-len g c =
    let l = c.loop-piece in
    let piece = c.in-Ok.piece.now in record {
      ran = (
        l.bytes.items ++ piece,
        Consumes-trans _ _ _ _ _ l.invariant.read c.in-Ok.ensures.ok,
        omega (arith, c.if-limit-len.true, c.len.ensures, l.bytes.ok.0, length-append l.bytes.items piece),
      );
      blames = blames_next _ l.invariant.follows c.next_piece.ensures.blames (λ e. absurd cc);
      over = tt;
    }

pub returns-in_default-extend_from_slice : goal.returns-in_default-extend_from_slice
returns-in_default-extend_from_slice g c =
    let l = c.loop-piece in
    let piece = c.in-Ok.piece.now in record {
      ran = (
        l.bytes.items ++ piece,
        Consumes-trans _ _ _ _ _ l.invariant.read c.in-Ok.ensures.ok,
        (
          omega (
            arith,
            c.if-limit-len.false,
            c.len.ensures,
            l.bytes.ok.0,
            l.invariant.within,
            length-append l.bytes.items piece,
          ),
          subst (g.M.Memory.refuses c.args.memory.now) (sym (length-append l.bytes.items piece))
              c.in_default-extend_from_slice.ensures.refused,
        ),
      );
      blames = blames_next _ l.invariant.follows c.next_piece.ensures.blames (λ e. absurd cc);
      over = tt;
    }

pub returns-in_default-clause-blames : goal.returns-in_default-clause-blames
returns-in_default-clause-blames g c =
    blames_next _ c.loop-piece.invariant.follows c.in_default.ensures.blames (λ e. refl)

pub returns-then-is_empty-clause-blames : goal.returns-then-is_empty-clause-blames
returns-then-is_empty-clause-blames g c =
    blames_next _ c.loop-piece.invariant.follows c.next_piece.ensures.blames (λ e. absurd cc)

pub loop-piece-preserved : goal.loop-piece-preserved
loop-piece-preserved g c =
    let l = c.loop-piece in
    record {
      read = let consumed = Consumes-trans _ _ _ _ _ l.invariant.read c.in-Ok.ensures.ok in grind (arith, common_steps);
      follows = λ first is. (c.next_piece.ensures.blames first (l.invariant.follows first is)).0;
      within = grind (arith, common_steps);
    }
