use Rattle.std.proofs.Common.{◌++◌, [], inl, inr, ap, arith, append-nil, length, length-append, subst, sym, refl, ◌∙◌, List, ℕ}
use Rattle.std.proofs.KnownBytes.{Consumes-nil, Consumes-trans}
use Rattle.dl_head.specs.declared.dialect.Dialect.{Dialect}
use Rattle.dl_forms.specs.Names.{RefusesCellFrom}
use Rattle.dl_open.proofs.NamedLemmas.{at_end, empty_is, none_follow, over, said, told_in, wants}
use Rattle.dl_open.proofs.NamedLemmas.{too_long, same_over}
use Rattle.dl_sections.proofs.BlameLemmas.{blames_next}
use Rattle.dl_open.proofs.named.names_str.Goals as goal

pub loop-buffer-init : goal.loop-buffer-init
loop-buffer-init g c = record {
  dialect = c.new-walk.ensures.dialect;
  follows = λ first is. is;
  read = ([], Consumes-nil _, c.new-walk.ensures.stands, refl);
}

pub returns-then-is_empty : goal.returns-then-is_empty
returns-then-is_empty g c =
    let l = c.loop-buffer in
    let read = l.invariant.read in
    let nothing = empty_is c.in-Ok.piece.now (sym c.is_empty.ensures ∙ c.if-is_empty.true) in
    record {
      told = at_end c.args.dialect _ _ (read.0 ++ c.in-Ok.piece.now) c.names_str-names.result
          (Consumes-trans _ _ _ read.0 c.in-Ok.piece.now read.1 c.in-Ok.ensures.ok)
          (told_in l.walk.dialect c.args.dialect read.0 (read.0 ++ c.in-Ok.piece.now) c.names_str-names.result l.invariant.dialect
          (sym (ap (λ (z : List ℕ). read.0 ++ z) nothing ∙ append-nil read.0)) (c.names_str-names.ensures read.0 read.2))
          (c.in-Ok.ensures.end nothing);
      settled = λ e. inl (c.in-Ok.ensures.over nothing);
      blames = blames_next _ l.invariant.follows c.next_piece.ensures.blames (λ e. absurd cc);
    }

pub returns-then-left-piece : goal.returns-then-left-piece
returns-then-left-piece g c =
    let l = c.loop-buffer in
    let read = l.invariant.read in
    record {
      told = too_long _ _ read.0 c.in-Ok.piece.now l.left
          (Consumes-trans _ _ _ read.0 c.in-Ok.piece.now read.1 c.in-Ok.ensures.ok) read.3 c.if-left-piece.true;
      settled = λ e. absurd cc;
      blames = blames_next _ l.invariant.follows c.next_piece.ensures.blames (λ e. absurd cc);
    }

pub returns-in-Err : goal.returns-in-Err
returns-in-Err g c =
    let l = c.loop-buffer in
    let read = l.invariant.read in
    record {
      told = wants c.args.dialect _ _ (read.0 ++ c.in-Ok.piece.now) (length read.0)
          (Consumes-trans _ _ _ read.0 c.in-Ok.piece.now read.1 c.in-Ok.ensures.ok)
          (subst (λ (d : Dialect). RefusesCellFrom d (length read.0) (read.0 ++ c.in-Ok.piece.now)) l.invariant.dialect
          (c.in-Err.ensures.memory read.0 read.2));
      settled = λ e. absurd cc;
      blames = blames_next _ l.invariant.follows c.next_piece.ensures.blames (λ e. absurd cc);
    }

pub loop-buffer-preserved : goal.loop-buffer-preserved
loop-buffer-preserved g c =
    let l = c.loop-buffer in
    let read = l.invariant.read in
    let piece = c.in-Ok.piece.now in
    let size = length-append read.0 piece in
    let limit = read.3 in
    record {
      dialect = c.in-Ok-feed.ensures.dialect ∙ l.invariant.dialect;
      follows = λ first is. (c.next_piece.ensures.blames first (l.invariant.follows first is)).0;
      read = (
        read.0 ++ piece,
        Consumes-trans _ _ _ read.0 piece read.1 c.in-Ok.ensures.ok,
        c.in-Ok-feed.ensures.stands read.0 read.2,
        omega (arith, size, limit, c.if-left-piece.false),
      );
    }

pub returns : goal.returns
returns g c =
    let l = c.loop-buffer in
    let read = l.invariant.read in
    record {
      told = over c.args.dialect _ _ read.0 c.names_str-named.result read.1
          (told_in l.walk.dialect c.args.dialect read.0 read.0 c.names_str-named.result l.invariant.dialect refl
          (c.names_str-named.ensures read.0 read.2))
          (same_over l.walk.dialect c.args.dialect read.0 l.invariant.dialect
          (λ rest. c.is_over.ensures.settled read.0 rest read.2 c.loop-buffer-test.false));
      settled = λ e. inr (none_follow c.args.dialect _ _ read.0 c.names_str-named.result read.1
          (told_in l.walk.dialect c.args.dialect read.0 read.0 c.names_str-named.result l.invariant.dialect refl
          (c.names_str-named.ensures read.0 read.2))
          (same_over l.walk.dialect c.args.dialect read.0 l.invariant.dialect
          (λ rest. c.is_over.ensures.settled read.0 rest read.2 c.loop-buffer-test.false)) (said c.names_str-named.result e));
      blames = λ first is. (l.invariant.follows first is, λ e. absurd cc);
    }

pub returns-in_default-clause-blames : goal.returns-in_default-clause-blames
returns-in_default-clause-blames g c =
    blames_next _ c.loop-buffer.invariant.follows c.in_default.ensures.blames (λ e. refl)
