use Rattle.std.proofs.Common.{[], ◌++◌, inl, inr, length, arith, refl, sym, ◌∙◌}
use Rattle.std.proofs.lemmas.Result.{err_from_is_err_and}
use Rattle.std.proofs.lemmas.Bool.{eqb-true}
use Rattle.std.proofs.lemmas.List.{nil_from_length}
use Rattle.std.proofs.KnownBytes.{Consumes-nil}
use Rattle.dl_sections.proofs.AroundPieces.{at_end, begins, no_more, reads_on, stops, too_long}
use Rattle.dl_sections.proofs.BlameLemmas.{blames_next, none_fed, same_fault}
use Rattle.dl_sections.proofs.EndLemmas.{stops_fed}
use Rattle.dl_sections.proofs.around.read_pieces_around.Goals as goal

pub pieces-init : goal.pieces-init
pieces-init g c = record {
  so = record {
    t = [];
    read = Consumes-nil (g.R.Read.remaining c.args.input.now);
    within = omega arith;
    counted = omega (arith, c.requires.begun.read);
    told = λ tells out. begins g.V.Visitor.story c.args.options.now.dialect c.args.visitor.now
        (g.W.Write.contents c.args.output.now) c.args.units.now c.requires.begun tells out;
  };
  follows = λ first is. is;
}

pub returns-then-is_empty : goal.returns-then-is_empty
returns-then-is_empty g c =
    let so = c.pieces.invariant.so in
    let none = nil_from_length c.in-Ok.piece.now (eqb-true (length c.in-Ok.piece.now) 0
    (sym c.is_empty.ensures ∙ c.if-is_empty.true)) in
    record {
      ran = at_end so _ c.in-Ok.piece.now c.in-Ok.ensures.ok none c.finish.result
          (λ is. c.finish.ensures c.args.options.now.limit c.args.options.now.dialect so.t c.args.visitor.now
          (g.W.Write.contents c.args.output.now) (g.W.Write.contents c.pieces.output) _
          (omega (arith, so.within), c.in-Ok.ensures.end none) (omega (arith, c.requires.limit, so.within)) is);
      blames = blames_next _ c.pieces.invariant.follows c.next_piece.ensures.blames (λ e. absurd cc);
      blames_writer = λ tells out. tt;
      over = λ tells out whole. inl (c.in-Ok.ensures.over none);
    }

pub returns-in_err-feed : goal.returns-in_err-feed
returns-in_err-feed g c =
    let p = err_from_is_err_and c.from_residual.result c.from_residual.ensures.1 in
    let so = c.pieces.invariant.so in
    rw (p.1, p.2) (record {
      ran = stops so _ c.in-Ok.piece.now c.in-Ok.ensures.ok c.feed.new.visitor _ c.feed.new.self _
          c.front-within.ensures.front _ (λ is. c.in_err-feed.ensures.fed c.args.options.now.dialect so.t c.args.visitor.now
          (g.W.Write.contents c.args.output.now) is);
      blames = blames_next _ c.pieces.invariant.follows c.next_piece.ensures.blames (λ e. absurd (none_fed g.V.Visitor.story c.args.visitor.now
          c.feed.new.visitor (g.W.Write.contents c.args.output.now) (g.W.Write.contents c.feed.new.output) e.0.never
          c.args.options.now.dialect (so.t ++ c.front-within.result.now) c.feed.new.self c.in_err-feed.field-0.0
          (c.in_err-feed.ensures.fed c.args.options.now.dialect so.t
          c.args.visitor.now (g.W.Write.contents c.args.output.now) (so.told e.0.tells e.0.out)) (same_fault _ e.1)));
      blames_writer = λ tells out. c.in_err-feed.ensures.blames_writer c.args.options.now.dialect so.t
          c.args.visitor.now (g.W.Write.contents c.args.output.now) (so.told tells out);
      over = λ tells out. tt;
    })

pub returns-in-Stop : goal.returns-in-Stop
returns-in-Stop g c =
    let so = c.pieces.invariant.so in
    record {
      ran = no_more so _ c.in-Ok.piece.now c.in-Ok.ensures.ok c.feed.new.visitor _ c.feed.new.self _
          c.front-within.ensures.front c.in-Stop.is (λ is. c.in_ok-feed.ensures.fed c.args.options.now.dialect so.t
          c.args.visitor.now (g.W.Write.contents c.args.output.now) is) c.survey.ensures;
      blames = blames_next _ c.pieces.invariant.follows c.next_piece.ensures.blames (λ e. absurd cc);
      blames_writer = λ tells out. tt;
      over = λ tells out whole. inr (stops_fed g.V.Visitor.story c.args.visitor.now c.feed.new.visitor
          (g.W.Write.contents c.args.output.now) (g.W.Write.contents c.feed.new.output) c.args.options.now.dialect
          (so.t ++ c.front-within.result.now) c.feed.new.self c.in-Stop.is c.survey.ensures
          (c.in_ok-feed.ensures.fed c.args.options.now.dialect so.t c.args.visitor.now
          (g.W.Write.contents c.args.output.now) (so.told tells out)) whole);
    }

pub returns-then-within-piece : goal.returns-then-within-piece
returns-then-within-piece g c =
    let so = c.pieces.invariant.so in
    record {
      ran = too_long so _ c.in-Ok.piece.now c.in-Ok.ensures.ok c.feed.new.visitor _ c.feed.new.self _
          c.front-within.ensures.front c.in-On.is (λ is. c.in_ok-feed.ensures.fed c.args.options.now.dialect so.t
          c.args.visitor.now (g.W.Write.contents c.args.output.now) is) c.if-within-piece.true;
      blames = blames_next _ c.pieces.invariant.follows c.next_piece.ensures.blames (λ e. absurd cc);
      blames_writer = λ tells out. tt;
      over = λ tells out. tt;
    }

pub pieces-preserved : goal.pieces-preserved
pieces-preserved g c =
    let so = c.pieces.invariant.so in
    record {
      so = reads_on so _ c.in-Ok.piece.now c.in-Ok.ensures.ok c.feed.new.visitor _ c.feed.new.self _
          c.front-within.ensures.front c.in-On.is (λ is. c.in_ok-feed.ensures.fed c.args.options.now.dialect so.t
          c.args.visitor.now (g.W.Write.contents c.args.output.now) is)
          (c.front-within.ensures.whole (omega (arith, c.if-within-piece.false))) c.in_ok-feed.ensures.read;
      follows = λ first is. (c.next_piece.ensures.blames first (c.pieces.invariant.follows first is)).0;
    }

pub returns-in_default-clause-blames : goal.returns-in_default-clause-blames
returns-in_default-clause-blames g c =
    blames_next _ c.pieces.invariant.follows c.in_default.ensures.blames (λ e. refl)
