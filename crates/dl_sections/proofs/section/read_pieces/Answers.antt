use Rattle.std.proofs.Common.{[], ◌++◌, inl, inr, length, arith, refl, sym, ◌∙◌}
use Rattle.std.proofs.lemmas.Result.{err_from_is_err_and}
use Rattle.std.proofs.lemmas.Bool.{eqb-true}
use Rattle.std.proofs.lemmas.List.{nil_from_length}
use Rattle.std.proofs.KnownBytes.{Consumes-nil}
use Rattle.dl_sections.proofs.SectionLemmas.{none_begins, none_refused, nothing_before}
use Rattle.dl_sections.proofs.ReadLemmas.{failed_read, at_end, stops, wants_no_more, too_long, reads_on}
use Rattle.dl_sections.proofs.BlameLemmas.{blames_next, finished_blames, none_finished, none_worked, same_fault}
use Rattle.dl_sections.proofs.EndLemmas.{on_ok, stops_worked}
use Rattle.dl_sections.proofs.section.read_pieces.Goals as goal

pub pieces-init : goal.pieces-init
pieces-init g c = record {
  so = record {
    t = [];
    read = Consumes-nil (g.R.Read.remaining c.args.input.now);
    within = omega arith;
    told = λ tells out. record {
      units = [];
      b = [];
      are = c.requires.begun (nothing_before c.args.options.now.dialect) refl refl;
      none = none_begins c.args.options.now.dialect;
      sound = none_refused c.args.options.now.dialect;
      settled = record { tells = tells; out = out };
    };
  };
  follows = λ first is. is;
}

pub returns-in_default : goal.returns-in_default
returns-in_default g c =
    let l = c.pieces in
    record {
      ran = failed_read g.V.Visitor.story c.args.options.now.dialect c.args.options.now.limit
          (g.R.Read.remaining c.args.input.now) (g.R.Read.remaining l.input) c.args.visitor.now l.visitor
          (g.W.Write.contents c.args.output.now) (g.W.Write.contents l.output) l.units l.left l.invariant.so
          (g.R.Read.remaining c.next_piece.new.reader) c.in_default.ensures.err;
      blames = blames_next _ (λ first is. l.invariant.follows first is) c.in_default.ensures.blames (λ e. refl);
      blames_writer = λ tells out. tt;
      over = λ tells out. tt;
    }

pub returns-then-is_empty : goal.returns-then-is_empty
returns-then-is_empty g c =
    let l = c.pieces in
    record {
      ran = at_end g.V.Visitor.story c.args.options.now.dialect c.args.options.now.limit (g.R.Read.remaining c.args.input.now)
          (g.R.Read.remaining l.input) c.args.visitor.now l.visitor (g.W.Write.contents c.args.output.now)
          (g.W.Write.contents l.output) l.units l.left l.invariant.so
          (g.R.Read.remaining c.next_piece.new.reader) c.in-Ok.piece.now c.in-Ok.ensures.ok
          (nil_from_length c.in-Ok.piece.now (eqb-true (length c.in-Ok.piece.now) 0 (sym c.is_empty.ensures
          ∙ c.if-is_empty.true)))
          (c.in-Ok.ensures.end
          (nil_from_length c.in-Ok.piece.now (eqb-true (length c.in-Ok.piece.now) 0 (sym c.is_empty.ensures
          ∙ c.if-is_empty.true)))) c.finish.result
          (λ units b are none sound. c.finish.ensures c.args.options.now.dialect
          (nothing_before c.args.options.now.dialect) l.invariant.so.t units b are none sound
          (omega (arith, c.requires.limit, l.invariant.so.within)));
      blames = blames_next _ (λ first is. l.invariant.follows first is) c.next_piece.ensures.blames (λ e. let told = l.invariant.so.told e.0.tells e.0.out in absurd (none_finished (nothing_before c.args.options.now.dialect) l.invariant.so.t told.units told.b c.finish.result
          (c.finish.ensures c.args.options.now.dialect (nothing_before c.args.options.now.dialect) l.invariant.so.t
          told.units told.b told.are told.none told.sound
          (omega (arith, c.requires.limit, l.invariant.so.within))) e.1));
      blames_writer = λ tells out.
          let told = l.invariant.so.told tells out in
          finished_blames _ (nothing_before c.args.options.now.dialect) l.invariant.so.t told.units told.b c.finish.result
          (c.finish.ensures c.args.options.now.dialect (nothing_before c.args.options.now.dialect) l.invariant.so.t
          told.units told.b told.are told.none told.sound
          (omega (arith, c.requires.limit, l.invariant.so.within)));
      over = λ tells out. on_ok c.finish.result (inl (c.in-Ok.ensures.over
          (nil_from_length c.in-Ok.piece.now (eqb-true (length c.in-Ok.piece.now) 0 (sym c.is_empty.ensures
          ∙ c.if-is_empty.true)))));
    }

pub returns-in_err-work_through : goal.returns-in_err-work_through
returns-in_err-work_through g c =
    let p = err_from_is_err_and c.from_residual.result c.from_residual.ensures.1 in
    let l = c.pieces in
    rw (
      p.1,
      p.2,
    ) (record {
      ran = stops g.V.Visitor.story c.args.options.now.dialect c.args.options.now.limit
          (g.R.Read.remaining c.args.input.now) (g.R.Read.remaining l.input) c.args.visitor.now l.visitor
          (g.W.Write.contents c.args.output.now) (g.W.Write.contents l.output) l.units l.left l.invariant.so
          (g.R.Read.remaining c.next_piece.new.reader) c.in-Ok.piece.now c.in-Ok.ensures.ok c.work_through.new.visitor
          (g.W.Write.contents c.work_through.new.output) c.work_through.new.units _ _ c.front-within.ensures.front
          (λ told. c.in_err-work_through.ensures.worked c.args.options.now.dialect
          (nothing_before c.args.options.now.dialect) l.invariant.so.t told.units told.b
          c.args.visitor.now (g.W.Write.contents c.args.output.now) told.are
          (omega (arith, c.requires.limit, l.invariant.so.within, c.front-within.ensures.short)) told.settled.tells);
      blames = blames_next _ (λ first is. l.invariant.follows first is) c.next_piece.ensures.blames (λ e. let told = l.invariant.so.told e.0.tells e.0.out in absurd (none_worked g.V.Visitor.story
          c.args.visitor.now c.work_through.new.visitor (g.W.Write.contents c.args.output.now)
          (g.W.Write.contents c.work_through.new.output) e.0.never (nothing_before c.args.options.now.dialect)
          (l.invariant.so.t ++ c.front-within.result.now) c.work_through.new.units c.in_err-work_through.field-0.0
          (c.in_err-work_through.ensures.worked c.args.options.now.dialect (nothing_before c.args.options.now.dialect)
          l.invariant.so.t told.units told.b c.args.visitor.now (g.W.Write.contents c.args.output.now) told.are
          (omega (arith, c.requires.limit, l.invariant.so.within, c.front-within.ensures.short)) told.settled.tells) (same_fault _ e.1)));
      blames_writer = λ tells out.
          let told = l.invariant.so.told tells out in
          c.in_err-work_through.ensures.blames_writer c.args.options.now.dialect
          (nothing_before c.args.options.now.dialect) l.invariant.so.t told.units told.b
          c.args.visitor.now (g.W.Write.contents c.args.output.now) told.are
          (omega (arith, c.requires.limit, l.invariant.so.within, c.front-within.ensures.short)) told.settled.tells;
      over = λ tells out. tt;
    })

pub returns-in-Stop : goal.returns-in-Stop
returns-in-Stop g c =
    let l = c.pieces in
    record {
      ran = wants_no_more g.V.Visitor.story c.args.options.now.dialect c.args.options.now.limit
          (g.R.Read.remaining c.args.input.now) (g.R.Read.remaining l.input) c.args.visitor.now l.visitor
          (g.W.Write.contents c.args.output.now) (g.W.Write.contents l.output) l.units l.left l.invariant.so
          (g.R.Read.remaining c.next_piece.new.reader) c.in-Ok.piece.now c.in-Ok.ensures.ok c.work_through.new.visitor
          (g.W.Write.contents c.work_through.new.output) c.work_through.new.units c.in_ok-work_through.field-0 _
          c.in-Stop.is c.front-within.ensures.front
          (λ told. c.in_ok-work_through.ensures.worked c.args.options.now.dialect
          (nothing_before c.args.options.now.dialect) l.invariant.so.t told.units told.b
          c.args.visitor.now (g.W.Write.contents c.args.output.now) told.are
          (omega (arith, c.requires.limit, l.invariant.so.within, c.front-within.ensures.short)) told.settled.tells);
      blames = blames_next _ (λ first is. l.invariant.follows first is) c.next_piece.ensures.blames (λ e. absurd cc);
      blames_writer = λ tells out. tt;
      over = λ tells out.
          let told = l.invariant.so.told tells out in
          inr (stops_worked g.V.Visitor.story c.args.visitor.now c.work_through.new.visitor (g.W.Write.contents c.args.output.now)
          (g.W.Write.contents c.work_through.new.output) (nothing_before c.args.options.now.dialect)
          (l.invariant.so.t ++ c.front-within.result.now) c.work_through.new.units c.in-Stop.is
          (c.in_ok-work_through.ensures.worked c.args.options.now.dialect (nothing_before c.args.options.now.dialect)
          l.invariant.so.t told.units told.b c.args.visitor.now (g.W.Write.contents c.args.output.now) told.are
          (omega (arith, c.requires.limit, l.invariant.so.within, c.front-within.ensures.short)) told.settled.tells));
    }

pub returns-then-within-piece : goal.returns-then-within-piece
returns-then-within-piece g c =
    let l = c.pieces in
    record {
      ran = too_long g.V.Visitor.story c.args.options.now.dialect c.args.options.now.limit (g.R.Read.remaining c.args.input.now)
          (g.R.Read.remaining l.input) c.args.visitor.now l.visitor (g.W.Write.contents c.args.output.now)
          (g.W.Write.contents l.output) l.units l.left l.invariant.so
          (g.R.Read.remaining c.next_piece.new.reader) c.in-Ok.piece.now c.in-Ok.ensures.ok c.work_through.new.visitor
          (g.W.Write.contents c.work_through.new.output) c.work_through.new.units c.in_ok-work_through.field-0 _
          c.in-On.is c.front-within.ensures.front
          (λ told. c.in_ok-work_through.ensures.worked c.args.options.now.dialect
          (nothing_before c.args.options.now.dialect) l.invariant.so.t told.units told.b
          c.args.visitor.now (g.W.Write.contents c.args.output.now) told.are
          (omega (arith, c.requires.limit, l.invariant.so.within, c.front-within.ensures.short)) told.settled.tells)
          c.if-within-piece.true;
      blames = blames_next _ (λ first is. l.invariant.follows first is) c.next_piece.ensures.blames (λ e. absurd cc);
      blames_writer = λ tells out. tt;
      over = λ tells out. tt;
    }

pub pieces-preserved : goal.pieces-preserved
pieces-preserved g c =
    let l = c.pieces in
    record {
      so = reads_on g.V.Visitor.story c.args.options.now.dialect c.args.options.now.limit (g.R.Read.remaining c.args.input.now)
          (g.R.Read.remaining l.input) c.args.visitor.now l.visitor (g.W.Write.contents c.args.output.now)
          (g.W.Write.contents l.output) l.units l.left l.invariant.so
          (g.R.Read.remaining c.next_piece.new.reader) c.in-Ok.piece.now c.in-Ok.ensures.ok c.work_through.new.visitor
          (g.W.Write.contents c.work_through.new.output) c.work_through.new.units c.in_ok-work_through.field-0 _
          c.in-On.is c.front-within.ensures.front
          (λ told. c.in_ok-work_through.ensures.worked c.args.options.now.dialect
          (nothing_before c.args.options.now.dialect) l.invariant.so.t told.units told.b
          c.args.visitor.now (g.W.Write.contents c.args.output.now) told.are
          (omega (arith, c.requires.limit, l.invariant.so.within, c.front-within.ensures.short)) told.settled.tells)
          (c.front-within.ensures.whole (omega (arith, c.if-within-piece.false)));
      follows = λ first is. (c.next_piece.ensures.blames first (l.invariant.follows first is)).0;
    }
