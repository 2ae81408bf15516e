use Rattle.std.proofs.Common.{◌+◌, ◌-◌, [], ◌++◌, length, nat_lt, arith, ap, ◌∙◌, subst}
use Rattle.std.proofs.lemmas.Result.{err_from_is_err_and}
use Rattle.dl_zlib.specs.Feeding.{EndsWith, IsCutShort, Says}
use Rattle.dl_zlib.specs.StreamStands.{waiting}
use Rattle.dl_zlib.specs.declared.inflate.Event.TheVariants as event
use Rattle.dl_file.specs.InStep.{unfed}
use Rattle.dl_file.proofs.StreamLemmas.{damaged_at, end_comes, nothing_waits, piece_damage}
use Rattle.dl_file.proofs.stream_reader.StreamReader.advance.Goals as goal

pub returns-then-not-is_empty-clause-comes : goal.returns-then-not-is_empty-clause-comes
returns-then-not-is_empty-clause-comes g c = λ b s.
    let f = c.feed_piece-event.ensures.fed c.args.told.now b s in ((f.0, f.1, f.2), tt)

pub returns-in-Full-clause-comes : goal.returns-in-Full-clause-comes
returns-in-Full-clause-comes g c = λ b s.
    let f = c.feed_piece-event.ensures.fed c.args.told.now b s in ((f.0, f.1, f.2), tt)

pub returns-in_ok-read_piece-in-More-clause-comes : goal.returns-in_ok-read_piece-in-More-clause-comes
returns-in_ok-read_piece-in-More-clause-comes g c = λ b s.
    let f = c.feed_piece-event.ensures.fed c.args.told.now b s in
    ((f.0, f.1, c.read_piece.ensures.stands b f.0 f.1 f.2), tt)

pub returns-in_err-read_piece-in-More-clause-comes : goal.returns-in_err-read_piece-in-More-clause-comes
returns-in_err-read_piece-in-More-clause-comes g c = λ b s.
    let f = c.feed_piece-event.ensures.fed c.args.told.now b s in
    let r = c.feed_piece-event.new.self in
    let p = err_from_is_err_and c.from_residual.result c.from_residual.ensures.1 in
    let none = nothing_waits c.output.result.now (waiting r.inflate) c.is_empty.result c.output.ensures.waiting
    c.is_empty.ensures c.if-not-is_empty.false in
    let cut : IsCutShort f.0 (f.1 ++ []) = subst (λ w. IsCutShort f.0 (f.1 ++ w)) none
    (subst (Says f.0 (f.1 ++ waiting r.inflate)) c.in-More.is f.3) in (
      (f.0, f.1, c.read_piece.ensures.stands b f.0 f.1 f.2),
      rw (p.1, p.2) (piece_damage c.args.told.now b f.0 f.1 c.read_piece.new.self.left
          c.in_err-read_piece-in-More.field-0.0 cut
          (c.read_piece.ensures.left ∙ (f.2.left ∙ ap (λ n. c.args.told.now.header.size - (length f.1 + n)) f.4))
          (c.in_err-read_piece-in-More.ensures.piece b f.0 f.1 f.2)),
    )

pub returns-in-End-clause-comes : goal.returns-in-End-clause-comes
returns-in-End-clause-comes g c = λ b s.
    let told = c.args.told.now in
    let f = c.feed_piece-event.ensures.fed told b s in
    let r = c.feed_piece-event.new.self in
    let none = nothing_waits c.output.result.now (waiting r.inflate) c.is_empty.result c.output.ensures.waiting
    c.is_empty.ensures c.if-not-is_empty.false in
    let ends : EndsWith f.0 (f.1 ++ []) = subst (λ w. EndsWith f.0 (f.1 ++ w)) none
    (subst (Says f.0 (f.1 ++ waiting r.inflate)) c.in-End.is f.3) in (
      (f.0, f.1, f.2),
      end_comes told b f.0 (unfed r ++ f.2.rest) f.1 r.left r.is_over c.end.result f.2.whole ends
          (f.2.left ∙ ap (λ n. told.header.size - (length f.1 + n)) f.4)
          (f.2.over ∙ ap (λ n. nat_lt told.header.size (length f.1 + n)) f.4)
          c.end.ensures.whole c.end.ensures.other,
    )

pub returns-in-Damaged-clause-comes : goal.returns-in-Damaged-clause-comes
returns-in-Damaged-clause-comes g c = λ b s.
    let told = c.args.told.now in
    let f = c.feed_piece-event.ensures.fed told b s in
    let r = c.feed_piece-event.new.self in
    let none = nothing_waits c.output.result.now (waiting r.inflate) c.is_empty.result c.output.ensures.waiting
    c.is_empty.ensures c.if-not-is_empty.false in
    let says = subst (λ w. Says f.0 (f.1 ++ w) (event.Damaged c.in-Damaged.at)) none
    (subst (Says f.0 (f.1 ++ waiting r.inflate)) c.in-Damaged.is f.3) in (
      (f.0, f.1, f.2),
      damaged_at told b f.0 (unfed r ++ f.2.rest) f.1 c.in-Damaged.at r.left c.saturating_add.result
          f.2.whole says.1 (f.2.left ∙ ap (λ n. told.header.size - (length f.1 + n)) f.4) f.2.few f.2.sized
          (λ fits. omega (arith, fits, c.saturating_add.ensures)),
    )
