use Rattle.std.proofs.Common.{◌≡◌, take, arith, ap, subst, sym, Ok}
use Rattle.std.proofs.lemmas.Result.{err_from_is_err_and}
use Rattle.dl_elf.specs.Reader.{ReaderFails}
use Rattle.dl_file.specs.InStep.{ComesTo, GivesNext, to_come}
use Rattle.dl_file.specs.declared.stream_reader.Progress.{Progress}
use Rattle.dl_file.proofs.stream_reader.StreamReader.read_next.Goals as goal

pub returns-then-n-gt0-clause-next : goal.returns-then-n-gt0-clause-next
returns-then-n-gt0-clause-next g c = λ b s.
    let told = c.args.told.now in
    let given = c.give-n.ensures.gives told b (c.loop-n.invariant.stands b s) in
    let n = c.give-n.result in (
      given.0,
      (
        subst (λ k. GivesNext told b k c.give-n.new.self.left (take n c.give-n.new.buffer)) c.loop-n.invariant.left
            given.1,
        λ none. absurd (omega (arith, none, c.if-n-gt0.true)),
      ),
    )

pub returns-in_err-advance-clause-next : goal.returns-in_err-advance-clause-next
returns-in_err-advance-clause-next g c = λ b s.
    let told = c.args.told.now in
    let given = c.give-n.ensures.gives told b (c.loop-n.invariant.stands b s) in
    let came = c.in_err-advance.ensures.comes b given.0 in
    let p = err_from_is_err_and c.from_residual.result c.from_residual.ensures.1 in
    let left : c.advance.new.self.left ≡ c.args.self.now.left =
    omega (arith, c.advance.ensures.left, c.give-n.ensures.left, c.loop-n.invariant.left, c.if-n-gt0.false) in
    rw (p.1, p.2) (came.0, (left, came.1))

pub returns-in-Ended-clause-next : goal.returns-in-Ended-clause-next
returns-in-Ended-clause-next g c = λ b s.
    let told = c.args.told.now in
    let given = c.give-n.ensures.gives told b (c.loop-n.invariant.stands b s) in
    let came = c.in_ok-advance.ensures.comes b given.0 in
    let left : c.advance.new.self.left ≡ c.args.self.now.left =
    omega (arith, c.advance.ensures.left, c.give-n.ensures.left, c.loop-n.invariant.left, c.if-n-gt0.false) in (
      came.0,
      (
        ap (to_come told b) (sym left),
        λ none room. (
          subst (λ (p : Progress). ComesTo told b c.advance.new.self.left (Ok p)) c.in-Ended.is came.1,
          c.in_ok-advance.ensures.ended (ap Ok c.in-Ended.is),
        ),
      ),
    )

pub loop-n-preserved : goal.loop-n-preserved
loop-n-preserved g c =
    let told = c.args.told.now in
    record {
      stands = λ b s. (let given = c.give-n.ensures.gives told b (c.loop-n.invariant.stands b s) in
          (c.in_ok-advance.ensures.comes b given.0).0);
      left = omega (arith, c.advance.ensures.left, c.give-n.ensures.left, c.loop-n.invariant.left, c.if-n-gt0.false);
      later = λ error at. c.loop-n.invariant.later error (subst (λ (s : _).
          ReaderFails g.S.ReadAt.all_bytes g.S.ReadAt.fails_with s error) c.give-n.ensures.stream (c.advance.ensures.later error at));
    }
