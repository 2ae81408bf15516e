use Rattle.std.proofs.Common.{◌≡◌, ◌≤◌, ◌+◌, ℕ, true, List, Ok, refl, ap, ◌∙◌, arith, length, length-take, add-zero}
use Rattle.std.proofs.Common.{length-drop}
use Rattle.std.proofs.lemmas.Result.{err_from_is_err_and}
use Rattle.dl_rows.proofs.RunLemmas.{other_event}
use Rattle.dl_rows.proofs.RunTurns.{going_none, going_on, traced_end, traced_fault, traced_all, runs_of, unit_of}
use Rattle.dl_rows.specs.ReaderStands.{StandsFor}
use Rattle.dl_rows.specs.Runs.{goes_on}
use Rattle.dl_rows.proofs.reader.Reader.run.Goals as goal
use Rattle.dl_rows.proofs.reader.Reader.run.Goals.{in-NoMemory, in_default}

pub loop-turn-init : goal.loop-turn-init
loop-turn-init g c = record {
  within = omega arith;
  refusals = omega arith;
  goes = refl;
  dialect = refl;
  going = λ b s.
      going_none g.L.Listener.heard b c.args.bytes.now c.args.turns.now c.args.listener.now c.args.self.now s;
}

pub piece-requires : goal.piece-requires
piece-requires g c = c.loop-turn.invariant.within

pub returns-in_err-fed : goal.returns-in_err-fed
returns-in_err-fed g c =
    let i = c.loop-turn.invariant in
    let p = err_from_is_err_and c.from_residual.result c.from_residual.ensures.1 in
    let traced = λ (b : List ℕ) (s : StandsFor c.args.self.now b). traced_fault (i.going b s) i.dialect
    c.loop-turn-test.true c.piece.result.now c.piece.ensures c.feed.new.self c.in_err-fed.field-0.0
    (λ d at. c.in_err-fed.ensures.fed d at) in
    rw (p.1, p.2) (record {
      traced = traced;
      runs = λ b s. runs_of c.args.self.now s (traced b s);
      unit = λ b u rest s e unit. unit_of c.args.self.now s (traced b s) u rest e unit;
      dialect = c.feed.ensures.dialect ∙ i.dialect;
    })

pub overflow_add-run-in-NoMemory : goal.overflow_add-run-in-NoMemory
overflow_add-run-in-NoMemory g c = omega (arith, c.loop-turn.invariant.refusals, c.loop-turn-test.true)

pub returns-in-End : goal.returns-in-End
returns-in-End g c =
    let i = c.loop-turn.invariant in
    let traced = λ (b : List ℕ) (s : StandsFor c.args.self.now b). traced_end (i.going b s) i.dialect
    c.loop-turn-test.true c.piece.result.now c.piece.ensures c.hand_on.new.listener c.feed.new.self c.in_ok-fed.fed
    (λ d at. c.in_ok-fed.ensures.fed d at) c.hand_on.ensures c.in-End.is in
    record {
      traced = traced;
      runs = λ b s. runs_of c.args.self.now s (traced b s);
      unit = λ b u rest s e unit. unit_of c.args.self.now s (traced b s) u rest e unit;
      dialect = c.feed.ensures.dialect ∙ i.dialect;
    }

pub loop-turn-preserved : goal.loop-turn-preserved
loop-turn-preserved g c =
    let i = c.loop-turn.invariant in
    let fed = c.in_ok-fed.fed in
    let within : c.loop-turn.run.taken + fed.used ≤ length c.args.bytes.now =
    omega (
      arith,
      i.within,
      c.in_ok-fed.ensures.used,
      ap length c.piece.ensures,
      length-take {A = ℕ},
      length-drop c.loop-turn.run.taken c.args.bytes.now,
    ) in
    let going = λ (goes : goes_on (Ok fed.event) ≡ true) (b : List ℕ) (s : StandsFor c.args.self.now b).
    going_on (i.going b s) i.dialect c.loop-turn-test.true c.piece.result.now c.piece.ensures c.hand_on.new.listener
    c.feed.new.self fed (λ d at. c.in_ok-fed.ensures.fed d at) c.hand_on.ensures goes in
    elim c.match-fed.branch [
      | in-NoMemory w ↦ rw (w.run-is) (record {
        within = within;
        refusals = omega (arith, i.refusals);
        goes = i.goes;
        dialect = c.feed.ensures.dialect ∙ i.dialect;
        going = λ b s. rw w.in-NoMemory.is at (going (rw w.in-NoMemory.is) b s);
      })
      | in_default w ↦
          let other = other_event fed.event w.in_default.not-End w.in_default.not-NoMemory in
          rw (w.run-is) (record {
            within = within;
            refusals = omega (arith, i.refusals);
            goes = i.goes;
            dialect = c.feed.ensures.dialect ∙ i.dialect;
            going = λ b s. rw (other.1, add-zero) at (going other.0 b s);
          })
    ]

pub returns : goal.returns
returns g c =
    let i = c.loop-turn.invariant in
    let traced = λ (b : List ℕ) (s : StandsFor c.args.self.now b). rw (← i.goes) at (traced_all (i.going b s) (omega
    (arith, c.loop-turn-test.false))) in
    record {
      traced = traced;
      runs = λ b s. runs_of c.args.self.now s (traced b s);
      unit = λ b u rest s e unit. unit_of c.args.self.now s (traced b s) u rest e unit;
      dialect = i.dialect;
    }
