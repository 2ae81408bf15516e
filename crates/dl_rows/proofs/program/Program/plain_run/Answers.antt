use Rattle.std.proofs.Common.{[], ◌≡◌, ◌∙◌, ◌-◌, ◌∷◌, ◌++◌, ℕ, List, ap, append_assoc, arith, length, length-append, refl, subst, sym, Bool}
use Rattle.std.specs.Prelude.{if◌then◌else◌}
use Rattle.arrayvec.specs.declared.ArrayVec.{ArrayVec}
use Rattle.dl_rows.specs.Plain.{Along, along_from}
use Rattle.dl_rows.specs.PlainWalks.{IsSingle}
use Rattle.dl_rows.specs.Programs.{ProgramStands}
use Rattle.dl_rows.specs.declared.program.Program.{Program}
use Rattle.dl_rows.specs.declared.program.plain.PlainWalk.{PlainWalk}
use Rattle.dl_rows.proofs.PlainTells.{SoFar, far_more, far_none, run_of, single_here}
use Rattle.dl_rows.proofs.ProgramTells.{front_taken}
use Rattle.dl_rows.proofs.program.Program.plain_run.Goals.{else-walk, in-Some+in-Ends, in_default, then-walk}
use Rattle.dl_rows.proofs.program.Program.plain_run.Goals as goal

abbrev items_of : ArrayVec ℕ 64 (Unit {0}) → List ℕ
items_of files = files.items

pub loop-operation-init : goal.loop-operation-init
loop-operation-init c =
    let along = c.new-walk.ensures.along in
    let same = sym c.new-walk.ensures.program in
    let none : length c.args.bytes.now - length c.args.bytes.now ≡ 0 = omega (arith) in
    record {
      phase = sym (ap (λ (p : Program). p.phase) same);
      begun = sym (ap (λ (p : Program). p.begun) same);
      room = omega (arith, ap length c.requires.none);
      count = omega (arith, ap (λ (p : Along). p.count) along);
      before = omega (arith);
      front = ([], refl);
      far = λ b header fits all stands.
          subst (λ (n : ℕ). SoFar c.args.order c.args.params.now header b c.args.bytes.now
          (along_from c.args.self.now.registers.address c.args.self.now.registers.file) c.new-walk.result c.args.files.now.items [] n c.args.bytes.now) (sym none)
          (subst (λ (files : List ℕ). SoFar c.args.order c.args.params.now header b c.args.bytes.now
          (along_from c.args.self.now.registers.address c.args.self.now.registers.file) c.new-walk.result files [] 0 c.args.bytes.now) (sym c.requires.none)
          (far_none c.args.bytes.now (along_from c.args.self.now.registers.address c.args.self.now.registers.file) along
          (subst (λ (p : Program). IsSingle c.args.params.now p) same (single_here c.requires.single stands))
          (subst (λ (p : Program). ProgramStands c.args.order c.args.params.now p b) same stands)));
    }

pub loop-operation-preserved : goal.loop-operation-preserved
loop-operation-preserved c =
    let o = c.in-Some.ensures.operation in
    let was = c.loop-operation.invariant in
    let f = was.front in
    let tail = c.in-Some.tail.now in
    let takes = c.take.ensures.takes c.in-On.is in
    let size : length c.loop-operation.rest.now - length tail ≡ length o.0 = omega (arith, ap length o.1, length-append o.0 tail) in
    record {
      phase = takes.phase ∙ was.phase;
      begun = takes.begun ∙ was.begun;
      room = c.take.ensures.room;
      count = omega (arith, c.take.ensures.count, c.in-Some.ensures.left, was.count);
      before = omega (arith, c.in-Some.ensures.left);
      front = (f.0 ++ o.0, f.1 ∙ ap (λ (l : List ℕ). f.0 ++ l) o.1 ∙ sym (append_assoc f.0 o.0 tail));
      far = λ b header fits all stands.
          subst (λ (n : ℕ). SoFar c.args.order c.args.params.now header b c.args.bytes.now
          (along_from c.args.self.now.registers.address c.args.self.now.registers.file) c.take.new.self c.take.new.files.items (f.0 ++ o.0) n tail) (sym size)
          (far_more (was.far b header fits all stands) fits all (was.phase ∙ c.requires.between) o.0 tail o.1 o.2
          (omega (arith, c.in-Some.ensures.few, size, c.in-Some.ensures.left)) takes);
    }

pub returns-clause-run : goal.returns-clause-run
returns-clause-run c =
    let was = c.loop-operation.invariant in
    let f = was.front in
    let walk = c.match-short_operation.walk in
    let named = c.match-short_operation.files.items in
    let same : walk ≡ c.loop-operation.walk = elim c.match-short_operation.branch [
      | in-Some+in-Ends w ↦ w.walk-is ∙ w.take.ensures.stays w.in-Ends.is
      | in_default w ↦ w.walk-is
    ] in
    let kept : named ≡ c.loop-operation.files.items = elim c.match-short_operation.branch [
      | in-Some+in-Ends w ↦ ap items_of (w.files-is ∙ w.take.ensures.keeps w.in-Ends.is)
      | in_default w ↦ ap items_of w.files-is
    ] in
    let more = λ (n : Bool). if n then named ++ walk.program.registers.file ∷ [] else named in
    let files : c.as_slice.result.now ≡ more walk.is_named = c.as_slice.ensures.value ∙ elim c.if-walk.branch [
      | then-walk w ↦ ap items_of w.files-is ∙ w.push.ensures.items ∙ ap more (sym w.if-walk.true)
      | else-walk w ↦ ap items_of w.files-is ∙ ap more (sym w.if-walk.false)
    ] in
    record {
      phase = ap (λ (w : PlainWalk). w.program.phase) same ∙ was.phase;
      begun = ap (λ (w : PlainWalk). w.program.begun) same ∙ was.begun;
      at = λ b header fits all stands.
          (let far = subst (λ (l : List ℕ). SoFar c.args.order c.args.params.now header b c.args.bytes.now
          (along_from c.args.self.now.registers.address c.args.self.now.registers.file) walk l f.0 (c.loop-operation.before_last - length c.loop-operation.rest.now) c.loop-operation.rest.now)
          (sym kept)
          (subst (λ (w : PlainWalk). SoFar c.args.order c.args.params.now header b c.args.bytes.now
          (along_from c.args.self.now.registers.address c.args.self.now.registers.file) w c.loop-operation.files.items f.0 (c.loop-operation.before_last - length c.loop-operation.rest.now) c.loop-operation.rest.now)
          (sym same) (was.far b header fits all stands)) in
          run_of _ c.requires.single (front_taken c.args.bytes.now f.0 c.loop-operation.rest.now f.1) refl refl
          (record { to = refl; count = refl; first = refl; last = refl; has_statement = refl; files = files }) far);
    }
