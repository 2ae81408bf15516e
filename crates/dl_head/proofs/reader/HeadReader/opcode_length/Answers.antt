use Rattle.std.proofs.Common.{nat_lt, subst, None, ◌≡◌, List, ℕ, Option, ◌∷◌, [], ◌+◌, refl, sym, ap, ◌∙◌, arith}
use Rattle.std.proofs.Common.{length, length-append}
use Rattle.dl_table.specs.declared.fault.FaultKind.{FaultKind}
use Rattle.dl_field.specs.Layout.{number_is, judged, objection, opcode_length}
use Rattle.dl_head.proofs.OneFieldMore.{at_phase, late_more, length_judged, next_length, at_lengths, some_left, next_at}
use Rattle.dl_head.specs.declared.reader.Phase.TheVariants as phase
use Rattle.dl_head.specs.Built.{wrong_length}
use Rattle.dl_head.proofs.HeaderSound.{lengths_push}
use Rattle.dl_head.proofs.TableSpellings.{stands_at, length_or_table_stands}
use Rattle.dl_head.proofs.reader.HeadReader.opcode_length.Goals as goal

pub returns-then-is_wrong_length-clause-follows : goal.returns-then-is_wrong_length-clause-follows
returns-then-is_wrong_length-clause-follows c = record {
  made = λ items rest at.
      let a = at_phase c.args.self.now _ items rest c.requires at in
      let p = c.args.self.now.params in
      length_judged c.args.self.now.dialect p items rest c.args.byte a.0.tail.follows
      (some_left c.args.self.now c.requires) a.1
      ∙ ap (λ (n : ℕ). judged (objection (opcode_length (n + 1)) c.args.byte) c.args.byte)
      (sym c.len-opcode.ensures.value)
      ∙ ap (λ (o : Option FaultKind). judged o c.args.byte) c.if-is_wrong_length.ensures.value;
  counts = record { dialect = refl; start = refl; taken = refl; header = refl };
}

pub returns-clause-follows : goal.returns-clause-follows
returns-clause-follows c = record {
  made = λ items rest at.
      let a = at_phase c.args.self.now _ items rest c.requires at in
      let p = c.args.self.now.params in (
        number_is c.args.byte,
        length_judged c.args.self.now.dialect p items rest c.args.byte a.0.tail.follows
            (some_left c.args.self.now c.requires) a.1
            ∙ ap (λ (n : ℕ). judged (objection (opcode_length (n + 1)) c.args.byte) c.args.byte)
            (sym c.len-opcode.ensures.value)
            ∙ ap (λ (o : Option FaultKind). judged o c.args.byte) c.if-is_wrong_length.ensures.value,
        at_lengths _ _ _ (late_more _ a.0
            (next_length p c.args.byte _ (some_left c.args.self.now c.requires) c.push.ensures.items))
            (c.length_or_table-self.ensures.next ∙ next_at (c.len-opcode.result + 1) (length c.push.new.self.items)
            p.opcode_base p.version (omega (
              arith,
              c.len-opcode.ensures.value,
              ap length c.push.ensures.items,
              length-append p.lengths.items (c.args.byte ∷ []),
            ))),
      );
  counts = record { dialect = refl; start = refl; taken = refl; header = refl };
}

pub invariant_of-self-clause-standard : goal.invariant_of-self-clause-standard
invariant_of-self-clause-standard c =
    let lengths = c.args.self.now.params.lengths.items in
    let right = c.if-is_wrong_length.ensures.value in
    record {
      none_wrong = subst (λ (l : List ℕ). wrong_length 1 l ≡ None) (sym c.push.ensures.items)
          (lengths_push 1 lengths c.args.byte c.args.self.now.standard.none_wrong
          (subst (λ (n : ℕ). objection (opcode_length n) c.args.byte ≡ None) (omega (arith, c.len-opcode.ensures.value))
          right));
    }

pub invariant_of-self-clause-read : goal.invariant_of-self-clause-read
invariant_of-self-clause-read c =
    let old = c.args.self.now in
    let read = stands_at old.phase phase.OpcodeLength old.dialect.order old.params.format old.table
    c.requires old.read in
    stands_at _ _ old.dialect.order old.params.format old.table (sym c.length_or_table-self.ensures.next)
    (length_or_table_stands (nat_lt (c.len-opcode.result + 1 + 1) old.params.opcode_base) old.params.version
    old.dialect.order
    old.params.format
    old.table read)
