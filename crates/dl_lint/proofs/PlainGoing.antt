-- A linter's way through plain operations.
use Rattle.std.proofs.Common.{◌≡◌, ◌∙◌, ◌⊎◌, ℕ, ◌+◌, ◌-◌, ◌*◌, ◌≤◌, ◌==◌, ◌||◌, Bool, true, false, List, [], ◌∷◌, ◌++◌, Option, Some, None, ap, ap₂, append_assoc, append-nil, arith, inl, inr, length, length-append, map, refl, subst, sym}
use Rattle.std.specs.Prelude.{⊤, if◌then◌else◌, is_none}
use Rattle.std.proofs.lemmas.Bool.{cases_Bool, eqb-true}
use Rattle.std.proofs.Math.Nat.{mul-add}
use Rattle.std.proofs.lemmas.List.Folds.{list_any-append}
use Rattle.dl_field.specs.HeaderData.{HeaderData}
use Rattle.dl_field.specs.declared.params.Params.{Params}
use Rattle.dl_head.specs.Numbers.{file_numbered}
use Rattle.dl_look.specs.Answer.{is_below}
use Rattle.dl_print.specs.ValueText.{Strings}
use Rattle.dl_rows.specs.declared.operation.Operation.{Operation}
use Rattle.dl_rows.specs.declared.operation.Operation.TheVariants as op
use Rattle.dl_rows.specs.declared.row.Row.{Row}
use Rattle.dl_rows.specs.Items.{a_byte, an_operation}
use Rattle.dl_rows.specs.Matrix.{advance}
use Rattle.dl_rows.specs.Plain.{Along, IsPlain, PlainOne, along, along_with, files_of, is_plain, last_length, led, plain_bytes}
use Rattle.dl_rows.specs.Plain.{with_file, with_row as along_row}
use Rattle.dl_rows.proofs.PlainTells.{bytes_push, last_push}
use Rattle.dl_sections.specs.Section.{Visit, of_item}
use Rattle.dl_findings.specs.Counting.{at_most_64_bits}
use Rattle.dl_findings.specs.declared.finding.Finding.{Finding}
use Rattle.dl_table_rules.specs.Unused.{is_among}
use Rattle.dl_operation_rules.specs.Judging.{IsGood}
use Rattle.dl_operation_rules.specs.Operations.{UnitSeen, at_address, seen, seen_with, with_bytes}
use Rattle.dl_operation_rules.proofs.PlainLemmas.{SeesPlain, sees_plain}
use Rattle.dl_lint.specs.Findings.{chosen, findings_in}
use Rattle.dl_lint.specs.Keeping.{FitsLength, KnowsSequences, first_of, reached_by}
use Rattle.dl_lint.specs.TableRules.{files_named}
use Rattle.dl_lint.specs.declared.question.LintQuestion.{LintQuestion}
use Rattle.dl_lint.specs.declared.reached.Reached.{Reached}
use Rattle.dl_lint.specs.declared.reached.Sequence.{Sequence}
use Rattle.dl_lint.specs.declared.sequences_seen.SequencesSeen.{SequencesSeen}
use Rattle.dl_lint.proofs.FilesLemmas.{named-push}
use Rattle.dl_lint.proofs.FindingLemmas.{findings-append, findings-push, none_at_bytes}
use Rattle.dl_lint.proofs.OperationLemmas.{none_at_operation, seen-push, seen_bytes}
use Rattle.dl_lint.proofs.PlainLemmas.{after_bytes, after_operation, reached_step, told_bytes}
use Rattle.dl_lint.proofs.SequenceLemmas.{sequences_bytes, sequences_quiet}

-- ---- rows

-- the rows of a run so far change a sequence so
abbrev pub rows_of : Along → Sequence → Sequence
rows_of p s = record s {
  has_begun = true;
  first = if s.has_begun then s.first else at_address p.first;
  has_statement = s.has_statement || p.has_statement;
}

-- where there are any: what is reached is now so, the last row stands no later than the address, and each a multiple of the least length
-- of an instruction after the first
pub record Touched (least : ℕ) (at now : Reached) (p : Along) : Type 0 where
  pub last : now.last ≡ at_address p.last
  pub sequence : now.sequence ≡ rows_of p at.sequence
  pub behind : p.last ≤ p.address
  pub steps : ℕ
  pub apart : p.address ≡ p.first + least * steps

pub record Untouched (at now : Reached) (p : Along) : Type 0 where
  pub last : now.last ≡ at.last
  pub sequence : now.sequence ≡ at.sequence
  pub statement : p.has_statement ≡ false

-- the rows of a run find nothing there
pub record FindsNothing (h : HeaderData) (at : Reached) (p : Along) : Type 0 where
  pub files : (file : ℕ) → is_among (files_of p) file ≡ true → is_none (file_numbered h file) ≡ false
  pub rises : at.sequence.has_begun ≡ true → is_below (at_address p.first) at.last ≡ false
  pub whole : (h.params.minimum_instruction_length ≤ 1)
      ⊎ FitsLength h.params.minimum_instruction_length (first_of at.sequence p.first) p.first

abbrev pub IfAny : List PlainOne → Type 0 → Type 0
IfAny [] P = ⊤
IfAny (s ∷ ss) P = P

pub any_map : (ss : List PlainOne) {P Q : Type 0} → (P → Q) → IfAny ss P → IfAny ss Q
any_map [] f holds = tt
any_map (s ∷ ss) f holds = f holds

any_push : (ss : List PlainOne) (s : PlainOne) (P : Type 0) → P → IfAny (ss ++ s ∷ []) P
any_push [] s P holds = holds
any_push (t ∷ ss) s P holds = holds

-- all that is known after these operations, which come to p; now: all visits
pub record Going (s : Strings) (q : LintQuestion) (h : HeaderData) (visits now : List Visit) (p : Along) (done : List PlainOne) : Type 0 where
  pub found : findings_in s q now ≡ findings_in s q visits
  pub sees : seen now ≡ record (seen visits) { place = at_address p.address }
  pub begun : (reached_by now).begun ≡ (reached_by now).next
  pub next : (reached_by now).next ≡ at_most_64_bits ((reached_by visits).next + length (plain_bytes done))
  pub operation : IfAny done ((reached_by now).operation
      ≡ at_most_64_bits ((reached_by visits).next + (length (plain_bytes done) - last_length done)))
  pub rows : (reached_by now).rows ≡ at_most_64_bits ((reached_by visits).rows + p.count)
  pub untouched : p.count ≡ 0 → Untouched (reached_by visits) (reached_by now) p
  pub touched : 1 ≤ p.count → Touched h.params.minimum_instruction_length (reached_by visits) (reached_by now) p
  pub files : (file : ℕ) → is_among (files_named now) file ≡ is_among (files_named visits ++ files_of p) file
  pub sequences : (kept : SequencesSeen) → KnowsSequences q kept visits → KnowsSequences q kept now

-- ---- what more operations leave as it is

pub some_count : (n : ℕ) → 1 ≤ n → (n == 0) ≡ false
some_count n some = elim (cases_Bool (n == 0)) [
  | inl zero ↦ absurd (omega (arith, some, eqb-true n 0 zero))
  | inr other ↦ other
]

among_front : (xs ys : List ℕ) (f : ℕ) → is_among xs f ≡ true → is_among (xs ++ ys) f ≡ true
among_front xs ys f is = list_any-append (λ (m : ℕ). m == f) xs ys ∙ ap (λ (b : Bool). b || is_among ys f) is

-- files named before are named
named_on : (p : Along) (made : Option Row) (f : ℕ) → is_among (files_of p) f ≡ true → is_among (files_of (along_row made p)) f ≡ true
named_on p None f is = is
named_on p (Some r) f is = by p.is_named is where
  by : (b : Bool) → is_among (if b then p.files ++ p.file ∷ [] else p.files) f ≡ true → is_among (p.files ++ p.file ∷ []) f ≡ true
  by true is = is
  by false is = among_front p.files (p.file ∷ []) f is

file_on : (o : Operation) (p : Along) → files_of (with_file o p) ≡ files_of p
file_on (op.SetFile n) p = refl
file_on o p = refl

files_grow : (h : Params) (p : Along) (o : Operation) (made : Option Row) (f : ℕ) → is_among (files_of p) f ≡ true
    → is_among (files_of (along_with h p o made)) f ≡ true
files_grow h p o made f is =
    let moved : Along = record p { address = led h p.address o } in
    named_on (with_file o moved) made f (ap (λ (l : List ℕ). is_among l f) (file_on o moved) ∙ is)

count_on : (o : Operation) (p : Along) → (with_file o p).count ≡ p.count
count_on (op.SetFile n) p = refl
count_on o p = refl

first_on : (o : Operation) (p : Along) → (with_file o p).first ≡ p.first
first_on (op.SetFile n) p = refl
first_on o p = refl

row_first : (p : Along) (made : Option Row) → 1 ≤ p.count → ((along_row made p).first ≡ p.first) × (1 ≤ (along_row made p).count)
row_first p None some = (refl, some)
row_first p (Some r) some = (ap (λ (b : Bool). if b then r.address else p.first) (some_count p.count some), omega arith)

first_stays : (h : Params) (p : Along) (o : Operation) (made : Option Row) → 1 ≤ p.count
    → ((along_with h p o made).first ≡ p.first) × (1 ≤ (along_with h p o made).count)
first_stays h p o made some =
    let moved : Along = record p { address = led h p.address o } in
    let on = row_first (with_file o moved) made (subst (λ (n : ℕ). 1 ≤ n) (sym (count_on o moved)) some) in
    (on.0 ∙ first_on o moved, on.1)

-- what finds nothing at all of them finds nothing at the first ones
pub finds_before : (h : HeaderData) (at : Reached) (p : Along) (left : List PlainOne) → 1 ≤ p.count
    → FindsNothing h at (along h.params p left) → FindsNothing h at p
finds_before h at p [] some finds = finds
finds_before h at p (s ∷ left) some finds =
    let stays = first_stays h.params p s.operation s.row some in
    let next = finds_before h at (along_with h.params p s.operation s.row) left stays.1 finds in
    let first = stays.0 in
    record {
      files = λ file is. next.files file (files_grow h.params p s.operation s.row file is);
      rises = λ begun. subst (λ (a : ℕ). is_below (at_address a) at.last ≡ false) first (next.rises begun);
      whole = subst (λ (a : ℕ). (h.params.minimum_instruction_length ≤ 1) ⊎ FitsLength h.params.minimum_instruction_length (first_of at.sequence a) a) first next.whole;
    }

-- the last one has no more bytes than all
pub last_fits : (ss : List PlainOne) → last_length ss ≤ length (plain_bytes ss)
last_fits [] = omega arith
last_fits (s ∷ []) = omega (arith, length-append s.bytes [])
last_fits (s ∷ t ∷ ss) = omega (arith, last_fits (t ∷ ss), length-append s.bytes (plain_bytes (t ∷ ss)))

-- there are no fewer rows
pub count_grows : (h : Params) (p : Along) (left : List PlainOne) → 1 ≤ p.count → 1 ≤ (along h p left).count
count_grows h p [] some = some
count_grows h p (s ∷ left) some =
    count_grows h (along_with h p s.operation s.row) left (first_stays h p s.operation s.row some).1

-- ---- an operation more

module _ (s : Strings) (q : LintQuestion) (h : HeaderData) (visits : List Visit) where
  operation_found : (now : List Visit) (one : PlainOne) → IsGood h.params (with_bytes (seen now) one.bytes) one.operation
      → findings_in s q (after_operation h now one) ≡ findings_in s q now
  operation_found now one good =
      let later = after_bytes now one in
      findings-push s q later (of_item (an_operation h one.operation))
      ∙ ap (λ (l : List Finding). findings_in s q later ++ chosen q.rules l)
      (none_at_operation s q later h one.operation (subst (λ (u : UnitSeen). IsGood h.params u one.operation) (sym (seen_bytes now one.bytes)) good))
      ∙ append-nil (findings_in s q later)
      ∙ findings-append s q [] now (told_bytes one)
      ∙ ap (λ (l : List Finding). findings_in s q now ++ l) (none_at_bytes s q now one.bytes)
      ∙ append-nil (findings_in s q now)

-- what setting the file leaves as it is
record FileKeeps (o : Operation) (p : Along) : Type 0 where
  address : (with_file o p).address ≡ p.address
  count : (with_file o p).count ≡ p.count
  first : (with_file o p).first ≡ p.first
  last : (with_file o p).last ≡ p.last
  has_statement : (with_file o p).has_statement ≡ p.has_statement
  files : files_of (with_file o p) ≡ files_of p

file_keeps : (o : Operation) (p : Along) → FileKeeps o p
file_keeps (op.SetFile n) p = record { address = refl; count = refl; first = refl; last = refl; has_statement = refl; files = refl }
file_keeps o p = record { address = refl; count = refl; first = refl; last = refl; has_statement = refl; files = refl }

-- after a row the address doesn't fall
led_on : (h : Params) (p : Along) (o : Operation) → is_plain p.count o ≡ true → 1 ≤ p.count
    → led h p.address o ≡ p.address + h.minimum_instruction_length * advance h o
led_on h p (op.SetAddress n) plain some = absurd (omega (arith, some, eqb-true p.count 0 plain))
led_on h p o plain some = refl

further_steps : (first least steps by a b : ℕ) → a ≡ first + least * steps → b ≡ a + least * by → b ≡ first + least * (steps + by)
further_steps first least steps by a b is on = rw (on, is) (omega (arith, mul-add least steps by))

named_bytes : (now : List Visit) (bytes : List ℕ) → files_named (now ++ map of_item (map a_byte bytes)) ≡ files_named now
named_bytes now [] = ap files_named (append-nil now)
named_bytes now (b ∷ bytes) =
    ap files_named (sym (append_assoc now (of_item (a_byte b) ∷ []) (map of_item (map a_byte bytes))))
    ∙ named_bytes (now ++ of_item (a_byte b) ∷ []) bytes
    ∙ named-push now (of_item (a_byte b)) refl ∙ append-nil (files_named now)

named_operation : (h : HeaderData) (now : List Visit) (one : PlainOne) → files_named (after_operation h now one) ≡ files_named now
named_operation h now one =
    named-push (after_bytes now one) (of_item (an_operation h one.operation)) refl
    ∙ append-nil (files_named (after_bytes now one)) ∙ named_bytes now one.bytes

pub held : (n a b : ℕ) → at_most_64_bits (at_most_64_bits (n + a) + b) ≡ at_most_64_bits (n + (a + b))
held n a b = omega arith

module _ (s : Strings) (q : LintQuestion) (h : HeaderData) (visits now : List Visit) (p : Along) (done : List PlainOne) (one : PlainOne)
    (g : Going s q h visits now p done) (is : IsPlain h.params p one.operation one.row) (few : length one.bytes ≤ 11)
    (single : h.params.maximum_operations_per_instruction ≡ 1) (none : (seen visits).bytes ≡ []) where
  abbrev o : Operation
  o = one.operation

  abbrev later : List Visit
  later = after_operation h now one

  abbrev moved : Along
  moved = record p { address = led h.params p.address o }

  abbrev on : Along
  on = with_file o moved

  sees_it : SeesPlain h.params p (seen now) one.bytes o
  sees_it = sees_plain h.params p (seen now) one.bytes o one.row single is few
      (ap (λ (u : UnitSeen). u.bytes) g.sees ∙ none) (ap (λ (u : UnitSeen). u.place) g.sees)

  step : reached_by later ≡ record (reached_by now) {
    operation = (reached_by now).begun;
    begun = at_most_64_bits ((reached_by now).next + length one.bytes);
    next = at_most_64_bits ((reached_by now).next + length one.bytes);
  }
  step = reached_step h now one

  size : length (plain_bytes (done ++ one ∷ [])) ≡ length (plain_bytes done) + length one.bytes
  size = ap length (bytes_push done one) ∙ length-append (plain_bytes done) one.bytes

  pub operation_more : Going s q h visits later on (done ++ one ∷ [])
  operation_more =
      let keeps = file_keeps o moved in
      let at = step in
      record {
        found = operation_found s q h visits now one sees_it.good ∙ g.found;
        sees = seen-push (after_bytes now one) (of_item (an_operation h o))
            ∙ ap (λ (u : UnitSeen). seen_with u (of_item (an_operation h o))) (seen_bytes now one.bytes)
            ∙ sees_it.next h refl
            ∙ ap (λ (u : UnitSeen). record u { place = at_address (led h.params p.address o) }) g.sees
            ∙ ap (λ (a : ℕ). record (seen visits) { place = at_address a }) (sym keeps.address);
        begun = ap (λ (r : Reached). r.begun) at ∙ sym (ap (λ (r : Reached). r.next) at);
        next = ap (λ (r : Reached). r.next) at
            ∙ ap (λ (n : ℕ). at_most_64_bits (n + length one.bytes)) g.next
            ∙ held (reached_by visits).next (length (plain_bytes done)) (length one.bytes)
            ∙ ap (λ (n : ℕ). at_most_64_bits ((reached_by visits).next + n)) (sym size);
        operation = any_push done one _ (
            let begins : length (plain_bytes (done ++ one ∷ [])) - last_length (done ++ one ∷ []) ≡ length (plain_bytes done) =
            omega (arith, size, last_push done one) in
            ap (λ (r : Reached). r.operation) at ∙ g.begun ∙ g.next
            ∙ ap (λ (n : ℕ). at_most_64_bits ((reached_by visits).next + n)) (sym begins));
        rows = ap (λ (r : Reached). r.rows) at ∙ g.rows
            ∙ ap (λ (n : ℕ). at_most_64_bits ((reached_by visits).rows + n)) (sym keeps.count);
        untouched = λ nothing. (
            let was = g.untouched (sym keeps.count ∙ nothing) in
            record {
              last = ap (λ (r : Reached). r.last) at ∙ was.last;
              sequence = ap (λ (r : Reached). r.sequence) at ∙ was.sequence;
              statement = keeps.has_statement ∙ was.statement;
            });
        touched = λ some. (
            let before : 1 ≤ p.count = subst (λ (n : ℕ). 1 ≤ n) keeps.count some in
            let was = g.touched before in
            let led_is = led_on h.params p o is.plain before in
            record {
              last = ap (λ (r : Reached). r.last) at ∙ was.last ∙ ap at_address (sym keeps.last);
              sequence = ap (λ (r : Reached). r.sequence) at ∙ was.sequence
                  ∙ ap₂ (λ (f : ℕ) (b : Bool). record (reached_by visits).sequence {
                    has_begun = true;
                    first = if (reached_by visits).sequence.has_begun then (reached_by visits).sequence.first else at_address f;
                    has_statement = (reached_by visits).sequence.has_statement || b;
                  }) (sym keeps.first) (sym keeps.has_statement);
              behind = omega (arith, was.behind, keeps.last, keeps.address, led_is);
              steps = was.steps + advance h.params o;
              apart = keeps.address
                  ∙ further_steps p.first h.params.minimum_instruction_length was.steps (advance h.params o) p.address
                  (led h.params p.address o) was.apart led_is
                  ∙ ap (λ (f : ℕ). f + h.params.minimum_instruction_length * (was.steps + advance h.params o)) (sym keeps.first);
            });
        files = λ file. ap (λ (l : List ℕ). is_among l file) (named_operation h now one)
            ∙ g.files file ∙ ap (λ (l : List ℕ). is_among (files_named visits ++ l) file) (sym keeps.files);
        sequences = λ kept knows. sequences_quiet q (after_bytes now one) (of_item (an_operation h o)) refl refl refl kept
            (sequences_bytes q kept now one.bytes (g.sequences kept knows));
      }
