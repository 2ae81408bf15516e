-- What is kept of operations, one thing more.
use Rattle.std.proofs.Common.{◌≡◌, ◌∙◌, ℕ, List, [], ◌∷◌, ◌++◌, Bool, true, false, true≢false, refl, sym, ap, inl, inr}
use Rattle.std.proofs.Common.{append-nil, arith, Option, Some, None, ap₂, take, drop, take-append-drop, length, ◌+◌, ◌≤◌}
use Rattle.std.specs.Prelude.{◌==◌, ◌||◌, max, not, if◌then◌else◌, fold, nat_lt, option_to_list}
use Rattle.std.specs.List.{list_any}
use Rattle.std.proofs.lemmas.Bool.{cases_Bool}
use Rattle.std.proofs.lemmas.List.Folds.{list_any-append}
use Rattle.std.proofs.lemmas.List.{length-drop}
use Rattle.std.proofs.lemmas.List.Sums.{fold-append}
use Rattle.dl_num.specs.LebFront.{after_leb, leb_front}
use Rattle.dl_look.specs.declared.place.Place.{Place}
use Rattle.dl_field.specs.HeaderData.{HeaderData}
use Rattle.dl_rows.specs.declared.operation.Operation.{Operation}
use Rattle.dl_rows.specs.Items.{an_operation}
use Rattle.dl_sections.specs.Section.{of_item}
use Rattle.dl_findings.specs.Counting.{at_most_64_bits}
use Rattle.dl_findings.specs.declared.finding.Opcode.{Opcode}
use Rattle.dl_findings.specs.declared.finding.Opcode.TheVariants as opcode
use Rattle.dl_operation_rules.specs.declared.byte_set.ByteSet.{ByteSet}
use Rattle.dl_operation_rules.specs.declared.operation_read.OpcodeRead.{OpcodeRead}
use Rattle.dl_operation_rules.specs.declared.operation_read.OpcodeRead.TheVariants as read
use Rattle.dl_operation_rules.specs.declared.operation_read.OperationRead.{OperationRead}
use Rattle.dl_operation_rules.specs.declared.operations.Operations.{Operations}
use Rattle.dl_operation_rules.specs.Judging.{is_same}
use Rattle.dl_operation_rules.specs.Keeping.{Knows, counted, has_byte, has_passed, is_in_number, is_settled, known_opcode, opcode_with}
use Rattle.dl_operation_rules.specs.Keeping.{has_begun, operation_read, read_with, unread}
use Rattle.dl_operation_rules.specs.Operations.{UnitSeen, extended_in, longest_after, longest_number, longest_operand}
use Rattle.dl_operation_rules.specs.Operations.{nothing_seen, opcode_in, passed_over, place_after, seen_with, with_bytes}

-- ---- opcodes

single_stays : (b : ℕ) (w : List ℕ) → fold opcode_with (read.Single b) w ≡ read.Single b
single_stays b [] = refl
single_stays b (c ∷ w) = single_stays b w

extended_stays : (b : ℕ) (w : List ℕ) → fold opcode_with (read.Extended b) w ≡ read.Extended b
extended_stays b [] = refl
extended_stays b (c ∷ w) = extended_stays b w

after_number : (w : List ℕ) → known_opcode (fold opcode_with read.Number w) ≡ extended_in w
after_number [] = refl
after_number (b ∷ w) = ap known_opcode (extended_stays b w)

after_length : (w : List ℕ) → known_opcode (fold opcode_with read.Length w) ≡ extended_in (after_leb w)
after_length [] = refl
after_length (b ∷ w) = elim (cases_Bool (nat_lt b 128)) [
  | inl ends ↦ rw ends (after_number w)
  | inr goes ↦ rw goes (after_length w)
]

opcode_of : (r : OperationRead) (w : List ℕ) → (fold read_with r w).opcode ≡ fold opcode_with r.opcode w
opcode_of r [] = refl
opcode_of r (b ∷ w) = opcode_of (read_with r b) w ∙ ap (λ (o : OpcodeRead). fold opcode_with o w) (by (is_in_number r.opcode)) where
  by : (is : Bool) → (if is then counted r b else record r { opcode = opcode_with r.opcode b }).opcode ≡ opcode_with r.opcode b
  by true = refl
  by false = refl

opcode_in_bytes : (bytes : List ℕ) → known_opcode (fold opcode_with read.Unread bytes) ≡ opcode_in bytes
opcode_in_bytes [] = refl
opcode_in_bytes (b ∷ w) = elim (cases_Bool (b == 0)) [
  | inl zero ↦ rw zero (after_length w)
  | inr other ↦ rw other (ap known_opcode (single_stays b w))
]

-- the opcode of some bytes
pub known_is : (bytes : List ℕ) → known_opcode (operation_read bytes).opcode ≡ opcode_in bytes
known_is bytes = ap known_opcode (opcode_of unread bytes) ∙ opcode_in_bytes bytes

pub reads_on : (r : OperationRead) (before bytes : List ℕ) → r ≡ operation_read before
    → fold read_with r bytes ≡ operation_read (before ++ bytes)
reads_on r before bytes is = rw is (sym (fold-append read_with unread before bytes))

-- more bytes say nothing
settled_one : (r : OperationRead) → is_settled r.opcode ≡ true → (b : ℕ) → read_with r b ≡ r
settled_one r settled b = by r.opcode refl settled where
  by : (o : OpcodeRead) → r.opcode ≡ o → is_settled o ≡ true → read_with r b ≡ r
  by (read.Extended n) is stops = rw is (elim (cases_Bool (n == 4)) [
    | inl four ↦ absurd (true≢false (sym stops ∙ ap not four))
    | inr other ↦ rw other refl
  ])
  by read.Unread is stops = absurd (true≢false (sym stops))
  by read.Length is stops = absurd (true≢false (sym stops))
  by read.Number is stops = absurd (true≢false (sym stops))
  by (read.Single n) is stops = absurd (true≢false (sym stops))

pub settled_stays : (r : OperationRead) → is_settled r.opcode ≡ true → (w : List ℕ) → fold read_with r w ≡ r
settled_stays r settled [] = refl
settled_stays r settled (b ∷ w) =
    ap (λ (n : OperationRead). fold read_with n w) (settled_one r settled b) ∙ settled_stays r settled w

pub settled_at : (r read : OperationRead) (i : ℕ) (w : List ℕ) → read ≡ fold read_with r (take i w)
    → is_settled read.opcode ≡ true → read ≡ fold read_with r w
settled_at r read i w is settled =
    sym (ap (fold read_with r) (sym (take-append-drop i w)) ∙ fold-append read_with r (take i w) (drop i w)
    ∙ ap (λ (n : OperationRead). fold read_with n (drop i w)) (sym is) ∙ settled_stays read settled (drop i w))

-- ---- numbers

abbrev C : ℕ → ℕ
C n = at_most_64_bits n

at_least : (come : ℕ) (w : List ℕ) → come ≤ longest_after come w
at_least come [] = omega arith
at_least come (b ∷ w) = elim (cases_Bool (nat_lt b 128)) [
  | inl ends ↦ rw ends (omega arith)
  | inr goes ↦ rw goes (omega (arith, at_least (come + 1) w))
]

abbrev kept : OpcodeRead → (begun longest : ℕ) → OperationRead
kept o begun longest = record { opcode = o; begun = begun; longest = longest }

abbrev reading : OpcodeRead → (come longest : ℕ) → OperationRead
reading o come longest = kept o (C come) (C longest)

again : (come : ℕ) → C (C come + 1) ≡ C (come + 1)
again come = omega arith

both : (longest come : ℕ) → max (C longest) (C (C come + 1)) ≡ C (max longest (come + 1))
both longest come = omega arith

-- a byte of a number more, which ends it or doesn't
counts_last : (o : OpcodeRead) (come longest b : ℕ) → nat_lt b 128 ≡ true
    → counted (reading o come longest) b ≡ reading (opcode_with o b) 0 (max longest (come + 1))
counts_last o come longest b ends = rw ends (ap (kept (opcode_with o b) 0) (both longest come))

counts_more : (o : OpcodeRead) (come longest b : ℕ) → nat_lt b 128 ≡ false
    → counted (reading o come longest) b ≡ reading (opcode_with o b) (come + 1) (max longest (come + 1))
counts_more o come longest b goes =
    rw goes (ap₂ (kept (opcode_with o b)) (again come) (both longest come))

-- where an operand of numbers goes on to the end
module _ (o : OpcodeRead) (stays : (b : ℕ) → opcode_with o b ≡ o) (counts : is_in_number o ≡ true) where
  last_one : (come longest b : ℕ) → nat_lt b 128 ≡ true
      → read_with (reading o come longest) b ≡ reading o 0 (max longest (come + 1))
  last_one come longest b ends =
      ap (λ (is : Bool). if is then counted (reading o come longest) b
      else record (reading o come longest) { opcode = opcode_with o b }) counts
      ∙ counts_last o come longest b ends
      ∙ ap (λ (p : OpcodeRead). reading p 0 (max longest (come + 1))) (stays b)

  one_of_more : (come longest b : ℕ) → nat_lt b 128 ≡ false
      → read_with (reading o come longest) b ≡ reading o (come + 1) (max longest (come + 1))
  one_of_more come longest b goes =
      ap (λ (is : Bool). if is then counted (reading o come longest) b
      else record (reading o come longest) { opcode = opcode_with o b }) counts
      ∙ counts_more o come longest b goes
      ∙ ap (λ (p : OpcodeRead). reading p (come + 1) (max longest (come + 1))) (stays b)

  longest_of : (come longest : ℕ) (w : List ℕ) → come ≤ longest
      → (fold read_with (reading o come longest) w).longest ≡ C (max longest (longest_after come w))
  longest_of come longest [] le = omega arith
  longest_of come longest (b ∷ w) le = elim (cases_Bool (nat_lt b 128)) [
    | inl ends ↦
        ap (λ (r : OperationRead). (fold read_with r w).longest) (last_one come longest b ends)
        ∙ longest_of 0 (max longest (come + 1)) w (omega arith)
        ∙ rw ends (omega arith)
    | inr goes ↦
        let least : come + 1 ≤ longest_after (come + 1) w = at_least (come + 1) w in
        ap (λ (r : OperationRead). (fold read_with r w).longest) (one_of_more come longest b goes)
        ∙ longest_of (come + 1) (max longest (come + 1)) w (omega arith)
        ∙ rw goes (omega (arith, least))
  ]

extended_counts : (n longest : ℕ) (w : List ℕ)
    → (fold read_with (reading (read.Extended n) 0 longest) w).longest
    ≡ C (max longest (if n == 4 then longest_after 0 w else 0))
extended_counts n longest w = elim (cases_Bool (n == 4)) [
  | inl four ↦
      longest_of (read.Extended n) (λ b. refl) four 0 longest w (omega arith)
      ∙ rw four refl
  | inr other ↦
      ap (λ (r : OperationRead). r.longest)
      (settled_stays (reading (read.Extended n) 0 longest) (ap not other) w)
      ∙ rw other (omega arith)
]

number_counts : (longest : ℕ) (w : List ℕ)
    → (fold read_with (reading read.Number 0 longest) w).longest ≡ C (max longest (longest_operand w))
number_counts longest [] = omega arith
number_counts longest (b ∷ w) = extended_counts b longest w

length_counts : (come longest : ℕ) (w : List ℕ) → come ≤ longest
    → (fold read_with (reading read.Length come longest) w).longest
    ≡ C (max longest (max (come + length (leb_front w)) (longest_operand (after_leb w))))
length_counts come longest [] le = omega arith
length_counts come longest (b ∷ w) le = elim (cases_Bool (nat_lt b 128)) [
  | inl ends ↦
      let next : opcode_with read.Length b ≡ read.Number =
      ap (λ (is : Bool). if is then read.Number else read.Length) ends in
      ap (λ (r : OperationRead). (fold read_with r w).longest)
      (counts_last read.Length come longest b ends
      ∙ ap (λ (o : OpcodeRead). reading o 0 (max longest (come + 1))) next)
      ∙ number_counts (max longest (come + 1)) w
      ∙ rw ends (omega arith)
  | inr goes ↦
      let next : opcode_with read.Length b ≡ read.Length =
      ap (λ (is : Bool). if is then read.Number else read.Length) goes in
      ap (λ (r : OperationRead). (fold read_with r w).longest)
      (counts_more read.Length come longest b goes
      ∙ ap (λ (o : OpcodeRead). reading o (come + 1) (max longest (come + 1))) next)
      ∙ length_counts (come + 1) (max longest (come + 1)) w (omega arith)
      ∙ rw goes (omega arith)
]

-- the longest number of some bytes
pub longest_is : (bytes : List ℕ) → (operation_read bytes).longest ≡ at_most_64_bits (longest_number bytes)
longest_is [] = refl
longest_is (b ∷ w) = elim (cases_Bool (b == 0)) [
  | inl zero ↦
      ap (λ (o : OpcodeRead). (fold read_with (kept o 0 0) w).longest)
      (ap (λ (is : Bool). if is then read.Length else read.Single b) zero)
      ∙ length_counts 0 0 w (omega arith)
      ∙ rw zero (omega arith)
  | inr other ↦
      ap (λ (o : OpcodeRead). (fold read_with (kept o 0 0) w).longest)
      (ap (λ (is : Bool). if is then read.Length else read.Single b) other)
      ∙ longest_of (read.Single b) (λ c. refl) refl 0 0 w (omega arith)
      ∙ rw other (omega arith)
]

-- ---- what was passed over

-- a standard opcode more
pub passes_standard : (old new : Operations) (n : ℕ)
    → ((b : ℕ) → has_byte new.standard b ≡ (if b == n then true else has_byte old.standard b)) → new.extended ≡ old.extended
    → (o : Opcode) → has_passed new o ≡ (if is_same o (opcode.Standard n) then true else has_passed old o)
passes_standard old new n added same (opcode.Standard b) = added b
passes_standard old new n added same (opcode.Extended b) = ap (λ (s : ByteSet). has_byte s b) same

-- an extended one
pub passes_extended : (old new : Operations) (n : ℕ)
    → ((b : ℕ) → has_byte new.extended b ≡ (if b == n then true else has_byte old.extended b)) → new.standard ≡ old.standard
    → (o : Opcode) → has_passed new o ≡ (if is_same o (opcode.Extended n) then true else has_passed old o)
passes_extended old new n added same (opcode.Extended b) = added b
passes_extended old new n added same (opcode.Standard b) = ap (λ (s : ByteSet). has_byte s b) same

-- none
none_passed : (r : OperationRead) (standard extended : ByteSet) → ((b : ℕ) → has_byte standard b ≡ false)
    → ((b : ℕ) → has_byte extended b ≡ false) → (o : Opcode)
    → has_passed (record { read = r; place = nothing_seen.place; standard = standard; extended = extended }) o ≡ false
none_passed r standard extended a b (opcode.Standard n) = a n
none_passed r standard extended a b (opcode.Extended n) = b n

pub same_passed : (old new : Operations) → new.standard ≡ old.standard → new.extended ≡ old.extended
    → (o : Opcode) → has_passed new o ≡ has_passed old o
same_passed old new a b (opcode.Standard n) = ap (λ (s : ByteSet). has_byte s n) a
same_passed old new a b (opcode.Extended n) = ap (λ (s : ByteSet). has_byte s n) b

either : (is was : Bool) → (if is then true else was) ≡ (was || (is || false))
either is was = grind arith

one_more : (os : List Opcode) (o added : Opcode)
    → (if is_same o added then true else list_any (is_same o) os) ≡ list_any (is_same o) (os ++ added ∷ [])
one_more os o added =
    either (is_same o added) (list_any (is_same o) os) ∙ sym (list_any-append (is_same o) os (added ∷ []))

pub passed_some : (old mid : Operations) (os : List Opcode) (added : Opcode)
    → ((o : Opcode) → has_passed mid o ≡ (if is_same o added then true else has_passed old o))
    → ((o : Opcode) → has_passed old o ≡ list_any (is_same o) os)
    → (o : Opcode) → has_passed mid o ≡ list_any (is_same o) (os ++ added ∷ [])
passed_some old mid os added adds has o =
    adds o ∙ ap (λ (was : Bool). if is_same o added then true else was) (has o) ∙ one_more os o added

pub passed_none : (old : Operations) (os : List Opcode) → ((o : Opcode) → has_passed old o ≡ list_any (is_same o) os)
    → (o : Opcode) → has_passed old o ≡ list_any (is_same o) (os ++ [])
passed_none old os has o = has o ∙ ap (list_any (is_same o)) (sym (append-nil os))

-- ---- one thing more

pub at_first : (standard extended : ByteSet) → ((b : ℕ) → has_byte standard b ≡ false) → ((b : ℕ) → has_byte extended b ≡ false)
    → Knows (record { read = unread; place = nothing_seen.place; standard = standard; extended = extended }) nothing_seen
at_first standard extended a b = record { read = refl; place = refl; passed = none_passed unread standard extended a b }

pub reads_more : (old : Operations) (s : UnitSeen) (bytes : List ℕ) (r : OperationRead) → r ≡ fold read_with old.read bytes
    → Knows old s → Knows (record old { read = r }) (with_bytes s bytes)
reads_more old s bytes r is knows = record {
  read = is ∙ reads_on old.read s.bytes bytes knows.read;
  place = knows.place;
  passed = λ o. same_passed old (record old { read = r }) refl refl o ∙ knows.passed o;
}

module _ (old mid : Operations) (s : UnitSeen) (passed : Option Opcode) (knows : Knows old s) where
  abbrev All : Type 0
  All = (o : Opcode) → has_passed mid o ≡ list_any (is_same o) (s.opcodes ++ option_to_list passed)

  -- an opcode was passed over, or none
  pub more_some : (added : Opcode) → passed ≡ Some added
      → ((o : Opcode) → has_passed mid o ≡ (if is_same o added then true else has_passed old o)) → All
  more_some added is adds = λ o. passed_some old mid s.opcodes added adds knows.passed o
      ∙ ap (λ (p : Option Opcode). list_any (is_same o) (s.opcodes ++ option_to_list p)) (sym is)

  pub more_none : passed ≡ None → mid ≡ old → All
  more_none is same = λ o. ap (λ (m : Operations). has_passed m o) same ∙ passed_none old s.opcodes knows.passed o
      ∙ ap (λ (p : Option Opcode). list_any (is_same o) (s.opcodes ++ option_to_list p)) (sym is)

pub ends_operation : (mid : Operations) (s : UnitSeen) (h : HeaderData) (o : Operation) (place : Place)
    → place ≡ place_after h.params s.place o
    → ((c : Opcode) → has_passed mid c ≡ list_any (is_same c) (s.opcodes ++ option_to_list (passed_over o s.bytes)))
    → Knows (record mid { read = unread; place = place }) (seen_with s (of_item (an_operation h o)))
ends_operation mid s h o place led all = record {
  read = refl;
  place = led;
  passed = λ code. same_passed mid (record mid { read = unread; place = place }) refl refl code ∙ all code;
}

-- ---- few bytes

begun_stays : (o : OpcodeRead) (b : ℕ) → has_begun o ≡ true → has_begun (opcode_with o b) ≡ true
begun_stays read.Unread b begun = absurd (true≢false (sym begun))
begun_stays read.Length b begun = elim (cases_Bool (nat_lt b 128)) [
  | inl ends ↦ rw ends refl
  | inr goes ↦ rw goes refl
]
begun_stays read.Number b begun = refl
begun_stays (read.Single n) b begun = refl
begun_stays (read.Extended n) b begun = refl

begun_on : (o : OpcodeRead) (w : List ℕ) → has_begun o ≡ true → has_begun (fold opcode_with o w) ≡ true
begun_on o [] begun = begun
begun_on o (b ∷ w) begun = begun_on (opcode_with o b) w (begun_stays o b begun)

begun_at_once : (b : ℕ) → has_begun (opcode_with read.Unread b) ≡ true
begun_at_once b = elim (cases_Bool (b == 0)) [
  | inl zero ↦ rw zero refl
  | inr other ↦ rw other refl
]

-- none came where no operation has begun
none_came : (bytes : List ℕ) → has_begun (operation_read bytes).opcode ≡ false → bytes ≡ []
none_came [] came = refl
none_came (b ∷ w) came = absurd (true≢false (
    sym (begun_on (opcode_with read.Unread b) w (begun_at_once b)) ∙ ap has_begun (sym (opcode_of unread (b ∷ w))) ∙ came))

pub came_none : (old : Operations) (s : UnitSeen) → Knows old s → has_begun old.read.opcode ≡ false → s.bytes ≡ []
came_none old s knows none = none_came s.bytes (ap (λ (r : OperationRead). has_begun r.opcode) (sym knows.read) ∙ none)

-- and where none came none has begun
pub none_begun : (old : Operations) (s : UnitSeen) → Knows old s → s.bytes ≡ [] → has_begun old.read.opcode ≡ false
none_begun old s knows none =
    ap (λ (r : OperationRead). has_begun r.opcode) knows.read ∙ ap (λ (l : List ℕ). has_begun (operation_read l).opcode) none

after_fits : (come : ℕ) (w : List ℕ) → longest_after come w ≤ come + length w
after_fits come [] = omega arith
after_fits come (b ∷ w) = elim (cases_Bool (nat_lt b 128)) [
  | inl ends ↦ rw ends (omega (arith, after_fits 0 w))
  | inr goes ↦ rw goes (omega (arith, after_fits (come + 1) w))
]

operand_fits : (w : List ℕ) → longest_operand w ≤ length w
operand_fits [] = omega arith
operand_fits (b ∷ w) = elim (cases_Bool (b == 4)) [
  | inl four ↦ rw four (omega (arith, after_fits 0 w))
  | inr other ↦ rw other (omega arith)
]

front_fits : (w : List ℕ) → length (leb_front w) ≤ length w
front_fits [] = omega arith
front_fits (b ∷ w) = elim (cases_Bool (nat_lt b 128)) [
  | inl ends ↦ rw ends (omega arith)
  | inr goes ↦ rw goes (omega (arith, front_fits w))
]

-- no number has as many bytes as its operation
number_fits : (b : ℕ) (w : List ℕ) → longest_number (b ∷ w) ≤ length w
number_fits b w = elim (cases_Bool (b == 0)) [
  | inl zero ↦ rw zero (omega (arith, front_fits w, operand_fits (after_leb w), length-drop (length (leb_front w)) w))
  | inr other ↦ rw other (omega (arith, after_fits 0 w))
]

pub few_in_number : (bytes : List ℕ) → length bytes ≤ 11 → longest_number bytes ≤ 10
few_in_number [] few = omega arith
few_in_number (b ∷ w) few = omega (arith, number_fits b w, few)
