-- A linter's way through the rows of plain operations.
use Rattle.std.proofs.Common.{◌≡◌, ◌∙◌, ◌⊎◌, ℕ, ◌+◌, ◌-◌, ◌*◌, ◌%◌, ◌^◌, ◌≤◌, ◌==◌, ◌||◌, Bool, true, false, true≢false, List, [], ◌∷◌, ◌++◌, Option, Some, None, ap, ap₂, append_assoc, append-nil, arith, inl, inr, length, map, refl, subst, sym}
use Rattle.std.specs.List.{list_any}
use Rattle.std.specs.Prelude.{MatchOption, ◌&&◌, if◌then◌else◌, not}
use Rattle.std.proofs.lemmas.Bool.{cases_Bool, eqb-true, le-ltb}
use Rattle.std.proofs.lemmas.Bool.Decides.{nat_tests}
use Rattle.std.proofs.lemmas.List.Folds.{list_any-append}
use Rattle.std.proofs.Math.Bool.{and-false}
use Rattle.std.proofs.Math.Nat.{add-mul-mod_self_left, mod-one}
use Rattle.dl_field.specs.HeaderData.{HeaderData}
use Rattle.dl_head.specs.Numbers.{first_number}
use Rattle.dl_look.specs.declared.place.Place.{Place}
use Rattle.dl_look.specs.Answer.{first_place, is_below, place_of}
use Rattle.dl_print.specs.ValueText.{Strings}
use Rattle.dl_rows.specs.declared.operation.Operation.{Operation}
use Rattle.dl_rows.specs.declared.operation.Operation.TheVariants as op
use Rattle.dl_rows.specs.declared.row.Row.{Row}
use Rattle.dl_rows.specs.declared.plain_run.PlainRun.{PlainRun}
use Rattle.dl_rows.specs.Items.{Item, a_row}
use Rattle.dl_rows.specs.Matrix.{appends_row}
use Rattle.dl_rows.specs.Plain.{Along, ArePlain, ComesTo, IsPlain, IsPlainRow, PlainOne, along, along_with, files_of, last_length, led, plain_bytes, with_file}
use Rattle.dl_rows.specs.Plain.{with_row as along_row}
use Rattle.dl_sections.specs.Copying.{offset_after as unit_offset}
use Rattle.dl_sections.specs.DamageTold.{damages_told}
use Rattle.dl_sections.specs.Section.{Visit, of_item}
use Rattle.dl_sections.specs.Visiting.{header_told}
use Rattle.dl_findings.specs.Counting.{at_most_64_bits}
use Rattle.dl_findings.specs.declared.finding.Finding.{Finding}
use Rattle.dl_table_rules.specs.Keeping.{AreNamed}
use Rattle.dl_table_rules.specs.declared.files_named.FilesNamed.{FilesNamed}
use Rattle.dl_table_rules.specs.Unused.{is_among}
use Rattle.dl_operation_rules.specs.Operations.{at_address, seen}
use Rattle.dl_lint.specs.Before.{sequence_told}
use Rattle.dl_lint.specs.Findings.{chosen, findings_at, findings_in}
use Rattle.dl_lint.specs.Keeping.{AreGoodRows, AreOf, FitsLength, after_run, first_of, is_some_row, reached_by}
use Rattle.dl_lint.specs.RowRules.{distance, falls_below, first_address, is_split, names_no_file}
use Rattle.dl_lint.specs.TableRules.{files_named}
use Rattle.dl_lint.specs.declared.question.LintQuestion.{LintQuestion}
use Rattle.dl_lint.specs.declared.reached.Offsets.{Offsets}
use Rattle.dl_lint.specs.declared.reached.Reached.{Reached}
use Rattle.dl_lint.specs.declared.reached.Sequence.{Sequence}
use Rattle.dl_lint.proofs.FilesLemmas.{named-push}
use Rattle.dl_lint.proofs.FindingLemmas.{findings-push}
use Rattle.dl_lint.proofs.KeptLemmas.{falls_below_last, falls_some, first_place-push}
use Rattle.dl_lint.proofs.OperationLemmas.{seen-push}
use Rattle.dl_lint.proofs.PlainGoing.{FindsNothing, Going, IfAny, Touched, any_map, count_grows, finds_before, held, last_fits, operation_more, rows_of, some_count}
use Rattle.dl_lint.proofs.PlainLemmas.{after_operation, reached_row_on, sequence_with, told_push, told_row, told_run, with_row}
use Rattle.dl_lint.proofs.RowLemmas.{good_row}
use Rattle.dl_lint.proofs.SequenceLemmas.{sequences_on}

-- ---- tests

some_of : (n : ℕ) → (n == 0) ≡ false → 1 ≤ n
some_of n other = grind (arith, nat_tests)

first_of_rows : (x : Sequence) (p : Along) (a : ℕ) → first_of (rows_of p x) a ≡ first_of x p.first
first_of_rows x p a = by x.has_begun where
  by : (b : Bool) → (if b then x.first else at_address p.first).address ≡ (if b then x.first.address else p.first)
  by true = refl
  by false = refl

not_below : (a l : ℕ) → l ≤ a → is_below (at_address a) (at_address l) ≡ false
not_below a l behind = grind (arith, nat_tests)

whole_of_one : (least first address : ℕ) → least ≤ 1 → is_split least first address ≡ false
whole_of_one least first address small = elim (cases_Bool (least == 0)) [
  | inl zero ↦ rw zero refl
  | inr some ↦ (
      let one : least ≡ 1 = omega (arith, small, some_of least some) in
      rw (one, mod-one (distance first address)) refl)
]

whole_length : (least first address : ℕ) → FitsLength least first address → is_split least first address ≡ false
whole_length least first address fits =
    let apart : distance first address ≡ address - first = omega (arith, fits.after) in
    ap (λ (n : ℕ). not (least == 0) && not (n % least == 0)) apart
    ∙ ap (λ (n : ℕ). not (least == 0) && not (n == 0)) fits.whole ∙ and-false (not (least == 0))

-- a multiple further on
fits_further : (least first from to steps : ℕ) → to ≡ from + least * steps → FitsLength least first from → FitsLength least first to
fits_further least first from to steps is fits =
    let after : first ≤ to = omega (arith, fits.after, is) in
    let apart : to - first ≡ (from - first) + least * steps = omega (arith, fits.after, is) in
    record { after = after; whole = rw apart (add-mul-mod_self_left (from - first) least steps ∙ fits.whole) }

or_same : (a b : Bool) → ((a || b) || b) ≡ (a || b)
or_same a b = grind arith

or_join : (a b c : Bool) → ((a || b) || c) ≡ (a || (b || c))
or_join a b c = grind arith

module _ (s : Strings) (q : LintQuestion) (h : HeaderData) (visits now : List Visit) (p : Along) (done : List PlainOne) (r : Row)
    (g : Going s q h visits now p done) (is : IsPlainRow p.address p.file r) (finds : FindsNothing h (reached_by visits) (along_row (Some r) p)) where
  abbrev p2 : Along
  p2 = along_row (Some r) p

  abbrev at : Reached
  at = reached_by visits

  abbrev here : Reached
  here = reached_by now

  abbrev least : ℕ
  least = h.params.minimum_instruction_length

  abbrev v : Visit
  v = of_item (a_row h r)

  place : place_of r ≡ at_address p.address
  place = ap₂ (λ (a i : ℕ). record { address = a; op_index = i }) is.address is.op_index

  -- ---- the rules

  named : names_no_file h r ≡ false
  named =
      let among : is_among (p.files ++ p.file ∷ []) r.file ≡ true =
      list_any-append (λ (m : ℕ). m == r.file) p.files (p.file ∷ []) ∙ rw is.file (grind (arith, nat_tests)) in
      ap (λ (b : Bool). not r.end_sequence && b) (finds.files r.file among) ∙ and-false (not r.end_sequence)

  -- before the first row and after it
  count_none : p.count ≡ 0 → p2.first ≡ r.address
  count_none none = ap (λ (n : ℕ). if n == 0 then r.address else p.first) none

  count_some : 1 ≤ p.count → p2.first ≡ p.first
  count_some some = ap (λ (b : Bool). if b then r.address else p.first) (some_count p.count some)

  rises : falls_below (sequence_told now) r ≡ false
  rises = elim (cases_Bool (falls_below (sequence_told now) r)) [
    | inl falls ↦ absurd (true≢false (sym falls ∙ sym (falls_below_last here now r refl (begun falls)) ∙ ap (λ (x : Place). is_below x here.last) place ∙ not_here (begun falls)))
    | inr up ↦ up
  ] where
    begun : falls_below (sequence_told now) r ≡ true → here.sequence.has_begun ≡ true
    begun falls = falls_some (sequence_told now) r falls

    not_here : here.sequence.has_begun ≡ true → is_below (at_address p.address) here.last ≡ false
    not_here begun = elim (cases_Bool (p.count == 0)) [
      | inl zero ↦ (
          let none : p.count ≡ 0 = eqb-true p.count 0 zero in
          let was = g.untouched none in
          let same : at.sequence.has_begun ≡ true = sym (ap (λ (x : Sequence). x.has_begun) was.sequence) ∙ begun in
          ap (is_below (at_address p.address)) was.last
          ∙ ap (λ (a : ℕ). is_below (at_address a) at.last) (sym (count_none none ∙ is.address)) ∙ finds.rises same)
      | inr other ↦ (
          let was = g.touched (some_of p.count other) in
          ap (is_below (at_address p.address)) was.last ∙ not_below p.address p.last was.behind)
    ]

  -- the first row of the sequence
  first_is : first_address now r ≡ first_of here.sequence r.address
  first_is = ap (λ (x : Place). x.address) (first_place-push (sequence_told now) r) ∙ by (is_some_row (sequence_told now)) where
    by : (b : Bool) → (if b then first_place (sequence_told now) else place_of r).address
        ≡ (if b then (first_place (sequence_told now)).address else r.address)
    by true = refl
    by false = refl

  first_here : FitsLength least (first_of at.sequence p2.first) p2.first → FitsLength least (first_of here.sequence r.address) r.address
  first_here fits = elim (cases_Bool (p.count == 0)) [
    | inl zero ↦ (
        let none : p.count ≡ 0 = eqb-true p.count 0 zero in
        let was = g.untouched none in
        subst (λ (x : Sequence). FitsLength least (first_of x r.address) r.address) (sym was.sequence)
        (subst (λ (a : ℕ). FitsLength least (first_of at.sequence a) a) (count_none none) fits))
    | inr other ↦ (
        let some = some_of p.count other in
        let was = g.touched some in
        let first : FitsLength least (first_of at.sequence p.first) p.first =
        subst (λ (a : ℕ). FitsLength least (first_of at.sequence a) a) (count_some some) fits in
        subst (λ (x : Sequence). FitsLength least (first_of x r.address) r.address) (sym was.sequence)
        (subst (λ (a : ℕ). FitsLength least a r.address) (sym (first_of_rows at.sequence p r.address))
        (fits_further least (first_of at.sequence p.first) p.first r.address was.steps (is.address ∙ was.apart) first)))
  ]

  whole : is_split least (first_address now r) r.address ≡ false
  whole = elim finds.whole [
    | inl small ↦ whole_of_one least (first_address now r) r.address small
    | inr fits ↦ ap (λ (a : ℕ). is_split least a r.address) first_is
        ∙ whole_length least (first_of here.sequence r.address) r.address (first_here fits)
  ]

  nothing : findings_at s q now v ≡ []
  nothing =
      good_row now h r named rises (le-ltb (2 ^ 32 - 1) r.line (omega (arith, is.line)))
      (ap (λ (b : Bool). b && (first_address now r == r.address)) is.within)
      (ap (λ (b : Bool). b && not (list_any (λ (x : Row). x.is_stmt) (sequence_told now))) is.within) whole s q

  step : reached_by (now ++ v ∷ []) ≡ with_row here r
  step = reached_row_on now h r is.within rises

  -- ---- what is known then

  touched_now : Touched least at (with_row here r) p2
  touched_now = elim (cases_Bool (p.count == 0)) [
    | inl zero ↦ (
        let none : p.count ≡ 0 = eqb-true p.count 0 zero in
        let was = g.untouched none in
        record {
          last = place ∙ ap at_address (sym is.address);
          sequence = ap (λ (x : Sequence). sequence_with x r) was.sequence
              ∙ ap₂ (λ (x : Place) (b : Bool). record at.sequence {
                has_begun = true;
                first = if at.sequence.has_begun then at.sequence.first else x;
                has_statement = at.sequence.has_statement || b;
              }) (place ∙ ap at_address (sym (count_none none ∙ is.address))) (ap (λ (b : Bool). b || r.is_stmt) (sym was.statement));
          behind = omega (arith, is.address);
          steps = 0;
          apart = sym is.address ∙ sym (count_none none) ∙ omega arith;
        })
    | inr other ↦ (
        let some = some_of p.count other in
        let was = g.touched some in
        record {
          last = place ∙ ap at_address (sym is.address);
          sequence = ap (λ (x : Sequence). sequence_with x r) was.sequence
              ∙ ap₂ (λ (f : ℕ) (b : Bool). record at.sequence {
                has_begun = true;
                first = if at.sequence.has_begun then at.sequence.first else at_address f;
                has_statement = b;
              }) (sym (count_some some)) (or_join at.sequence.has_statement p.has_statement r.is_stmt);
          behind = omega (arith, is.address);
          steps = was.steps;
          apart = was.apart ∙ ap (λ (a : ℕ). a + least * was.steps) (sym (count_some some));
        })
  ]

  files_now : (file : ℕ) → is_among (files_named (now ++ v ∷ [])) file ≡ is_among (files_named visits ++ files_of p2) file
  files_now file =
      ap (λ (l : List ℕ). is_among l file)
      (named-push now v refl ∙ ap (λ (b : Bool). files_named now ++ ((if b then [] else r.file ∷ []) ++ [])) is.within
      ∙ ap (λ (f : ℕ). files_named now ++ f ∷ []) is.file)
      ∙ list_any-append (λ (m : ℕ). m == file) (files_named now) (p.file ∷ [])
      ∙ ap (λ (b : Bool). b || ((p.file == file) || false)) (g.files file)
      ∙ by p.is_named
    where
      same : (x : ℕ) (xs : List ℕ) → is_among (xs ++ x ∷ []) file ≡ (is_among xs file || ((x == file) || false))
      same x xs = list_any-append (λ (m : ℕ). m == file) xs (x ∷ [])

      by : (b : Bool) → (is_among (files_named visits ++ (if b then p.files ++ p.file ∷ [] else p.files)) file || ((p.file == file) || false))
          ≡ is_among (files_named visits ++ (p.files ++ p.file ∷ [])) file
      by true =
          ap (λ (l : List ℕ). is_among l file || ((p.file == file) || false)) (sym (append_assoc (files_named visits) p.files (p.file ∷ [])))
          ∙ ap (λ (b : Bool). b || ((p.file == file) || false)) (same p.file (files_named visits ++ p.files))
          ∙ or_same (is_among (files_named visits ++ p.files) file) ((p.file == file) || false)
          ∙ sym (same p.file (files_named visits ++ p.files))
          ∙ ap (λ (l : List ℕ). is_among l file) (append_assoc (files_named visits) p.files (p.file ∷ []))
      by false =
          sym (same p.file (files_named visits ++ p.files))
          ∙ ap (λ (l : List ℕ). is_among l file) (append_assoc (files_named visits) p.files (p.file ∷ []))

  pub row_more : Going s q h visits (now ++ v ∷ []) p2 done
  row_more = record {
    found = findings-push s q now v
        ∙ ap (λ (l : List Finding). findings_in s q now ++ chosen q.rules l) nothing
        ∙ append-nil (findings_in s q now) ∙ g.found;
    sees = seen-push now v ∙ g.sees;
    begun = ap (λ (x : Reached). x.begun) step ∙ g.begun ∙ sym (ap (λ (x : Reached). x.next) step);
    next = ap (λ (x : Reached). x.next) step ∙ g.next;
    operation = any_map done (λ e. ap (λ (x : Reached). x.operation) step ∙ e) g.operation;
    rows = ap (λ (x : Reached). x.rows) step ∙ ap (λ (n : ℕ). at_most_64_bits (n + 1)) g.rows ∙ held at.rows p.count 1;
    untouched = λ none. absurd (omega (arith, none));
    touched = λ some. subst (λ (x : Reached). Touched least at x p2) (sym step) touched_now;
    files = files_now;
    sequences = λ kept knows. sequences_on q now h r kept is.within (g.sequences kept knows);
  }

-- ---- a whole run

-- the row of an operation stands where that leads, and names the file
row_at : (o : Operation) (p : Along) (a : ℕ) (r : Row) → appends_row o ≡ true → IsPlainRow a p.file r
    → IsPlainRow (with_file o (record p { address = a })).address (with_file o (record p { address = a })).file r
row_at (op.SetFile n) p a r appends is = absurd cc
row_at o p a r appends is = is

-- what one operation comes to without its row
abbrev file_set : HeaderData → Along → PlainOne → Along
file_set h p one = with_file one.operation (record p { address = led h.params p.address one.operation })

module _ (s : Strings) (q : LintQuestion) (h : HeaderData) (visits : List Visit) (start : Along)
    (single : h.params.maximum_operations_per_instruction ≡ 1) (none : (seen visits).bytes ≡ []) where
  -- one with its row
  one_more : (now : List Visit) (p : Along) (done : List PlainOne) (one : PlainOne) → Going s q h visits now p done
      → IsPlain h.params p one.operation one.row → length one.bytes ≤ 11
      → (1 ≤ (along_with h.params p one.operation one.row).count → FindsNothing h (reached_by visits) (along_with h.params p one.operation one.row))
      → Going s q h visits (after_operation h now one ++ told_row h one.row) (along_with h.params p one.operation one.row) (done ++ one ∷ [])
  one_more now p done one g is few finds =
      by one.row is.row finds (operation_more s q h visits now p done one g is few single none)
    where
      by : (made : Option Row)
          → MatchOption made (appends_row one.operation ≡ false) (λ r. (appends_row one.operation ≡ true) × IsPlainRow (led h.params p.address one.operation) p.file r)
          → (1 ≤ (along_row made (file_set h p one)).count → FindsNothing h (reached_by visits) (along_row made (file_set h p one)))
          → Going s q h visits (after_operation h now one) (file_set h p one) (done ++ one ∷ [])
          → Going s q h visits (after_operation h now one ++ told_row h made) (along_row made (file_set h p one)) (done ++ one ∷ [])
      by None row finds going = subst (λ (l : List Visit). Going s q h visits l (file_set h p one) (done ++ one ∷ [])) (sym (append-nil (after_operation h now one))) going
      by (Some r) row finds going =
          row_more s q h visits (after_operation h now one) (file_set h p one) (done ++ one ∷ []) r going (row_at one.operation p (led h.params p.address one.operation) r row.0 row.1)
          (finds (omega arith))

  -- and those that are left
  run_more : (done left : List PlainOne) (now : List Visit) (p : Along) → now ≡ visits ++ told_run h done → Going s q h visits now p done
      → ArePlain h.params p left
      → (1 ≤ (along h.params p left).count → FindsNothing h (reached_by visits) (along h.params p left))
      → Going s q h visits (visits ++ told_run h (done ++ left)) (along h.params p left) (done ++ left)
  run_more done [] now p is g plain finds =
      subst (λ (l : List PlainOne). Going s q h visits (visits ++ told_run h l) p l) (sym (append-nil done))
      (subst (λ (l : List Visit). Going s q h visits l p done) is g)
  run_more done (one ∷ left) now p is g plain finds =
      let next = along_with h.params p one.operation one.row in
      let later = after_operation h now one ++ told_row h one.row in
      let going = one_more now p done one g plain.0 plain.1
      (λ some. finds_before h (reached_by visits) next left some (finds (count_grows h.params next left some))) in
      let reached : later ≡ visits ++ told_run h (done ++ one ∷ []) =
      ap (λ (l : List Visit). after_operation h l one ++ told_row h one.row) is ∙ sym (told_push h visits done one) in
      subst (λ (l : List PlainOne). Going s q h visits (visits ++ told_run h l) (along h.params next left) l) (append_assoc done (one ∷ []) left)
      (run_more (done ++ one ∷ []) left later next reached going plain.2 finds)

  pub whole_run : (ss : List PlainOne) → (seen visits).place ≡ at_address start.address → (reached_by visits).begun ≡ (reached_by visits).next
      → start.count ≡ 0 → start.has_statement ≡ false → files_of start ≡ [] → ArePlain h.params start ss
      → (1 ≤ (along h.params start ss).count → FindsNothing h (reached_by visits) (along h.params start ss))
      → Going s q h visits (visits ++ told_run h ss) (along h.params start ss) ss
  whole_run ss place whole no_rows no_statement no_files plain finds =
      run_more [] ss visits start (sym (append-nil visits)) (record {
        found = refl;
        sees = ap (λ (x : Place). record (seen visits) { place = x }) place;
        begun = whole;
        next = omega arith;
        operation = tt;
        rows = omega (arith, no_rows);
        untouched = λ none. record { last = refl; sequence = refl; statement = no_statement };
        touched = λ some. absurd (omega (arith, some, no_rows));
        files = λ file. ap (λ (l : List ℕ). is_among l file) (sym (append-nil (files_named visits)) ∙ ap (λ (l : List ℕ). files_named visits ++ l) (sym no_files));
        sequences = λ kept knows. knows;
      }) plain finds

-- ---- what a linter keeps of it

same_reached : (x y : Reached) → x.operation ≡ y.operation → x.begun ≡ y.begun → x.next ≡ y.next → x.rows ≡ y.rows
    → x.last ≡ y.last → x.sequence ≡ y.sequence → x ≡ y
same_reached x y a b c d e f =
    ap (λ (n : ℕ). record x { operation = n }) a
    ∙ ap (λ (n : ℕ). record x { operation = y.operation; begun = n }) b
    ∙ ap (λ (n : ℕ). record x { operation = y.operation; begun = y.begun; next = n }) c
    ∙ ap (λ (n : ℕ). record x { operation = y.operation; begun = y.begun; next = y.next; rows = n }) d
    ∙ ap (λ (p : Place). record x { operation = y.operation; begun = y.begun; next = y.next; rows = y.rows; last = p }) e
    ∙ ap (λ (s : Sequence). record y { sequence = s }) f

-- what is reached
pub reached_is : (s : Strings) (q : LintQuestion) (h : HeaderData) (visits now : List Visit) (p : Along) (ss : List PlainOne) (run : PlainRun)
    (offsets : Offsets) → Going s q h visits now p ss → run.bytes.now ≡ plain_bytes ss → run.last_bytes ≡ last_length ss → ComesTo run p
    → AreOf (reached_by visits) (length run.bytes.now) run.last_bytes offsets → after_run (reached_by visits) offsets run.rows ≡ reached_by now
reached_is s q h visits now p ss run offsets g bytes last comes are =
    let at = reached_by visits in
    let size : length run.bytes.now ≡ length (plain_bytes ss) = ap length bytes in
    let next : offsets.end ≡ (reached_by now).next = omega (arith, g.next, are.end, are.fits, size) in
    let begun : offsets.end ≡ (reached_by now).begun = next ∙ sym g.begun in
    let operation : offsets.begin ≡ (reached_by now).operation =
    begins ss g.operation (omega (arith, are.some, size)) (omega (arith, are.end, are.begin, are.fits, last, size, last_fits ss)) in
    elim (cases_Bool (run.rows.count == 0)) [
      | inl zero ↦ (
          let was = g.untouched (sym comes.count ∙ eqb-true run.rows.count 0 zero) in
          rw zero (same_reached _ (reached_by now) operation begun next
          (omega (arith, g.rows, comes.count, eqb-true run.rows.count 0 zero)) (sym was.last) (sym was.sequence)))
      | inr other ↦ (
          let was = g.touched (omega (arith, comes.count, some_of run.rows.count other)) in
          rw other (same_reached _ (reached_by now) operation begun next
          (ap (λ (n : ℕ). at_most_64_bits (at.rows + n)) comes.count ∙ sym g.rows) (ap at_address comes.last ∙ sym was.last)
          (ap₂ (λ (f : ℕ) (b : Bool). record at.sequence {
            has_begun = true;
            first = if at.sequence.has_begun then at.sequence.first else at_address f;
            has_statement = at.sequence.has_statement || b;
          }) comes.first comes.has_statement ∙ sym was.sequence)))
    ]
  where
    begins : (done : List PlainOne) → IfAny done ((reached_by now).operation ≡ at_most_64_bits ((reached_by visits).next + (length (plain_bytes done) - last_length done)))
        → 1 ≤ length (plain_bytes done)
        → offsets.begin ≡ at_most_64_bits ((reached_by visits).next + (length (plain_bytes done) - last_length done))
        → offsets.begin ≡ (reached_by now).operation
    begins [] any some is = absurd (omega (arith, some))
    begins (one ∷ done) any some is = is ∙ sym any

-- what rows find nothing at is known of those of the run
pub finds_of : (h : HeaderData) (at : Reached) (p : Along) (run : PlainRun) → ComesTo run p → AreGoodRows at h run → FindsNothing h at p
finds_of h at p run comes good = record {
  files = λ file is. good.files file (ap (λ (l : List ℕ). is_among l file) comes.files ∙ is);
  rises = λ begun. subst (λ (a : ℕ). is_below (at_address a) at.last ≡ false) comes.first (good.rises begun);
  whole = subst (λ (a : ℕ). (h.params.minimum_instruction_length ≤ 1) ⊎ FitsLength h.params.minimum_instruction_length (first_of at.sequence a) a)
      comes.first good.whole;
}

-- files that are named as often as others
pub same_named : (kept : FilesNamed) (h : HeaderData) (files others : List ℕ) → ((file : ℕ) → is_among others file ≡ is_among files file)
    → AreNamed kept h files → AreNamed kept h others
same_named kept h files others same named = record {
  first = named.first;
  all = named.all;
  each = λ place lt. named.each place lt ∙ sym (same (first_number h.params + place));
  last = λ file is. same file ∙ named.last file is;
}

-- neither header nor damage is among items
pub header_of_items : (before : Option HeaderData) (items : List Item) → header_told before (map of_item items) ≡ before
header_of_items before [] = refl
header_of_items before (i ∷ items) = header_of_items before items

pub unit_of_items : (n : ℕ) (items : List Item) → unit_offset n (map of_item items) ≡ n
unit_of_items n [] = refl
unit_of_items n (i ∷ items) = unit_of_items n items

pub no_damage_of_items : (items : List Item) → damages_told (map of_item items) ≡ []
no_damage_of_items [] = refl
no_damage_of_items (i ∷ items) = no_damage_of_items items
