-- Units of a section, one more of them, and how many rows they have at most.
use Rattle.dl_sections.proofs.Names.{◌++◌, ◌+◌, ◌∙◌, ◌∷◌, ◌≡◌, ◌≤◌, [], add-zero, all_push, AllByRecursion, ap, append-nil}
use Rattle.dl_sections.proofs.Names.{append_assoc, append_cancel_left, arith, concat, concat-append, cond, count_by}
use Rattle.dl_sections.proofs.Names.{count_by-le-length, Dialect, end_visits, events, FaultKind, foreign_in}
use Rattle.dl_sections.proofs.Names.{found_is_header, fronts, HasUnits, header_in, HeaderData, inl, inr, is_none, is_some}
use Rattle.dl_sections.proofs.Names.{IsUnit, length, length-append, length_of_unit, List, nil_from_length, no_rows, None}
use Rattle.dl_sections.proofs.Names.{NoUnitBegins, Option, refl, Refused, Row, row_for_program_byte, rows_told}
use Rattle.dl_sections.proofs.Names.{section_visits, Some, Sound, sum_by-append, sum_by-cons, summary_of, sym}
use Rattle.dl_sections.proofs.Names.{unit_is_not_refused, unit_len, unit_len_on, unit_rows, units_visits, ℕ}
use Rattle.dl_sections.specs.UnitsRead.{Before, end_of, visits_since}
use Rattle.dl_sections.proofs.EventLemmas.{rows_of_events}
use Rattle.dl_sections.proofs.Fronts.{all_front, all_middle, none_is_some}

-- ---- one unit more

pub concat-push : (units : List (List ℕ)) (b : List ℕ) → concat (units ++ b ∷ []) ≡ concat units ++ b
concat-push units b = rw (concat-append units (b ∷ []), append-nil) refl

pub has_push : (dialect : Dialect) (t : List ℕ) (units : List (List ℕ)) (b : List ℕ) → HasUnits dialect t units b
    → IsUnit dialect b → HasUnits dialect t (units ++ b ∷ []) []
has_push dialect t units b has is = record {
  whole = rw (append-nil, concat-push units b) has.whole;
  each = all_push (IsUnit dialect) units b has.each is;
}

-- the first of the units, and then other bytes
pub has_front : (dialect : Dialect) (s : List ℕ) (units front others : List (List ℕ)) (rest : List ℕ)
    → units ≡ front ++ others → HasUnits dialect s units rest → HasUnits dialect s front (concat others ++ rest)
has_front dialect s units front others rest all has = record {
  whole = rw (all, concat-append front others, append_assoc) at has.whole;
  each = all_front (IsUnit dialect) front others (rw all at has.each);
}

-- the last of them apart
pub has_last : {dialect : Dialect} {s : List ℕ} {units : List (List ℕ)} {u rest : List ℕ}
    → HasUnits dialect s (units ++ u ∷ []) rest → HasUnits dialect s units (u ++ rest) × IsUnit dialect u
has_last {dialect} {s} {units} {u} {rest} has = (
  rw append-nil at (has_front dialect s (units ++ u ∷ []) units (u ∷ []) rest refl has),
  all_middle (IsUnit dialect) units u [] has.each,
)

-- what is left after the same units
pub same_rest : {dialect : Dialect} {s : List ℕ} {units : List (List ℕ)} {v w : List ℕ} → HasUnits dialect s units v
    → HasUnits dialect s units w → v ≡ w
same_rest {dialect} {s} {units} {v} {w} a b = append_cancel_left (concat units) v w (sym a.whole ∙ b.whole)

-- k: where the others begin
pub units_visits-append : (dialect : Dialect) (offset : ℕ) (units others : List (List ℕ)) (k : ℕ)
    → k ≡ offset + length (concat units)
    → units_visits dialect offset (units ++ others) ≡ units_visits dialect offset units ++ units_visits dialect k others
units_visits-append dialect offset [] others k at = rw (at, add-zero) refl
units_visits-append dialect offset (u ∷ units) others k at =
    rw (units_visits-append dialect (offset + length u) units others k
    (omega (arith, at, length-append u (concat units))))
    (simp append_assoc)

pub section_visits-push : (dialect : Dialect) (units : List (List ℕ)) (b : List ℕ)
    → section_visits dialect (units ++ b ∷ []) [] ≡ section_visits dialect units b ++ end_visits dialect b
section_visits-push dialect units b =
    rw (append-nil, units_visits-append dialect 0 units (b ∷ []) (length (concat units)) (omega arith), append-nil)
    (simp append_assoc)

pub visits_since-push : {dialect : Dialect} (past : Before dialect) (units : List (List ℕ)) (b : List ℕ)
    → visits_since past (units ++ b ∷ []) [] ≡ visits_since past units b ++ end_visits dialect b
visits_since-push {dialect} past units b =
    rw (
      append-nil,
      units_visits-append dialect (length past.bytes) units (b ∷ []) (end_of past units)
          (length-append past.bytes (concat units)),
      append-nil,
    )
    (simp append_assoc)

pub summary-push : (dialect : Dialect) (units : List (List ℕ)) (b : List ℕ)
    → summary_of dialect (units ++ b ∷ []) ≡ record {
      units = (summary_of dialect units).units + (summary_of dialect (b ∷ [])).units;
      skipped = (summary_of dialect units).skipped + (summary_of dialect (b ∷ [])).skipped;
      sequences = (summary_of dialect units).sequences + (summary_of dialect (b ∷ [])).sequences;
      rows = (summary_of dialect units).rows + (summary_of dialect (b ∷ [])).rows;
    }
summary-push dialect units b =
    rw (
      sum_by-append _ units (b ∷ []),
      sum_by-append _ units (b ∷ []),
      sum_by-append _ units (b ∷ []),
      sum_by-append _ units (b ∷ []),
    ) refl

-- ---- how many

pub few_rows : (dialect : Dialect) (b : List ℕ) → length (unit_rows dialect b) ≤ length b
few_rows dialect b = by (header_in dialect b) refl where
  by : (parts : Option (HeaderData × List ℕ)) → header_in dialect b ≡ parts → length (unit_rows dialect b) ≤ length b
  by None is = let none = ap length (no_rows dialect b is) in omega (arith, none)
  by (Some (h, program)) is =
      let few = row_for_program_byte dialect b h program is in
      let w = found_is_header dialect h b program is in
      omega (arith, few, ap length w.1, length-append w.0 program)

pub few_told : (dialect : Dialect) (b : List ℕ) → length (rows_told (events dialect b)) ≤ length b
few_told dialect b = rw (rows_of_events dialect b) (few_rows dialect b)

-- ---- no unit begins

pub no_unit_begins : (dialect : Dialect) (b : List ℕ) → ((n : ℕ) → unit_len dialect b ≡ Some n → length b ≤ n)
    → (IsUnit dialect b → ⊥) → NoUnitBegins dialect b
no_unit_begins dialect b within none u back e is =
    let len = rw (← e) at (unit_len_on dialect u back (length u) (length_of_unit dialect u is)) in
    let empty : back ≡ [] =
    nil_from_length back (omega (arith, within (length u) len, ap length e, length-append u back)) in
    none (rw (e, empty, append-nil) is)

-- where bytes are refused, no unit begins those bytes and others after them
pub no_unit_refused : (dialect : Dialect) (b back : List ℕ) (at : ℕ) (kind : FaultKind)
    → ((n : ℕ) → unit_len dialect b ≡ Some n → length b ≤ n) → Refused dialect b at kind
    → NoUnitBegins dialect (b ++ back)
no_unit_refused dialect b back at kind within refused u more e is = elim (fronts b u back more e) [
  | inl one ↦ unit_is_not_refused dialect u is b [] at kind (cc (append-nil b)) refused
  | inr (inl g) ↦ unit_is_not_refused dialect u is b (g.0 ∷ g.1) at kind g.2 refused
  | inr (inr g) ↦
      let len = rw (← g.2) at (unit_len_on dialect u (g.0 ∷ g.1) (length u) (length_of_unit dialect u is)) in
      omega (arith, within (length u) len, ap length g.2, length-append u (g.0 ∷ g.1))
]

-- ---- how many units and rows

some_byte : (dialect : Dialect) (u : List ℕ) → IsUnit dialect u → 1 ≤ length u
some_byte dialect [] is = absurd (none_is_some (length_of_unit dialect [] is))
some_byte dialect (x ∷ u) is = omega arith

one_of_two : (o : Option ℕ) → cond (is_none o) 1 0 + cond (is_some o) 1 0 ≡ 1
one_of_two None = refl
one_of_two (Some v) = refl

pub few_units : (dialect : Dialect) (units : List (List ℕ)) → AllByRecursion (IsUnit dialect) units
    → (summary_of dialect units).units + (summary_of dialect units).skipped ≤ length (concat units)
few_units dialect [] all = omega arith
few_units dialect (u ∷ units) all =
    omega (
      arith,
      few_units dialect units all.1,
      some_byte dialect u all.0,
      one_of_two (foreign_in dialect u),
      length-append u (concat units),
      sum_by-cons (λ v. cond (is_none (foreign_in dialect v)) 1 0) u units,
      sum_by-cons (λ v. cond (is_some (foreign_in dialect v)) 1 0) u units,
    )

pub few_ends : (dialect : Dialect) (units : List (List ℕ))
    → (summary_of dialect units).sequences ≤ length (concat units)
few_ends dialect [] = omega arith
few_ends dialect (u ∷ units) =
    omega (
      arith,
      few_ends dialect units,
      count_by-le-length (λ (r : Row). r.end_sequence) (unit_rows dialect u),
      few_rows dialect u,
      length-append u (concat units),
      sum_by-cons (λ v. count_by (λ (r : Row). r.end_sequence) (unit_rows dialect v)) u units,
    )

pub few_of_all : (dialect : Dialect) (units : List (List ℕ)) → (summary_of dialect units).rows ≤ length (concat units)
few_of_all dialect [] = omega arith
few_of_all dialect (u ∷ units) =
    omega (
      arith,
      few_of_all dialect units,
      few_rows dialect u,
      length-append u (concat units),
      sum_by-cons (λ v. length (unit_rows dialect v)) u units,
    )

-- ---- no bytes

-- at the beginning of a section
abbrev pub nothing_before : (dialect : Dialect) → Before dialect
nothing_before dialect =
    record { bytes = []; units = []; visits = []; each = tt {0}; fits = omega arith; closed = refl }

pub none_begins : (dialect : Dialect) → NoUnitBegins dialect []
none_begins dialect =
    no_unit_begins dialect [] (λ n e. omega arith) (λ is. let some = some_byte dialect [] is in omega (arith, some))

pub none_refused : (dialect : Dialect) → Sound dialect []
none_refused dialect [] back at kind e refused = none_is_some refused.decided
none_refused dialect (x ∷ front) back at kind e refused = cc
