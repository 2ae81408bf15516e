-- Which byte of some bytes of a program is the last that its first row takes.
use Rattle.dl_head.specs.declared.dialect.Dialect.{Dialect}
use Rattle.std.proofs.Common.{◌≡◌, ◌+◌, ◌-◌, ◌≤◌, ◌⊎◌, inl, inr, ℕ, List, [], ◌∷◌, ◌++◌}
use Rattle.std.proofs.Common.{length, map, take, Option, Some, None, refl, sym, ap, ◌∙◌, arith}
use Rattle.std.proofs.Common.{length-append, append_assoc, append-nil, length-take}
use Rattle.std.proofs.lemmas.List.{append_cancel_left, take-take}
use Rattle.std.proofs.Math.Seq.{take-append_seam}
use Rattle.dl_num.specs.declared.fixed.Order.{Order}
use Rattle.dl_num.specs.Front.{Standing}
use Rattle.dl_num.proofs.FrontLemmas.{then_standing, standing_on, standing-append}
use Rattle.dl_field.specs.declared.params.Params.{Params}
use Rattle.dl_field.specs.HeaderData.{HeaderData}
use Rattle.dl_head.specs.Header.{foreign_in, header_in}
use Rattle.dl_head.proofs.HeaderLaws.{found_is_header}
use Rattle.dl_head.proofs.TurnLemmas.{true_or_false}
use Rattle.dl_rows.specs.declared.reader.Event.{Event}
use Rattle.dl_rows.specs.declared.reader.Event.TheVariants as event
use Rattle.dl_rows.specs.declared.row.Row.{Row}
use Rattle.dl_rows.specs.declared.operation.Operation.{Operation}
use Rattle.dl_rows.specs.LineUnit.{rows_in, events, events_of}
use Rattle.dl_rows.specs.Matrix.{appends_row, row, matrix}
use Rattle.dl_rows.specs.OperationSpelt.{good_one, operation_spelt, operations_in}
use Rattle.dl_rows.specs.Refusal.{unit_decided}
use Rattle.dl_rows.specs.UnitBodies.{AfterHeader}
use Rattle.dl_rows.proofs.RegisterLemmas.{matrix-push}
use Rattle.dl_rows.proofs.UnitBodyLemmas.{begun_in, later, decided_at, events_more}

-- ---- one byte more of a program

-- a byte appends no row, or one, and then ends an operation
abbrev ByteRows : Order → Params → List ℕ → ℕ → Type 0
ByteRows order h b x =
    (rows_in order h (b ++ x ∷ []) ≡ rows_in order h b)
    ⊎ ((r : Row) × (rows_in order h (b ++ x ∷ []) ≡ rows_in order h b ++ r ∷ [])
    × (begun_in order h (b ++ x ∷ []) ≡ []))

byte_rows : (order : Order) (h : Params) (b : List ℕ) (x : ℕ) → ByteRows order h b x
byte_rows order h b x =
    told (good_one (operation_spelt order h (begun_in order h b ++ x ∷ [])))
    (standing-append (λ w. good_one (operation_spelt order h w)) b (x ∷ []))
  where
    os : List Operation
    os = (operations_in order h b).found

    told : (o : Option Operation) → operations_in order h (b ++ x ∷ []) ≡ then_standing (operations_in order h b)
        (standing_on (λ w. good_one (operation_spelt order h w)) (begun_in order h b ++ x ∷ []) o [])
        → ByteRows order h b x
    told (Some a) e =
        let rows = ap (λ (t : Standing Operation). matrix h t.found) e ∙ matrix-push h os a in
        elim (true_or_false (appends_row a)) [
          | inl is ↦ inr (row h os a, rw is at rows, ap (λ (t : Standing Operation). t.rest) e)
          | inr is ↦ inl (rw append-nil at (rw is at rows))
        ]
    told None e = inl (ap (λ (t : Standing Operation). matrix h t.found) e ∙ ap (matrix h) (append-nil os))

some_more : (rows more : List Row) (r : Row) → rows ≡ rows ++ r ∷ more → ⊥
some_more rows more r e = omega (arith, ap length e, length-append rows (r ∷ more))

-- where a byte gives a row, no operation is begun after it
pub row_ends : (order : Order) (h : Params) (b : List ℕ) (x : ℕ) (row : Row)
    → rows_in order h (b ++ x ∷ []) ≡ rows_in order h b ++ row ∷ [] → begun_in order h (b ++ x ∷ []) ≡ []
row_ends order h b x row e =
    elim (byte_rows order h b x) [
      | inl same ↦ absurd (some_more (rows_in order h b) [] row (sym same ∙ e))
      | inr (r, one, ends) ↦ ends
    ]

-- more bytes append rows
rows_grow : (order : Order) (h : Params) (b v : List ℕ)
    → (more : List Row) × (rows_in order h (b ++ v) ≡ rows_in order h b ++ more)
rows_grow order h b [] = ([], simp append-nil)
rows_grow order h b (x ∷ v) =
    let later = rows_grow order h (b ++ x ∷ []) v in
    let whole : rows_in order h (b ++ x ∷ v) ≡ rows_in order h (b ++ x ∷ []) ++ later.0 =
    rw (append_assoc b (x ∷ []) v) at later.1 in
    elim (byte_rows order h b x) [
      | inl same ↦ (later.0, rw same at whole)
      | inr (r, one, ends) ↦ (r ∷ later.0, rw (one, append_assoc (rows_in order h b) (r ∷ []) later.0) at whole)
    ]

-- where bytes append rows, one of them is the last that the first row takes
record FirstRow (order : Order) (h : Params) (p u : List ℕ) (r : Row) : Type 0 where
  front : List ℕ
  last : ℕ
  back : List ℕ
  whole : u ≡ front ++ last ∷ back
  before : rows_in order h (p ++ front) ≡ rows_in order h p
  row : rows_in order h (p ++ (front ++ last ∷ [])) ≡ rows_in order h p ++ r ∷ []
  ends : begun_in order h (p ++ (front ++ last ∷ [])) ≡ []

-- it comes after a byte that appends none
row_after : {order : Order} {h : Params} {p : List ℕ} {x : ℕ} {u : List ℕ} {r : Row}
    → rows_in order h (p ++ x ∷ []) ≡ rows_in order h p → FirstRow order h (p ++ x ∷ []) u r
    → FirstRow order h p (x ∷ u) r
row_after {p = p} {x = x} same f =
    let moved = append_assoc p (x ∷ []) (f.front ++ f.last ∷ []) in
    record {
      front = x ∷ f.front;
      last = f.last;
      back = f.back;
      whole = ap (λ (z : List ℕ). x ∷ z) f.whole;
      before = rw (append_assoc p (x ∷ []) f.front, same) at f.before;
      row = rw (moved, same) at f.row;
      ends = rw moved at f.ends;
    }

first_row : (order : Order) (h : Params) (p u : List ℕ) (r : Row) (rows : List Row)
    → rows_in order h (p ++ u) ≡ rows_in order h p ++ r ∷ rows → FirstRow order h p u r
first_row order h p [] r rows e = absurd (some_more (rows_in order h p) rows r (rw append-nil at e))
first_row order h p (x ∷ u) r rows e = elim (byte_rows order h p x) [
  | inl same ↦ row_after same
      (first_row order h (p ++ x ∷ []) u r rows (rw (append_assoc p (x ∷ []) u, same) e))
  | inr (s, one, ends) ↦
      let grown = rows_grow order h (p ++ x ∷ []) u in
      let all : r ∷ rows ≡ s ∷ grown.0 =
      append_cancel_left (rows_in order h p) (r ∷ rows) (s ∷ grown.0) (sym e
      ∙ rw (append_assoc p (x ∷ []) u, one, append_assoc (rows_in order h p) (s ∷ []) grown.0) at grown.1) in
      let same : s ≡ r = cc in
      record {
        front = [];
        last = x;
        back = u;
        whole = refl;
        before = ap (rows_in order h) (append-nil p);
        row = rw same at one;
        ends = ends;
      }
]

-- ---- the header before a row

-- a row comes after a header alone
no_row_first : (order : Order) (f : Option ℕ) (o : Option (HeaderData × List ℕ)) (es before : List Event) (r : Row)
    → events_of order f o ≡ before ++ event.Row r ∷ es → (before ≡ []) ⊎ ((v : ℕ) × (before ≡ event.Foreign v ∷ [])) → ⊥
no_row_first order f o es before r e begins = grind arith

has_header : (dialect : Dialect) (b c : List ℕ) (r : Row) (es : List Event)
    → events dialect c ≡ events dialect b ++ event.Row r ∷ es → (h : HeaderData) × AfterHeader dialect h b
has_header dialect b c r es e = on (foreign_in dialect b) (header_in dialect b) refl refl where
  no_row : (events dialect b ≡ []) ⊎ ((v : ℕ) × (events dialect b ≡ event.Foreign v ∷ [])) → ⊥
  no_row = no_row_first dialect.order (foreign_in dialect c) (header_in dialect c) es (events dialect b) r e

  on : (f : Option ℕ) (o : Option (HeaderData × List ℕ)) → foreign_in dialect b ≡ f → header_in dialect b ≡ o
      → (h : HeaderData) × AfterHeader dialect h b
  on f (Some (h, program)) k l =
      let f = found_is_header dialect h b program l in
      (h, record { header = f.0; program = program; whole = f.1; spells = f.2 })
  on (Some v) None k l = absurd (no_row (inr (v, rw k)))
  on None None k l = absurd (no_row (inl (rw (k, l))))

-- ---- the first row of those that a piece gives

-- n bytes of the piece give the row, the last of them alone; more follow
pub record RowTaken (dialect : Dialect) (b piece : List ℕ) (used : ℕ) (r : Row) : Type 0 where
  pub n : ℕ
  pub more : ℕ
  pub some : 1 ≤ n
  pub total : used ≡ n + more
  pub before : events dialect (b ++ take (n - 1) piece) ≡ events dialect b
  pub row : events dialect (b ++ take n piece) ≡ events dialect b ++ event.Row r ∷ []
  pub quiet : unit_decided dialect (b ++ take n piece) ≡ None

rows_begin : (more : List Row) (r : Row) (es : List Event)
    → ◌≡◌ {A = List Event} (map event.Row more) (event.Row r ∷ es) → (rest : List Row) × (more ≡ r ∷ rest)
rows_begin [] r es e = absurd cc
rows_begin (x ∷ more) r es e = (let same : x ≡ r = cc in (more, ap (λ (z : Row). z ∷ more) same))

-- the first bytes of a piece, of which so many begin so
pub front_is : (piece front back : List ℕ) (used : ℕ) → take used piece ≡ front ++ back
    → take (length front) piece ≡ front
front_is piece front back used e =
    let le : length front ≤ used =
    omega (arith, ap length e, length-take used piece, length-append front back) in
    rw (← take-take (length front) used piece le, e) (take-append_seam front back)

pub row_taken : (dialect : Dialect) (b piece : List ℕ) (used : ℕ) (r : Row) (es : List Event) → used ≤ length piece
    → events dialect (b ++ take used piece) ≡ events dialect b ++ event.Row r ∷ es
    → RowTaken dialect b piece used r
row_taken dialect b piece used r es le grown =
    let its = has_header dialect b (b ++ take used piece) r es grown in
    let a = its.1 in
    let h = its.0.params in
    let g = rows_grow dialect.order h a.program (take used piece) in
    let begins = rows_begin g.0 r es (append_cancel_left (events dialect b) (map event.Row g.0) (event.Row r ∷ es)
    (sym (events_more a (take used piece) g.0 g.1) ∙ grown)) in
    let f = first_row dialect.order h a.program (take used piece) r begins.0 (rw begins.1 at g.1) in
    let u = f.front ++ f.last ∷ [] in
    let size : length u ≡ length f.front + 1 = omega (arith, length-append f.front (f.last ∷ [])) in
    let same : take (length u) piece ≡ u =
    front_is piece u f.back used (f.whole ∙ sym (append_assoc f.front (f.last ∷ []) f.back)) in
    let same_before : take (length u - 1) piece ≡ f.front =
    (let one : length u - 1 ≡ length f.front = omega (arith, size) in
    rw one (front_is piece f.front (f.last ∷ f.back) used f.whole)) in
    record {
      n = length u;
      more = length f.back;
      some = omega (arith, size);
      total = omega (
        arith,
        size,
        ap length f.whole,
        length-take used piece,
        le,
        length-append f.front (f.last ∷ f.back),
      );
      before = rw (same_before, events_more a f.front [] (rw append-nil f.before), append-nil);
      row = rw same (events_more a u (r ∷ []) f.row);
      quiet = rw (same, decided_at (later a u), f.ends);
    }
