-- What bytes of a program come to, one after the other.
use Rattle.std.proofs.Common.{◌≡◌, ℕ, List, [], ◌∷◌, ◌++◌, map, flat_map, Option, Some, None, refl, sym, ap, subst, ◌∙◌}
use Rattle.std.proofs.Common.{append_assoc, append-nil}
use Rattle.std.proofs.lemmas.Grind.{flat_map-append}
use Rattle.std.proofs.lemmas.List.{append_cancel_left}
use Rattle.dl_num.specs.declared.fixed.Order.{Order}
use Rattle.dl_num.specs.Front.{SpellsNowhere, SpellsFirst, Standing}
use Rattle.dl_num.proofs.FrontLemmas.{then_standing, standing_on, standing-append}
use Rattle.dl_field.specs.declared.params.Params.{Params}
use Rattle.dl_field.specs.HeaderData.{HeaderData}
use Rattle.dl_head.specs.declared.dialect.Dialect.{Dialect}
use Rattle.dl_head.specs.Header.{header_in}
use Rattle.dl_rows.specs.declared.operation.Operation.{Operation}
use Rattle.dl_rows.specs.declared.row.Row.{Row}
use Rattle.dl_rows.specs.Items.{Item, a_byte, an_operation, a_row, byte_of, completed, ended, items_after, items_later}
use Rattle.dl_rows.specs.Items.{ItemsAreThese, ItemsGrow, operation_of, row_of, rows_of_items, unit_items}
use Rattle.dl_rows.specs.LineUnit.{rows_in, rows_later, unit_rows}
use Rattle.dl_rows.specs.Matrix.{matrix, rows_after}
use Rattle.dl_rows.specs.OperationSpelt.{operations_in}
use Rattle.dl_rows.proofs.ProgramLaws.{spelt}
use Rattle.dl_rows.proofs.RegisterLemmas.{matrix-push}

pub items_join : (order : Order) (h : Params) (header : HeaderData) (front u v : List ℕ)
    → items_after order h header front (u ++ v) ≡ items_after order h header front u ++ items_after order h header (front ++ u) v
items_join order h header front [] v = rw append-nil refl
items_join order h header front (x ∷ u) v =
    let later = items_join order h header (front ++ x ∷ []) u v in
    rw (later, append_assoc front (x ∷ []) u) (simp append_assoc)

-- ---- one byte more

-- what is complete after it
abbrev Next : Order → Params → (b : List ℕ) (x : ℕ) → Option Operation → Type 0
Next order h b x o =
    operations_in order h (b ++ x ∷ []) ≡ then_standing (operations_in order h b)
    (standing_on (spelt order h) ((operations_in order h b).rest ++ x ∷ []) o [])

next : (order : Order) (h : Params) (b : List ℕ) (x : ℕ) (o : Option Operation)
    → spelt order h ((operations_in order h b).rest ++ x ∷ []) ≡ o → Next order h b x o
next order h b x o is = subst (Next order h b x) is (standing-append (spelt order h) b (x ∷ []))

-- a byte that completes nothing
module _ (order : Order) (h : Params) (b w : List ℕ) (x : ℕ) (rest : (operations_in order h b).rest ≡ w)
    (none : spelt order h (w ++ x ∷ []) ≡ None) where
  not_yet : Next order h b x None
  not_yet = next order h b x None (rw rest none)

  rest_next : (operations_in order h (b ++ x ∷ [])).rest ≡ w ++ x ∷ []
  rest_next = ap (λ (t : Standing Operation). t.rest) not_yet ∙ ap (λ (z : List ℕ). z ++ x ∷ []) rest

  found_next : (operations_in order h (b ++ x ∷ [])).found ≡ (operations_in order h b).found
  found_next = ap (λ (t : Standing Operation). t.found) not_yet ∙ append-nil (operations_in order h b).found

  nothing_completed : (header : HeaderData) → completed order h header b x ≡ []
  nothing_completed header = ap (ended h header (operations_in order h b).found) {y = None} (rw rest none)

-- ---- bytes that complete nothing, and those of an operation

pub items_within : (order : Order) (h : Params) (header : HeaderData) (b w u : List ℕ) → (operations_in order h b).rest ≡ w
    → SpellsNowhere (spelt order h) (w ++ u) → items_after order h header b u ≡ map a_byte u
items_within order h header b w [] rest none = refl
items_within order h header b w (x ∷ u) rest none =
    let here = none (w ++ x ∷ []) u (sym (append_assoc w (x ∷ []) u)) in
    let later =
    items_within order h header (b ++ x ∷ []) (w ++ x ∷ []) u (rest_next order h b w x rest here)
    (rw (append_assoc w (x ∷ []) u) none) in
    rw (nothing_completed order h b w x rest here header) (ap (λ (z : List Item). a_byte x ∷ z) later)

pub items_whole : (order : Order) (h : Params) (header : HeaderData) (b w : List ℕ) (x : ℕ) (u : List ℕ) (o : Operation)
    → (operations_in order h b).rest ≡ w → SpellsFirst (spelt order h) (w ++ x ∷ u) o
    → items_after order h header b (x ∷ u)
    ≡ map a_byte (x ∷ u) ++ an_operation header o ∷ map (a_row header) (rows_after h (operations_in order h b).found (o ∷ []))
items_whole order h header b w x [] o rest first =
    let done = ap (ended h header (operations_in order h b).found) {y = Some o} (rw rest first.spells) in
    ap (λ (z : List Item). a_byte x ∷ z) (append-nil (completed order h header b x) ∙ done)
items_whole order h header b w x (y ∷ u) o rest first =
    let here = first.shortest (w ++ x ∷ []) y u (sym (append_assoc w (x ∷ []) (y ∷ u))) in
    let later =
    items_whole order h header (b ++ x ∷ []) (w ++ x ∷ []) y u o (rest_next order h b w x rest here)
    (rw (append_assoc w (x ∷ []) (y ∷ u)) first) in
    let same =
    ap (λ (os : List Operation). map a_byte (y ∷ u) ++ an_operation header o ∷ map (a_row header) (rows_after h os (o ∷ [])))
    (found_next order h b w x rest here) in
    rw (nothing_completed order h b w x rest here header) (ap (λ (z : List Item). a_byte x ∷ z) (later ∙ same))

-- ---- the rows among items

rows_of_rows : (header : HeaderData) (rows : List Row) → rows_of_items (map (a_row header) rows) ≡ rows
rows_of_rows header [] = refl
rows_of_rows header (r ∷ rows) = ap (λ (z : List Row). r ∷ z) (rows_of_rows header rows)

pub rows-append : (items more : List Item) → rows_of_items (items ++ more) ≡ rows_of_items items ++ rows_of_items more
rows-append items more = flat_map-append row_of items more

pub no_row_of_bytes : (u : List ℕ) → rows_of_items (map a_byte u) ≡ []
no_row_of_bytes [] = refl
no_row_of_bytes (x ∷ u) = no_row_of_bytes u

row_more : (order : Order) (h : Params) (header : HeaderData) (b : List ℕ) (x : ℕ)
    → rows_in order h (b ++ x ∷ []) ≡ rows_in order h b ++ rows_of_items (completed order h header b x)
row_more order h header b x =
    told (spelt order h ((operations_in order h b).rest ++ x ∷ [])) (standing-append (spelt order h) b (x ∷ []))
  where
    os : List Operation
    os = (operations_in order h b).found

    told : (o : Option Operation) → Next order h b x o
        → rows_in order h (b ++ x ∷ []) ≡ rows_in order h b ++ rows_of_items (ended h header os o)
    told (Some a) e =
        ap (λ (t : Standing Operation). matrix h t.found) e ∙ matrix-push h os a
        ∙ ap (λ (z : List Row). matrix h os ++ z) (sym (rows_of_rows header (rows_after h os (a ∷ []))))
    told None e =
        ap (λ (t : Standing Operation). matrix h t.found) e ∙ ap (matrix h) (append-nil os) ∙ sym (append-nil (matrix h os))

pub rows_in_more : (order : Order) (h : Params) (header : HeaderData) (b u : List ℕ)
    → rows_in order h (b ++ u) ≡ rows_in order h b ++ rows_of_items (items_after order h header b u)
rows_in_more order h header b [] = rw (append-nil b) (sym (append-nil (rows_in order h b)))
rows_in_more order h header b (x ∷ u) =
    let later = rows_in_more order h header (b ++ x ∷ []) u in
    let both = rows-append (completed order h header b x) (items_after order h header (b ++ x ∷ []) u) in
    rw (append_assoc b (x ∷ []) u) at later
    ∙ rw (row_more order h header b x, both) (append_assoc (rows_in order h b) (rows_of_items (completed order h header b x))
    (rows_of_items (items_after order h header (b ++ x ∷ []) u)))

-- the row that an operation appends, by what it adds to the matrix
pub row_appended : (h : Params) (os : List Operation) (o : Operation) (rows : List Row)
    → matrix h (os ++ o ∷ []) ≡ matrix h os ++ rows → rows_after h os (o ∷ []) ≡ rows
row_appended h os o rows e =
    append_cancel_left (matrix h os) (rows_after h os (o ∷ [])) rows (sym (matrix-push h os o) ∙ e)

-- ---- all that is among items

bytes-append : (items more : List Item) → flat_map byte_of (items ++ more) ≡ flat_map byte_of items ++ flat_map byte_of more
bytes-append items more = flat_map-append byte_of items more

operations-append : (items more : List Item)
    → flat_map operation_of (items ++ more) ≡ flat_map operation_of items ++ flat_map operation_of more
operations-append items more = flat_map-append operation_of items more

-- rows are neither
rows_alone : (header : HeaderData) (rows : List Row)
    → (flat_map byte_of (map (a_row header) rows) ≡ []) × (flat_map operation_of (map (a_row header) rows) ≡ [])
rows_alone header [] = (refl, refl)
rows_alone header (r ∷ rows) = rows_alone header rows

no_byte_completed : (order : Order) (h : Params) (header : HeaderData) (b : List ℕ) (x : ℕ) → flat_map byte_of (completed order h header b x) ≡ []
no_byte_completed order h header b x = of (spelt order h ((operations_in order h b).rest ++ x ∷ [])) where
  of : (o : Option Operation) → flat_map byte_of (ended h header (operations_in order h b).found o) ≡ []
  of None = refl
  of (Some o) = (rows_alone header (rows_after h (operations_in order h b).found (o ∷ []))).0

bytes_after : (order : Order) (h : Params) (header : HeaderData) (b u : List ℕ) → flat_map byte_of (items_after order h header b u) ≡ u
bytes_after order h header b [] = refl
bytes_after order h header b (x ∷ u) =
    ap (λ (z : List ℕ). x ∷ z) (bytes-append (completed order h header b x) (items_after order h header (b ++ x ∷ []) u)
    ∙ rw (no_byte_completed order h header b x) (bytes_after order h header (b ++ x ∷ []) u))

operation_more : (order : Order) (h : Params) (header : HeaderData) (b : List ℕ) (x : ℕ) → (operations_in order h (b ++ x ∷ [])).found
    ≡ (operations_in order h b).found ++ flat_map operation_of (completed order h header b x)
operation_more order h header b x =
    of (spelt order h ((operations_in order h b).rest ++ x ∷ [])) (standing-append (spelt order h) b (x ∷ []))
  where
    os : List Operation
    os = (operations_in order h b).found

    of : (o : Option Operation) → Next order h b x o
        → (operations_in order h (b ++ x ∷ [])).found ≡ os ++ flat_map operation_of (ended h header os o)
    of None e = ap (λ (t : Standing Operation). t.found) e
    of (Some o) e =
        ap (λ (t : Standing Operation). t.found) e
        ∙ ap (λ (z : List Operation). os ++ o ∷ z) (sym (rows_alone header (rows_after h os (o ∷ []))).1)

operations_after : (order : Order) (h : Params) (header : HeaderData) (b u : List ℕ) → (operations_in order h (b ++ u)).found
    ≡ (operations_in order h b).found ++ flat_map operation_of (items_after order h header b u)
operations_after order h header b [] = rw (append-nil b) (sym (append-nil (operations_in order h b).found))
operations_after order h header b (x ∷ u) =
    let later = operations_after order h header (b ++ x ∷ []) u in
    let both = operations-append (completed order h header b x) (items_after order h header (b ++ x ∷ []) u) in
    rw (append_assoc b (x ∷ []) u) at later
    ∙ rw (operation_more order h header b x, both) (append_assoc (operations_in order h b).found
    (flat_map operation_of (completed order h header b x)) (flat_map operation_of (items_after order h header (b ++ x ∷ []) u)))

pub items_are_these : ItemsAreThese
items_are_these order h p = (
  bytes_after order h.params h [] p,
  sym (operations_after order h.params h [] p),
  sym (rows_in_more order h.params h [] p),
)

pub items_grow : ItemsGrow
items_grow order h p q = items_join order h.params h [] p q

rows_of_parts : (order : Order) (parts : Option (HeaderData × List ℕ))
    → rows_of_items (items_later order parts) ≡ rows_later order parts
rows_of_parts order None = refl
rows_of_parts order (Some (h, program)) = sym (rows_in_more order h.params h [] program)

-- the rows among those of a unit
pub rows_of_unit : (dialect : Dialect) (b : List ℕ) → rows_of_items (unit_items dialect b) ≡ unit_rows dialect b
rows_of_unit dialect b = rows_of_parts dialect.order (header_in dialect b)
