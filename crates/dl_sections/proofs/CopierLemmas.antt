-- How a copier goes on, and what stops it.
use Rattle.dl_memory.specs.Refusals.{IsRefused}
use Rattle.dl_emit.specs.declared.fault.EmitFault.TheVariants.{RowRange}
use Rattle.dl_emit.specs.declared.program.TheConstants.{ROW}
use Rattle.dl_rows.specs.Items.{a_row}
use Rattle.dl_sections.proofs.Names.{◌*◌, ◌≤◌, ◌++◌, ◌+◌, ◌<◌, ◌∙◌, ◌∷◌, ◌≡◌, [], ap, Appends, Appends-nil, arith, bytes_of_rows}
use Rattle.dl_sections.proofs.Names.{Copier, copy_story, Copying, EmitFault, Err, fold-append, goes, HasOut-pending}
use Rattle.dl_sections.proofs.Names.{HasPrinted, HasPrinted-flushed, HasPrinted-more, HasPrinted-nothing, header_bytes}
use Rattle.dl_sections.proofs.Names.{header_told, HeaderData, HeaderLengths, IsGrown, IsGrowth, length, length-append, length-drop, List}
use Rattle.dl_sections.proofs.Names.{made_by, None, of_end, of_header, of_item, of_version, Ok, Option, option_map, Order}
use Rattle.dl_sections.proofs.Names.{Params, Printed, PrintsPart, program_len, ProgramData, refl, refusal, Result, Row, row_count}
use Rattle.dl_sections.proofs.Names.{rows_refusal, RunFault, Some, StopsIn, sym, take, TellsOut, TellsOut-front, told_to}
use Rattle.dl_sections.proofs.Names.{unit_of, Visit, visited, visits, Write, ℕ, ⊤}
use Rattle.dl_sections.proofs.Names.fault
use Rattle.dl_sections.proofs.Fronts.{none_is_some, value_same, neither}
use Rattle.dl_sections.proofs.HeadersTold.{header_told-append}
use Rattle.dl_sections.proofs.RowCounts.{growth_more, no_fewer, row_more}

-- ---- the program of the current unit

-- it grew by these rows, under the header that visits tell
abbrev pub Grows : {M : Type 0} → Copier M → List Visit → List Row → Type 0
Grows c visits rows = (h : HeaderData) → header_told None visits ≡ Some h
    → IsGrown c.program c.program.order (made_by c.becomes c.unit h).params rows

own_order : (p : ProgramData) (order : Order) (h : Params) (rows : List Row) → IsGrown p order h rows
    → IsGrown p p.order h rows
own_order p order h rows g = record {
  order_is = refl;
  params_are = g.params_are;
  standard = g.standard;
  refused = g.refused;
  holds = g.holds;
}

-- a header was told
pub grows_from : {M : Type 0} (visits : List Visit) (offset : ℕ) (l : HeaderLengths) (g : HeaderData) (c : Copier M) (order : Order)
    → IsGrown c.program order (made_by c.becomes c.unit g).params [] → Grows c (visits ++ of_header offset l g ∷ []) []
grows_from visits offset l g c order grown h told =
    let same : g ≡ h = value_same g h (sym (header_told-append None visits (of_header offset l g ∷ [])) ∙ told) in
    rw (← same) (own_order c.program order (made_by c.becomes c.unit g).params [] grown)

-- a row was told
pub grows_by : {M : Type 0} (visits : List Visit) (header : HeaderData) (r : Row) (old new : Copier M) (rows : List Row) → new.becomes ≡ old.becomes
    → new.unit ≡ old.unit → Grows old visits rows
    → ((h : Params) (rows : List Row) → IsGrown old.program old.program.order h rows
    → IsGrown new.program old.program.order h (rows ++ r ∷ []))
    → Grows new (visits ++ of_item (a_row header r) ∷ []) (rows ++ r ∷ [])
grows_by visits header r old new rows becomes unit before grows h told =
    let params = (made_by old.becomes old.unit h).params in
    rw (becomes, unit) (own_order new.program old.program.order params (rows ++ r ∷ [])
    (grows params rows (before h (sym (header_told-append None visits (of_item (a_row header r) ∷ [])) ∙ told))))

-- a visit was told that is neither a header nor an end
pub grows_past : {M : Type 0} (visits : List Visit) (v : Visit) (c : Copier M) (rows : List Row)
    → ((h : Option HeaderData) → header_told h (v ∷ []) ≡ h) → Grows c visits rows → Grows c (visits ++ v ∷ []) rows
grows_past visits v c rows none before h told =
    before h (sym (none (header_told None visits)) ∙ sym (header_told-append None visits (v ∷ [])) ∙ told)

-- after an end there is no current unit
pub grows_no_more : {M : Type 0} (visits : List Visit) (g : Option HeaderData) (c : Copier M) → Grows c (visits ++ of_end g ∷ []) []
grows_no_more visits g c h told =
    absurd (none_is_some (sym (header_told-append None visits (of_end g ∷ [])) ∙ told))

-- the program stands after the header
pub unit_text : (p now : ProgramData) (h : HeaderData) (rows : List Row) (first last : List ℕ)
    → IsGrown p p.order h.params rows → refusal h rows ≡ None → now ≡ p → first ≡ now.first → last ≡ now.last
    → header_bytes p.order h (program_len h.params rows) ++ (first ++ last) ≡ unit_of p.order h rows
unit_text p now h rows first last grown accepted same f l =
    let held = bytes_of_rows p h.params rows grown (neither (rows_refusal h.params rows) _ accepted).0 in
    rw (f, l, same, held) refl

-- a program of no row has none
pub none_yet : (p : ProgramData) (order : Order) (h : Params) → IsGrown p order h [] → p.rows ≡ 0
none_yet p order h g = by p.refused refl g.refused where
  by : (o : Option ℕ) → p.refused ≡ o → option_map RowRange o ≡ None → p.rows ≡ 0
  by None e is = (g.holds e).count
  by (Some i) e is = absurd cc

-- what stops at a part of a unit stops at the unit
pub front_stops : (old new : Option (List ℕ)) (before after : Printed) (refused : Option EmitFault) (offset : ℕ)
    (part rest unit : List ℕ) (f : RunFault) → (refused ≡ None → part ++ rest ≡ unit)
    → PrintsPart {A = ⊤} old new before after part refused offset (Err f)
    → PrintsPart {A = ⊤} old new before after unit refused offset (Err f)
front_stops old new before after refused offset part rest unit (fault.Write out) whole p = (
  p.0,
  λ start text has. rw (← whole p.0)
      (TellsOut-front start new text part rest (record { out = out }) (p.1 start text has)),
)
front_stops old new before after refused offset part rest unit (fault.Emit n f) whole p = p
front_stops old new before after refused offset part rest unit f whole p = absurd p

-- ---- the copier

module _ {M : Type 0} {first old : Copier M} {start held : Option (List ℕ)} {visits : List Visit}
    (s : Copying first old start held visits) where
  pub told_more : (visit : Visit) → told_to first (visits ++ visit ∷ [])
      ≡ visited (made_by first.becomes) first.program.order (goes old.unit s.rows s.text) visit
  told_more visit =
      rw (
        fold-append (visited (made_by first.becomes) first.program.order) (goes first.unit [] []) visits (visit ∷ []),
        s.told,
      ) refl

  -- it was told a visit at which it doesn't stop
  pub copies_on : (new : Copier M) (after : Option (List ℕ)) (visit : Visit) (rows : List Row) (text : List ℕ)
      → new.memory.now ≡ old.memory.now → new.becomes ≡ old.becomes → new.program.order ≡ old.program.order
      → visited (made_by first.becomes) first.program.order (goes old.unit s.rows s.text) visit
      ≡ goes new.unit rows text
      → new.program.rows ≤ row_count (visits ++ visit ∷ []) → Grows new (visits ++ visit ∷ []) rows
      → HasPrinted start after text new.printer → Copying first new start after (visits ++ visit ∷ [])
  copies_on new after visit rows text memory becomes order comes few grown printed = record {
    rows = rows;
    text = text;
    becomes = becomes ∙ s.becomes;
    memory = memory ∙ s.memory;
    order = order ∙ s.order;
    few = few;
    told = told_more visit ∙ comes;
    grown = grown;
    printed = printed;
  }

  -- it stands as before
  pub still : (new : Copier M) → new.memory.now ≡ old.memory.now → new.becomes ≡ old.becomes
      → new.program ≡ old.program → new.unit ≡ old.unit → new.printer ≡ old.printer
      → Copying first new start held visits
  still new memory becomes program unit printer = record {
    rows = s.rows;
    text = s.text;
    becomes = becomes ∙ s.becomes;
    memory = memory ∙ s.memory;
    order = ap (λ (p : ProgramData). p.order) program ∙ s.order;
    few = rw program s.few;
    told = rw unit s.told;
    grown = rw (becomes, program, unit) s.grown;
    printed = rw printer s.printed;
  }

  -- its program has no more rows than were told
  pub few_still : (now : ProgramData) (visit : Visit) → now ≡ old.program → now.rows ≤ row_count (visits ++ visit ∷ [])
  few_still now visit same =
      omega (arith, s.few, no_fewer visits visit, ap (λ (p : ProgramData). p.rows) same)

  -- it was told a visit of which it takes no notice
  pub copies_past : (visit : Visit) → visited (made_by first.becomes) first.program.order (goes old.unit s.rows s.text) visit
      ≡ goes old.unit s.rows s.text → ((h : Option HeaderData) → header_told h (visit ∷ []) ≡ h)
      → Copying first old start held (visits ++ visit ∷ [])
  copies_past visit same none =
      copies_on old held visit s.rows s.text refl refl refl same (few_still old.program visit refl)
      (grows_past visits visit old s.rows none s.grown) s.printed

  pub few_and_one : (now : ProgramData) (header : HeaderData) (r : Row) → now.rows ≤ old.program.rows + 1
      → now.rows ≤ row_count (visits ++ of_item (a_row header r) ∷ [])
  few_and_one now header r more = omega (arith, s.few, row_more visits header r, more)

  -- it stops at a visit
  pub stops_at_version : (refuses : M → ℕ → Type 0) (offset version : ℕ)
      → StopsIn (copy_story refuses) first old start held visits (of_version offset version ∷ [])
      (fault.ForeignUnit offset)
  stops_at_version refuses offset version = (
    of_version offset version ∷ [],
    [],
    refl,
    (visits, of_version offset version, refl, s, rw (told_more (of_version offset version)) refl),
  )

-- a growth was refused at the next visit; rows: no more than were told
pub stops_for_memory : {M : Type 0} (refuses : M → ℕ → Type 0) {first new : Copier M} {start after : Option (List ℕ)}
    {visits : List Visit} (s : Copying first new start after visits) (visit : Visit) (rows : ℕ) → rows ≤ row_count visits
    → IsGrowth (IsRefused (refuses new.memory.now) (ROW * rows)) (refuses new.memory.now) new.becomes new.unit visit
    → StopsIn (copy_story refuses) first new start after visits (visit ∷ []) fault.NoMemory
stops_for_memory refuses {first} {new} {start} {after} {visits} s visit rows few growth =
    let grows = growth_more (refuses new.memory.now) new.becomes new.unit visit
    (λ (r : IsRefused (refuses new.memory.now) (ROW * rows)). (
    let most : ROW * rows ≤ ROW * row_count visits = omega arith in
    let fewer : r.0 ≤ ROW * row_count visits = omega (arith, r.1, most) in
    let more : IsRefused (refuses new.memory.now) (ROW * row_count visits) = (r.0, fewer, r.2) in more
    )) growth in
    let reason = rw (s.memory, s.becomes) at grows in (
      visit ∷ [],
      [],
      refl,
      (visits, visit, refl, s, (visits, visit, refl, (new.unit, s.rows, s.text, s.told, reason))),
    )

-- a unit ended that has the header h
module _ {M : Type 0} {first old : Copier M} {start held : Option (List ℕ)} {visits : List Visit}
    (s : Copying first old start held visits) (h std : HeaderData) (same : std ≡ made_by old.becomes old.unit h)
    (new : Copier M) (after : Option (List ℕ)) (memory : new.memory.now ≡ old.memory.now)
    (becomes : new.becomes ≡ old.becomes) (program : new.program ≡ old.program)
    (unit_is : new.unit ≡ old.unit) where
  abbrev its_header : HeaderData
  its_header = made_by first.becomes old.unit h

  abbrev unit : List ℕ
  unit = unit_of first.program.order its_header s.rows

  abbrev Printing : Order → HeaderData → Result ⊤ RunFault → Type 0
  Printing order std result =
      PrintsPart held after old.printer new.printer (unit_of order std s.rows) (refusal std s.rows) old.unit result

  in_its_order : (result : Result ⊤ RunFault) → Printing old.program.order std result
      → Printing first.program.order its_header result
  in_its_order result printed = rw (← s.order, ← s.becomes, ← same) printed

  pub copies_unit : Printing old.program.order std (Ok tt)
      → Copying first new start after (visits ++ of_end (Some h) ∷ [])
  copies_unit unit_printed =
      let printed = in_its_order (Ok tt) unit_printed in
      copies_on s new after (of_end (Some h)) [] (s.text ++ unit) memory becomes (ap (λ (p : ProgramData). p.order) program)
      (rw (printed.0, unit_is) refl) (few_still s new.program (of_end (Some h)) program)
      (grows_no_more visits (Some h) new) (printed.1 start s.text s.printed)

  stops_by : (refuses : M → ℕ → Type 0) (f : RunFault) → Printing first.program.order its_header (Err f)
      → StopsIn (copy_story refuses) first new start after visits (of_end (Some h) ∷ []) f
  stops_by refuses (fault.Write out) printed = (
    of_end (Some h) ∷ [],
    [],
    refl,
    rw (told_more s (of_end (Some h)), printed.0) (printed.1 start s.text s.printed),
  )
  stops_by refuses (fault.Emit offset f) printed = (
    of_end (Some h) ∷ [],
    [],
    refl,
    (
      visits,
      of_end (Some h),
      refl,
      rw printed.2.0 (still s new memory becomes program unit_is printed.2.1),
      rw (told_more s (of_end (Some h)), printed.1, printed.0) refl,
    ),
  )
  stops_by refuses f printed = absurd printed

  pub stops_at_unit : (refuses : M → ℕ → Type 0) (f : RunFault) → Printing old.program.order std (Err f)
      → StopsIn (copy_story refuses) first new start after visits (of_end (Some h) ∷ []) f
  stops_at_unit refuses f printed = stops_by refuses f (in_its_order (Err f) printed)

-- no visit was told yet
pub begins : {M : Type 0} (first : Copier M) (start : Option (List ℕ)) → first.program.rows ≡ 0
    → first.printer.pending ≡ [] → first.printer.out ≡ 0 → Copying first first start start []
begins first start no_row pending out = record {
  rows = [];
  text = [];
  becomes = refl;
  memory = refl;
  order = refl;
  few = omega (arith, no_row);
  told = refl;
  grown = λ h told. absurd (none_is_some told);
  printed = HasPrinted-nothing start start first.printer (Appends-nil start) pending out;
}

-- ---- a header that is written on the output itself, after all that was printed before

module _ (start a : Option (List ℕ)) (text more : List ℕ) (p : Printed) (printed : HasPrinted start a text p)
    (empty : p.pending ≡ []) where
  -- all of the text is out
  all_out : p.out ≡ length text
  all_out =
      let within = printed.first.within in
      let none = sym (length-drop p.out text) ∙ ap length (printed.rest ∙ empty) in omega arith

  -- what comes next, as if it were held
  as_held : HasPrinted start a (text ++ more) (record { pending = more; out = p.out })
  as_held = rw empty at (HasPrinted-more start a text more p.out p.pending printed)

  module _ (b : Option (List ℕ)) where
    -- a part of it was written
    pub part_passed : (part : ℕ) → part < length more → Appends a b (take part more)
        → TellsOut start b (text ++ more) (Write (p.out + part))
    part_passed part short written =
        let all = all_out in
        let len = length-append text more in (
          omega arith,
          HasOut-pending start a b (text ++ more) p.out more part as_held
              (record { within = omega arith; written = written }),
        )

    -- all of it was written, and counted
    pub all_passed : (q : Printed) (n : ℕ) → n ≡ length more → Appends a b more → q.pending ≡ p.pending
        → q.out ≡ p.out + n → HasPrinted start b (text ++ more) q
    all_passed q n len written pending out =
        let done = HasPrinted-flushed start a b (text ++ more) p.out more as_held written in
        let is : p.out + length more ≡ q.out = ap (λ (k : ℕ). p.out + k) (sym len) ∙ sym out in
        record {
          first = rw is at done.first;
          rest = rw (← is) (done.rest ∙ sym (pending ∙ empty));
        }
