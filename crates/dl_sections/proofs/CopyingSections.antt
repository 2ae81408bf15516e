-- What is copied of the visits of a section.
use Rattle.dl_sections.proofs.Names.{◌++◌, ◌+◌, ◌∙◌, ◌∷◌, ◌≡◌, ◌≢◌, ◌⊎◌, [], AllByRecursion, ap, append-nil, append_assoc}
use Rattle.dl_sections.proofs.Names.{AreMade, arith, Bool, comes_to, concat, Dialect, EmitFault, ended_as, ends_open}
use Rattle.dl_sections.proofs.Names.{false, fold-append, foreign_in, foreign_of, goes, header_in, header_is_found}
use Rattle.dl_sections.proofs.Names.{Becomes, header_of, HeaderData, inl, inr, IsGrowth, IsMade, IsUnit, length, length-append, map, of_item, RenewsTables, true}
use Rattle.dl_sections.proofs.Names.{length_of_unit, lengths_in, List, Made, None, of_end, of_header, of_version, open_visit, Option}
use Rattle.dl_sections.proofs.Names.{Progress, refl, refusal, Row, RunFault, Some, some_same, Sound, stopped, sym, unit_as}
use Rattle.dl_sections.proofs.Names.{unit_is_not_refused, unit_of, unit_rows, units_as, units_visits, Visit, visited}
use Rattle.dl_sections.proofs.Names.{visits, WithinUnit, ℕ}
use Rattle.dl_sections.proofs.Names.fault
use Rattle.dl_rows.proofs.ItemLemmas.{rows_of_unit}
use Rattle.dl_rows.specs.Items.{Item, a_byte, a_row, an_operation, rows_of_items, unit_items}
use Rattle.dl_sections.proofs.CopyingVisits.{stays_stopped, Foreign, Own, Neither, one_of}
use Rattle.dl_sections.proofs.CopyingVisits.{foreign_visits, own_visits, no_visits, Front, at_version, before_version}
use Rattle.dl_sections.proofs.CopyingVisits.{goes_on, front_of, header_is, own_front, foreign_front}
use Rattle.dl_sections.proofs.Fronts.{fronts_of, empty_both}

-- the fault is that of what stands at this place, which is these units and b
abbrev pub StopIs : Made → Dialect → (place : ℕ) (after : List (List ℕ)) (b : List ℕ) → RunFault → Type 0
StopIs made dialect place after b (fault.ForeignUnit offset) =
    (c : List ℕ) × (back : List ℕ) × (version : ℕ) × (concat after ++ b ≡ c ++ back) × (offset ≡ place)
    × WithinUnit dialect c × (foreign_in dialect c ≡ Some version)
StopIs made dialect place after b (fault.Emit offset f) =
    (u : List ℕ) × (later : List (List ℕ)) × (h : HeaderData) × (after ≡ u ∷ later) × (offset ≡ place)
    × (header_of dialect u ≡ Some h) × (refusal (made offset h) (unit_rows dialect u) ≡ Some f)
StopIs made dialect place after b other = ⊥

-- memory was refused for the copy of c at the offset: for its rows, or for the tables of its header
abbrev pub WantsBy : (Refused : Type 0) (refuses : ℕ → Type 0) → Becomes → Dialect → (offset : ℕ) → List ℕ → Type 0
WantsBy Refused refuses becomes dialect offset c =
    ((unit_rows dialect c ≢ []) × Refused)
    ⊎ (IsUnit dialect c × (h : HeaderData) × (header_of dialect c ≡ Some h) × RenewsTables refuses becomes offset h)

-- of the units that aren't copied, or of b after them, the current bytes are at fault in no way, and memory is wanted
-- for their copy
pub record CurrentUnit (Wants : List ℕ → Type 0) (dialect : Dialect) (after : List (List ℕ)) (b : List ℕ) : Type 0 where
  pub c : List ℕ
  pub tail : List ℕ
  pub whole : concat after ++ b ≡ c ++ tail
  pub within : WithinUnit dialect c
  pub sound : Sound dialect c
  pub not_foreign : foreign_in dialect c ≡ None
  pub wants : Wants c

-- What visits came to, of which the units that are done give the text. They go on: where all is told no unit is left,
-- and b isn't of another version; where memory grows next there is a current unit. Or they stopped at what is after
-- those units.
abbrev pub Now : (Refused : Type 0) (refuses : ℕ → Type 0) → Becomes → Made → Dialect → (place : ℕ)
    (after : List (List ℕ)) (b : List ℕ) (more : List Visit) (text : List ℕ) → Progress → Type 0
Now Refused refuses becomes made dialect place after b more text (goes offset rows own) =
    (own ≡ text) × (more ≡ [] → (after ≡ []) × (foreign_in dialect b ≡ None))
    × ((visit : Visit) (others : List Visit) → more ≡ visit ∷ others → IsGrowth Refused refuses becomes offset visit
    → WithinUnit dialect b → Sound dialect b
    → CurrentUnit (WantsBy Refused refuses becomes dialect place) dialect after b)
Now Refused refuses becomes made dialect place after b more text (stopped own f) =
    (own ≡ text) × (WithinUnit dialect b → StopIs made dialect place after b f)

-- of the units some first ones are copied, after this text
pub record Heard (Refused : Type 0) (refuses : ℕ → Type 0) (becomes : Becomes) (made : Made) (dialect : Dialect) (n : ℕ)
    (units : List (List ℕ)) (b : List ℕ) (more : List Visit) (text : List ℕ) (p : Progress) : Type 0 where
  pub done : List (List ℕ)
  pub after : List (List ℕ)
  pub whole : units ≡ done ++ after
  pub copied : AreMade made dialect n done
  pub place : ℕ
  pub at : place ≡ n + length (concat done)
  pub now : Now Refused refuses becomes made dialect place after b more (text ++ units_as made dialect n done) p

-- ---- what is told of the front of a unit, and that its sequence is open, ends no unit

abbrev is_end : Visit → Bool
is_end (of_end h) = true
is_end visit = false

abbrev EndNone : List Visit → Type 0
EndNone visits = AllByRecursion (λ v. is_end v ≡ false) visits

one_of_them : (heard : List Visit) (v : Visit) (others : List Visit) → EndNone (heard ++ v ∷ others) → is_end v ≡ false
one_of_them [] v others all = all.0
one_of_them (w ∷ heard) v others all = one_of_them heard v others all.1

open_ends_none : (is_open : Bool) → EndNone (open_visit is_open)
open_ends_none true = (refl, tt)
open_ends_none false = tt

items_end_none : (items : List Item) (is_open : Bool) → EndNone (map of_item items ++ open_visit is_open)
items_end_none [] is_open = open_ends_none is_open
items_end_none (item ∷ items) is_open = (refl, items_end_none items is_open)

visits_end_none : (dialect : Dialect) (n : ℕ) (c : List ℕ) (is_open : Bool)
    → EndNone (visits dialect n c ++ open_visit is_open)
visits_end_none dialect n c is_open = by (one_of dialect n c) where
  by : Foreign dialect n c ⊎ (Own dialect n c ⊎ Neither dialect n c) → EndNone (visits dialect n c ++ open_visit is_open)
  by (inl v) = rw (foreign_visits dialect n c v) (refl, open_ends_none is_open)
  by (inr (inl own)) = rw (own_visits dialect n c own) (refl, items_end_none (unit_items dialect c) is_open)
  by (inr (inr none)) = rw (no_visits dialect n c none) (open_ends_none is_open)

module _ (Refused : Type 0) (refuses : ℕ → Type 0) (becomes : Becomes) (dialect : Dialect) (n offset : ℕ) (c : List ℕ) where
  -- rows are told where memory grows among the visits of the front of a unit
  growth_rows : (heard : List Visit) (visit : Visit) (others : List Visit) → visits dialect n c ≡ heard ++ visit ∷ others
      → IsGrowth Refused refuses becomes offset visit → unit_rows dialect c ≢ []
  growth_rows heard visit others at growth none = by (one_of dialect n c) where
    alone : (w : Visit) (heard : List Visit) → w ∷ [] ≡ heard ++ visit ∷ others → IsGrowth Refused refuses becomes offset w
    alone w [] e = let same : visit ≡ w = cc in rw same at growth
    alone w (x ∷ heard) e = absurd (omega (arith, ap length e, length-append heard (visit ∷ others)))

    -- no item is one at which memory grows, where none is a row
    quiet : (items : List Item) (heard : List Visit) → rows_of_items items ≡ []
        → map of_item items ≡ heard ++ visit ∷ others → ⊥
    quiet [] heard rows e = omega (arith, ap length e, length-append heard (visit ∷ others))
    quiet (a_row header r ∷ items) heard rows e = absurd cc
    quiet (a_byte x ∷ items) [] rows e = (let same : visit ≡ of_item (a_byte x) = cc in rw same at growth)
    quiet (an_operation header o ∷ items) [] rows e = (let same : visit ≡ of_item (an_operation header o) = cc in rw same at growth)
    quiet (a_byte x ∷ items) (w ∷ heard) rows e = quiet items heard rows cc
    quiet (an_operation header o ∷ items) (w ∷ heard) rows e = quiet items heard rows cc

    in_program : (w : Visit) → (IsGrowth Refused refuses becomes offset w → ⊥) → (heard : List Visit) (items : List Item)
        → rows_of_items items ≡ [] → w ∷ map of_item items ≡ heard ++ visit ∷ others → ⊥
    in_program w never [] items rows e = (let same : visit ≡ w = cc in never (rw same at growth))
    in_program w never (v ∷ heard) items rows e = quiet items heard rows cc

    by : Foreign dialect n c ⊎ (Own dialect n c ⊎ Neither dialect n c) → ⊥
    by (inl v) = alone (of_version n v.0) heard (sym (foreign_visits dialect n c v) ∙ at)
    by (inr (inl own)) =
        in_program (of_header n (lengths_in dialect c own.0) own.0) (λ k. k) heard (unit_items dialect c)
        (rows_of_unit dialect c ∙ none) (sym (own_visits dialect n c own) ∙ at)
    by (inr (inr neither)) =
        let e = sym (no_visits dialect n c neither) ∙ at in
        omega (arith, ap length e, length-append heard (visit ∷ others))

  -- what grows without an end is a row, for which memory was refused
  growth_refused : (visit : Visit) → is_end visit ≡ false → IsGrowth Refused refuses becomes offset visit → Refused
  growth_refused (of_item (a_row header r)) no_end growth = growth
  growth_refused (of_end h) no_end growth = absurd cc
  growth_refused visit no_end growth = absurd growth

  growth_in_front : (is_open : Bool) (heard : List Visit) (visit : Visit) (others : List Visit)
      → (unit_rows dialect c ≡ [] → is_open ≡ false)
      → visits dialect n c ++ open_visit is_open ≡ heard ++ visit ∷ others → IsGrowth Refused refuses becomes offset visit
      → WantsBy Refused refuses becomes dialect n c
  growth_in_front is_open heard visit others closed at growth = inl (
    λ none. (let all : visits dialect n c ≡ heard ++ visit ∷ others =
        sym (append-nil (visits dialect n c)) ∙ (rw (closed none) at at) in
        growth_rows heard visit others all growth none),
    growth_refused visit (one_of_them heard visit others (rw at at (visits_end_none dialect n c is_open))) growth,
  )

  -- its end
  growth_at_end : offset ≡ n → (h : Option HeaderData) → header_of dialect c ≡ h → IsUnit dialect c
      → IsGrowth Refused refuses becomes offset (of_end h) → WantsBy Refused refuses becomes dialect n c
  growth_at_end here (Some h) header is growth = inr (is, h, header, rw here at growth)
  growth_at_end here None header is growth = absurd growth

-- the end of a unit apart
regroup : {A : Type 0} (v o : List A) (e : A) (u b : List A)
    → ((v ++ (o ++ e ∷ [])) ++ u) ++ b ≡ (v ++ o) ++ e ∷ (u ++ b)
regroup v o e u b = simp append_assoc

module _ (Refused : Type 0) (refuses : ℕ → Type 0) (becomes : Becomes) (made : Made) (dialect : Dialect) where
  abbrev NowSo : (place : ℕ) (after : List (List ℕ)) (b : List ℕ) (more : List Visit) (text : List ℕ) → Progress → Type 0
  NowSo = Now Refused refuses becomes made dialect

  abbrev HeardSo : (n : ℕ) (units : List (List ℕ)) (b : List ℕ) (more : List Visit) (text : List ℕ) → Progress → Type 0
  HeardSo = Heard Refused refuses becomes made dialect

  -- a unit doesn't go beyond its end
  unit_within : (u : List ℕ) → IsUnit dialect u → WithinUnit dialect u
  unit_within u is n len = omega (arith, some_same (length u) n (sym (length_of_unit dialect u is) ∙ len))

  none_done : {n : ℕ} {units : List (List ℕ)} {b : List ℕ} {more : List Visit} {text : List ℕ} {p : Progress}
      → NowSo n units b more text p → HeardSo n units b more text p
  none_done {n} {units} {b} {more} {text} {p} now = record {
    done = [];
    after = units;
    whole = refl;
    copied = tt;
    place = n;
    at = omega arith;
    now = rw (append-nil text) now;
  }

  -- one unit more is done
  one_more : {n : ℕ} {units : List (List ℕ)} {b : List ℕ} {more : List Visit} {text : List ℕ} {p : Progress}
      (u : List ℕ) → IsMade made dialect n u
      → HeardSo (n + length u) units b more (text ++ unit_as made dialect n u) p
      → HeardSo n (u ∷ units) b more text p
  one_more {n} {units} {b} {more} {text} {p} u is later = record {
    done = u ∷ later.done;
    after = later.after;
    whole = ap (λ (l : List (List ℕ)). u ∷ l) later.whole;
    copied = (is, later.copied);
    place = later.place;
    at = omega (arith, later.at, length-append u (concat later.done));
    now = rw append_assoc at later.now;
  }

  -- visits of the bytes after the units that are done, and that their sequence is open
  in_front : (n m : ℕ) (text : List ℕ) (after : List (List ℕ)) (b c tail : List ℕ) (heard x rest : List Visit)
      → Front made dialect n c m text heard x → concat after ++ b ≡ c ++ tail
      → (WithinUnit dialect b → WithinUnit dialect c) → (Sound dialect b → Sound dialect c)
      → (rest ≡ [] → foreign_in dialect c ≡ None → (after ≡ []) × (foreign_in dialect b ≡ None))
      → ((visit : Visit) (others : List Visit) → x ++ rest ≡ visit ∷ others → (offset : ℕ) (rows : List Row)
      → comes_to made dialect.order (goes m [] text) heard ≡ goes offset rows text
      → IsGrowth Refused refuses becomes offset visit → WantsBy Refused refuses becomes dialect n c)
      → NowSo n after b (x ++ rest) text (comes_to made dialect.order (goes m [] text) heard)
  in_front n m text after b c tail heard x rest (at_version v is) whole within sound last wants =
      rw is (refl, λ in_unit. (c, tail, v.0, whole, refl, within in_unit, v.1))
  in_front n m text after b c tail heard x rest (before_version version others none x_is) whole within sound last
      wants =
      rw none (
        refl,
        λ nothing. absurd (omega (arith, ap length nothing, ap length x_is, length-append x rest)),
        λ visit more next growth in_unit is_sound. (let same : visit ≡ of_version n version = cc in
            absurd (rw same at growth)),
      )
  in_front n m text after b c tail heard x rest (goes_on now rows is own) whole within sound last wants = rw is (
    refl,
    λ nothing. last (empty_both x rest nothing).1 own,
    λ visit others next growth in_unit is_sound. record {
      c = c;
      tail = tail;
      whole = whole;
      within = within in_unit;
      sound = sound is_sound;
      not_foreign = own;
      wants = wants visit others next now rows is growth;
    },
  )

  -- of each front of the visits of units and of bytes after them
  pub heard_of : (n m k : ℕ) (text : List ℕ) (units : List (List ℕ)) (b : List ℕ) (heard more : List Visit)
      → AllByRecursion (IsUnit dialect) units → k ≡ n + length (concat units)
      → units_visits dialect n units ++ visits dialect k b ≡ heard ++ more
      → HeardSo n units b more text (comes_to made dialect.order (goes m [] text) heard)
  heard_of n m k text [] b heard more all at e =
      let here : k ≡ n = omega (arith, at) in
      let e_n = rw here at e in
      let front = front_of made dialect n b false m text heard more (rw append-nil e_n) in
      let now = in_front n m text [] b b [] heard more [] front (sym (append-nil b)) (λ within. within) (λ sound. sound)
      (λ nothing own. (refl, own))
      (λ visit others next offset rows is growth. growth_in_front Refused refuses becomes dialect n offset b false heard
      visit others (λ none. refl) (append-nil (visits dialect n b) ∙ e_n ∙ ap (λ (l : List Visit). heard ++ l) (sym (append-nil more) ∙ next)) growth) in
      none_done (rw append-nil at now)
  heard_of n m k text (u ∷ units) b heard more all at e =
      by (fronts_of own_part end_is rest heard more
      (sym (regroup (visits dialect n u) (open_visit is_open) end_is (units_visits dialect (n + length u) units)
      (visits dialect k b)) ∙ e))
      (λ t x y. heard_of (n + length u) n k t units b x y all.1
      (omega (arith, at, length-append u (concat units)))) where
        is_open : Bool
        is_open = ends_open (unit_rows dialect u)

        own_part : List Visit
        own_part = visits dialect n u ++ open_visit is_open

        end_is : Visit
        end_is = of_end (header_of dialect u)

        rest : List Visit
        rest = units_visits dialect (n + length u) units ++ visits dialect k b

        Later : Type 0
        Later = (t : List ℕ) (x y : List Visit)
            → units_visits dialect (n + length u) units ++ visits dialect k b ≡ x ++ y
            → HeardSo (n + length u) units b y t (comes_to made dialect.order (goes n [] t) x)

        with_end : (x : List Visit) → rest ≡ x ++ more → Later → Foreign dialect n u ⊎ Own dialect n u
            → HeardSo n (u ∷ units) b more text
            (comes_to made dialect.order (goes m [] text) (own_part ++ end_is ∷ x))
        with_end x left later (inl v) =
            rw (foreign_front made dialect n u is_open m text v (end_is ∷ x)) (none_done (
              refl,
              λ within. (u, concat units ++ b, v.0, append_assoc u (concat units) b, refl, unit_within u all.0, v.1),
            ))
        with_end x left later (inr own) =
            rw (
              fold-append (visited made dialect.order) (goes m [] text) own_part (end_is ∷ x),
              own_front made dialect n u is_open m text own,
            ) (rw (header_is dialect n u own) (by_refusal (refusal its_header its_rows) refl)) where
              its_rows : List Row
              its_rows = unit_rows dialect u

              its_header : HeaderData
              its_header = made n own.0

              copy : List ℕ
              copy = unit_of dialect.order its_header its_rows

              by_refusal : (o : Option EmitFault) → refusal its_header its_rows ≡ o
                  → HeardSo n (u ∷ units) b more text
                  (comes_to made dialect.order (ended_as copy text n o) x)
              by_refusal None r =
                  let its_copy : unit_as made dialect n u ≡ copy = rw (header_is dialect n u own) refl in
                  one_more u (own.0, header_is dialect n u own, r) (rw its_copy (later (text ++ copy) x more left))
              by_refusal (Some f) r =
                  rw (stays_stopped made dialect.order text (fault.Emit n f) x) (none_done (
                    refl,
                    λ within. (u, units, own.0, refl, refl, header_is dialect n u own, r),
                  ))

        kind : Foreign dialect n u ⊎ Own dialect n u
        kind = elim (all.0) [
          | inl f ↦ inl (f.0, foreign_of dialect f.0 u f.1)
          | inr o ↦ inr (
            o.0,
            o.2.program,
            ap (header_in dialect) o.2.whole ∙ header_is_found dialect o.0 o.2.header o.2.program o.2.spells_header,
          )
        ]

        closed : (rows : List Row) → rows ≡ [] → ends_open rows ≡ false
        closed rows none = rw none refl

        -- at its end the offset is that of this unit
        at_end : (offset : ℕ) (rows : List Row) → comes_to made dialect.order (goes m [] text) own_part ≡ goes offset rows text
            → Foreign dialect n u ⊎ Own dialect n u → offset ≡ n
        at_end offset rows is (inl v) =
            let stops = append-nil own_part in
            absurd (let none = rw stops at (foreign_front made dialect n u is_open m text v []) in cc)
        at_end offset rows is (inr own) = let goes_there = own_front made dialect n u is_open m text own in cc

        -- memory that is wanted next is so for this unit
        in_unit : (x : List Visit) → own_part ≡ heard ++ x → (visit : Visit) (others : List Visit)
            → x ++ end_is ∷ rest ≡ visit ∷ others → (offset : ℕ) (rows : List Row)
            → comes_to made dialect.order (goes m [] text) heard ≡ goes offset rows text
            → IsGrowth Refused refuses becomes offset visit → WantsBy Refused refuses becomes dialect n u
        in_unit [] half visit others next offset rows is growth =
            let same : visit ≡ end_is = cc in
            let whole : own_part ≡ heard = half ∙ append-nil heard in
            growth_at_end Refused refuses becomes dialect n offset u (at_end offset rows (rw whole is) kind)
            (header_of dialect u) refl all.0 (rw same at growth)
        in_unit (w ∷ x) half visit others next offset rows is growth =
            let same : w ≡ visit = cc in
            growth_in_front Refused refuses becomes dialect n offset u is_open heard visit x
            (closed (unit_rows dialect u)) (rw same at half) growth

        by : ((x : List Visit) × (heard ≡ own_part ++ end_is ∷ x) × (rest ≡ x ++ more))
            ⊎ ((x : List Visit) × (own_part ≡ heard ++ x) × (more ≡ x ++ end_is ∷ rest)) → Later
            → HeardSo n (u ∷ units) b more text (comes_to made dialect.order (goes m [] text) heard)
        by (inl (x, half, left)) later = rw half (with_end x left later kind)
        by (inr (x, half, left)) later =
            rw left (none_done (in_front n m text (u ∷ units) b u (concat units ++ b) heard x (end_is ∷ rest)
            (front_of made dialect n u is_open m text heard x half) (append_assoc u (concat units) b)
            (λ within. unit_within u all.0) (λ sound. unit_is_not_refused dialect u all.0)
            (λ nothing own. absurd cc) (in_unit x half)))
