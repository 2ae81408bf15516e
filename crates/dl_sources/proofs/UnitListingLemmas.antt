-- How a lister of one unit goes on.
use Rattle.std.proofs.Common.{◌≡◌, ◌≤◌, ◌+◌, ◌∙◌, ◌++◌, ◌∷◌, ◌||◌, ℕ, List, [], length, Bool, true, false, Option, Some, None}
use Rattle.std.proofs.Common.{Result, Ok, Err, inl, inr, refl, sym, ap, ap₂, subst, append-nil, arith, true≢false}
use Rattle.std.specs.Prelude.{◌==◌, if◌then◌else◌, is_some, not, OnOk, OnErr}
use Rattle.std.specs.Io.KnownBytes.{Appends}
use Rattle.std.specs.List.{list_any}
use Rattle.std.specs.Option.{option_copied, option_or}
use Rattle.std.specs.Result.{is_err}
use Rattle.std.proofs.Math.Bool.{or-true}
use Rattle.std.proofs.lemmas.List.Folds.{list_any-append}
use Rattle.dl_addr.specs.Code.{is_code}
use Rattle.dl_field.specs.HeaderData.{HeaderData, header_cells}
use Rattle.dl_head.specs.declared.header.HeaderLengths.{HeaderLengths}
use Rattle.dl_memory.specs.Refusals.{IsRefused}
use Rattle.dl_table.specs.declared.fault.FaultKind.{FaultKind}
use Rattle.dl_rows.specs.Items.{a_byte, a_row, an_operation}
use Rattle.dl_rows.specs.declared.operation.Operation.{Operation}
use Rattle.dl_rows.specs.declared.row.Row.{Row}
use Rattle.dl_rows.specs.declared.sink.Flow.{Flow}
use Rattle.dl_rows.specs.declared.sink.Flow.TheVariants as flow
use Rattle.dl_sections.specs.declared.fault.RunFault.TheVariants as fault
use Rattle.dl_sections.specs.declared.around.Damage.{Damage}
use Rattle.dl_sections.specs.Section.{Visit, of_damage, of_end, of_header, of_item, of_open, of_version}
use Rattle.dl_sections.specs.Visiting.{GoesOn, StopsIn, header_told}
use Rattle.dl_sources.specs.declared.lister.Lister.{Lister}
use Rattle.dl_sources.specs.declared.question.SourcesQuestion.{SourcesQuestion}
use Rattle.dl_sources.specs.declared.table.SourceTable.{SourceTable}
use Rattle.dl_sources.specs.declared.unit_listing.Current.{Current}
use Rattle.dl_sources.specs.declared.unit_listing.Current.TheVariants.{Foreign, Other, Own}
use Rattle.dl_sources.specs.declared.unit_listing.UnitLister.{UnitLister}
use Rattle.dl_sources.specs.Counting.{Counting}
use Rattle.dl_sources.specs.Holding.{Holds}
use Rattle.dl_sources.specs.Listing.{IsSame, Listing, RefusesAfter, cells_of, end_room, end_told, entry_count, file_count, rows_since}
use Rattle.dl_sources.specs.Listing.{told_by}
use Rattle.dl_sources.specs.SectionTold.{is_live}
use Rattle.dl_sources.specs.Sources.{Mention}
use Rattle.dl_sources.specs.UnitListing.{EndsWithUnit, GoesOnWithUnit, after_another, damage_in, first_damage}
use Rattle.dl_sources.specs.UnitListing.{begins, begins_in, is_after, is_last, is_other, is_own, is_then, is_told, known_as, told_since, unit_story}
use Rattle.dl_sources.proofs.ListingLemmas as lister
use Rattle.dl_sources.proofs.UnitVisits.{after-append, damage-append, option_or-none, option_or_or, over-append, same_header, told-append}

module _ {M : Type 0} {refuses : M → ℕ → Type 0} (first old : UnitLister M) (start held : Option (List ℕ)) (visits : List Visit)
    (s : GoesOnWithUnit refuses first old start held visits) where
  abbrev told : List Visit
  told = told_since first visits

  -- what its lister was told with one visit more
  abbrev with_visit : Visit → List Visit
  with_visit v = told ++ (if is_told old.unit old.current v then v ∷ [] else [])

  told_more : (v : Visit) → with_visit v ≡ told_since first (visits ++ v ∷ [])
  told_more v =
      ap₂ (λ (u : ℕ) (c : Current). told ++ (if is_told u c v then v ∷ [] else [])) s.unit s.current
      ∙ ap (λ (l : List Visit). told ++ l)
      (sym (append-nil (if is_told first.unit (is_after first.unit first.current visits) v then v ∷ [] else [])))
      ∙ sym (told-append first.unit first.current visits (v ∷ []))

  damage_more : (v : Visit) (damage : Option Damage) → damage ≡ option_or old.damage (damage_in old.unit v)
      → damage ≡ option_or first.damage (first_damage first.unit (visits ++ v ∷ []))
  damage_more v damage is =
      is ∙ ap₂ (λ (d : Option Damage) (u : ℕ). option_or d (damage_in u v)) s.damage s.unit
      ∙ option_or_or first.damage (first_damage first.unit visits) (damage_in first.unit v)
      ∙ ap (option_or first.damage)
      (ap (option_or (first_damage first.unit visits)) (sym (option_or-none (damage_in first.unit v)))
      ∙ sym (damage-append first.unit visits (v ∷ [])))

  goes_on : (new : UnitLister M) (v : Visit) → new.unit ≡ old.unit → new.current ≡ is_then old.unit old.current v
      → new.damage ≡ option_or old.damage (damage_in old.unit v) → new.is_whole ≡ old.is_whole
      → new.lister.is_refused ≡ old.lister.is_refused → is_last old.current v ≡ false
      → Listing refuses first.lister new.lister start held (with_visit v)
      → GoesOnWithUnit refuses first new start held (visits ++ v ∷ [])
  goes_on new v unit current damage whole refused unended listing = record {
    unit = unit ∙ s.unit;
    current = current ∙ ap₂ (λ (u : ℕ) (c : Current). is_then u c v) s.unit s.current
        ∙ sym (after-append first.unit first.current visits (v ∷ []));
    damage = damage_more v new.damage damage;
    not_whole = whole ∙ s.not_whole;
    sufficed = refused ∙ s.sufficed;
    going = over-append first.unit first.current visits (v ∷ [])
        ∙ ap₂ (λ (a b : Bool). a || (b || false)) s.going (ap (λ (c : Current). is_last c v) (sym s.current) ∙ unended);
    listing = subst (λ (l : List Visit). Listing refuses first.lister new.lister start held l) (told_more v) listing;
  }

  -- a visit of which the lister isn't told
  untold : Listing refuses first.lister old.lister start held (told ++ [])
  untold = subst (λ (l : List Visit). Listing refuses first.lister old.lister start held l) (sym (append-nil told)) s.listing

  perhaps_told : (new : Lister M) (v : Visit) (is : Bool) → (is ≡ false → new ≡ old.lister)
      → (is ≡ true → Listing refuses first.lister new start held (told ++ v ∷ []))
      → Listing refuses first.lister new start held (told ++ (if is then v ∷ [] else []))
  perhaps_told new v true same more = more refl
  perhaps_told new v false same more =
      subst (λ (l : Lister M). Listing refuses first.lister l start held (told ++ [])) (sym (same refl)) untold

  -- ---- items, and that the last row isn't an end row

  abbrev same_lister : IsSame old.lister old.lister
  same_lister = record { memory = refl; strings = refl; question = refl }

  pub byte_heard : (x : ℕ) → GoesOnWithUnit refuses first old start held (visits ++ of_item (a_byte x) ∷ [])
  byte_heard x =
      let v = of_item (a_byte x) in
      goes_on old v refl refl (sym (option_or-none old.damage)) refl refl refl
      (perhaps_told old.lister v (is_own old.current) (λ e. refl)
      (λ e. lister.goes_on first.lister old.lister old.lister start held told v s.listing same_lister refl refl
      (λ l. lister.listed_same first.lister told v old.lister refl l.counts l.table (omega (arith, l.few)))))

  pub operation_heard : (h : HeaderData) (o : Operation)
      → GoesOnWithUnit refuses first old start held (visits ++ of_item (an_operation h o) ∷ [])
  operation_heard h o =
      let v = of_item (an_operation h o) in
      goes_on old v refl refl (sym (option_or-none old.damage)) refl refl refl
      (perhaps_told old.lister v (is_own old.current) (λ e. refl)
      (λ e. lister.goes_on first.lister old.lister old.lister start held told v s.listing same_lister refl refl
      (λ l. lister.listed_same first.lister told v old.lister refl l.counts l.table (omega (arith, l.few)))))

  pub open_heard : GoesOnWithUnit refuses first old start held (visits ++ of_open ∷ [])
  open_heard =
      goes_on old of_open refl refl (sym (option_or-none old.damage)) refl refl refl
      (perhaps_told old.lister of_open (is_own old.current) (λ e. refl)
      (λ e. lister.goes_on first.lister old.lister old.lister start held told of_open s.listing same_lister refl refl
      (λ l. lister.listed_same first.lister told of_open old.lister refl l.counts l.table (omega (arith, l.few)))))

  row_kept : (new : Lister M) (r : Row) (is : Bool) → (is ≡ false → new ≡ old.lister) → (is ≡ true → lister.Counted old.lister new r)
      → new.is_refused ≡ old.lister.is_refused
  row_kept new r true same counted = ap (λ (l : Lister M). l.is_refused) (counted refl).0
  row_kept new r false same counted = ap (λ (l : Lister M). l.is_refused) (same refl)

  -- a row, which the lister counts where it is of the unit
  pub row_heard : (new : Lister M) (h : HeaderData) (r : Row) → (is_own old.current ≡ false → new ≡ old.lister)
      → (is_own old.current ≡ true → lister.Counted old.lister new r)
      → GoesOnWithUnit refuses first (record old { lister = new }) start held (visits ++ of_item (a_row h r) ∷ [])
  row_heard new h r same counted =
      let v = of_item (a_row h r) in
      goes_on (record old { lister = new }) v refl refl (sym (option_or-none old.damage)) refl
      (row_kept new r (is_own old.current) same counted) refl
      (perhaps_told new v (is_own old.current) same (λ e. lister.row_counted first.lister old.lister new start held told s.listing h r (counted e)))

  -- ---- a unit begins: another one

  pub other_begins : (n : ℕ) (lengths : HeaderLengths) (h : HeaderData) → (n == old.unit) ≡ false
      → GoesOnWithUnit refuses first (record old { current = Other }) start held (visits ++ of_header n lengths h ∷ [])
  other_begins n lengths h is =
      goes_on (record old { current = Other }) (of_header n lengths h) refl
      (sym (ap (λ (b : Bool). if b then Own else Other) is)) (sym (option_or-none old.damage)) refl refl refl
      (subst (λ (b : Bool). Listing refuses first.lister old.lister start held
      (told ++ (if b then of_header n lengths h ∷ [] else []))) (sym is) untold)

  -- one of another version, which may be the wanted one
  pub version_heard : (n version : ℕ) (current : Current) → current ≡ known_as old.unit n Foreign
      → GoesOnWithUnit refuses first (record old { current = current }) start held (visits ++ of_version n version ∷ [])
  version_heard n version current is =
      goes_on (record old { current = current }) (of_version n version) refl is (sym (option_or-none old.damage)) refl refl refl
      untold

  -- the wanted one, which has a header
  module _ (n : ℕ) (lengths : HeaderLengths) (h : HeaderData) (wanted : (n == old.unit) ≡ true) where
    pub own_begins : (new : Lister M) → new ≡ record old.lister { unit = n; counts = new.counts }
        → ((live : ℕ → Bool) → Counting live (file_count (Some h)) new.counts [])
        → GoesOnWithUnit refuses first (record old { lister = new; current = Own }) start held
        (visits ++ of_header n lengths h ∷ [])
    own_begins new is counts =
        let v = of_header n lengths h in
        goes_on (record old { lister = new; current = Own }) v refl
        (sym (ap (λ (b : Bool). if b then Own else Other) wanted)) (sym (option_or-none old.damage)) refl
        (ap (λ (l : Lister M). l.is_refused) is) refl
        (subst (λ (b : Bool). Listing refuses first.lister new start held (told ++ (if b then v ∷ [] else []))) (sym wanted)
        (lister.header_begun first.lister old.lister new start held told s.listing n lengths h is counts))

    begins_last : begins_in first.unit (visits ++ of_header n lengths h ∷ []) ≡ true
    begins_last =
        list_any-append (begins first.unit) visits (of_header n lengths h ∷ [])
        ∙ ap (λ (b : Bool). list_any (begins first.unit) visits || (b || false))
        (ap (λ (u : ℕ). n == u) (sym s.unit) ∙ wanted)
        ∙ or-true (list_any (begins first.unit) visits)

    -- memory was refused for the counts of its files
    pub header_stops : (count : ℕ) → count ≤ header_cells h + 1 → IsRefused (refuses old.lister.memory.now) count
        → StopsIn (unit_story refuses) first old start held visits (of_header n lengths h ∷ []) fault.NoMemory
    header_stops count few refused =
        let v = of_header n lengths h in (
          v ∷ [],
          [],
          refl,
          (
            visits,
            v,
            refl,
            s,
            record {
              is = refl;
              begins = begins_last;
              refused = subst (λ (l : List Visit). RefusesAfter refuses first.lister l)
                  (ap (λ (b : Bool). told ++ (if b then v ∷ [] else [])) (sym wanted) ∙ told_more v)
                  (lister.header_wants first.lister old.lister start held told v s.listing (header_cells h) count (omega arith) few
                  refused);
            },
          ),
        )

  -- ---- a unit is damaged

  pub damage_heard : (n at : ℕ) (kind : FaultKind) (damage : Option Damage)
      → damage ≡ option_or old.damage (damage_in old.unit (of_damage n at kind))
      → GoesOnWithUnit refuses first (record old { current = Other; damage = damage }) start held
      (visits ++ of_damage n at kind ∷ [])
  damage_heard n at kind damage is =
      goes_on (record old { current = Other; damage = damage }) (of_damage n at kind) refl refl is refl refl refl untold

  -- ---- a unit ends

  module _ (h : Option HeaderData) where
    -- another one
    other_ends : old.current ≡ Other → GoesOnWithUnit refuses first old start held (visits ++ of_end h ∷ [])
    other_ends other =
        goes_on old (of_end h) refl other (sym (option_or-none old.damage)) refl refl
        (ap (λ (c : Current). not (is_other c)) other)
        (perhaps_told old.lister (of_end h) (is_own old.current) (λ e. refl)
        (λ e. absurd (true≢false (sym e ∙ ap is_own other))))

    pub after_other : old.current ≡ Other
        → GoesOn (unit_story refuses) first old start held (visits ++ of_end h ∷ []) (after_another old.damage)
    after_other other = by old.damage refl where
      by : (damage : Option Damage) → old.damage ≡ damage
          → GoesOn (unit_story refuses) first old start held (visits ++ of_end h ∷ []) (after_another damage)
      by None is = other_ends other
      by (Some damage) is = record {
        ended = inr (record {
          not_whole = s.not_whole;
          sufficed = s.sufficed;
          damage = (other_ends other).damage;
          is_damaged = ap is_some is;
        });
        nothing = s.listing.nothing;
      }

    wanted_ends : (current : Current) → old.current ≡ current → is_other current ≡ false
        → is_other (is_after first.unit first.current visits) ≡ false
    wanted_ends current is wanted = ap is_other (sym s.current ∙ is) ∙ wanted

    -- the wanted one, of another version
    pub foreign_ends : old.current ≡ Foreign
        → EndsWithUnit refuses first (record old { is_whole = true }) start held (visits ++ of_end h ∷ [])
    foreign_ends foreign = record {
      ended = inl (record {
        before = visits;
        header = h;
        ends = refl;
        going = s.going;
        current = wanted_ends Foreign foreign refl;
        whole = refl;
        table = λ e. subst (λ (l : List Visit). Holds old.lister.table (told_by first.lister l))
            (sym (append-nil told) ∙ ap (λ (b : Bool). told ++ (if b then of_end h ∷ [] else [])) (sym (ap is_own foreign))
            ∙ told_more (of_end h))
            (s.listing.told s.sufficed).table;
        refused = λ e. absurd (true≢false (sym e ∙ s.sufficed));
      });
      nothing = s.listing.nothing;
    }

    -- the wanted one, whose table of files is told
    pub own_ends : old.current ≡ Own → header_told None visits ≡ h → (new : Lister M) (refused : Bool)
        → IsSame old.lister new → new.unit ≡ old.lister.unit → new.is_refused ≡ old.lister.is_refused
        → (refused ≡ false → ((live : ℕ → Bool) → Counting live 0 new.counts [])
        × ((mentions : List Mention) → Holds old.lister.table mentions → Holds new.table (mentions ++ end_told old.lister h)))
        → (refused ≡ true → (mentions : List Mention) → Holds old.lister.table mentions
        → IsRefused (refuses old.lister.memory.now) (length mentions + end_room old.lister h))
        → entry_count h ≤ cells_of h
        → EndsWithUnit refuses first (record old { is_whole = true; lister = record new { is_refused = refused } }) start held
        (visits ++ of_end h ∷ [])
    own_ends own header new refused same unit is told_then wants few = record {
      ended = inl (record {
        before = visits;
        header = h;
        ends = refl;
        going = s.going;
        current = wanted_ends Own own refl;
        whole = refl;
        table = λ e. subst (λ (l : List Visit). Holds new.table (told_by first.lister l))
            (ap (λ (b : Bool). told ++ (if b then of_end h ∷ [] else [])) (sym (ap is_own own)) ∙ told_more (of_end h))
            ((lister.ends first.lister old.lister start held told s.listing h headers new same unit is (told_then e).0
            (told_then e).1 few).told (is ∙ s.sufficed)).table;
        refused = λ e. lister.end_wants first.lister old.lister start held told s.listing h headers (wants e) few;
      });
      nothing = s.listing.nothing;
    } where
      headers : header_told None told ≡ h
      headers = same_header first.unit first.current None None (λ e. refl) visits (sym s.current ∙ own) ∙ header

-- ---- the beginning, and what is printed

pub at_first : {M : Type 0} (refuses : M → ℕ → Type 0) (first : UnitLister M) (start : Option (List ℕ))
    → first.is_whole ≡ false → first.lister.is_refused ≡ false
    → ((live : ℕ → Bool) → Counting live 0 first.lister.counts []) → Holds first.lister.table [] → Appends start start []
    → GoesOnWithUnit refuses first first start start []
at_first refuses first start not_whole sufficed counts table nothing = record {
  unit = refl;
  current = refl;
  damage = sym (option_or-none first.damage);
  not_whole = not_whole;
  sufficed = sufficed;
  going = refl;
  listing = lister.begins refuses first.lister start sufficed counts table nothing;
}

pub settles : {M : Type 0} (refuses : M → ℕ → Type 0) (first now : UnitLister M) (start held : Option (List ℕ))
    (visits : List Visit) (n : Flow) → GoesOn (unit_story refuses) first now start held visits n
    → GoesOn (unit_story refuses) first now start held visits n × Appends start held []
settles refuses first now start held visits flow.On s = (s, s.listing.nothing)
settles refuses first now start held visits flow.Stop s = (s, s.nothing)

-- what a call ensures where it didn't fail, and where it did
pub where_ok : {A E : Type 0} (P : Type 0) (result : Result A E) → OnOk result P → is_err result ≡ false → P
where_ok P (Ok a) holds is = holds
where_ok P (Err e) holds is = absurd (true≢false is)

pub where_err : {A E : Type 0} (P : Type 0) (result : Result A E) → OnErr result P → is_err result ≡ true → P
where_err P (Ok a) holds is = absurd (true≢false (sym is))
where_err P (Err e) holds is = holds
