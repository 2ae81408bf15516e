-- At which unit a locator stops.
use Rattle.std.proofs.Common.{◌≡◌, ◌⊎◌, inl, inr, ℕ, ◌+◌, Bool, true, false, List, [], ◌∷◌, ◌++◌, length, flat_map}
use Rattle.std.proofs.Common.{Option, Some, None, refl, sym, ap, ◌∙◌, append_assoc, append-nil, true≢false}
use Rattle.std.specs.Prelude.{◌||◌}
use Rattle.std.specs.List.{concat, list_any}
use Rattle.std.specs.Option.{option_or}
use Rattle.dl_head.specs.declared.dialect.Dialect.{Dialect}
use Rattle.dl_field.specs.HeaderData.{HeaderData}
use Rattle.dl_rows.specs.declared.reader.Event.{Event}
use Rattle.dl_rows.specs.declared.reader.Event.TheVariants as event
use Rattle.dl_rows.specs.LineUnit.{ends_open, events, unit_rows}
use Rattle.std.proofs.Common.{map}
use Rattle.dl_rows.specs.Items.{Item, a_byte, a_row, an_operation, unit_items}
use Rattle.dl_sections.specs.Section.{header_read, HeaderRead, Visit, of_header, of_version, of_item, of_open, of_end, of_damage, header_of}
use Rattle.dl_sections.specs.Section.{header_visit, event_visits, visits, open_visit, unit_visits, units_visits}
use Rattle.dl_sections.specs.Section.{section_visits}
use Rattle.dl_sections.specs.Copying.{offset_after}
use Rattle.dl_sections.proofs.Fronts.{fronts_of, or_none}
use Rattle.dl_rows.specs.declared.row.Row.{Row}
use Rattle.dl_look.specs.declared.place.Place.{Place}
use Rattle.dl_addr.specs.Locating.{located_after}
use Rattle.dl_addr.specs.Locations.{Located, located_from, located_in}
use Rattle.dl_addr.proofs.LocatedLemmas.{located_after-append, located_of_unit, rows_of_unit}

abbrev pub is_end : Visit → Bool
is_end (of_end h) = true
is_end other = false

pub any_mid : (a : List Visit) (h : Option HeaderData) (b : List Visit) → list_any is_end (a ++ of_end h ∷ b) ≡ true
any_mid [] h b = refl
any_mid (v ∷ a) h b = or_true (is_end v) (list_any is_end (a ++ of_end h ∷ b)) (any_mid a h b) where
  or_true : (b c : Bool) → c ≡ true → (b || c) ≡ true
  or_true true c e = refl
  or_true false c e = e

pub none_both : (a b : List Visit) → list_any is_end a ≡ false → list_any is_end b ≡ false
    → list_any is_end (a ++ b) ≡ false
none_both [] b e e' = e'
none_both (of_header n l h ∷ a) b e e' = none_both a b e e'
none_both (of_version n v ∷ a) b e e' = none_both a b e e'
none_both (of_item item ∷ a) b e e' = none_both a b e e'
none_both (of_open ∷ a) b e e' = none_both a b e e'
none_both (of_end h ∷ a) b e e' = absurd (true≢false e)
none_both (of_damage unit n k ∷ a) b e e' = none_both a b e e'

none_header : (offset : ℕ) (h : Option HeaderRead) → list_any is_end (header_visit offset h) ≡ false
none_header offset None = refl
none_header offset (Some h) = refl

pub none_in : (offset : ℕ) (h : Option HeaderRead) (es : List Event)
    → list_any is_end (flat_map (event_visits offset h) es) ≡ false
none_in offset h [] = refl
none_in offset h (event.More ∷ es) = none_in offset h es
none_in offset h (event.Header ∷ es) =
    none_both (header_visit offset h) (flat_map (event_visits offset h) es) (none_header offset h) (none_in offset h es)
none_in offset h (event.Foreign v ∷ es) = none_in offset h es
none_in offset h (event.Row r ∷ es) = none_in offset h es
none_in offset h (event.NoMemory ∷ es) = none_in offset h es
none_in offset h (event.End ∷ es) = none_in offset h es

none_items : (items : List Item) → list_any is_end (map of_item items) ≡ false
none_items [] = refl
none_items (item ∷ items) = none_items items

-- before its end a unit has none
pub none_visits_of : (dialect : Dialect) (offset : ℕ) (u : List ℕ) → list_any is_end (visits dialect offset u) ≡ false
none_visits_of dialect offset u =
    none_both (flat_map (event_visits offset (header_read dialect u)) (events dialect u)) (map of_item (unit_items dialect u))
    (none_in offset (header_read dialect u) (events dialect u)) (none_items (unit_items dialect u))

none_open : (is_open : Bool) → list_any is_end (open_visit is_open) ≡ false
none_open true = refl
none_open false = refl

module _ (dialect : Dialect) where
  -- the visits of a unit before its end
  abbrev pub own : ℕ → List ℕ → List Visit
  own offset u = visits dialect offset u ++ open_visit (ends_open (unit_rows dialect u))

  pub none_own : (offset : ℕ) (u : List ℕ) → list_any is_end (own offset u) ≡ false
  none_own offset u =
      none_both (visits dialect offset u) (open_visit (ends_open (unit_rows dialect u)))
      (none_visits_of dialect offset u) (none_open (ends_open (unit_rows dialect u)))

  pub own_end : (offset : ℕ) (u : List ℕ)
      → own offset u ++ of_end (header_of dialect u) ∷ [] ≡ unit_visits dialect offset u
  own_end offset u =
      append_assoc (visits dialect offset u) (open_visit (ends_open (unit_rows dialect u)))
      (of_end (header_of dialect u)
      ∷ [])

  -- u is one of the units; before the end of its visits the units before it answer, and after it u too
  pub record SplitsAt (offset n : ℕ) (units : List (List ℕ)) (before : List Visit) (h : Option HeaderData) : Type
      0 where
    pub front : List (List ℕ)
    pub u : List ℕ
    pub after : List (List ℕ)
    pub whole : units ≡ front ++ u ∷ after
    pub header : h ≡ header_of dialect u
    pub located_before : (live : ℕ → Bool) (x : Place)
        → located_after live x [] n before ≡ located_from dialect live offset front x
    pub located_later : (live : ℕ → Bool) (x : Place)
        → located_after live x [] n (before ++ of_end h ∷ []) ≡ located_from dialect live offset (front ++ u ∷ []) x

  pub none_located : (live : ℕ → Bool) (x : Place) (rows : List Row) (n : ℕ) (vs : List Visit)
      → list_any is_end vs ≡ false → located_after live x rows n vs ≡ None
  none_located live x rows n [] e = refl
  none_located live x rows n (of_header m l h ∷ vs) e = none_located live x rows m vs e
  none_located live x rows n (of_version m v ∷ vs) e = none_located live x rows n vs e
  none_located live x rows n (of_item (a_byte m) ∷ vs) e = none_located live x rows n vs e
  none_located live x rows n (of_item (an_operation header o) ∷ vs) e = none_located live x rows n vs e
  none_located live x rows n (of_item (a_row header r) ∷ vs) e = none_located live x (rows ++ r ∷ []) n vs e
  none_located live x rows n (of_open ∷ vs) e = none_located live x rows n vs e
  none_located live x rows n (of_end h ∷ vs) e = absurd (true≢false e)
  none_located live x rows n (of_damage unit m k ∷ vs) e = none_located live x [] n vs e

  after_unit : (live : ℕ → Bool) (x : Place) (n offset : ℕ) (u : List ℕ) (rest : List Visit)
      → located_after live x [] n (unit_visits dialect offset u ++ rest)
      ≡ option_or (located_in dialect live offset u x)
      (located_after live x [] (offset_after n (unit_visits dialect offset u)) rest)
  after_unit live x n offset u rest =
      let own_visits = unit_visits dialect offset u in
      located_after-append live x [] n own_visits rest
      ∙ ap (λ (l : List Row). option_or (located_after live x [] n own_visits)
      (located_after live x l (offset_after n own_visits) rest)) (rows_of_unit live x dialect offset u)
      ∙ ap (λ (o : Option Located). option_or o (located_after live x [] (offset_after n own_visits) rest))
      (located_of_unit live x dialect n offset u)

  pub end_same : (a b : Option HeaderData) → of_end a ≡ of_end b → a ≡ b
  end_same a b e = cc

  abbrev rest_of : ℕ → List ℕ → List (List ℕ) → List Visit → List Visit
  rest_of offset u units tail = units_visits dialect (offset + length u) units ++ tail

  abbrev next_offset : ℕ → ℕ → List ℕ → ℕ
  next_offset n offset u = offset_after n (unit_visits dialect offset u)

  pub splits : (offset n : ℕ) (units : List (List ℕ)) (tail before : List Visit) (h : Option HeaderData)
      (more : List Visit) → list_any is_end tail ≡ false
      → units_visits dialect offset units ++ tail ≡ before ++ of_end h ∷ more → SplitsAt offset n units before h
  splits offset n [] tail before h more none e =
      absurd (true≢false (sym (any_mid before h more) ∙ ap (list_any is_end) (sym e) ∙ none))
  splits offset n (u ∷ units) tail before h more none e =
      by (λ x ends. splits (offset + length u) (next_offset n offset u) units tail x h more none ends)
      (fronts_of (own offset u) (of_end (header_of dialect u)) (rest_of offset u units tail) before (of_end h
      ∷ more) cut) where
        cut : own offset u ++ of_end (header_of dialect u) ∷ (rest_of offset u units tail) ≡ before ++ of_end h ∷ more
        cut =
            sym (append_assoc (own offset u) (of_end (header_of dialect u) ∷ []) (rest_of offset u units tail))
            ∙ ap (λ (l : List Visit). l ++ (rest_of offset u units tail)) (own_end offset u)
            ∙ sym (append_assoc (unit_visits dialect offset u) (units_visits dialect (offset + length u) units) tail)
            ∙ e

        later : (x : List Visit) → before ≡ own offset u ++ of_end (header_of dialect u) ∷ x
            → SplitsAt (offset + length u) (next_offset n offset u) units x h → SplitsAt offset n (u ∷ units) before h
        later x is s = record {
          front = u ∷ s.front;
          u = s.u;
          after = s.after;
          whole = ap (λ (l : List (List ℕ)). u ∷ l) s.whole;
          header = s.header;
          located_before = λ live y. (
              ap (located_after live y [] n) here
              ∙ after_unit live y n offset u x
              ∙ ap (option_or (located_in dialect live offset u y)) (s.located_before live y));
          located_later = λ live y. (
              ap (λ (l : List Visit). located_after live y [] n (l ++ of_end h ∷ [])) here
              ∙ ap (located_after live y [] n) (append_assoc (unit_visits dialect offset u) x (of_end h ∷ []))
              ∙ after_unit live y n offset u (x ++ of_end h ∷ [])
              ∙ ap (option_or (located_in dialect live offset u y)) (s.located_later live y));
        } where
          here : before ≡ unit_visits dialect offset u ++ x
          here = is ∙ sym (append_assoc (own offset u) (of_end (header_of dialect u) ∷ []) x)
              ∙ ap (λ (l : List Visit). l ++ x) (own_end offset u)

        now : (x : List Visit) → own offset u ≡ before ++ x
            → of_end h ∷ more ≡ x ++ of_end (header_of dialect u) ∷ (rest_of offset u units tail)
            → SplitsAt offset n (u ∷ units) before h
        now [] is ends = record {
          front = [];
          u = u;
          after = units;
          whole = refl;
          header = same;
          located_before =
              λ live y. ap (located_after live y [] n) here
              ∙ none_located live y [] n (own offset u) (none_own offset u);
          located_later = λ live y. (
              ap (λ (l : List Visit). located_after live y [] n (l ++ of_end h ∷ [])) here
              ∙ ap (λ (v : Option HeaderData). located_after live y [] n (own offset u ++ of_end v ∷ [])) same
              ∙ ap (located_after live y [] n) (own_end offset u)
              ∙ located_of_unit live y dialect n offset u
              ∙ sym (or_none (located_in dialect live offset u y)));
        } where
          here : before ≡ own offset u
          here = sym (append-nil before) ∙ sym is

          same : h ≡ header_of dialect u
          same = end_same h (header_of dialect u) cc
        now (y ∷ x) is ends =
            absurd (true≢false (sym (any_mid before h x)
            ∙ ap (list_any is_end) (ap (λ (v : Visit). before ++ v ∷ x) first
            ∙ sym is) ∙ none_own offset u)) where
              first : of_end h ≡ y
              first = cc

        by : ((x : List Visit) → rest_of offset u units tail ≡ x ++ of_end h ∷ more
            → SplitsAt (offset + length u) (next_offset n offset u) units x h)
            → ((x : List Visit) × (before ≡ own offset u ++ of_end (header_of dialect u) ∷ x)
            × ((rest_of offset u units tail) ≡ x ++ of_end h ∷ more))
            ⊎ ((x : List Visit) × (own offset u ≡ before ++ x)
            × (of_end h ∷ more ≡ x ++ of_end (header_of dialect u) ∷ (rest_of offset u units tail)))
            → SplitsAt offset n (u ∷ units) before h
        by others (inl (x, is, ends)) = later x is (others x ends)
        by others (inr (x, is, ends)) = now x is ends

  -- of a section
  pub splits_section : (n : ℕ) (units : List (List ℕ)) (b : List ℕ) (before : List Visit) (h : Option HeaderData)
      (more : List Visit) → section_visits dialect units b ≡ before ++ of_end h ∷ more → SplitsAt 0 n units before h
  splits_section n units b before h more e =
      splits 0 n units (visits dialect (length (concat units)) b) before h more
      (none_visits_of dialect (length (concat units)) b) e
