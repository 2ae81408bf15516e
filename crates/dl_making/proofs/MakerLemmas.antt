-- What a maker keeps of what it is told.
use Rattle.std.proofs.Common.{◌≡◌, ℕ, ◌+◌, ◌*◌, ◌<◌, ◌≤◌, ◌^◌, arith, Bool, true, false, List, [], ◌∷◌, ◌++◌, length, map, Option, Some, None}
use Rattle.std.proofs.Common.{refl, sym, ap, ap₂, ◌∙◌, subst}
use Rattle.std.specs.Prelude.{slice_get, unwrap_or}
use Rattle.std.specs.List.{Contains}
use Rattle.std.specs.Option.{option_map, option_or, option_copied}
use Rattle.std.specs.Io.KnownBytes.{Appends}
use Rattle.std.proofs.lemmas.List.Elements.{All-nil}
use Rattle.dl_field.specs.HeaderData.{HeaderData}
use Rattle.dl_rows.specs.declared.row.Row.{Row}
use Rattle.dl_rows.specs.declared.sink.Flow.{Flow}
use Rattle.dl_rows.specs.declared.sink.Flow.TheVariants as flow
use Rattle.dl_look.specs.declared.place.Place.{Place}
use Rattle.dl_look.specs.LiveRows.{live_answer}
use Rattle.dl_look.proofs.LiveLemmas.{of_live_rows}
use Rattle.dl_print.specs.ValueText.{strings_of}
use Rattle.dl_path.specs.Paths.{beside_table, has_directory_0}
use Rattle.dl_dirs.specs.Compilation.{directory_by}
use Rattle.dl_sections.specs.declared.fault.RunFault.TheVariants as fault
use Rattle.dl_sections.specs.Copying.{offset_after, row_count}
use Rattle.dl_sections.specs.RowsTold.{rows_after}
use Rattle.dl_sections.specs.Section.{Visit, of_end, of_damage}
use Rattle.dl_sections.specs.declared.around.Damage.{Damage}
use Rattle.dl_sections.specs.GoingOn.{IsTold}
use Rattle.dl_sections.specs.Visiting.{GoesOn, StopsIn, header_told}
use Rattle.dl_sections.proofs.VisitLemmas.{rows_after-append}
use Rattle.dl_sections.proofs.Fronts.{or_none}
use Rattle.dl_addr.specs.Locating.{located_after, located_under}
use Rattle.dl_addr.specs.Locations.{Located}
use Rattle.dl_addr.proofs.LocatedLemmas.{located_after-append, offset_after-append}
use Rattle.dl_index.specs.Stretches as index
use Rattle.dl_stretch.specs.declared.told.Told.{Told}
use Rattle.dl_stretch.specs.Kept.{kept_count, unit_count, whole_count}
use Rattle.dl_stretch.specs.Runs.{place_at}
use Rattle.dl_stretch.specs.Runs as runs
use Rattle.dl_stretch.specs.Stands.{Stands}
use Rattle.dl_stretch.specs.declared.run.Run.{Run}
use Rattle.dl_stretch.specs.Runs.{number_in, held_in}
use Rattle.dl_stretch.specs.Held.{AreHeld, held}
use Rattle.dl_stretch.proofs.HeldLemmas.{held_as_given}
use Rattle.dl_stretch.specs.ToldUnits.{NameFiles, UnitRows, file_of, told_of_units}
use Rattle.dl_stretch.proofs.UnitLemmas.{told_of_units-push}
use Rattle.dl_pack.specs.Named.{Named, Grows, Once}
use Rattle.dl_pack.specs.Shown.{named_files, texts_of}
use Rattle.dl_pack.specs.Telling.{named_told, told_as}
use Rattle.dl_making.specs.declared.files.UnitFiles.{UnitFiles}
use Rattle.dl_making.specs.declared.maker.Maker.{Maker}
use Rattle.dl_making.specs.Few.{AddsFew, TextsWithin}
use Rattle.dl_making.specs.Making.{IsSame, Making, EndsUnit, RefusesAfter, code_of, file_named}
use Rattle.dl_making.specs.Making.{making_story, text_in_unit, told_after}
use Rattle.dl_making.specs.Room.{longest_text}
use Rattle.dl_making.specs.Telling.{told_of}
use Rattle.dl_making.specs.UnitFile.{file_in}
use Rattle.dl_making.proofs.KeepLemmas.{keeps_ended, keeps_on, refuses_later}
use Rattle.dl_making.proofs.NumberLemmas.{still_there}

-- ---- visits that end no unit

-- what one more visit tells
told_more : {M : Type 0} (first : Maker M) (visits more : List Visit) (a : ℕ)
    → located_after (code_of first) (place_at a) (rows_after [] visits) (offset_after first.unit visits) more ≡ None
    → told_after first (visits ++ more) a ≡ told_after first visits a
told_more first visits more a none =
    ap (option_map (told_of (strings_of first.strings.now) (directory_by first.directories)))
    (located_after-append (code_of first) (place_at a) [] first.unit visits more
    ∙ ap (option_or (located_after (code_of first) (place_at a) [] first.unit visits)) none
    ∙ or_none (located_after (code_of first) (place_at a) [] first.unit visits))

module _ {M : Type 0} {refuses : M → ℕ → Type 0} (first old new : Maker M) (start held : Option (List ℕ)) (visits more : List Visit)
    (s : Making refuses first old start held visits) where
  -- it goes on with visits that end no unit
  pub goes_on : ((rows : List Row) (n : ℕ) (x : Place) → located_after (code_of first) x rows n more ≡ None)
      → IsSame old new → new.unit ≡ offset_after old.unit more → new.is_refused ≡ old.is_refused → new.names ≡ old.names
      → kept_count new.runs ≤ kept_count old.runs + row_count more → whole_count new.runs ≡ whole_count old.runs
      → ((units : List UnitRows) → old.is_refused ≡ false → Stands (code_of first) old.runs units (rows_after [] visits)
      → Stands (code_of first) new.runs units (rows_after [] (visits ++ more)))
      → Making refuses first new start held (visits ++ more)
  goes_on none same unit refused names kept whole stands = record {
    same = record {
      memory = same.memory ∙ s.same.memory;
      code = same.code ∙ s.same.code;
      directories = same.directories ∙ s.same.directories;
      strings = same.strings ∙ s.same.strings;
    };
    unit = unit ∙ ap (λ n. offset_after n more) s.unit ∙ sym (offset_after-append first.unit visits more);
    tells = λ e. (let t = s.tells (sym refused ∙ e) in record {
      units = t.units;
      stands = stands t.units (sym refused ∙ e) t.stands;
      tells = λ a lt. ap (λ ns. option_map (named_told (named_files ns)) (told_of_units (code_of first) t.units a)) names
          ∙ t.tells a lt
          ∙ ap (option_map Some) (sym (told_more first visits more a (none (rows_after [] visits) (offset_after first.unit visits) (place_at a))));
      once = subst (λ ns. Once (named_files ns)) (sym names) t.once;
    });
    few = λ e. keeps_on first old new visits more names kept whole (s.few (sym refused ∙ e));
    refused = λ e. refuses_later refuses first visits more (s.refused (sym refused ∙ e));
    nothing = s.nothing;
  }

-- it stops at a visit, for want of memory
pub stops : {M : Type 0} (refuses : M → ℕ → Type 0) (first old new : Maker M) (start held : Option (List ℕ)) (visits : List Visit)
    (visit : Visit) → Making refuses first old start held visits → IsSame old new → new.unit ≡ old.unit
    → new.is_refused ≡ true → RefusesAfter refuses first visits
    → StopsIn (making_story refuses) first new start held visits (visit ∷ []) fault.NoMemory
stops refuses first old new start held visits visit s same unit refused wanted = (
  visit ∷ [],
  [],
  refl,
  (
    visits,
    visit,
    refl,
    record {
      same = record {
        memory = same.memory ∙ s.same.memory;
        code = same.code ∙ s.same.code;
        directories = same.directories ∙ s.same.directories;
        strings = same.strings ∙ s.same.strings;
      };
      unit = unit ∙ s.unit;
      tells = λ e. absurd (Rattle.std.proofs.Common.true≢false (sym refused ∙ e));
      few = λ e. absurd (Rattle.std.proofs.Common.true≢false (sym refused ∙ e));
      refused = λ e. wanted;
      nothing = s.nothing;
    },
    record { is = refl; refused = refuses_later refuses first visits (visit ∷ []) wanted },
  ),
)

-- ---- the end of a unit

some_same : {A : Type 0} (a b : A) → Some a ≡ Some b → a ≡ b
some_same a b is = ap (λ o. unwrap_or o a) is

none_some : {A : Type 0} (a : A) → None ≡ Some a → ⊥
none_some a is = cc

-- what is told of a file stays as more files come
named_grown : (old new : List Named) (t : Told) (u : index.Told) → Grows old new → named_told old t ≡ Some u
    → named_told new t ≡ Some u
named_grown old new t u grows is = by (slice_get old t.file) refl is where
  by : (o : Option Named) → slice_get old t.file ≡ o → option_map (told_as t) o ≡ Some u → named_told new t ≡ Some u
  by None at e = absurd (none_some u e)
  by (Some f) at e = ap (option_map (told_as t)) (still_there old new t.file f grows at) ∙ e

-- told: by the units before; then the row that answers in the unit that ends
module _ (old new : List Named) (grows : Grows old new) (number : ℕ → ℕ) (located : Row → Located) (tell : Located → index.Told)
  where
    abbrev Right : Option Row → Type 0
    Right found = (r : Row) → found ≡ Some r → named_told new (runs.told_of number r) ≡ Some (tell (located r))

    row_told : (found : Option Row) → Right found
        → option_map (named_told new) (option_map (runs.told_of number) found)
        ≡ option_map Some (option_map tell (option_map located found))
    row_told None right = refl
    row_told (Some r) right = ap Some (right r refl)

    pub end_told : (told : Option Told) (before : Option Located) (found : Option Row)
        → option_map (named_told old) told ≡ option_map Some (option_map tell before) → Right found
        → option_map (named_told new) (option_or told (option_map (runs.told_of number) found))
        ≡ option_map Some (option_map tell (option_or before (option_map located found)))
    end_told None None found is right = row_told found right
    end_told None (Some l) found is right = absurd (none_some (Some (tell l)) is)
    end_told (Some t) None found is right = absurd (none_some (named_told old t) (sym is))
    end_told (Some t) (Some l) found is right =
        ap Some (named_grown old new t (tell l) grows (some_same (named_told old t) (Some (tell l)) is))

module _ {M : Type 0} {refuses : M → ℕ → Type 0} (first old new : Maker M) (start held : Option (List ℕ)) (visits : List Visit)
    (h : Option HeaderData) (told : header_told None visits ≡ h) (s : Making refuses first old start held visits)
    (same : IsSame old new) (unit : new.unit ≡ old.unit)
    (refused : new.is_refused ≡ old.is_refused) (ended : EndsUnit old new h) where
  abbrev live : ℕ → Bool
  live = code_of first

  abbrev rows : List Row
  rows = rows_after [] visits

  abbrev offset : ℕ
  offset = offset_after first.unit visits

  abbrev located : Row → Located
  located r = record { row = r; header = h; unit = offset }

  abbrev tell : Located → index.Told
  tell = told_of (strings_of first.strings.now) (directory_by first.directories)

  file_same : (file : ℕ) → file_named old h file
      ≡ record {
        unit = offset;
        parts = Rattle.dl_path.specs.PathTexts.path_texts (strings_of first.strings.now)
            (beside_table (has_directory_0 h) (directory_by first.directories offset)) h file;
      }
  file_same file =
      ap₂ (λ ss ds. Rattle.dl_making.specs.Files.named_file (strings_of ss) (beside_table (has_directory_0 h) (directory_by ds old.unit)) h old.unit file)
      s.same.strings s.same.directories
      ∙ ap (λ n. Rattle.dl_making.specs.Files.named_file (strings_of first.strings.now) (beside_table (has_directory_0 h) (directory_by first.directories n)) h n file)
      s.unit

  right : (units : List UnitRows) → Stands live old.runs units rows → (a : ℕ) → a < 2 ^ 64
      → Right (named_files old.names) (named_files new.names) ended.grows ended.number located tell (live_answer live rows (place_at a))
  right units stands a lt r is =
      ap (option_map (told_as (runs.told_of ended.number r))) (ended.numbered live units rows stands a r lt is
      ∙ ap Some (file_same r.file))

  -- what the visits tell then
  told_then : (a : ℕ) → told_after first (visits ++ of_end h ∷ []) a
      ≡ option_map tell (option_or (located_after live (place_at a) [] first.unit visits)
      (option_map located (live_answer live rows (place_at a))))
  told_then a =
      ap (option_map tell) (located_after-append live (place_at a) [] first.unit visits (of_end h ∷ [])
      ∙ ap (option_or (located_after live (place_at a) [] first.unit visits))
      (or_none (located_under live (place_at a) rows offset h)
      ∙ ap (option_map located) (of_live_rows live rows (place_at a))))

  pub ends : Making refuses first new start held (visits ++ of_end h ∷ [])
  ends = record {
    same = record {
      memory = same.memory ∙ s.same.memory;
      code = same.code ∙ s.same.code;
      directories = same.directories ∙ s.same.directories;
      strings = same.strings ∙ s.same.strings;
    };
    unit = unit ∙ s.unit ∙ sym (offset_after-append first.unit visits (of_end h ∷ []));
    tells = λ e. (let t = s.tells (sym refused ∙ e) in record {
      units = t.units ++ record { number = ended.number; rows = rows } ∷ [];
      stands = subst (Stands live new.runs (t.units ++ record { number = ended.number; rows = rows } ∷ []))
          (sym (rows_after-append [] visits (of_end h ∷ []))) (ended.stands live t.units rows t.stands);
      tells = λ a lt. ap (option_map (named_told (named_files new.names)))
          (told_of_units-push live t.units (record { number = ended.number; rows = rows }) a)
          ∙ end_told (named_files old.names) (named_files new.names) ended.grows ended.number located tell
          (told_of_units live t.units a) (located_after live (place_at a) [] first.unit visits)
          (live_answer live rows (place_at a)) (t.tells a lt) (right t.units t.stands a lt)
          ∙ ap (option_map Some) (sym (told_then a));
      once = ended.once t.once;
    });
    few = λ e. keeps_ended first old start held visits s h told new ended (s.few (sym refused ∙ e));
    refused = λ e. refuses_later refuses first visits (of_end h ∷ []) (s.refused (sym refused ∙ e));
    nothing = s.nothing;
  }

-- ---- the beginning

pub begins : {M : Type 0} (refuses : M → ℕ → Type 0) (first : Maker M) (start : Option (List ℕ)) → first.is_refused ≡ false
    → kept_count first.runs ≡ 0 → ((live : ℕ → Bool) → Stands live first.runs [] [])
    → named_files first.names ≡ [] → texts_of first.names ≡ [] → Appends start start []
    → Making refuses first first start start []
begins refuses first start sufficed count stands none no_text nothing = record {
  same = record { memory = refl; code = refl; directories = refl; strings = refl };
  unit = refl;
  tells = λ e. record {
    units = [];
    stands = stands (code_of first);
    tells = λ a lt. refl;
    once = subst Once (sym none) (λ i j x at_i at_j. absurd (none_some x at_i));
  };
  few = λ e. record {
    kept = omega (arith, count);
    files = omega (arith, ap length none);
    texts = omega (arith, ap length no_text);
    each = λ directory bytes d within. subst
        (TextsWithin (longest_text (strings_of first.strings.now) directory bytes)) (sym no_text)
        (All-nil (λ (text : List ℕ). length text ≤ longest_text (strings_of first.strings.now) directory bytes));
  };
  refused = λ e. absurd (Rattle.std.proofs.Common.true≢false (sym e ∙ sufficed));
  nothing = nothing;
}

-- it has printed nothing
pub settles : {M : Type 0} (refuses : M → ℕ → Type 0) (first now : Maker M) (start held : Option (List ℕ)) (visits : List Visit)
    (flow : Flow) → GoesOn (making_story refuses) first now start held visits flow
    → GoesOn (making_story refuses) first now start held visits flow × Appends start held []
settles refuses first now start held visits flow.On s = (s, s.nothing)
settles refuses first now start held visits flow.Stop s = absurd s

-- the files of a unit have their numbers, and its rows count
module _ {M : Type 0} (old new : Maker M) (h : Option HeaderData) (u : UnitFiles) (runs : List Run) (numbers : List ℕ) (other : ℕ)
    (are : AreHeld numbers other) (kept : kept_count new.runs ≤ kept_count old.runs)
    (whole : whole_count new.runs ≡ whole_count old.runs + unit_count old.runs)
    (few : AddsFew (3 * unit_count old.runs) (unit_count old.runs) (text_in_unit old h) old.names new.names)
    (grows : Grows (named_files old.names) (named_files new.names))
    (once : Once (named_files old.names) → Once (named_files new.names)) where
  pub ended : ((file : ℕ) → Contains (map file_of runs) (held file)
      → slice_get (named_files new.names) (number_in numbers other file) ≡ Some (file_in u file))
      → ((live : ℕ → Bool) (units : List UnitRows) (rows : List Row) → Stands live old.runs units rows
      → NameFiles live rows runs)
      → ((file : ℕ) → file_in u file ≡ file_named old h file)
      → ((live : ℕ → Bool) (units : List UnitRows) (rows : List Row) → Stands live old.runs units rows
      → Stands live new.runs (units ++ record { number = held_in numbers other; rows = rows } ∷ []) [])
      → EndsUnit old new h
  ended numbered named same stands = record {
    kept = kept;
    whole = whole;
    few = few;
    grows = grows;
    once = once;
    number = held_in numbers other;
    stands = stands;
    numbered = λ live units rows st a r lt is. ap (slice_get (named_files new.names)) (held_as_given numbers other are r.file)
        ∙ numbered r.file (named live units rows st a r lt is) ∙ ap Some (same r.file);
  }

pub file_is : {M : Type 0} (old : Maker M) (h : Option HeaderData) (u : UnitFiles) (file : ℕ) → u.strings.now ≡ old.strings.now
    → option_copied u.directory ≡ beside_table (has_directory_0 h) (directory_by old.directories old.unit)
    → option_copied u.header ≡ h → u.offset ≡ old.unit → file_in u file ≡ file_named old h file
file_is old h u file strings directory header offset =
    ap₂ (λ ss d. Rattle.dl_making.specs.Files.named_file (strings_of ss) d (option_copied u.header) u.offset file) strings directory
    ∙ ap₂ (λ hh n. Rattle.dl_making.specs.Files.named_file (strings_of old.strings.now)
    (beside_table (has_directory_0 h) (directory_by old.directories old.unit)) hh n file) header offset

-- a damaged unit is left out
pub forgets : {M : Type 0} (refuses : M → ℕ → Type 0) (old new : Maker M) (unit : ℕ) (damage : Damage) → IsSame old new → new.unit ≡ old.unit → new.is_refused ≡ old.is_refused
    → new.names ≡ old.names → kept_count new.runs ≤ kept_count old.runs → whole_count new.runs ≡ whole_count old.runs
    → ((live : ℕ → Bool) (units : List UnitRows) (rows : List Row) → Stands live old.runs units rows
    → Stands live new.runs units [])
    → IsTold (making_story refuses) old new unit damage
forgets refuses old new begin damage same unit refused names kept whole forgot = record {
  tells = λ first start now visits s. (let more = of_damage begin damage.offset damage.kind ∷ [] in
      goes_on first old new start now visits more s (λ rows n x. refl) same unit refused names
      (omega (arith, kept)) whole
      (λ units e stands. subst (Stands (code_of first) new.runs units) (sym (rows_after-append [] visits more))
      (forgot (code_of first) units (rows_after [] visits) stands)));
  quiet = λ first visits. refl;
  reasons = λ first visits offset kind r. (let e = r.is in absurd cc);
}
