-- How much a maker keeps of what it is told, and for how much memory was refused.
use Rattle.std.proofs.Common.{◌≡◌, ℕ, ◌+◌, ◌≤◌, Bool, true, false, List, [], ◌∷◌, ◌++◌, length, Option, Some, None}
use Rattle.std.proofs.Common.{arith, refl, sym, ap, ap₂, ◌∙◌, ◌*◌, subst}
use Rattle.std.specs.Option.{option_copied, option_map_or}
use Rattle.dl_field.specs.HeaderData.{HeaderData, header_cells}
use Rattle.dl_memory.specs.Refusals.{IsRefused}
use Rattle.dl_print.specs.ValueText.{strings_of}
use Rattle.dl_path.specs.Paths.{beside_table, has_directory_0}
use Rattle.dl_path.specs.TextRoom.{text_room}
use Rattle.dl_dirs.specs.Compilation.{directory_by}
use Rattle.dl_sections.specs.Copying.{row_count}
use Rattle.dl_sections.specs.Section.{Visit, of_end}
use Rattle.dl_sections.specs.Visiting.{header_told}
use Rattle.dl_sections.proofs.RowCounts.{row_count-append}
use Rattle.dl_stretch.specs.Kept.{kept_count, whole_count}
use Rattle.dl_stretch.proofs.StretchCounts.{begun_within}
use Rattle.dl_pack.specs.declared.names.Names.{Names}
use Rattle.dl_pack.specs.Shown.{named_files, texts_of}
use Rattle.dl_making.specs.declared.files.UnitFiles.{UnitFiles}
use Rattle.dl_making.specs.declared.maker.Maker.{Maker}
use Rattle.dl_making.specs.Few.{AddsFew, AreFew, TextsWithin, cells_told, path_text, unit_text}
use Rattle.dl_making.specs.Making.{EndsUnit, KeepsFew, Making, RefusesAfter, end_room, text_in_unit}
use Rattle.dl_making.specs.Room.{DirectoriesWithin, longest_text, making_room}
use Rattle.dl_making.proofs.FewLemmas.{adds_less, beside_few}
use Rattle.dl_making.proofs.RoomLemmas.{room_for_few}
use Rattle.dl_making.proofs.VisitCounts.{few_front, header_counted}

-- memory that was refused after some visits was so after more
pub refuses_later : {M : Type 0} (refuses : M → ℕ → Type 0) (first : Maker M) (visits more : List Visit)
    → RefusesAfter refuses first visits → RefusesAfter refuses first (visits ++ more)
refuses_later refuses first visits more (n, refused, within) =
    (n, refused, λ directory bytes d few. within directory bytes d (few_front bytes visits more few))

module _ {M : Type 0} (first old new : Maker M) (visits more : List Visit) where
  -- no file comes
  pub keeps_on : new.names ≡ old.names → kept_count new.runs ≤ kept_count old.runs + row_count more
      → whole_count new.runs ≡ whole_count old.runs → KeepsFew first old visits → KeepsFew first new (visits ++ more)
  keeps_on names kept whole few = record {
    kept = omega (arith, kept, few.kept, row_count-append visits more);
    files = omega (arith, whole, few.files, ap (λ ns. length (named_files ns)) names);
    texts = omega (arith, whole, few.texts, ap (λ ns. length (texts_of ns)) names);
    each = λ directory bytes d within. subst
        (λ ns. TextsWithin (longest_text (strings_of first.strings.now) directory bytes) (texts_of ns)) (sym names)
        (few.each directory bytes d (few_front bytes visits more within));
  }

module _ {M : Type 0} {refuses : M → ℕ → Type 0} (first old : Maker M) (start held : Option (List ℕ)) (visits : List Visit)
    (s : Making refuses first old start held visits) where
  -- the first refusal is the one that counts
  refuses_now : (n : ℕ) → refuses old.memory.now n
      → (KeepsFew first old visits → (directory bytes : ℕ) → DirectoriesWithin directory first.directories
      → AreFew bytes visits → n ≤ making_room (strings_of first.strings.now) directory bytes)
      → RefusesAfter refuses first visits
  refuses_now n refused within = by old.is_refused refl where
    by : (b : Bool) → old.is_refused ≡ b → RefusesAfter refuses first visits
    by true e = s.refused e
    by false e = (n, subst (λ memory. refuses memory n) s.same.memory refused, within (s.few e))

  -- for the run of one more row
  pub row_wants : IsRefused (refuses old.memory.now) (kept_count old.runs + 1) → RefusesAfter refuses first visits
  row_wants (n, le, refused) =
      refuses_now n refused (λ few directory bytes d within. room_for_few (strings_of first.strings.now) directory bytes n
      (omega (arith, le, few.kept, within.rows)))

  module _ (h : Option HeaderData) (told : header_told None visits ≡ h) where
    cells_few : option_map_or header_cells h 0 ≤ cells_told visits
    cells_few = by h told where
      by : (o : Option HeaderData) → header_told None visits ≡ o → option_map_or header_cells o 0 ≤ cells_told visits
      by None e = omega arith
      by (Some g) e = omega (arith, header_counted None visits g e)

    -- no text of a path of the unit is longer than those of the section
    unit_few : (directory bytes : ℕ) → DirectoriesWithin directory first.directories → AreFew bytes visits
        → text_in_unit old h ≤ longest_text (strings_of first.strings.now) directory bytes
    unit_few directory bytes d within =
        rw (s.same.directories, s.same.strings) (omega (
          arith,
          beside_few (has_directory_0 h) (directory_by first.directories old.unit),
          d old.unit,
          cells_few,
          within.cells,
        ))

    -- for the files of the unit
    pub end_wants : IsRefused (refuses old.memory.now) (end_room old h) → RefusesAfter refuses first visits
    end_wants (n, le, refused) =
        refuses_now n refused (λ few directory bytes d within. room_for_few (strings_of first.strings.now) directory bytes n
        (omega (
          arith,
          le,
          unit_few directory bytes d within,
          few.kept,
          few.files,
          few.texts,
          begun_within old.runs,
          within.rows,
        )))

    -- its files, once it has ended
    pub keeps_ended : (new : Maker M) → EndsUnit old new h → KeepsFew first old visits
        → KeepsFew first new (visits ++ of_end h ∷ [])
    keeps_ended new ended few = record {
      kept = omega (arith, ended.kept, few.kept, row_count-append visits (of_end h ∷ []));
      files = omega (arith, ended.few.files_few, ended.whole, few.files);
      texts = omega (arith, ended.few.texts_few, ended.whole, few.texts);
      each = λ directory bytes d within. (let before = few_front bytes visits (of_end h ∷ []) within in
          ended.few.each (longest_text (strings_of first.strings.now) directory bytes)
          (unit_few directory bytes d before) (few.each directory bytes d before));
    }

-- what is added for the files of a unit, by the runs of a maker
pub unit_text_is : {M : Type 0} (old : Maker M) (h : Option HeaderData) (u : UnitFiles) → u.strings.now ≡ old.strings.now
    → option_copied u.directory ≡ beside_table (has_directory_0 h) (directory_by old.directories old.unit)
    → option_copied u.header ≡ h → unit_text u ≡ text_in_unit old h
unit_text_is old h u strings directory header =
    ap₂ (λ ss d. path_text d (text_room (strings_of ss) (option_copied u.header))) strings directory
    ∙ ap (λ hh. path_text (beside_table (has_directory_0 h) (directory_by old.directories old.unit))
    (text_room (strings_of old.strings.now) hh)) header

pub unit_adds : {M : Type 0} (old : Maker M) (new : Names) (h : Option HeaderData) (u : UnitFiles) (count runs : ℕ)
    → runs ≡ count → unit_text u ≡ text_in_unit old h → AddsFew (3 * runs) runs (unit_text u) old.names new
    → AddsFew (3 * count) count (text_in_unit old h) old.names new
unit_adds old new h u count runs same text few =
    adds_less old.names new (3 * runs) runs (unit_text u) (3 * count) count (text_in_unit old h) (omega (arith, same))
    (omega (arith, same)) (omega (arith, text)) few
