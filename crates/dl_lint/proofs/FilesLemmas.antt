-- What is kept of the files of a unit, one visit more.
use Rattle.std.proofs.Common.{◌≡◌, ◌∙◌, ℕ, List, [], ◌∷◌, ◌++◌, Bool, true, false, refl, sym, ap, subst, append-nil, append_assoc, Some, None}
use Rattle.std.specs.Prelude.{flat_map, if◌then◌else◌, map}
use Rattle.std.proofs.lemmas.List.Concat.{flat_map-append}
use Rattle.dl_field.specs.HeaderData.{HeaderData}
use Rattle.dl_head.specs.declared.header.HeaderLengths.{HeaderLengths}
use Rattle.dl_rows.proofs.PlaceLemmas.{after_last-push}
use Rattle.dl_rows.specs.declared.row.Row.{Row}
use Rattle.dl_rows.specs.Items.{a_byte}
use Rattle.dl_sections.specs.Copying.{offset_after as unit_offset}
use Rattle.dl_sections.specs.Section.{Visit, of_header, of_item}
use Rattle.dl_sections.specs.Visiting.{header_told}
use Rattle.dl_sections.proofs.HeadersTold.{header_told-append}
use Rattle.dl_findings.specs.Chosen.{is_chosen}
use Rattle.dl_findings.specs.declared.rule.Rule.TheVariants as rule
use Rattle.dl_findings.specs.declared.rules.Rules.{Rules}
use Rattle.dl_table_rules.specs.Keeping.{AreNamed}
use Rattle.dl_lint.specs.Before.{is_header, of_unit, row_of, rows_told}
use Rattle.dl_lint.specs.Keeping.{KnowsFiles}
use Rattle.dl_lint.specs.TableRules.{file_of, files_named}
use Rattle.dl_lint.specs.declared.unit_files.UnitFiles.{UnitFiles}

pub unit_offset-append : (n : ℕ) (a b : List Visit) → unit_offset n (a ++ b) ≡ unit_offset (unit_offset n a) b
unit_offset-append n [] b = refl
unit_offset-append n (of_header m l h ∷ a) b = unit_offset-append m a b
unit_offset-append n (v ∷ a) b = unit_offset-append n a b

pub named-push : (visits : List Visit) (v : Visit) → is_header v ≡ false
    → files_named (visits ++ v ∷ []) ≡ files_named visits ++ flat_map file_of (row_of v)
named-push visits v other =
    ap (λ (unit : List Visit). flat_map file_of (flat_map row_of unit))
    (after_last-push is_header visits v ∙ ap (λ (is : Bool). if is then [] else of_unit visits ++ v ∷ []) other)
    ∙ ap (flat_map file_of)
    (flat_map-append row_of (of_unit visits) (v ∷ []) ∙ ap (λ (l : List Row). rows_told visits ++ l) (append-nil (row_of v)))
    ∙ flat_map-append file_of (rows_told visits) (row_of v)

-- a header, of which no row has come
pub files_begin : (rules : Rules) (files : UnitFiles) (visits : List Visit) (n : ℕ) (l : HeaderLengths) (h : HeaderData)
    → files.unit ≡ n → (is_chosen rules rule.UnusedFile ≡ true → AreNamed files.named h [])
    → KnowsFiles rules files (visits ++ of_header n l h ∷ [])
files_begin rules files visits n l h at named =
    let v = of_header n l h in
    record {
      unit = at ∙ sym (unit_offset-append 0 visits (v ∷ []));
      named = λ kept g told.
          let same : Some h ≡ Some g = sym (header_told-append None visits (v ∷ [])) ∙ told in
          let e : h ≡ g = cc in
          subst (λ (k : HeaderData). AreNamed files.named k (files_named (visits ++ v ∷ []))) e
          (subst (AreNamed files.named h)
          (sym (ap (λ (unit : List Visit). flat_map file_of (flat_map row_of unit)) (after_last-push is_header visits v)))
          (named kept));
    }

module _ (rules : Rules) (visits : List Visit) (v : Visit) (other : is_header v ≡ false)
    (stays : (n : ℕ) → unit_offset n (v ∷ []) ≡ n)
    (header : (h : HeaderData) → header_told (header_told None visits) (v ∷ []) ≡ Some h → header_told None visits ≡ Some h) where
  pub files_more : (old new : UnitFiles) (more : List ℕ) → new.unit ≡ old.unit → flat_map file_of (row_of v) ≡ more
      → ((h : HeaderData) → AreNamed old.named h (files_named visits) → AreNamed new.named h (files_named visits ++ more))
      → KnowsFiles rules old visits → KnowsFiles rules new (visits ++ v ∷ [])
  files_more old new more same is names knows = record {
    unit = same ∙ knows.unit ∙ sym (unit_offset-append 0 visits (v ∷ []) ∙ stays (unit_offset 0 visits));
    named = λ kept h told. subst (AreNamed new.named h)
        (sym (named-push visits v other ∙ ap (λ (l : List ℕ). files_named visits ++ l) is))
        (names h (knows.named kept h (header h (sym (header_told-append None visits (v ∷ [])) ∙ told))));
  }

  -- no row
  pub files_quiet : (files : UnitFiles) → row_of v ≡ [] → KnowsFiles rules files visits → KnowsFiles rules files (visits ++ v ∷ [])
  files_quiet files none knows =
      files_more files files [] refl (ap (flat_map file_of) none)
      (λ h named. subst (AreNamed files.named h) (sym (append-nil (files_named visits))) named) knows

-- bytes
pub files_bytes : (rules : Rules) (files : UnitFiles) (visits : List Visit) (bytes : List ℕ) → KnowsFiles rules files visits
    → KnowsFiles rules files (visits ++ map of_item (map a_byte bytes))
files_bytes rules files visits [] knows = subst (KnowsFiles rules files) (sym (append-nil visits)) knows
files_bytes rules files visits (b ∷ bytes) knows =
    subst (KnowsFiles rules files) (append_assoc visits (of_item (a_byte b) ∷ []) (map of_item (map a_byte bytes)))
    (files_bytes rules files (visits ++ of_item (a_byte b) ∷ []) bytes
    (files_quiet rules visits (of_item (a_byte b)) refl (λ n. refl) (λ h e. e) files refl knows))
