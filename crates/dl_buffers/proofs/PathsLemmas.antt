-- The paths of many files of the unit that bytes begin with.
use Rattle.std.proofs.Common.{◌≡◌, ◌<◌, ℕ, suc, ◌+◌, ◌-◌, ◌^◌, List, [], ◌∷◌, ◌++◌, length, map, take, min, Option}
use Rattle.std.proofs.Common.{arith, refl, ap, ◌∙◌, length-append, append-nil, get_or, length-take}
use Rattle.std.specs.List.{concat}
use Rattle.std.proofs.lemmas.List.{length-map, map-append, take_more}
use Rattle.std.proofs.lemmas.List.Folds.{concat-append}
use Rattle.dl_head.specs.declared.dialect.Dialect.{Dialect}
use Rattle.dl_field.specs.HeaderData.{HeaderData}
use Rattle.dl_head.specs.Header.{foreign_in}
use Rattle.dl_print.specs.ValueText.{Strings}
use Rattle.dl_sections.specs.Section.{header_of}
use Rattle.dl_buffers.specs.declared.record.FaultRecord.{FaultRecord}
use Rattle.dl_buffers.specs.declared.status.Status.{Status}
use Rattle.dl_buffers.specs.declared.status.Status.TheVariants as status
use Rattle.dl_buffers.specs.PathsCalls.{NamesAll, TellsPaths, ends_from, path_told, paths_of}
use Rattle.dl_buffers.specs.UnitCalls.{BeginsWith, length_told}

module _ (dialect : Dialect) (t : List ℕ) (offset : ℕ) (s : Strings) (files p q m n : List ℕ) (f : FaultRecord)
    (u : List ℕ) (begins : BeginsWith dialect t u) where
  -- the unit is whole
  pub named_all : (end : Status)
      → NamesAll (foreign_in dialect u) (paths_of s (header_of dialect u) files) p q m n end
      → TellsPaths dialect t offset s files p q m n f f end
  named_all status.Done names = (u, begins, names, refl)
  named_all status.NoRoom names = (u, begins, names, refl)
  named_all status.OtherVersion names = (u, begins, names, refl)
  named_all status.Fault names = absurd names
  named_all status.NoAnswer names = absurd names
  named_all status.NoMemory names = absurd names

-- ---- one more text

pub length-ends : (before : ℕ) (texts : List (List ℕ)) → length (ends_from before texts) ≡ length texts
length-ends before [] = refl
length-ends before (text ∷ texts) =
    ap suc (length-ends (before + length text) texts)

ends_push : (before : ℕ) (texts : List (List ℕ)) (text : List ℕ)
    → ends_from before (texts ++ text ∷ [])
    ≡ ends_from before texts ++ min (before + length (concat texts ++ text)) (2 ^ 64 - 1) ∷ []
ends_push before [] text = refl
ends_push before (first ∷ texts) text =
    ap (λ (l : List ℕ). min (before + length first) (2 ^ 64 - 1) ∷ l)
    (ends_push (before + length first) texts text
    ∙ ap (λ (n : ℕ). ends_from (before + length first) texts ++ min n (2 ^ 64 - 1) ∷ [])
    (omega (
      arith,
      length-append (concat texts) text,
      length-append (first ++ concat texts) text,
      length-append first (concat texts),
    )))

pub ends_more : (texts : List (List ℕ)) (text : List ℕ)
    → ends_from 0 (texts ++ text ∷ []) ≡ ends_from 0 texts ++ length_told (concat texts ++ text) ∷ []
ends_more texts text =
    let none : 0 + length (concat texts ++ text) ≡ length (concat texts ++ text) = omega arith in
    ends_push 0 texts text ∙ ap (λ (n : ℕ). ends_from 0 texts ++ min n (2 ^ 64 - 1) ∷ []) none

module _ (s : Strings) (header : Option HeaderData) (files : List ℕ) (i : ℕ) (within : i < length files) where
  pub paths_more : paths_of s header (take (i + 1) files)
      ≡ paths_of s header (take i files) ++ path_told s header (get_or files i 0) ∷ []
  paths_more =
      ap (map (path_told s header)) (take_more files i 0 within)
      ∙ map-append (path_told s header) (take i files) (get_or files i 0 ∷ [])

  pub length-paths : length (paths_of s header (take i files)) ≡ i
  length-paths = length-map (take i files) (path_told s header) ∙ omega (arith, within, length-take i files)

-- the texts and one more, one after the other
pub concat_more : (texts : List (List ℕ)) (text : List ℕ) → concat (texts ++ text ∷ []) ≡ concat texts ++ text
concat_more texts text =
    concat-append texts (text ∷ []) ∙ ap (λ (l : List ℕ). concat texts ++ l) (append-nil text)
