-- Source files that are written into rooms one after the other.
use Rattle.std.proofs.Common.{◌≡◌, ◌⊎◌, inl, inr, ℕ, ◌≤◌, List, [], ◌∷◌, ◌++◌, length, map, Some, None}
use Rattle.std.proofs.Common.{refl, sym, ap, ap₂, ◌∙◌, append_assoc, append-nil}
use Rattle.std.specs.Global.{Vec}
use Rattle.std.proofs.lemmas.Grind.{flat_map-append}
use Rattle.std.proofs.lemmas.List.{map-append, nil_from_length}
use Rattle.dl_buffers.specs.UnitCalls.{written_over}
use Rattle.dl_buffers.proofs.RoomLemmas.{over_full, over_none}
use Rattle.dl_sources.specs.declared.table.PathTotals.{PathTotals}
use Rattle.dl_sources.specs.Report.{lines_told}
use Rattle.dl_sources.specs.SourceFiles.{SourceFile, file_seen}
use Rattle.dl_source_buffers.specs.declared.source_files.SourceRecord.{SourceRecord}
use Rattle.dl_source_buffers.specs.SourceCalls.{Rooms, count_told, file_records, paths_text, records_after, rooms, source_record}
use Rattle.dl_source_buffers.specs.SourceCalls.{source_records, with_files}
use Rattle.dl_source_buffers.specs.SourceRooms.{with_sum}

-- ---- a room

-- no more items than there is room for, or none more
pub over_still : {A : Type 0} (old new more : List A) → (length old ≤ length new) ⊎ (length more ≡ 0)
    → written_over old new ≡ written_over old (new ++ more)
over_still old new more (inl full) = over_full old new more full
over_still {A} old new more (inr none) =
    ap (written_over old) (sym (ap (λ (l : List A). new ++ l) (nil_from_length more none) ∙ append-nil new))

-- ---- the sums of one file

sums_same : (begin : ℕ) (f : SourceFile) (sums : List (List ℕ))
    → map (source_record begin f) (map (λ w. Some w) sums) ≡ map (with_sum (source_record begin f None)) sums
sums_same begin f [] = refl
sums_same begin f (sum ∷ sums) =
    ap (λ (l : List SourceRecord). source_record begin f (Some sum) ∷ l) (sums_same begin f sums)

lines_of_some : (sums : List (List ℕ)) → (length sums ≡ 0 → ⊥) → lines_told sums ≡ map (λ w. Some w) sums
lines_of_some [] some = absurd (some refl)
lines_of_some (sum ∷ sums) some = refl

pub records_of_some : (begin : ℕ) (f : SourceFile) → (length f.totals.sums ≡ 0 → ⊥)
    → file_records begin f ≡ map (with_sum (source_record begin f None)) f.totals.sums
records_of_some begin f some =
    ap (map (source_record begin f)) (lines_of_some f.totals.sums some) ∙ sums_same begin f f.totals.sums

pub records_of_none : (begin : ℕ) (f : SourceFile) → length f.totals.sums ≡ 0
    → file_records begin f ≡ source_record begin f None ∷ []
records_of_none begin f none =
    ap (λ (sums : List (List ℕ)). map (source_record begin f) (lines_told sums)) (nil_from_length f.totals.sums none)

-- the sums so far are written
pub record Summed (r : SourceRecord) (keys rest : List (List ℕ)) (old now : List SourceRecord) (at number : ℕ) : Type 0 where
  pub front : List (List ℕ)
  pub cut : keys ≡ front ++ rest
  pub written : (first items : List SourceRecord) → old ≡ written_over first items → at ≡ count_told items
      → now ≡ written_over first (items ++ map (with_sum r) front)
  pub count : (items : List SourceRecord) → at ≡ count_told items → number ≡ count_told (items ++ map (with_sum r) front)

pub summed_none : (r : SourceRecord) (keys rest : List (List ℕ)) (old : List SourceRecord) (at : ℕ) → rest ≡ keys
    → Summed r keys rest old old at at
summed_none r keys rest old at all = record {
  front = [];
  cut = sym all;
  written = λ first items is told. is ∙ ap (written_over first) (sym (append-nil items));
  count = λ items told. told ∙ ap count_told (sym (append-nil items));
}

module _ (r : SourceRecord) (keys rest : List (List ℕ)) (old now : List SourceRecord) (at number : ℕ)
    (s : Summed r keys rest old now at number) where
  module _ (sum : List ℕ) (rest' : List (List ℕ)) (is : rest ≡ sum ∷ rest') (after : List SourceRecord) (count : ℕ)
      (told : List SourceRecord) (one : told ≡ with_sum r sum ∷ [])
      (writes : (first items : List SourceRecord) → now ≡ written_over first items → number ≡ count_told items
      → after ≡ written_over first (items ++ told))
      (counts : (items : List SourceRecord) → number ≡ count_told items → count ≡ count_told (items ++ told)) where
    longer : (items : List SourceRecord)
        → (items ++ map (with_sum r) s.front) ++ told ≡ items ++ map (with_sum r) (s.front ++ sum ∷ [])
    longer items =
        append_assoc items (map (with_sum r) s.front) told
        ∙ ap (λ (l : List SourceRecord). items ++ (map (with_sum r) s.front ++ l)) one
        ∙ ap (λ (l : List SourceRecord). items ++ l) (sym (map-append (with_sum r) s.front (sum ∷ [])))

    pub summed_more : Summed r keys rest' old after at count
    summed_more = record {
      front = s.front ++ sum ∷ [];
      cut = s.cut ∙ ap (λ (l : List (List ℕ)). s.front ++ l) is ∙ sym (append_assoc s.front (sum ∷ []) rest');
      written = λ first items over begins.
          writes first (items ++ map (with_sum r) s.front) (s.written first items over begins) (s.count items begins)
          ∙ ap (written_over first) (longer items);
      count = λ items begins.
          counts (items ++ map (with_sum r) s.front) (s.count items begins) ∙ ap count_told (longer items);
    }

  module _ (is : rest ≡ []) where
    all_sums : s.front ≡ keys
    all_sums = sym (s.cut ∙ ap (λ (l : List (List ℕ)). s.front ++ l) is ∙ append-nil s.front)

    pub summed_all : (first items : List SourceRecord) → old ≡ written_over first items → at ≡ count_told items
        → now ≡ written_over first (items ++ map (with_sum r) keys)
    summed_all first items over begins =
        s.written first items over begins
        ∙ ap (λ (l : List (List ℕ)). written_over first (items ++ map (with_sum r) l)) all_sums

    pub counted_all : (items : List SourceRecord) → at ≡ count_told items → number ≡ count_told (items ++ map (with_sum r) keys)
    counted_all items begins =
        s.count items begins ∙ ap (λ (l : List (List ℕ)). count_told (items ++ map (with_sum r) l)) all_sums

-- ---- files one after the other

-- one file more
pub records_push : (paths : List ℕ) (files : List SourceFile) (f : SourceFile)
    → records_after paths (files ++ f ∷ [])
    ≡ records_after paths files ++ file_records (count_told (paths ++ paths_text files)) f
records_push paths [] f =
    append-nil (file_records (count_told paths) f)
    ∙ ap (λ (p : List ℕ). file_records (count_told p) f) (sym (append-nil paths))
records_push paths (g ∷ files) f =
    let here = file_records (count_told paths) g in
    let later = records_after (paths ++ g.path) files in
    ap (λ (l : List SourceRecord). here ++ l) (records_push (paths ++ g.path) files f
    ∙ ap (λ (p : List ℕ). later ++ file_records (count_told p) f) (append_assoc paths g.path (paths_text files)))
    ∙ sym (append_assoc here later (file_records (count_told (paths ++ (g.path ++ paths_text files))) f))

pub paths_push : (files : List SourceFile) (f : SourceFile) → paths_text (files ++ f ∷ []) ≡ paths_text files ++ f.path
paths_push files f =
    flat_map-append (λ (g : SourceFile). g.path) files (f ∷ [])
    ∙ ap (λ (l : List ℕ). paths_text files ++ l) (append-nil f.path)

abbrev pub Entry : Type 0
Entry = Vec ℕ × PathTotals

-- the entries so far are written
pub record Written (entries rest : List Entry) (sources now : List SourceRecord) (number : ℕ) (paths held : List ℕ) (len : ℕ)
    : Type 0 where
  pub front : List Entry
  pub cut : entries ≡ front ++ rest
  pub sources_are : now ≡ written_over sources (source_records (map file_seen front))
  pub number_is : number ≡ count_told (source_records (map file_seen front))
  pub paths_are : held ≡ written_over paths (paths_text (map file_seen front))
  pub len_is : len ≡ count_told (paths_text (map file_seen front))

pub written_none : (entries rest : List Entry) (sources : List SourceRecord) (paths : List ℕ) → rest ≡ entries
    → Written entries rest sources sources 0 paths paths 0
written_none entries rest sources paths all = record {
  front = [];
  cut = sym all;
  sources_are = over_none sources;
  number_is = refl;
  paths_are = over_none paths;
  len_is = refl;
}

module _ (entries rest : List Entry) (sources now : List SourceRecord) (number : ℕ) (paths held : List ℕ) (len : ℕ)
    (w : Written entries rest sources now number paths held len) where
  module _ (e : Entry) (rest' : List Entry) (is : rest ≡ e ∷ rest') (after : List SourceRecord) (count : ℕ) (text : List ℕ)
      (end : ℕ)
      (writes : (first items : List SourceRecord) → now ≡ written_over first items → number ≡ count_told items
      → after ≡ written_over first (items ++ file_records len (file_seen e)))
      (counts : (items : List SourceRecord) → number ≡ count_told items
      → count ≡ count_told (items ++ file_records len (file_seen e)))
      (joins : (first before : List ℕ) → held ≡ written_over first before → len ≡ count_told before
      → text ≡ written_over first (before ++ e.0.items))
      (ends : (before : List ℕ) → len ≡ count_told before → end ≡ count_told (before ++ e.0.items)) where
    abbrev files : List SourceFile
    files = map file_seen w.front

    more : map file_seen (w.front ++ e ∷ []) ≡ files ++ file_seen e ∷ []
    more = map-append file_seen w.front (e ∷ [])

    records_more : source_records files ++ file_records len (file_seen e)
        ≡ source_records (map file_seen (w.front ++ e ∷ []))
    records_more =
        ap (λ (n : ℕ). source_records files ++ file_records n (file_seen e)) w.len_is
        ∙ sym (ap source_records more ∙ records_push [] files (file_seen e))

    paths_more : paths_text files ++ e.0.items ≡ paths_text (map file_seen (w.front ++ e ∷ []))
    paths_more = sym (ap paths_text more ∙ paths_push files (file_seen e))

    pub written_more : Written entries rest' sources after count paths text end
    written_more = record {
      front = w.front ++ e ∷ [];
      cut = w.cut ∙ ap (λ (l : List Entry). w.front ++ l) is ∙ sym (append_assoc w.front (e ∷ []) rest');
      sources_are = writes sources (source_records files) w.sources_are w.number_is ∙ ap (written_over sources) records_more;
      number_is = counts (source_records files) w.number_is ∙ ap count_told records_more;
      paths_are = joins paths (paths_text files) w.paths_are w.len_is ∙ ap (written_over paths) paths_more;
      len_is = ends (paths_text files) w.len_is ∙ ap count_told paths_more;
    }

  -- all of them
  module _ (is : rest ≡ []) where
    all_files : map file_seen w.front ≡ map file_seen entries
    all_files = ap (map file_seen) (sym (w.cut ∙ ap (λ (l : List Entry). w.front ++ l) is ∙ append-nil w.front))

    pub all_sources : now ≡ written_over sources (source_records (map file_seen entries))
    all_sources = w.sources_are ∙ ap (λ (l : List SourceFile). written_over sources (source_records l)) all_files

    pub all_counted : number ≡ count_told (source_records (map file_seen entries))
    all_counted = w.number_is ∙ ap (λ (l : List SourceFile). count_told (source_records l)) all_files

    pub all_paths : held ≡ written_over paths (paths_text (map file_seen entries))
    all_paths = w.paths_are ∙ ap (λ (l : List SourceFile). written_over paths (paths_text l)) all_files

    pub all_joined : len ≡ count_told (paths_text (map file_seen entries))
    all_joined = w.len_is ∙ ap (λ (l : List SourceFile). count_told (paths_text l)) all_files

pub rooms_are : (r : Rooms) (files : List SourceFile) (sources : List SourceRecord) (count : ℕ) (paths : List ℕ) (paths_len : ℕ)
    → sources ≡ written_over r.sources (source_records files) → count ≡ count_told (source_records files)
    → paths ≡ written_over r.paths (paths_text files) → paths_len ≡ count_told (paths_text files)
    → rooms sources count paths paths_len ≡ with_files r files
rooms_are r files sources count paths paths_len sources_are count_is paths_are len_is =
    ap₂ (λ (a : List SourceRecord) (b : ℕ). rooms a b paths paths_len) sources_are count_is
    ∙ ap₂ (λ (a : List ℕ) (b : ℕ). rooms (written_over r.sources (source_records files)) (count_told (source_records files)) a b)
    paths_are len_is
