-- What the call answers that finds the source files of a section. s: the bytes of a section; keep_going: damaged units are gone
-- around; refuses: for how many items memory is refused. DWARF 5, sections 6.2.4 and 6.2.4.1.
use Rattle.std.specs.Prelude.{◌≡◌, ◌≢◌, ◌-◌, ◌^◌, ℕ, Bool, true, false, cond, List, [], ◌∷◌, ◌++◌, length, map, min, is_some}
use Rattle.std.specs.Prelude.{replicate, Option, Some, Err}
use Rattle.std.specs.Io.KnownBytes.{Consumes}
use Rattle.std.specs.List.{flat_map}
use Rattle.std.specs.Option.{unwrap_or}
use Rattle.dl_buffers.specs.declared.record.FaultRecord.{FaultRecord}
use Rattle.dl_buffers.specs.declared.status.Status.{Status}
use Rattle.dl_buffers.specs.declared.status.Status.TheVariants as status
use Rattle.dl_buffers.specs.UnitCalls.{written_over}
use Rattle.dl_dirs.specs.Compilation.{directory_by}
use Rattle.dl_head.specs.declared.dialect.Dialect.{Dialect}
use Rattle.dl_print.specs.declared.summary.Summary.{Summary}
use Rattle.dl_print.specs.ValueText.{Strings}
use Rattle.dl_sections.specs.declared.around.Survey.{Survey}
use Rattle.dl_sections.specs.declared.fault.RunFault.TheVariants as run
use Rattle.dl_sections.specs.declared.options.TheConstants.{SECTION_LIMIT}
use Rattle.dl_sources.specs.declared.finding.FoundSources.{FoundSources}
use Rattle.dl_sources.specs.declared.question.FilesQuestion.{FilesQuestion}
use Rattle.dl_sources.specs.FoundSources.{FindsSources, FindsSourcesAround}
use Rattle.dl_sources.specs.Report.{lines_told}
use Rattle.dl_sources.specs.SourceFiles.{SourceFile, files_held}
use Rattle.dl_source_buffers.specs.declared.end.End.{End}
use Rattle.dl_source_buffers.specs.declared.end.End.TheVariants as ends
use Rattle.dl_source_buffers.specs.declared.source_files.SourceRecord.{SourceRecord}
use Rattle.dl_source_buffers.specs.Ends.{end_around, end_of}

-- how many items there are, as a number of 64 bits tells it
abbrev pub count_told : {A : Type 0} → (items : List A) → ℕ
count_told items = min (length items) (2 ^ 64 - 1)

-- a source file with one of its sums, or without one, whose path begins at that byte of the paths; 0 stands where there is no sum
abbrev pub source_record : (begin : ℕ) → SourceFile → (sum : Option (List ℕ)) → SourceRecord
source_record begin f sum = record {
  path_begin = begin;
  path_len = length f.path;
  rows = f.totals.counts.rows;
  bytes = f.totals.counts.bytes;
  md5 = unwrap_or sum (replicate 16 0);
  has_md5 = cond (is_some sum) 1 0;
}

-- one for each of its sums, in the order of their bytes; one where it has none: as `sources` has lines of it
abbrev pub file_records : (begin : ℕ) → SourceFile → List SourceRecord
file_records begin f = map (source_record begin f) (lines_told f.totals.sums)

-- of files one after the other, whose paths stand behind these
abbrev pub records_after : (paths : List ℕ) → List SourceFile → List SourceRecord
records_after paths [] = []
records_after paths (f ∷ files) = file_records (count_told paths) f ++ records_after (paths ++ f.path) files

abbrev pub source_records : List SourceFile → List SourceRecord
source_records files = records_after [] files

-- their paths, one after the other
abbrev pub paths_text : List SourceFile → List ℕ
paths_text files = flat_map (λ f. f.path) files

-- all is asked for in the whole section: each sequence counts, and paths stand as the section says them
pub record AsksForAll (q : FilesQuestion) : Type 0 where
  pub code : q.code ≡ Option.None
  pub directories : (unit : ℕ) → directory_by q.directories unit ≡ Option.None

-- the source files that are found in s, and how its reading ends, as that of a reader that gives s; no read fails
abbrev pub AreFound : (refuses : ℕ → Type 0) → (keep_going : Bool) → Dialect → Strings → FilesQuestion → (s : List ℕ)
    → List SourceFile → End → Type 0
AreFound refuses false dialect strings q s files end =
    (bytes : List ℕ) × (left : Option (List ℕ)) × Consumes (Some s) left bytes × ((found : FoundSources Summary)
    × FindsSources refuses dialect strings q SECTION_LIMIT bytes left found × (found.end ≢ Err run.Read)
    × (files ≡ files_held found.table) × (end ≡ end_of found.end))
AreFound refuses true dialect strings q s files end =
    (bytes : List ℕ) × (left : Option (List ℕ)) × Consumes (Some s) left bytes × ((found : FoundSources Survey)
    × FindsSourcesAround refuses dialect strings q SECTION_LIMIT bytes left found × (found.end ≢ Err run.Read)
    × (files ≡ files_held found.table) × (end ≡ end_around found.end))

-- a room for source files and one for their paths, how many files there are and how many bytes the paths have, before a call
-- or after it
pub record Rooms : Type 0 where
  pub sources : List SourceRecord
  pub count : ℕ
  pub paths : List ℕ
  pub paths_len : ℕ

abbrev pub rooms : List SourceRecord → (count : ℕ) → (paths : List ℕ) (paths_len : ℕ) → Rooms
rooms sources count paths paths_len = record { sources = sources; count = count; paths = paths; paths_len = paths_len }

-- both rooms are written as far as they fit
abbrev pub with_files : Rooms → List SourceFile → Rooms
with_files r files =
    rooms (written_over r.sources (source_records files)) (count_told (source_records files))
    (written_over r.paths (paths_text files)) (count_told (paths_text files))

-- of rooms and a fault, r and f before the call, and t and g after it, only what the status says is written
abbrev pub TellsFiles : List SourceFile → End → (r t : Rooms) (f g : FaultRecord) → Status → Type 0
TellsFiles files end r t f g status.Done = (end ≡ ends.Whole) × (t ≡ with_files r files) × (g ≡ f)
TellsFiles files end r t f g status.Fault = (end ≡ ends.Fault g) × (t ≡ with_files r files)
TellsFiles files end r t f g status.NoMemory = (end ≡ ends.NoMemory) × (t ≡ r) × (g ≡ f)
TellsFiles files end r t f g other = ⊥

-- `sources`
abbrev pub FindsFiles : (refuses : ℕ → Type 0) → (keep_going : Bool) → Dialect → Strings → (s : List ℕ) (r t : Rooms)
    (f g : FaultRecord) → Status → Type 0
FindsFiles refuses keep_going dialect strings s r t f g end =
    (question : FilesQuestion) × AsksForAll question × ((files : List SourceFile) × (ended : End)
    × AreFound refuses keep_going dialect strings question s files ended × TellsFiles files ended r t f g end)
