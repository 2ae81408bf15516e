-- The command over the line table of a file.
use Rattle.std.proofs.Common.{◌≡◌, ◌∙◌, ◌&&◌, ℕ, Bool, true, false, List, [], Option, None, Some, Result, Ok, Err, inl, inr}
use Rattle.std.proofs.Common.{ap, refl, sym, subst}
use Rattle.std.specs.declared.io.Error.{Error}
use Rattle.std.specs.Io.KnownBytes.{Consumes}
use Rattle.dl_cmd.specs.Job.{Text}
use Rattle.dl_head.specs.declared.dialect.Dialect.{Dialect}
use Rattle.dl_file.specs.LineTable.{Content, LineTable, Plain}
use Rattle.dl_sections.specs.declared.options.TheConstants.{SECTION_LIMIT}
use Rattle.dl_sections.specs.declared.fault.RunFault.{RunFault}
use Rattle.dl_sections.specs.declared.around.Damage.{Damage}
use Rattle.dl_sections.specs.declared.around.Survey.{Survey}
use Rattle.dl_print.specs.ValueText.{Strings}
use Rattle.dl_open.specs.declared.dialect.FileUnits.{FileUnits}
use Rattle.dl_open.specs.declared.object_part.Part.{Part}
use Rattle.dl_open.specs.declared.stop.FileStop.{FileStop}
use Rattle.dl_open.specs.Parts.{PartStops}
use Rattle.dl_open.specs.Tables.{HasNoDamage, IsWhole, bytes_of, file_dialect, stream_of}
use Rattle.dl_open.specs.Stops.{Stream}
use Rattle.dl_open.proofs.WiderLemmas.{has_table_wider, keeping_wider, part_stops_weaker, stops_at_wider, strings_wider}
use Rattle.dl_open.proofs.WiderLemmas.{table_stops_weaker}
use Rattle.dl_program.specs.declared.command.Command.{Command}
use Rattle.dl_program.specs.Asked.{Does, WithoutTable, is_copy, looks_up, sections_of}
use Rattle.dl_program.specs.Tables.{EndsAt, OnFile, OnFound, OnFoundWhere, OnLines, OnTable, OnTableWhere, RunsOn}
use Rattle.dl_program.specs.Tables.{with_bytes}
use Rattle.dl_program.specs.Whole.{HasReadAll}

-- it isn't the copy of an object file
pub not_refused : (refuses : ℕ → Type 0) (units : FileUnits) (fails : Error → Type 0) (path : Text) (command : Command) (t : LineTable) (part : Option Part)
    (start now : Option (List ℕ)) (hears : List Damage → Type 0)
    (result : Result Survey FileStop) (is_object : Bool) → (is_copy command && is_object) ≡ false
    → is_object ≡ t.is_object_file → OnTableWhere refuses false units fails path command t part start now hears result
    → OnTable refuses units fails path command t part start now hears result
not_refused refuses units fails path command t part start now hears result is_object not_copy object does =
    let e : (is_copy command && t.is_object_file) ≡ false =
    ap (λ (b : Bool). is_copy command && b) (sym object) ∙ not_copy in
    rw e does

-- the command ran with these options, over a reader of the line section
pub ran : (refuses : ℕ → Type 0) (units : FileUnits) (fails : Error → Type 0) (path : Text) (command : Command) (t : LineTable)
    (start now left remaining : Option (List ℕ)) (hears : List Damage → Type 0)
    (s strings : Strings) (dialect : Dialect) (limit : ℕ) (answer : Result Survey RunFault)
    (result : Result Survey FileStop)
    → ((read : List ℕ) → Consumes remaining left read → Consumes (Some (bytes_of t.line)) left read)
    → IsWhole t.line_str t.str s → dialect ≡ file_dialect units t → strings ≡ s → limit ≡ SECTION_LIMIT
    → (read : List ℕ) × Consumes remaining left read
    × Does refuses command dialect strings limit read left start now hears answer
    → EndsAt fails path (stream_of t.line) answer result → (HasReadAll command answer → HasNoDamage t.line)
    → RunsOn refuses units fails path command t start now hears result
ran refuses units fails path command t start now left remaining hears s strings dialect limit answer result known whole ordered in_options
    limited (read, consumes, does) ends undamaged =
    record {
      strings = s;
      whole = whole;
      read = read;
      left = left;
      bytes = known read consumes;
      answer = answer;
      done = subst (λ (d : Dialect). Does refuses command d s SECTION_LIMIT read left start now hears answer) ordered
          (subst (λ (z : Strings). Does refuses command dialect z SECTION_LIMIT read left start now hears answer) in_options
          (subst (λ (l : ℕ). Does refuses command dialect strings l read left start now hears answer) limited does));
      ends = ends;
      undamaged = undamaged;
    }

-- the bytes of a section that is in memory
pub plain_known : (content : Content) (bytes : List ℕ) (left : Option (List ℕ)) (read : List ℕ) → content ≡ Plain bytes
    → Consumes (Some bytes) left read → Consumes (Some (bytes_of content)) left read
plain_known content bytes left read is consumes =
    subst (λ (c : Content). Consumes (Some (bytes_of c)) left read) (sym is) consumes

pub plain_whole : (content : Content) (bytes : List ℕ) → content ≡ Plain bytes → HasNoDamage content
plain_whole content bytes is = subst HasNoDamage (sym is) tt

-- the command is done over the sequences of a part
pub of_part : (refuses : ℕ → Type 0) (units : FileUnits) (fails : Error → Type 0) (path : Text) (command : Command) (t : LineTable) (part : Part) (chosen : Option Part)
    (start now : Option (List ℕ)) (hears : List Damage → Type 0) (result : Result Survey FileStop) → chosen ≡ Some part
    → OnLines refuses units fails path command t (Some part) start now hears result
    → OnLines refuses units fails path command t chosen start now hears result
of_part refuses units fails path command t part chosen start now hears result is done =
    subst (λ (p : Option Part). OnLines refuses units fails path command t p start now hears result) (sym is) done

-- it can't be told among which sequences a command looks
pub found_stops : (refuses : ℕ → Type 0) (units : FileUnits) (fails : Error → Type 0) (path : Text) (name : Option Text) (command : Command) (f : List ℕ)
    (t : LineTable) (start now : Option (List ℕ)) (hears : List Damage → Type 0) (stop : FileStop)
    (looks is_object : Bool) → looks ≡ true
    → looks ≡ looks_up command → is_object ≡ t.is_object_file → PartStops refuses fails path f is_object name stop
    → WithoutTable refuses command start now → hears [] → OnFound refuses units fails path name command f t start now hears (Err stop)
found_stops refuses units fails path name command f t start now hears stop looks is_object said own object why written untold =
    subst (λ (looks : Bool). OnFoundWhere refuses looks units fails path name command f t start now hears (Err stop))
    (sym said ∙ own)
    (inl (stop, refl, subst (λ (b : Bool). PartStops refuses fails path f b name stop) object why, written, untold))

-- ---- the errors that opening and reading may give

pub ends_wider : {A : Type 0} (fails wider : Error → Type 0) (path : Text) (stream : Option Stream) (answer : Result A RunFault)
    (result : Result A FileStop) → ((e : Error) → fails e → wider e) → EndsAt fails path stream answer result
    → EndsAt wider path stream answer result
ends_wider fails wider path stream (Ok answered) result more ends = ends
ends_wider fails wider path stream (Err f) result more (stop, is, at) =
    (stop, is, stops_at_wider fails wider path stream f stop more at)

pub runs_wider : (refuses : ℕ → Type 0) (units : FileUnits) (fails wider : Error → Type 0) (path : Text) (command : Command) (t : LineTable)
    (start now : Option (List ℕ)) (hears : List Damage → Type 0) (result : Result Survey FileStop)
    → ((e : Error) → fails e → wider e) → RunsOn refuses units fails path command t start now hears result
    → RunsOn refuses units wider path command t start now hears result
runs_wider refuses units fails wider path command t start now hears result more runs = record {
  strings = runs.strings;
  whole = runs.whole;
  read = runs.read;
  left = runs.left;
  bytes = runs.bytes;
  answer = runs.answer;
  done = runs.done;
  ends = ends_wider fails wider path (stream_of t.line) runs.answer result more runs.ends;
  undamaged = runs.undamaged;
}

lines_wider : (refuses : ℕ → Type 0) (units : FileUnits) (fails wider : Error → Type 0) (path : Text) (command : Command) (t : LineTable)
    (part : Option Part) (start now : Option (List ℕ)) (hears : List Damage → Type 0) (result : Result Survey FileStop)
    → ((e : Error) → fails e → wider e) → OnLines refuses units fails path command t part start now hears result
    → OnLines refuses units wider path command t part start now hears result
lines_wider refuses units fails wider path command t None start now hears result more runs =
    runs_wider refuses units fails wider path command t start now hears result more runs
lines_wider refuses units fails wider path command t (Some part) start now hears result more (inl (stop, is, why, written, untold)) =
    inl (stop, is, keeping_wider refuses fails wider path (file_dialect units t) part t.line stop more why, written, untold)
lines_wider refuses units fails wider path command t (Some part) start now hears result more (inr (kept, is, runs)) =
    inr (kept, is, runs_wider refuses units fails wider path command (with_bytes t kept) start now hears result more runs)

table_wider : (refuses : ℕ → Type 0) (copies : Bool) (units : FileUnits) (fails wider : Error → Type 0) (path : Text) (command : Command)
    (t : LineTable) (part : Option Part) (start now : Option (List ℕ)) (hears : List Damage → Type 0)
    (result : Result Survey FileStop) → ((e : Error) → fails e → wider e)
    → OnTableWhere refuses copies units fails path command t part start now hears result
    → OnTableWhere refuses copies units wider path command t part start now hears result
table_wider refuses true units fails wider path command t part start now hears result more stops = stops
table_wider refuses false units fails wider path command t part start now hears result more (inl (stop, is, why, written, untold)) =
    inl (stop, is, strings_wider refuses fails wider path t.line_str t.str stop more why, written, untold)
table_wider refuses false units fails wider path command t part start now hears result more (inr lines) =
    inr (lines_wider refuses units fails wider path command t part start now hears result more lines)

on_found_weaker : (refuses : ℕ → Type 0) (looks : Bool) (units : FileUnits) (fails wider : Error → Type 0) (path : Text) (name : Option Text) (command : Command)
    (f : List ℕ) (t : LineTable) (start now : Option (List ℕ)) (hears : List Damage → Type 0)
    (result : Result Survey FileStop)
    → ((e : Error) → fails e → wider e) → OnFoundWhere refuses looks units fails path name command f t start now hears result
    → OnFoundWhere refuses looks units wider path name command f t start now hears result
on_found_weaker refuses false units fails wider path name command f t start now hears result more found =
    table_wider refuses (is_copy command && t.is_object_file) units fails wider path command t None start now hears result more found
on_found_weaker refuses true units fails wider path name command f t start now hears result more
    (inl (stop, is, why, written, untold)) =
    inl (stop, is, part_stops_weaker refuses fails wider path f t.is_object_file name stop more why, written, untold)
on_found_weaker refuses true units fails wider path name command f t start now hears result more (inr (part, is, found)) =
    inr (
      part,
      is,
      table_wider refuses (is_copy command && t.is_object_file) units fails wider path command t part start now hears result more
          found,
    )

-- what is done for an open file, by the errors of its source
pub on_file_weaker : (refuses : ℕ → Type 0) (units : FileUnits) (fails wider : Error → Type 0) (path : Text) (name : Option Text) (command : Command) (f : List ℕ)
    (start now : Option (List ℕ)) (hears : List Damage → Type 0) (result : Result Survey FileStop)
    → ((e : Error) → fails e → wider e)
    → OnFile refuses units fails path name command f start now hears result
    → OnFile refuses units wider path name command f start now hears result
on_file_weaker refuses units fails wider path name command f start now hears result more
    (inl (stop, is, why, written, untold)) =
    inl (stop, is, table_stops_weaker refuses units fails wider path (sections_of command) f stop more why, written, untold)
on_file_weaker refuses units fails wider path name command f start now hears result more (inr (t, has, found)) =
    inr (
      t,
      has_table_wider units fails wider (sections_of command) f t more has,
      on_found_weaker refuses (looks_up command) units fails wider path name command f t start now hears result more
          found,
    )

-- and by what the words say of its units
pub on_file_as : (refuses : ℕ → Type 0) (units said : FileUnits) (fails wider : Error → Type 0) (path : Text) (name : Option Text) (command : Command)
    (f : List ℕ) (start now : Option (List ℕ)) (hears : List Damage → Type 0) (result : Result Survey FileStop)
    → units ≡ said
    → ((e : Error) → fails e → wider e) → OnFile refuses units fails path name command f start now hears result
    → OnFile refuses said wider path name command f start now hears result
on_file_as refuses units said fails wider path name command f start now hears result is more does =
    subst (λ (u : FileUnits). OnFile refuses u wider path name command f start now hears result) is
    (on_file_weaker refuses units fails wider path name command f start now hears result more does)
