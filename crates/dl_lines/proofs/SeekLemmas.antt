-- What a seeker has, visit after visit, and at a header.
use Rattle.std.proofs.Common.{◌≡◌, ℕ, ◌+◌, ◌≤◌, Bool, true, false, List, [], ◌∷◌, ◌++◌, length}
use Rattle.std.proofs.Common.{slice_index_or, Option, Some, Result, refl, sym, ap, ap₂, ◌∙◌, subst, arith}
use Rattle.std.specs.Prelude.{⊤, ◌||◌, is_err, OnErr, OnOk}
use Rattle.std.specs.Option.{option_copied}
use Rattle.dl_field.specs.HeaderData.{HeaderData}
use Rattle.dl_head.specs.declared.header.HeaderLengths.{HeaderLengths}
use Rattle.dl_look.specs.LiveRows.{live_rows, Tells}
use Rattle.dl_memory.specs.declared.memory.NoMemory.{NoMemory}
use Rattle.dl_memory.specs.Refusals.{IsRefused}
use Rattle.dl_print.specs.ValueText.{strings_of}
use Rattle.dl_sections.specs.declared.fault.RunFault.TheVariants as fault
use Rattle.dl_sections.specs.Section.{Visit, of_header}
use Rattle.dl_sections.specs.Visiting.{StopsIn}
use Rattle.dl_addr.proofs.LocatedLemmas.{no_live_rows}
use Rattle.dl_addr.proofs.RoomLemmas.{refused_within}
use Rattle.dl_lines.specs.declared.question.Wanted.{Wanted}
use Rattle.dl_lines.specs.declared.seeker.LineSeeker.{LineSeeker}
use Rattle.dl_lines.specs.Places.{CodePlace, Known, path_in}
use Rattle.dl_lines.specs.Room.{files_count, header_room, told_room}
use Rattle.dl_lines.specs.Runs.{TellsFirst}
use Rattle.dl_lines.specs.Searching.{AllBecome, IsBegun, IsKnown, Judging, Stands, file_at, texts_of, upto}
use Rattle.dl_lines.specs.Seeking.{AllStand, Heard, Hears, IsMadeFor, Seeking, current_places, heard_after, known_of}
use Rattle.dl_lines.specs.Seeking.{Refused, no_path, nothing_heard, seek_story, with_visit}
use Rattle.dl_lines.proofs.SearchLemmas.{begun, more}
use Rattle.dl_lines.proofs.FileLemmas.{upto_past}
use Rattle.dl_lines.proofs.HeardLemmas.{all_files, counts_few, err_of, heard_more, no_path_past, no_places, ok_of, room_more}

-- ---- the seeker

module _ {M : Type 0} (refuses : M → ℕ → Type 0) (first old : LineSeeker M) (start held : Option (List ℕ))
    (visits : List Visit) (s : Seeking refuses first old start held visits) where
  abbrev pub known : Known
  known = known_of first

  abbrev pub heard : Heard
  heard = heard_after known nothing_heard visits

  pub same_known : known_of old ≡ known
  same_known =
      ap₂ (λ c d. record {
        live = Rattle.dl_addr.specs.Code.is_code (option_copied c);
        strings = strings_of old.strings.now;
        directories = Rattle.dl_dirs.specs.Compilation.directory_by d;
      }) s.code s.directories
      ∙ ap (λ t. record {
        live = Rattle.dl_addr.specs.Code.is_code (option_copied first.code);
        strings = strings_of t;
        directories = Rattle.dl_dirs.specs.Compilation.directory_by first.directories;
      }) s.strings

  -- one visit more
  pub step : (v : Visit) (new : LineSeeker M) → new.code ≡ old.code → new.directories ≡ old.directories
      → new.strings.now ≡ old.strings.now → new.memory.now ≡ old.memory.now
      → (new.is_refused ≡ false → Hears first new (with_visit known heard v))
      → (new.is_refused ≡ true → Refused refuses first (visits ++ v ∷ []))
      → Seeking refuses first new start held (visits ++ v ∷ [])
  step v new code directories strings memory whole refused = record {
    code = code ∙ s.code;
    directories = directories ∙ s.directories;
    strings = strings ∙ s.strings;
    memory = memory ∙ s.memory;
    whole = λ e. subst (Hears first new) (sym (heard_more known nothing_heard visits (v ∷ []))) (whole e);
    refused = refused;
    nothing = s.nothing;
  }

  more_room : (v : Visit) → told_room known visits ≤ told_room known (visits ++ v ∷ [])
  more_room v = omega (arith, room_more known visits (v ∷ []))

  -- a visit that tells nothing
  pub still : (v : Visit) → with_visit known heard v ≡ heard → Seeking refuses first old start held (visits ++ v ∷ [])
  still v same =
      step v old refl refl refl refl (λ e. subst (Hears first old) (sym same) (s.whole e))
      (λ e wanted exact made_for. refused_within (refuses first.memory.now) (told_room known visits)
      (told_room known (visits ++ v ∷ [])) (more_room v) (s.refused e wanted exact made_for))

  -- memory was refused before
  pub faults : (v : Visit) → old.is_refused ≡ true
      → StopsIn (seek_story refuses) first old start held visits (v ∷ []) fault.NoMemory
  faults v e = (
    v ∷ [],
    [],
    refl,
    (
      visits,
      v,
      refl,
      s,
      (
        refl,
        λ wanted exact made_for. refused_within (refuses first.memory.now) (told_room known visits)
            (told_room known (visits ++ v ∷ [])) (more_room v) (s.refused e wanted exact made_for),
      ),
    ),
  )

  -- of the memory that it was made with
  pub of_memory : (n : ℕ) → IsRefused (refuses old.memory.now) n → IsRefused (refuses first.memory.now) n
  of_memory n r = subst (λ (m : M). IsRefused (refuses m) n) s.memory r

  pub within_room : (v : Visit) (n : ℕ) → n ≤ heard.row_count + heard.file_count + told_room known (v ∷ [])
      → n ≤ told_room known (visits ++ v ∷ [])
  within_room v n le =
      omega (arith, le, counts_few known nothing_heard visits, room_more known visits (v ∷ []))

  -- ---- a header

  module _ (begun_now after new : LineSeeker M) (offset : ℕ) (lengths : HeaderLengths) (h : HeaderData)
      (result : Result ⊤ NoMemory) (not_refused : old.is_refused ≡ false)
      (begins : AllBecome IsBegun old.searches.items begun_now.searches.items)
      (live : (is_live : ℕ → Bool) → Tells begun_now.live is_live [])
      (statements : TellsFirst begun_now.statements [])
      (same : begun_now ≡ record old {
        searches = begun_now.searches;
        live = begun_now.live;
        statements = begun_now.statements;
      })
      (judged : OnOk result ((wanted : List Wanted) (exact : Bool) (ended : List CodePlace) (rows files : ℕ)
      → Judging begun_now.searches.items wanted exact ended (path_in (known_of begun_now) offset (Some h)) rows files 0
      → Judging after.searches.items wanted exact ended (path_in (known_of begun_now) offset (Some h)) rows files (files_count h)))
      (after_same : after ≡ record begun_now { searches = after.searches })
      (refused : OnErr result ((wanted : List Wanted) (exact : Bool) (ended : List CodePlace) (rows files : ℕ)
      → Judging begun_now.searches.items wanted exact ended (path_in (known_of begun_now) offset (Some h)) rows files 0
      → IsRefused (refuses begun_now.memory.now) (files + header_room (known_of begun_now) offset h)))
      (new_is : new ≡ record after { is_refused = after.is_refused || is_err result }) where
    abbrev path : ℕ → Option (List ℕ)
    path = path_in known offset (Some h)

    begun_known : known_of begun_now ≡ known
    begun_known = ap known_of same ∙ same_known

    refused_is : new.is_refused ≡ is_err result
    refused_is =
        ap (λ (l : LineSeeker M). l.is_refused) new_is
        ∙ ap (λ (b : Bool). b || is_err result) (ap (λ (l : LineSeeker M). l.is_refused) after_same
        ∙ ap (λ (l : LineSeeker M). l.is_refused) same ∙ not_refused)

    begun_all : (wanted : List Wanted) (exact : Bool) → IsMadeFor first wanted exact
        → Judging begun_now.searches.items wanted exact heard.ended path heard.row_count heard.file_count 0
    begun_all wanted exact made_for =
        let stands = (s.whole not_refused).searches wanted exact made_for in
        record {
          same = begins.count ∙ stands.0;
          stands = λ i d w lt. (
              let before = stands.1 i d w lt in
              let told = begins.each i d (omega (arith, lt, stands.0)) in
              let at = slice_index_or begun_now.searches.items i d in
              let now = begun (slice_index_or old.searches.items i d) at (slice_index_or wanted i w) exact heard.ended
              (current_places known heard) heard.path heard.row_count heard.file_count before told in
              more at at (slice_index_or wanted i w) exact heard.ended [] no_path heard.row_count heard.file_count now
              heard.row_count (heard.file_count + 0) (upto 0 path) refl (omega arith) (omega arith)
              (λ file known_is. subst (IsKnown (texts_of at.paths) (slice_index_or wanted i w) (file_at at.files.items file))
              (sym (upto_past 0 path file (omega arith))) known_is));
          told = λ i d lt. ap length (begins.each i d (omega (arith, lt, begins.count))).files;
        }

    header_heard : Heard
    header_heard = with_visit known heard (of_header offset lengths h)

    header_whole : new.is_refused ≡ false → Hears first new (with_visit known heard (of_header offset lengths h))
    header_whole e = record {
      live = subst (λ (l : LineSeeker M). Tells l.live known.live []) (sym (new_is ∙ ap (λ (l : LineSeeker M). record l {
        is_refused =
            l.is_refused || is_err result;
      }) after_same)) (live known.live);
      statements = subst (λ (l : LineSeeker M). TellsFirst l.statements (live_rows known.live []))
          (sym (new_is ∙ ap (λ (l : LineSeeker M). record l { is_refused = l.is_refused || is_err result }) after_same))
          (subst (TellsFirst begun_now.statements) (sym (no_live_rows known.live)) statements);
      searches = λ wanted exact made_for. (
          let j = ok_of result (sym refused_is ∙ e) judged wanted exact heard.ended heard.row_count heard.file_count
          (subst (λ (k : Known). Judging begun_now.searches.items wanted exact heard.ended (path_in k offset (Some h))
          heard.row_count heard.file_count 0) (sym begun_known) (begun_all wanted exact made_for)) in
          let all : Judging after.searches.items wanted exact heard.ended path heard.row_count heard.file_count (files_count h) =
          subst (λ (k : Known). Judging after.searches.items wanted exact heard.ended (path_in k offset (Some h))
          heard.row_count heard.file_count (files_count h)) begun_known j in
          subst (λ (l : LineSeeker M). AllStand l.searches.items wanted exact known
          (with_visit known heard (of_header offset lengths h))) (sym new_is) (
            all.same,
            λ i d w lt. (
                let at = slice_index_or after.searches.items i d in
                let stands : Stands at (slice_index_or wanted i w) exact heard.ended [] path heard.row_count
                (heard.file_count + files_count h) =
                more at at (slice_index_or wanted i w) exact heard.ended [] (upto (files_count h) path) heard.row_count
                (heard.file_count + files_count h) (all.stands i d w lt) heard.row_count
                (heard.file_count + files_count h) path refl (omega arith) (omega arith)
                (λ file known_is. subst (IsKnown (texts_of at.paths) (slice_index_or wanted i w) (file_at at.files.items file))
                (all_files path (files_count h) (no_path_past known offset h) file) known_is) in
                subst (λ (l : List CodePlace). Stands at (slice_index_or wanted i w) exact heard.ended l path
                heard.row_count (heard.file_count + files_count h)) (sym (no_places known.live path)) stands),
          ));
    }

    header_refused : new.is_refused ≡ true → Refused refuses first (visits ++ of_header offset lengths h ∷ [])
    header_refused e wanted exact made_for =
        let r = err_of result (sym refused_is ∙ e) refused wanted exact heard.ended heard.row_count heard.file_count
        (subst (λ (k : Known). Judging begun_now.searches.items wanted exact heard.ended (path_in k offset (Some h))
        heard.row_count heard.file_count 0) (sym begun_known) (begun_all wanted exact made_for)) in
        let here : IsRefused (refuses old.memory.now) (heard.file_count + header_room known offset h) =
        subst (λ (l : LineSeeker M). IsRefused (refuses l.memory.now) (heard.file_count + header_room known offset h)) same
        (subst (λ (k : Known). IsRefused (refuses begun_now.memory.now) (heard.file_count + header_room k offset h))
        begun_known r) in
        refused_within (refuses first.memory.now) (heard.file_count + header_room known offset h)
        (told_room known (visits ++ of_header offset lengths h ∷ []))
        (within_room (of_header offset lengths h) (heard.file_count + header_room known offset h) (omega arith))
        (of_memory (heard.file_count + header_room known offset h) here)

    pub header_told : Seeking refuses first new start held (visits ++ of_header offset lengths h ∷ [])
    header_told =
        let all = new_is ∙ ap (λ (l : LineSeeker M). record l { is_refused = l.is_refused || is_err result }) after_same in
        step (of_header offset lengths h) new
        (ap (λ (l : LineSeeker M). l.code) all ∙ ap (λ (l : LineSeeker M). l.code) same)
        (ap (λ (l : LineSeeker M). l.directories) all ∙ ap (λ (l : LineSeeker M). l.directories) same)
        (ap (λ (l : LineSeeker M). l.strings.now) all ∙ ap (λ (l : LineSeeker M). l.strings.now) same)
        (ap (λ (l : LineSeeker M). l.memory.now) all ∙ ap (λ (l : LineSeeker M). l.memory.now) same) header_whole header_refused
