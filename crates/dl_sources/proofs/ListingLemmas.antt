-- What a lister keeps of what it is told.
use Rattle.std.proofs.Common.{◌≡◌, ℕ, ◌+◌, ◌<◌, ◌≤◌, ◌^◌, arith, min, ◌-◌, Bool, true, false, List, [], ◌∷◌, ◌++◌, length, Option, Some, None}
use Rattle.std.proofs.Common.{refl, sym, ap, ◌∙◌, subst, append-nil, append_assoc, length-append, true≢false}
use Rattle.std.specs.Io.KnownBytes.{Appends}
use Rattle.std.specs.Option.{option_copied}
use Rattle.dl_addr.specs.Code.{is_code}
use Rattle.dl_field.specs.HeaderData.{HeaderData}
use Rattle.dl_head.specs.declared.header.HeaderLengths.{HeaderLengths}
use Rattle.dl_memory.specs.Refusals.{IsRefused}
use Rattle.dl_rows.specs.declared.row.Row.{Row}
use Rattle.dl_rows.specs.Items.{a_byte, a_row, an_operation}
use Rattle.dl_rows.specs.declared.sink.Flow.{Flow}
use Rattle.dl_rows.specs.declared.sink.Flow.TheVariants as flow
use Rattle.dl_head.specs.Numbers.{first_number}
use Rattle.dl_print.specs.ValueText.{Strings, strings_of}
use Rattle.dl_path.specs.Paths.{beside_table, has_directory_0}
use Rattle.dl_dirs.specs.Compilation.{directory_by}
use Rattle.dl_look.specs.LiveRows.{live_rows}
use Rattle.dl_sections.specs.declared.fault.RunFault.TheVariants as fault
use Rattle.dl_sections.specs.declared.around.Damage.{Damage}
use Rattle.dl_sections.specs.Copying.{offset_after}
use Rattle.dl_sections.specs.GoingOn.{IsTold}
use Rattle.dl_sections.specs.Section.{Visit, of_header, of_version, of_item, of_open, of_end, of_damage}
use Rattle.dl_sections.specs.Visiting.{GoesOn, StopsIn, header_told}
use Rattle.dl_sections.proofs.HeadersTold.{header_told-append}
use Rattle.dl_addr.proofs.LocatedLemmas.{offset_after-append}
use Rattle.dl_making.specs.Few.{AreFew, cells_told}
use Rattle.dl_making.specs.Room.{DirectoriesWithin}
use Rattle.dl_making.proofs.FewLemmas.{beside_few}
use Rattle.dl_making.proofs.VisitCounts.{few_front}
use Rattle.dl_sources.specs.declared.lister.Lister.{Lister}
use Rattle.dl_sources.specs.declared.question.SourcesQuestion.{SourcesQuestion}
use Rattle.dl_sources.specs.declared.table.SourceTable.{SourceTable}
use Rattle.dl_sources.specs.Counting.{Counting}
use Rattle.dl_sources.specs.Counts.{counts_of}
use Rattle.dl_sources.specs.Holding.{Holds}
use Rattle.dl_sources.specs.Listing.{IsSame, Listed, Listing, RefusesAfter, cells_of, end_room, end_told, entry_count, file_count}
use Rattle.dl_sources.specs.Listing.{listing_story, rows_since, told_after, told_by}
use Rattle.dl_sources.specs.SectionTold.{is_live, unit_mentions}
use Rattle.dl_sources.specs.Sources.{Mention}
use Rattle.dl_sources.specs.UnitEntries.{counts_at}
use Rattle.dl_sources.specs.Wanting.{listing_room}
use Rattle.dl_sources.proofs.EntryLemmas.{few_told, same_told}

-- ---- visits one after the other

pub rows_since-append : (rows : List Row) (a b : List Visit) → rows_since rows (a ++ b) ≡ rows_since (rows_since rows a) b
rows_since-append rows [] b = refl
rows_since-append rows (of_header n l h ∷ a) b = rows_since-append [] a b
rows_since-append rows (of_item (a_row header r) ∷ a) b = rows_since-append (rows ++ r ∷ []) a b
rows_since-append rows (of_end h ∷ a) b = rows_since-append [] a b
rows_since-append rows (of_damage unit n kind ∷ a) b = rows_since-append [] a b
rows_since-append rows (v ∷ a) b = rows_since-append rows a b

cells_told-append : (a b : List Visit) → cells_told (a ++ b) ≡ cells_told a + cells_told b
cells_told-append [] b = omega arith
cells_told-append (of_header n l h ∷ a) b = omega (arith, cells_told-append a b)
cells_told-append (v ∷ a) b = cells_told-append a b

module _ (s : Strings) (q : SourcesQuestion) where
  pub told_after-append : (rows : List Row) (n : ℕ) (a b : List Visit)
      → told_after s q rows n (a ++ b)
      ≡ told_after s q rows n a ++ told_after s q (rows_since rows a) (offset_after n a) b
  told_after-append rows n [] b = refl
  told_after-append rows n (of_header m l h ∷ a) b = told_after-append [] m a b
  told_after-append rows n (of_version m v ∷ a) b = told_after-append rows n a b
  told_after-append rows n (of_item (a_byte x) ∷ a) b = told_after-append rows n a b
  told_after-append rows n (of_item (an_operation header o) ∷ a) b = told_after-append rows n a b
  told_after-append rows n (of_item (a_row header r) ∷ a) b = told_after-append (rows ++ r ∷ []) n a b
  told_after-append rows n (of_open ∷ a) b = told_after-append rows n a b
  told_after-append rows n (of_end h ∷ a) b =
      ap (λ (l : List Mention). unit_mentions s q n h rows ++ l) (told_after-append [] n a b)
      ∙ sym (append_assoc (unit_mentions s q n h rows) (told_after s q [] n a)
      (told_after s q (rows_since [] a) (offset_after n a) b))
  told_after-append rows n (of_damage unit m k ∷ a) b = told_after-append [] n a b

-- ---- one visit more

module _ {M : Type 0} (first : Lister M) (visits : List Visit) (v : Visit) where
  abbrev rows : List Row
  rows = rows_since [] visits

  abbrev header : Option HeaderData
  header = header_told None visits

  -- what it tells
  abbrev pub told_more : List Mention
  told_more =
      told_after (strings_of first.strings.now) first.question rows (offset_after first.unit visits) (v ∷ [])

  told_then : told_by first (visits ++ v ∷ []) ≡ told_by first visits ++ told_more
  told_then = told_after-append (strings_of first.strings.now) first.question [] first.unit visits (v ∷ [])

  pub listed_then : (new : Lister M)
      → Counting (is_live first.question) (file_count (header_told header (v ∷ []))) new.counts (rows_since rows (v ∷ []))
      → Holds new.table (told_by first visits ++ told_more)
      → length (told_by first visits) + length told_more + cells_of (header_told header (v ∷ []))
      ≤ cells_told visits + cells_told (v ∷ [])
      → Listed first new (visits ++ v ∷ [])
  listed_then new counts table few = record {
    counts = subst (λ h. Counting (is_live first.question) (file_count h) new.counts (rows_since [] (visits ++ v ∷ [])))
        (sym (header_told-append None visits (v ∷ [])))
        (subst (Counting (is_live first.question) (file_count (header_told header (v ∷ []))) new.counts)
        (sym (rows_since-append [] visits (v ∷ []))) counts);
    table = subst (Holds new.table) (sym told_then) table;
    few = omega (
      arith,
      few,
      ap length told_then,
      length-append (told_by first visits) told_more,
      ap cells_of (header_told-append None visits (v ∷ [])),
      cells_told-append visits (v ∷ []),
    );
  }

  -- one that tells nothing
  pub listed_same : (new : Lister M) → told_more ≡ []
      → Counting (is_live first.question) (file_count (header_told header (v ∷ []))) new.counts (rows_since rows (v ∷ []))
      → Holds new.table (told_by first visits)
      → length (told_by first visits) + cells_of (header_told header (v ∷ [])) ≤ cells_told visits + cells_told (v ∷ [])
      → Listed first new (visits ++ v ∷ [])
  listed_same new none counts table few =
      listed_then new counts
      (subst (Holds new.table) (sym (ap (λ (l : List Mention). told_by first visits ++ l) none ∙ append-nil (told_by first visits))) table)
      (omega (arith, few, ap length none))

-- memory that was refused after some visits was so after more
pub refuses_later : {M : Type 0} (refuses : M → ℕ → Type 0) (first : Lister M) (visits more : List Visit)
    → RefusesAfter refuses first visits → RefusesAfter refuses first (visits ++ more)
refuses_later refuses first visits more (n, refused, within) =
    (n, refused, λ directory bytes d few. within directory bytes d (few_front bytes visits more few))

module _ {M : Type 0} {refuses : M → ℕ → Type 0} (first old new : Lister M) (start held : Option (List ℕ)) (visits : List Visit)
    (v : Visit) (s : Listing refuses first old start held visits) (same : IsSame old new) where
  same_first : IsSame first new
  same_first = record {
    memory = same.memory ∙ s.same.memory;
    strings = same.strings ∙ s.same.strings;
    question = same.question ∙ s.same.question;
  }

  pub goes_on : new.unit ≡ offset_after old.unit (v ∷ []) → new.is_refused ≡ old.is_refused
      → (Listed first old visits → Listed first new (visits ++ v ∷ [])) → Listing refuses first new start held (visits ++ v ∷ [])
  goes_on unit refused more = record {
    same = same_first;
    unit = unit ∙ ap (λ n. offset_after n (v ∷ [])) s.unit ∙ sym (offset_after-append first.unit visits (v ∷ []));
    told = λ e. more (s.told (sym refused ∙ e));
    refused = λ e. refuses_later refuses first visits (v ∷ []) (s.refused (sym refused ∙ e));
    nothing = s.nothing;
  }

  -- it stops, for want of memory
  pub stops : new.unit ≡ old.unit → new.is_refused ≡ true → RefusesAfter refuses first visits
      → StopsIn (listing_story refuses) first new start held visits (v ∷ []) fault.NoMemory
  stops unit refused wanted = (
    v ∷ [],
    [],
    refl,
    (
      visits,
      v,
      refl,
      record {
        same = same_first;
        unit = unit ∙ s.unit;
        told = λ e. absurd (true≢false (sym refused ∙ e));
        refused = λ e. wanted;
        nothing = s.nothing;
      },
      record { is = refl; refused = refuses_later refuses first visits (v ∷ []) wanted },
    ),
  )

-- ---- the beginning of a unit, and its rows

-- what a row changes of a lister that counts it
abbrev pub Counted : {M : Type 0} → (old new : Lister M) (r : Row) → Type 0
Counted old new r =
    (new ≡ record old { counts = new.counts })
    × ((live : ℕ → Bool) (count : ℕ) (rows : List Row)
    → ((address : ℕ) → live address ≡ is_code (option_copied old.question.code) address)
    → Counting live count old.counts rows → Counting live count new.counts (rows ++ r ∷ []))

module _ {M : Type 0} {refuses : M → ℕ → Type 0} (first old new : Lister M) (start held : Option (List ℕ)) (visits : List Visit)
    (s : Listing refuses first old start held visits) where
  same_but : (unit : ℕ) → new ≡ record old { unit = unit; counts = new.counts } → IsSame old new
  same_but unit is = record {
    memory = ap (λ (l : Lister M). l.memory.now) is;
    strings = ap (λ (l : Lister M). l.strings.now) is;
    question = ap (λ (l : Lister M). l.question) is;
  }

  same_table : (unit : ℕ) → new ≡ record old { unit = unit; counts = new.counts } → Listed first old visits
      → Holds new.table (told_by first visits)
  same_table unit is listed =
      subst (λ (t : SourceTable). Holds t (told_by first visits)) (sym (ap (λ (l : Lister M). l.table) is)) listed.table

  -- a row is counted
  pub row_counted : (h : HeaderData) (r : Row) → Counted old new r
      → Listing refuses first new start held (visits ++ of_item (a_row h r) ∷ [])
  row_counted h r (is, counted) =
      let v = of_item (a_row h r) in
      goes_on first old new start held visits v s (same_but old.unit is) (ap (λ (l : Lister M). l.unit) is)
      (ap (λ (l : Lister M). l.is_refused) is)
      (λ listed. listed_same first visits v new refl
      (counted (is_live first.question) (file_count (header_told None visits)) (rows_since [] visits)
      (λ address. ap (λ (q : SourcesQuestion). is_code (option_copied q.code) address) (sym s.same.question)) listed.counts)
      (same_table old.unit is listed) (omega (arith, listed.few)))

  -- a unit has a header
  pub header_begun : (n : ℕ) (lengths : HeaderLengths) (h : HeaderData) → new ≡ record old { unit = n; counts = new.counts }
      → ((live : ℕ → Bool) → Counting live (file_count (Some h)) new.counts [])
      → Listing refuses first new start held (visits ++ of_header n lengths h ∷ [])
  header_begun n lengths h is counts =
      let v = of_header n lengths h in
      goes_on first old new start held visits v s (same_but n is) (ap (λ (l : Lister M). l.unit) is)
      (ap (λ (l : Lister M). l.is_refused) is)
      (λ listed. listed_same first visits v new refl (counts (is_live first.question)) (same_table n is listed)
      (omega (arith, listed.few)))

-- ---- the end of a unit

few_unit : (s : Strings) (q : SourcesQuestion) (offset : ℕ) (h : Option HeaderData) (rows : List Row)
    → length (unit_mentions s q offset h rows) ≤ entry_count h
few_unit s q offset None rows = omega arith
few_unit s q offset (Some h) rows =
    few_told s (beside_table (has_directory_0 (Some h)) (directory_by q.directories offset)) q.md5 h
    (λ n. counts_of n (live_rows (is_live q) rows)) (first_number h.params) (length h.files.entries)

-- numbers that a vector has places for don't reach 2^63
not_cut : (first count : ℕ) → (n : ℕ) → n < 2 ^ 63 → n ≡ min (first + count) (2 ^ 64 - 1) → first + count ≡ n
not_cut first count n small is = omega (arith, small, is)

module _ {M : Type 0} {refuses : M → ℕ → Type 0} (first old : Lister M) (start held : Option (List ℕ)) (visits : List Visit)
    (s : Listing refuses first old start held visits) (h : Option HeaderData) (told : header_told None visits ≡ h) where
  abbrev s_of : Strings
  s_of = strings_of first.strings.now

  abbrev offset : ℕ
  offset = offset_after first.unit visits

  abbrev unit_rows : List Row
  unit_rows = rows_since [] visits

  -- what is told is what the visits do
  pub end_is : Listed first old visits
      → end_told old h ≡ unit_mentions s_of first.question offset h unit_rows
  end_is l = by h told where
    by : (o : Option HeaderData) → header_told None visits ≡ o
        → end_told old o ≡ unit_mentions s_of first.question offset o unit_rows
    by None e = refl
    by (Some g) e =
        let few = l.counts.few ∙ ap file_count e in
        let numbers = first_number g.params in
        let count = length g.files.entries in
        let fits : numbers + count ≡ length old.counts.files.items =
        not_cut numbers count (length old.counts.files.items) (omega (arith, old.counts.files.small, old.counts.files.ok)) few in
        rw (s.same.strings, s.same.question, s.unit)
        (same_told s_of (beside_table (has_directory_0 (Some g)) (directory_by first.question.directories offset))
        first.question.md5 g (counts_at old.counts) (λ n. counts_of n (live_rows (is_live first.question) unit_rows))
        (length old.counts.files.items) numbers count (omega (arith, fits))
        (λ n lt. l.counts.each n (omega (arith, lt, l.counts.few))))

  pub ends : (new : Lister M) → IsSame old new → new.unit ≡ old.unit → new.is_refused ≡ old.is_refused
      → ((live : ℕ → Bool) → Counting live 0 new.counts [])
      → ((mentions : List Mention) → Holds old.table mentions → Holds new.table (mentions ++ end_told old h))
      → entry_count h ≤ cells_of h → Listing refuses first new start held (visits ++ of_end h ∷ [])
  ends new same unit refused counts table few =
      goes_on first old new start held visits (of_end h) s same unit refused (λ l.
      listed_then first visits (of_end h) new (counts (is_live first.question))
      (subst (λ (more : List Mention). Holds new.table (told_by first visits ++ more))
      (end_is l ∙ sym (append-nil (unit_mentions s_of first.question offset h unit_rows)))
      (table (told_by first visits) l.table))
      (omega (
        arith,
        l.few,
        few,
        ap cells_of told,
        length-append (unit_mentions s_of first.question offset h unit_rows) [],
        few_unit s_of first.question offset h unit_rows,
      )))

  room_is : (o : Option HeaderData) → header_told None visits ≡ o → Listed first old visits → entry_count o ≤ cells_of o
      → (directory bytes : ℕ) → DirectoriesWithin directory first.question.directories → AreFew bytes visits
      → length (told_by first visits) + end_room old o ≤ listing_room s_of directory bytes
  room_is None e l few directory bytes d within = omega (arith, l.few, within.cells)
  room_is (Some g) e l few directory bytes d within =
      rw (s.same.strings, s.same.question) (omega (
        arith,
        l.few,
        few,
        ap cells_of e,
        within.cells,
        d old.unit,
        beside_few (has_directory_0 (Some g)) (directory_by first.question.directories old.unit),
      ))

  -- memory was refused for its table
  pub end_wants : ((mentions : List Mention) → Holds old.table mentions
      → IsRefused (refuses old.memory.now) (length mentions + end_room old h))
      → entry_count h ≤ cells_of h → RefusesAfter refuses first visits
  end_wants wants few = by old.is_refused refl where
    by : (b : Bool) → old.is_refused ≡ b → RefusesAfter refuses first visits
    by true e = s.refused e
    by false e =
        let l = s.told e in
        let w = wants (told_by first visits) l.table in (
          w.0,
          subst (λ memory. refuses memory w.0) s.same.memory w.2,
          λ directory bytes d within. omega (arith, w.1, room_is h told l few directory bytes d within),
        )

-- memory was refused for the counts of the files of a header
module _ {M : Type 0} {refuses : M → ℕ → Type 0} (first old : Lister M) (start held : Option (List ℕ)) (visits : List Visit)
    (v : Visit) (s : Listing refuses first old start held visits) where
  pub header_wants : (cells count : ℕ) → cells_told (v ∷ []) ≡ cells → count ≤ cells + 1
      → IsRefused (refuses old.memory.now) count → RefusesAfter refuses first (visits ++ v ∷ [])
  header_wants cells count is few (n, le, refused) = (
    n,
    subst (λ memory. refuses memory n) s.same.memory refused,
    λ directory bytes d within. omega (arith, le, few, is, within.cells, cells_told-append visits (v ∷ [])),
  )

  pub header_stops : (cells count : ℕ) → cells_told (v ∷ []) ≡ cells → count ≤ cells + 1
      → IsRefused (refuses old.memory.now) count
      → StopsIn (listing_story refuses) first old start held visits (v ∷ []) fault.NoMemory
  header_stops cells count is few refused = (
    v ∷ [],
    [],
    refl,
    (visits, v, refl, s, record { is = refl; refused = header_wants cells count is few refused }),
  )

-- ---- the beginning, and what is printed

pub begins : {M : Type 0} (refuses : M → ℕ → Type 0) (first : Lister M) (start : Option (List ℕ)) → first.is_refused ≡ false
    → ((live : ℕ → Bool) → Counting live 0 first.counts []) → Holds first.table [] → Appends start start []
    → Listing refuses first first start start []
begins refuses first start sufficed counts table nothing = record {
  same = record { memory = refl; strings = refl; question = refl };
  unit = refl;
  told = λ e. record { counts = counts (is_live first.question); table = table; few = omega arith };
  refused = λ e. absurd (true≢false (sym e ∙ sufficed));
  nothing = nothing;
}

pub settles : {M : Type 0} (refuses : M → ℕ → Type 0) (first now : Lister M) (start held : Option (List ℕ)) (visits : List Visit)
    (n : Flow) → GoesOn (listing_story refuses) first now start held visits n
    → GoesOn (listing_story refuses) first now start held visits n × Appends start held []
settles refuses first now start held visits flow.On s = (s, s.nothing)
settles refuses first now start held visits flow.Stop s = absurd s

-- a damaged unit is left out
pub forgets : {M : Type 0} (refuses : M → ℕ → Type 0) (old new : Lister M) (unit : ℕ) (damage : Damage) → IsSame old new
    → new.unit ≡ old.unit → new.is_refused ≡ old.is_refused → new.table ≡ old.table
    → ((live : ℕ → Bool) → Counting live 0 new.counts []) → IsTold (listing_story refuses) old new unit damage
forgets refuses old new unit damage same stays refused table counts = record {
  tells = λ first start now visits s. (let v = of_damage unit damage.offset damage.kind in
      goes_on first old new start now visits v s same stays refused
      (λ l. listed_same first visits v new refl (counts (is_live first.question))
      (subst (λ t. Holds t (told_by first visits)) (sym table) l.table) (omega (arith, l.few))));
  quiet = λ first visits. refl;
  reasons = λ first visits offset kind r. (let e = r.is in absurd cc);
}
