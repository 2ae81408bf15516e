-- The calls over the unit that bytes begin with, and rows that are written into a room.
use Rattle.std.proofs.Common.{◌≡◌, ◌<◌, ◌≤◌, inl, inr, ℕ, ◌+◌, ◌^◌, List, [], ◌∷◌, ◌++◌, length, drop, map, Option, Some}
use Rattle.std.proofs.Common.{None, Ok, Err, arith, refl, sym, ap, ap₂, ◌∙◌, subst, append_assoc, append-nil, length-append}
use Rattle.std.proofs.Common.{length-drop}
use Rattle.std.proofs.Common.{min, true, false}
use Rattle.std.specs.Prelude.{slice_set, ◌-◌, option_map}
use Rattle.std.specs.List.{concat}
use Rattle.std.proofs.lemmas.List.{length-map, map-append, take_all}
use Rattle.dl_head.specs.declared.dialect.Dialect.{Dialect}
use Rattle.dl_head.specs.Header.{header_in}
use Rattle.dl_head.specs.Cells.{cells}
use Rattle.dl_head.proofs.HeaderCells.{header_holds_its_cells}
use Rattle.dl_head.proofs.HeaderLaws.{found_is_header}
use Rattle.dl_field.specs.HeaderData.{HeaderData}
use Rattle.dl_table.specs.declared.fault.FaultKind.{FaultKind}
use Rattle.dl_rows.specs.LineUnit.{unit_rows}
use Rattle.dl_rows.specs.declared.row.Row.{Row}
use Rattle.dl_rows.proofs.ReaderLemmas.{no_rows}
use Rattle.dl_print.specs.Counts.{add}
use Rattle.dl_print.specs.ValueText.{Strings}
use Rattle.dl_sections.specs.declared.fault.RunFault.{RunFault}
use Rattle.dl_sections.specs.declared.fault.RunFault.TheVariants as run
use Rattle.dl_sections.specs.declared.in_memory.SectionRead.{SectionRead}
use Rattle.dl_sections.specs.declared.in_memory.SectionStop.{SectionStop}
use Rattle.dl_sections.specs.declared.in_memory.SectionStop.TheVariants as stop
use Rattle.dl_sections.specs.declared.in_memory.WholeUnit.{WholeUnit}
use Rattle.dl_sections.specs.InMemory.{ReadsSection, UnitTold, as_fault, read_of, unit_told, units_told}
use Rattle.dl_sections.specs.Section.{RefusesCell, EndsAs, HasUnits}
use Rattle.dl_sections.proofs.SectionLemmas.{few_rows}
use Rattle.dl_buffers.specs.declared.listing.RowRoom.{RowRoom}
use Rattle.dl_buffers.specs.declared.record.RowRecord.{RowRecord}
use Rattle.dl_buffers.specs.declared.record.FaultRecord.{FaultRecord}
use Rattle.dl_buffers.specs.declared.record.UnitRecord.{UnitRecord}
use Rattle.dl_buffers.specs.declared.status.Status.{Status}
use Rattle.dl_buffers.specs.declared.status.Status.TheVariants as status
use Rattle.dl_buffers.specs.declared.unit.FirstUnit.{FirstUnit}
use Rattle.dl_buffers.specs.PathCalls.{TellsPath}
use Rattle.dl_buffers.specs.PathsCalls.{TellsPaths}
use Rattle.dl_buffers.specs.Records.{record_of, row_record}
use Rattle.dl_buffers.specs.RowRooms.{RoomHeard, room_story}
use Rattle.dl_buffers.specs.Stops.{count_told, fault_told, status_of}
use Rattle.dl_buffers.specs.UnitCalls.{Describes, Lists, StopsIn, written_over}
use Rattle.dl_buffers.specs.UnitReading.{ReadsUnit, first_story}
use Rattle.dl_buffers.proofs.RoomLemmas.{length-over, over_full, over_more, over_none}
use Rattle.dl_buffers.proofs.ToldUnits.{fault_within, last_told, none_told}

-- ---- one unit

-- one unit is told
one_told : (dialect : Dialect) (units : List (List ℕ)) (t : UnitTold) → units_told dialect 0 units ≡ t ∷ []
    → (u : List ℕ) × (units ≡ u ∷ []) × (t ≡ unit_told dialect 0 u)
one_told dialect units t e =
    let last = last_told dialect 0 units [] t e in
    let front = none_told dialect 0 last.front (sym last.before_are) in (
      last.u,
      last.whole ∙ ap (λ (l : List (List ℕ)). l ++ last.u ∷ []) front,
      last.last_is ∙ ap (λ (l : List (List ℕ)). unit_told dialect (0 + length (concat l)) last.u) front,
    )

module _ (dialect : Dialect) (t : List ℕ) (units : List (List ℕ)) where
  begins : (u back : List ℕ) → units ≡ u ∷ [] → HasUnits dialect t units back → HasUnits dialect t (u ∷ []) back
  begins u back is has = subst (λ (l : List (List ℕ)). HasUnits dialect t l back) is has

  -- there are no bytes
  nothing : (back : List ℕ) → units ≡ [] → back ≡ [] → HasUnits dialect t units back → t ≡ []
  nothing back is none has = has.whole ∙ ap₂ (λ (l : List (List ℕ)) (m : List ℕ). concat l ++ m) is none

  stops_so : (b back : List ℕ) (f : RunFault) → units ≡ []
      → EndsAs dialect (length t) t (Some []) units b back (Err f) → StopsIn dialect t b f
  stops_so b back f is ends =
      (back, subst (λ (l : List (List ℕ)). EndsAs dialect (length t) t (Some []) l b back (Err f)) is ends)

module _ (dialect : Dialect) (t : List ℕ) (first now : FirstUnit) (none : first.unit ≡ None) where
  -- the unit, where there is one
  pub read_unit : (read : SectionRead) → ReadsSection first_story dialect t first now (Ok read)
      → ReadsUnit dialect t (Ok (option_map (λ (u : WholeUnit). record { unit = u; read = read }) now.unit))
  read_unit read (units, back, has, is, inl (end, hears)) =
      rw (hears none).1 (nothing dialect t units back (none_told dialect 0 units (hears none).0) end has)
  read_unit read (units, back, has, is, inr done) =
      let d = done none in
      let one = one_told dialect units d.0 d.1 in
      rw d.2 (
        one.0,
        (back, begins dialect t units one.0 back one.1 has),
        record { unit = ap (λ (t : UnitTold). t.unit) one.2; read = is ∙ ap (read_of dialect) one.1 },
      )

  pub read_stopped : (f : SectionStop) → ReadsSection first_story dialect t first now (Err f)
      → ReadsUnit dialect t (Err f)
  read_stopped f (units, b, back, ends, hears) =
      (b, stops_so dialect t units b back (as_fault f) (none_told dialect 0 units (hears none).0) ends)

-- ---- a stop, as it is told of the bytes of s from an offset on

module _ (dialect : Dialect) (t s : List ℕ) (offset : ℕ) (rest : t ≡ drop offset s) (few : length s < 2 ^ 64)
    (within : offset < 2 ^ 64) where
  offset_is : (b : List ℕ) (at : ℕ) (kind : FaultKind) → StopsIn dialect t b (run.Damage at kind)
      → add offset at ≡ offset + at
  offset_is b at kind (back, ends) =
      let inside = fault_within dialect t [] b back at kind ends in
      omega (arith, inside, ap length rest, length-drop offset s, few, within)

  pub told_is : (b : List ℕ) (at : ℕ) (kind : FaultKind) → StopsIn dialect t b (run.Damage at kind)
      → record_of (add offset at) kind ≡ record_of (offset + at) kind
  told_is b at kind so = ap (λ (n : ℕ). record_of n kind) (offset_is b at kind so)

  module _ (f : FaultRecord) where
    pub describes_stop : (p : UnitRecord) (stop : SectionStop) → ReadsUnit dialect t (Err stop)
        → Describes dialect t offset p p f (fault_told stop offset f) (status_of stop)
    describes_stop p (stop.Damaged at kind) (b, so) = (b, at, kind, so, refl, told_is b at kind so)
    describes_stop p stop.NoMemory (b, so) = (b, so, refl, refl)

    pub path_stop : (strings : Strings) (file : ℕ) (p : List ℕ) (m : ℕ) (stop : SectionStop)
        → ReadsUnit dialect t (Err stop)
        → TellsPath dialect t offset strings file p p m m f (fault_told stop offset f) (status_of stop)
    path_stop strings file p m (stop.Damaged at kind) (b, so) = (b, at, kind, so, refl, refl, told_is b at kind so)
    path_stop strings file p m stop.NoMemory (b, so) = (b, so, refl, refl, refl)

    pub paths_stop : (strings : Strings) (files p m : List ℕ) (stop : SectionStop) → ReadsUnit dialect t (Err stop)
        → TellsPaths dialect t offset strings files p p m m f (fault_told stop offset f) (status_of stop)
    paths_stop strings files p m (stop.Damaged at kind) (b, so) = (b, at, kind, so, refl, refl, told_is b at kind so)
    paths_stop strings files p m stop.NoMemory (b, so) = (b, so, refl, refl, refl)

-- ---- rows

-- before a byte that adds a cell the header isn't whole
no_rows_yet : (dialect : Dialect) (b back : List ℕ) → RefusesCell dialect b back → unit_rows dialect b ≡ []
no_rows_yet dialect b back (byte, others, is, more) = by (header_in dialect b) refl where
  by : (o : Option (HeaderData × List ℕ)) → header_in dialect b ≡ o → unit_rows dialect b ≡ []
  by None none = no_rows dialect b none
  by (Some (h, program)) some =
      let found = found_is_header dialect h b program some in
      let before = ap (cells dialect) found.1 ∙ (header_holds_its_cells dialect h found.0 program found.2).0 in
      let after = ap (λ (l : List ℕ). cells dialect (l ++ byte ∷ [])) found.1
      ∙ ap (cells dialect) (append_assoc found.0 program (byte ∷ []))
      ∙ (header_holds_its_cells dialect h found.0 (program ++ byte ∷ []) found.2).0 in
      absurd (omega (arith, more.0, before, after))

-- ---- rows in a room

module _ (p q : List RowRecord) (n : ℕ) (rows : List Row) (r : Row)
    (kept : length rows < 2 ^ 64 → q ≡ written_over p (map row_record rows))
    (count : length rows < 2 ^ 64 → n ≡ length rows) (small : length (rows ++ r ∷ []) < 2 ^ 64) where
  fewer : length rows < 2 ^ 64
  fewer = omega (arith, small, length-append rows (r ∷ []))

  count_is : length (map row_record rows) ≡ n
  count_is = length-map rows row_record ∙ sym (count fewer)

  more_rows : map row_record (rows ++ r ∷ []) ≡ map row_record rows ++ row_record r ∷ []
  more_rows = map-append row_record rows (r ∷ [])

  room_is : length q ≡ length p
  room_is = ap length (kept fewer) ∙ length-over p (map row_record rows)

  pub row_kept : n < length q → slice_set q n (row_record r) ≡ written_over p (map row_record (rows ++ r ∷ []))
  row_kept room =
      ap₂ (λ (l : List RowRecord) (i : ℕ). slice_set l i (row_record r)) (kept fewer) (sym count_is)
      ∙ over_more p (map row_record rows) (row_record r) (omega (arith, room, room_is, count_is))
      ∙ ap (written_over p) (sym more_rows)

  pub row_passed : length q ≤ n → q ≡ written_over p (map row_record (rows ++ r ∷ []))
  row_passed full =
      kept fewer ∙ over_full p (map row_record rows) (row_record r ∷ []) (omega (arith, full, room_is, count_is))
      ∙ ap (written_over p) (sym more_rows)

  pub row_counted : (new : ℕ) → new ≡ min (n + 1) (2 ^ 64 - 1) → new ≡ length (rows ++ r ∷ [])
  row_counted new is = omega (arith, is, count fewer, small, length-append rows (r ∷ []))

-- a room that is told no row yet
pub none_heard : (first : RowRoom) → first.count ≡ 0 → RoomHeard first first []
none_heard first none = record { same = refl; kept = λ small. over_none first.rows.now; count = λ small. none }

true_false : true ≡ false → ⊥
true_false e = cc

pub short_rest : (s t : List ℕ) (offset : ℕ) → t ≡ drop offset s → length s < 2 ^ 64 → length t < 2 ^ 64
short_rest s t offset is few = omega (arith, few, ap length is, length-drop offset s)

-- what was read of t into a room; w: the room's rows where the sink is given back
module _ (dialect own : Dialect) (own_is : dialect ≡ own) (t rest : List ℕ) (rest_is : t ≡ rest)
    (few : length t < 2 ^ 64) (offset : ℕ) (first now : RowRoom) (w : List RowRecord)
    (w_is : first.rows.ghost_name ≡ now.rows.ghost_name → w ≡ now.rows.now) (m : ℕ) (f : FaultRecord) where
  in_call : (n : ℕ) (g : FaultRecord) (end : Status) → Lists dialect t offset first.rows.now w m n f g end
      → Lists own rest offset first.rows.now w m n f g end
  in_call n g end lists =
      subst (λ (d : Dialect). Lists d rest offset first.rows.now w m n f g end) own_is
      (subst (λ (l : List ℕ). Lists dialect l offset first.rows.now w m n f g end) rest_is lists)

  rows_of : (b back : List ℕ) → t ≡ b ++ back → RoomHeard first now (unit_rows dialect b)
      → (w ≡ written_over first.rows.now (map row_record (unit_rows dialect b)))
      × (now.count ≡ length (unit_rows dialect b))
  rows_of b back whole heard =
      let small : length (unit_rows dialect b) < 2 ^ 64 =
      omega (arith, few, few_rows dialect b, ap length whole, length-append b back) in
      (w_is (sym heard.same) ∙ heard.kept small, heard.count small)

  none_of : RoomHeard first now [] → w ≡ first.rows.now
  none_of heard = w_is (sym heard.same) ∙ heard.kept (omega arith) ∙ sym (over_none first.rows.now)

  pub lists_whole : (read : SectionRead) → ReadsSection room_story dialect t first now (Ok read) → now.is_whole ≡ true
      → Lists own rest offset first.rows.now w m now.count f f status.Done
  lists_whole read (units, back, has, is, inl (end, hears)) whole = absurd (true_false (sym whole ∙ hears.1))
  lists_whole read (units, back, has, is, inr (told, told_is, ended, heard)) whole =
      let one = one_told dialect units told told_is in
      let begun = begins dialect t units one.0 back one.1 has in
      let rows = rows_of one.0 back (begun.whole ∙ ap (λ (l : List ℕ). l ++ back) (append-nil one.0))
      (subst (λ (t : UnitTold). RoomHeard first now t.rows) one.2 heard) in
      in_call now.count f status.Done (one.0, (back, begun), rows.0, rows.1, refl)

  pub lists_none : (read : SectionRead) → ReadsSection room_story dialect t first now (Ok read)
      → now.is_whole ≡ false → Lists own rest offset first.rows.now w m m f f status.NoAnswer
  lists_none read (units, back, has, is, inl (end, hears)) going =
      in_call m f status.NoAnswer
      (nothing dialect t units back (none_told dialect 0 units hears.0) end has, none_of hears.2, refl, refl)
  lists_none read (units, back, has, is, inr (told, told_is, ended, heard)) going =
      absurd (true_false (sym ended ∙ going))

  pub lists_stopped : (stop : SectionStop) → ReadsSection room_story dialect t first now (Err stop)
      → ((b : List ℕ) (at : ℕ) (kind : FaultKind) → StopsIn dialect t b (run.Damage at kind)
      → record_of (add offset at) kind ≡ record_of (offset + at) kind)
      → Lists own rest offset first.rows.now w m (count_told stop now.count m) f (fault_told stop offset f)
      (status_of stop)
  lists_stopped (stop.Damaged at kind) (units, b, back, ends, hears) told =
      let none = none_told dialect 0 units hears.0 in
      let so = stops_so dialect t units b back (run.Damage at kind) none ends in
      let whole = sym (take_all (length t) t (omega arith)) ∙ ends.0.whole
      ∙ ap (λ (l : List (List ℕ)). concat l ++ (b ++ back)) none in
      let rows = rows_of b back whole hears.2 in
      in_call now.count (record_of (add offset at) kind) status.Fault
      (b, at, kind, so, rows.0, rows.1, told b at kind so)
  lists_stopped stop.NoMemory (units, b, back, ends, hears) told =
      in_call m f status.NoMemory (
        b,
        stops_so dialect t units b back run.NoMemory (none_told dialect 0 units hears.0) ends,
        none_of (subst (RoomHeard first now) (no_rows_yet dialect b back ends.2) hears.2),
        refl,
        refl,
      )
