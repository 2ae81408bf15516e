-- What is written for units that were read is units of the same rows, of version 5 where they become such.
use Rattle.dl_sections.proofs.Names.{if◌then◌else◌, ◌++◌, ◌+◌, ◌<◌, ◌^◌, ◌∙◌, ◌∷◌, ◌≡◌, ◌≤◌, [], after_last, all_push}
use Rattle.dl_sections.proofs.Names.{AllByRecursion, AllBytes, ap, append-nil, appends_row, AreCopied, AreMade, AreNewer}
use Rattle.dl_sections.proofs.Names.{arith, Bool, bytes_back, bytes_front, concat, copied_unit, copied_units}
use Rattle.dl_sections.proofs.Names.{CopiesAreNewer, CopiesAreUnits, Dialect, drop, EmitFault, false, found_is_header}
use Rattle.dl_sections.proofs.Names.{found_is_program, fresh, header_is_sound, header_of, HeaderData, inr, is_end}
use Rattle.dl_sections.proofs.Names.{is_within_limit, IsAnew, IsCopied, IsMade, IsNewer, IsRow, IsSoundHeader, IsUnit}
use Rattle.dl_sections.proofs.Names.{last_part, last_set, length, line, List, map, mod-lt, modulo, moves, negsuc, None}
use Rattle.dl_sections.proofs.Names.{Operation, operations_in, Option, option_or, Order, Params, params_are}
use Rattle.dl_sections.proofs.Names.{parts, pos, program_len, refl, refusal, Row, row, row_from, rows_later, rows_refusal}
use Rattle.dl_sections.proofs.Names.{sequence, set_column, set_discriminator, set_file, set_isa, Some, SpellsOperation}
use Rattle.dl_sections.proofs.Names.{SpellsProgram, standard_fault, subst, suc, sym, tables_near, to_5, to_version_5}
use Rattle.dl_sections.proofs.Names.{TooLong, true, unit_as, unit_is_read_again, unit_rows, units_as, unless, unwrap_or}
use Rattle.dl_sections.proofs.Names.{usable, version_5_sound, with_standard_opcodes, zero, ℕ, ℤ}
use Rattle.dl_sections.proofs.Names.op
use Rattle.dl_rows.specs.Matrix.{rows_after}
use Rattle.dl_sections.proofs.EventLemmas.{header_parts}
use Rattle.dl_sections.proofs.Fronts.{neither, none_is_some, value_same}

-- ---- the operands of operations that were read

-- what the operation sets has 64 bits
abbrev Small : Operation → Type 0
Small (op.SetFile n) = n < 2 ^ 64
Small (op.SetColumn n) = n < 2 ^ 64
Small (op.SetIsa n) = n < 2 ^ 64
Small (op.SetDiscriminator n) = n < 2 ^ 64
Small o = Unit {0}

small_of : (order : Order) (h : Params) (o : Operation) (w : List ℕ) → SpellsOperation order h o w → Small o
small_of order h (op.SetFile n) w s = s.fits
small_of order h (op.SetColumn n) w s = s.fits
small_of order h (op.SetIsa n) w s = s.fits
small_of order h (op.SetDiscriminator n) w s = s.fits
small_of order h o w s = tt

all_small : (order : Order) (h : Params) (os : List Operation) (w : List ℕ) → SpellsProgram order h os w
    → AllByRecursion Small os
all_small order h [] w s = tt
all_small order h (o ∷ os) w (front, back, e, s, q) = (small_of order h o front s, all_small order h os back q)

-- ---- rows of such operations

-- what a setting sets is small
abbrev SetsSmall : (Operation → Option ℕ) → Type 0
SetsSmall sets = (o : Operation) (n : ℕ) → Small o → sets o ≡ Some n → n < 2 ^ 64

file_small : SetsSmall set_file
file_small (op.SetFile m) n small e = subst (λ (k : ℕ). k < 2 ^ 64) (value_same m n e) small
file_small o n small e = absurd (none_is_some e)

column_small : SetsSmall set_column
column_small (op.SetColumn m) n small e = subst (λ (k : ℕ). k < 2 ^ 64) (value_same m n e) small
column_small o n small e = absurd (none_is_some e)

isa_small : SetsSmall set_isa
isa_small (op.SetIsa m) n small e = subst (λ (k : ℕ). k < 2 ^ 64) (value_same m n e) small
isa_small o n small e = absurd (none_is_some e)

discriminator_small : SetsSmall set_discriminator
discriminator_small (op.SetDiscriminator m) n small e = subst (λ (k : ℕ). k < 2 ^ 64) (value_same m n e) small
discriminator_small o n small e = absurd (none_is_some e)

module _ (sets : Operation → Option ℕ) (each : SetsSmall sets) where
  set_small : (os : List Operation) (d : ℕ) → d < 2 ^ 64 → AllByRecursion Small os
      → unwrap_or (last_set sets os) d < 2 ^ 64
  set_small [] d lt small = lt
  set_small (o ∷ os) d lt small = by (last_set sets os) (sets o) refl (set_small os d lt small.1) where
    by : (later own : Option ℕ) → sets o ≡ own → unwrap_or later d < 2 ^ 64
        → unwrap_or (option_or later own) d < 2 ^ 64
    by (Some m) own e lt = lt
    by None (Some n) e lt = each o n small.0 e
    by None None e lt = lt

all_drop : {A : Type 0} (P : A → Type 0) (n : ℕ) (xs : List A) → AllByRecursion P xs → AllByRecursion P (drop n xs)
all_drop P zero xs all = all
all_drop P (suc n) [] all = tt
all_drop P (suc n) (x ∷ xs) all = all_drop P n xs all.1

line_small : (z : ℤ) → modulo z (2 ^ 64) < 2 ^ 64
line_small (pos n) = mod-lt n (omega arith)
line_small (negsuc n) = omega arith

module _ (h : Params) (some : 1 ≤ h.maximum_operations_per_instruction)
    (most : h.maximum_operations_per_instruction < 2 ^ 8) where
  row_is : (s f : List Operation) (end : Bool) → AllByRecursion Small s → AllByRecursion Small f
      → IsRow (row_from h s f end)
  row_is s f end small marks =
      let index = mod-lt (last_part (parts h (moves s))) some in
      record {
        file = set_small set_file file_small s 1 (omega arith) small;
        line = line_small (line h s);
        column = set_small set_column column_small s 0 (omega arith) small;
        isa = set_small set_isa isa_small s 0 (omega arith) small;
        discriminator = set_small set_discriminator discriminator_small f 0 (omega arith) marks;
        op_index = omega arith;
      }

  rows_are : (front os : List Operation) → AllByRecursion Small front → AllByRecursion Small os
      → AllByRecursion IsRow (rows_after h front os)
  rows_are front [] small more = tt
  rows_are front (o ∷ os) small more =
      let since = λ (p : Operation → Bool).
      all_push Small (after_last p front) o (all_drop Small _ front small) more.0 in
      let tail = rows_are (front ++ o ∷ []) os (all_push Small front o small more.0) more.1 in
      elim (appends_row o)
      as (λ b. AllByRecursion IsRow (if b then row h front o ∷ rows_after h (front ++ o ∷ []) os
      else rows_after h (front ++ o ∷ []) os)) [
        | true ↦ (row_is (sequence front o) (fresh front o) (is_end o) (since is_end) (since appends_row), tail)
        | false ↦ tail
      ]

-- ---- one unit

pub standard_sound : (h : HeaderData) → IsSoundHeader h → IsSoundHeader (with_standard_opcodes h)
standard_sound h sound = record {
  params = standard_fault h sound.params;
  maximum_operations = sound.maximum_operations;
  line_base = sound.line_base;
  directories = sound.directories;
  files = sound.files;
}

-- the header of bytes, and the rows after it
pub record HasHeader (dialect : Dialect) (u : List ℕ) (h : HeaderData) : Type 0 where
  pub sound : IsSoundHeader h
  pub rows : AllByRecursion IsRow (unit_rows dialect u)

pub header_read : (dialect : Dialect) (u : List ℕ) (h : HeaderData) → AllBytes u → header_of dialect u ≡ Some h
    → HasHeader dialect u h
header_read dialect u h all is =
    let parts = header_parts dialect u h is in
    let program = parts.0 in
    let w = found_is_header dialect h u program parts.1 in
    let sound = header_is_sound dialect h w.0 w.2 (bytes_front w.0 program (rw w.1 at all)) in
    let params = usable h.params h.directories h.files sound.params in
    let found = found_is_program dialect.order h.params program (let opcodes = params.opcodes in omega arith) in
    let os = (operations_in dialect.order h.params program).found in
    record {
      sound = sound;
      rows = rw parts.1 (rows_are h.params params.operations sound.maximum_operations [] os tt
          (all_small dialect.order h.params os found.0 found.2));
    }

copy_is_anew : (dialect : Dialect) (u : List ℕ) → AllBytes u → IsCopied dialect u
    → IsAnew dialect u (copied_unit dialect u)
copy_is_anew dialect u all (h, is, none) =
    let read = header_read dialect u h all is in
    let std = with_standard_opcodes h in
    let again = unit_is_read_again dialect std (unit_rows dialect u) (standard_sound h read.sound) read.rows none in
    rw is (record {
      header = h;
      its_header = is;
      operations = _;
      unit = again.unit;
      events_are = again.events_are;
      rows = ap (rows_later dialect.order) again.header ∙ again.program.same;
    })

-- ---- units

all_anew : (dialect : Dialect) (units : List (List ℕ)) → AllBytes (concat units) → AreCopied dialect units
    → (copied_units dialect units ≡ concat (map (copied_unit dialect) units))
    × AllByRecursion (IsUnit dialect) (map (copied_unit dialect) units)
    × AllByRecursion (λ u. IsAnew dialect u (copied_unit dialect u)) units
all_anew dialect [] all copied = (refl, tt, tt)
all_anew dialect (u ∷ units) all copied =
    let one = copy_is_anew dialect u (bytes_front u (concat units) all) copied.0 in
    let more = all_anew dialect units (bytes_back u (concat units) all) copied.1 in
    (ap (λ (l : List ℕ). copied_unit dialect u ++ l) more.0, (inr (_, _, one.unit), more.1), (one, more.2))

pub copies_are_units : CopiesAreUnits
copies_are_units dialect s units rest all has copied =
    let anew = all_anew dialect units (bytes_front (concat units) rest (rw has.whole at all)) copied in
    (record { whole = rw append-nil anew.0; each = anew.1 }, anew.2)

-- ---- units of version 5

accepted : (b : Bool) (f : EmitFault) → unless b f ≡ None → b ≡ true
accepted true f e = refl
accepted false f e = absurd (none_is_some (sym e))

module _ (directories : ℕ → Option (List ℕ)) (dialect : Dialect) where
  -- what becomes of a sound header is sound, where its unit can be written
  to_5_sound : (offset : ℕ) (h : HeaderData) (rows : List Row) → IsSoundHeader h
      → refusal (to_5 directories offset h) rows ≡ None → IsSoundHeader (to_5 directories offset h)
  to_5_sound offset h rows sound none =
      let directory = directories offset in
      let made = to_5 directories offset h in
      let len = program_len made.params rows in
      let fits = accepted (is_within_limit made len) TooLong (neither (rows_refusal made.params rows) _ none).1 in
      standard_sound (to_version_5 h directory) (version_5_sound h directory sound (tables_near made len fits))

  one_newer : (offset : ℕ) (u : List ℕ) → AllBytes u → IsMade (to_5 directories) dialect offset u
      → IsNewer directories dialect offset u (unit_as (to_5 directories) dialect offset u)
  one_newer offset u all (h, is, none) =
      let read = header_read dialect u h all is in
      let made = to_5 directories offset h in
      let rows = unit_rows dialect u in
      let again = unit_is_read_again dialect made rows (to_5_sound offset h rows read.sound none) read.rows none in
      rw is (record {
        header = h;
        its_header = is;
        version = ap (λ (p : Params). p.version) (params_are h (directories offset));
        operations = _;
        unit = again.unit;
        events_are = again.events_are;
        rows = ap (rows_later dialect.order) again.header ∙ again.program.same;
      })

  -- the copies of units, the first of which stands at the offset
  all_newer : (offset : ℕ) (units : List (List ℕ)) → AllBytes (concat units)
      → AreMade (to_5 directories) dialect offset units
      → (newer : List (List ℕ)) × (units_as (to_5 directories) dialect offset units ≡ concat newer)
      × AllByRecursion (IsUnit dialect) newer × AreNewer directories dialect offset units newer
  all_newer offset [] all made = ([], refl, tt, tt)
  all_newer offset (u ∷ units) all made =
      let one = one_newer offset u (bytes_front u (concat units) all) made.0 in
      let more = all_newer (offset + length u) units (bytes_back u (concat units) all) made.1 in
      let v = unit_as (to_5 directories) dialect offset u in
      (v ∷ more.0, ap (λ (l : List ℕ). v ++ l) more.1, (inr (_, _, one.unit), more.2), (one, more.3))

pub copies_are_newer : CopiesAreNewer
copies_are_newer directories dialect s units rest all has made =
    let n = all_newer directories dialect 0 units (bytes_front (concat units) rest (rw has.whole at all)) made in
    (n.0, record { whole = rw append-nil n.1; each = n.2 }, n.3)
