-- A run of units between damaged ones, and what it ends in.
use Rattle.std.proofs.Common.{◌≡◌, ◌≢◌, ◌<◌, ◌≤◌, ◌^◌, inl, inr, ℕ, ◌+◌, List, [], ◌∷◌, ◌++◌, length, drop}
use Rattle.std.proofs.Common.{Option, Result, Ok, Err, arith, refl, sym, ap, ◌∙◌, append_assoc, append-nil}
use Rattle.std.proofs.Common.{length-append, length-drop, subst, Bool, true, false}
use Rattle.std.specs.Prelude.{eqb}
use Rattle.std.proofs.lemmas.Bool.{eqb-true}
use Rattle.std.proofs.lemmas.List.{nil_from_length}
use Rattle.std.specs.List.{concat}
use Rattle.dl_head.specs.declared.dialect.Dialect.{Dialect}
use Rattle.dl_table.specs.declared.fault.FaultKind.{FaultKind}
use Rattle.dl_rows.specs.declared.sink.Flow.{Flow}
use Rattle.dl_rows.specs.declared.sink.Flow.TheVariants as flow
use Rattle.dl_print.specs.Counts.{add}
use Rattle.dl_sections.specs.declared.around.UnitsAround.{UnitsAround}
use Rattle.dl_sections.specs.declared.fault.RunFault.{RunFault}
use Rattle.dl_sections.specs.declared.fault.RunFault.TheVariants as fault
use Rattle.dl_sections.specs.declared.section.SectionUnits.{SectionUnits}
use Rattle.dl_sections.specs.Around.{Block, bytes_of, units_around, faults_in, begun, IsCutTo}
use Rattle.dl_sections.specs.Around.{damaged_units, visits_around}
use Rattle.dl_sections.specs.GoingOn.{AroundFed, AroundIs, passed}
use Rattle.dl_sections.specs.Section.{HasBegun}
use Rattle.dl_sections.specs.UnitsRead.{Before, UnitsAre, Worked, visits_since}
use Rattle.dl_sections.specs.Visiting.{Story}
use Rattle.dl_sections.proofs.AroundLemmas.{PassedTo, passes}
use Rattle.dl_sections.proofs.BlockLemmas.{all_with, bytes_with, faults_with, past_of, units_with}
use Rattle.dl_sections.proofs.BlockLemmas.{visits_with, with_units}

-- the same, where the units are reckoned to what was read before
pub rebased : {dialect : Dialect} (past past2 : Before dialect) {u : SectionUnits} {t : List ℕ} {units : List (List ℕ)}
    {b : List ℕ} → UnitsAre past u t units b → past2.bytes ≡ past.bytes ++ concat units
    → past2.units ≡ past.units ++ units → UnitsAre past2 u b [] b
rebased {dialect} past past2 {units = units} are bytes_are units_are = record {
  has = record { whole = refl; each = tt };
  dialect_is = are.dialect_is;
  reader_dialect = are.reader_dialect;
  stands = are.stands;
  offset = rw (append-nil, bytes_are) are.offset;
  foreign = are.foreign;
  sequences = are.sequences;
  rows = are.rows;
  summary = rw (append-nil, units_are) are.summary;
}

-- a unit is read next
pub at_unit : {S : Type 0} {story : Story S} {dialect : Dialect} {s : List ℕ} {first new : S}
    {start now : Option (List ℕ)} {a : UnitsAround} {rest : List ℕ}
    (so : PassedTo story dialect s first new start now a rest) → rest ≢ [] → (b : List ℕ) × (so.is.rest ≡ begun b)
at_unit so some = elim so.ready [
  | inl none ↦ absurd (some none)
  | inr is ↦ is
]

module _ {S : Type 0} {story : Story S} {dialect : Dialect} {read : List ℕ} {first old : S} {start before : Option (List ℕ)}
    {a : UnitsAround} (is : AroundIs story dialect read first old start before a) (b : List ℕ) (e : is.rest ≡ begun b)
  where
    abbrev pub past : Before dialect
    past = past_of dialect is.blocks is.cut.each

    pub read_is : read ≡ bytes_of is.blocks ++ b
    read_is = rw e at is.cut.whole

    pub are : UnitsAre past a.units b [] b
    are = (rw e at is.awaits) past refl refl

    pub tells : story.tells first old start before (visits_since past [] b)
    tells = (let s = rw e at is.settled in rw (visits_with dialect is.blocks is.cut.each [] b, append-nil) s.tells)

    module _ (rest : List ℕ) where
      pub short_here : length read + length rest ≤ 2 ^ 63 → length past.bytes + (length b + length rest) < 2 ^ 64
      short_here short = omega (arith, short, ap length read_is, length-append (bytes_of is.blocks) b)

      -- the bytes after some units more
      module _ (units : List (List ℕ)) where
        abbrev pub blocks : List Block
        blocks = with_units dialect is.blocks units

        pub cut_more : (more : List ℕ) → b ++ rest ≡ concat units ++ more → read ++ rest ≡ bytes_of blocks ++ more
        cut_more more cut =
            rw (read_is, append_assoc, cut, bytes_with dialect is.blocks units, append_assoc) refl

        pub units_are : units_around blocks ≡ past.units ++ units
        units_are = units_with dialect is.blocks units

        pub no_more_faults : faults_in 0 blocks ≡ faults_in 0 is.blocks
        no_more_faults = faults_with dialect 0 is.blocks units

        pub damaged_is : a.damaged ≡ damaged_units (faults_in 0 blocks)
        damaged_is = (let d = rw (e, append-nil) at is.damaged in d ∙ ap damaged_units (sym no_more_faults))

        pub told_is : (c : List ℕ) → visits_since past units c ≡ visits_around dialect blocks (begun c)
        told_is c = visits_with dialect is.blocks is.cut.each units c

      module _ (short : length read + length rest ≤ 2 ^ 63) {u : SectionUnits} {new : S} {now : Option (List ℕ)} where
        -- all bytes were read
        pub reads_on : Worked story past (b ++ rest) first new start now u (Ok flow.On) → (x : UnitsAround)
            → x ≡ record a { units = u; read = add a.read (length rest) }
            → AroundIs story dialect (read ++ rest) first new start now x
        reads_on (units, c, are2, none, sound, settled) x x_is = record {
          blocks = blocks units;
          rest = begun c;
          cut = record {
            whole = cut_more units c are2.has.whole;
            each = all_with dialect is.blocks units is.cut.each are2.has.each;
            rest_is = (sound, none);
          };
          awaits = rw x_is (λ past2 bytes_are units_are2. rebased past past2 are2
              (bytes_are ∙ bytes_with dialect is.blocks units) (units_are2 ∙ units_are units));
          read = (let y = ap (λ (y : UnitsAround). y.read) x_is in
              omega (arith, y, is.read, short, length-append read rest));
          damaged = rw (append-nil) (ap (λ (y : UnitsAround). y.damaged) x_is ∙ damaged_is units);
          settled = rw (← told_is units c) settled;
        }

        -- the visitor wants nothing more
        pub no_more : Worked story past (b ++ rest) first new start now u (Ok flow.Stop) → (x : UnitsAround)
            → x ≡ record a { units = u } → AroundFed story dialect (read ++ rest) first new start now x (Ok flow.Stop)
        no_more (units, back, has, summary, offset, settled) x x_is = (
          blocks units,
          begun [],
          rw (x_is, append-nil, units_are units, ← damaged_is units, ← summary) refl,
          inr (
            back,
            refl,
            record {
              whole = cut_more units back has.whole;
              each = all_with dialect is.blocks units is.cut.each has.each;
              front = λ n known. omega arith;
            },
            rw (← told_is units []) settled,
          ),
        )

      module _ (u : SectionUnits) (new : S) (now : Option (List ℕ)) where
        -- a write failed, or memory was refused, or the visitor had a reason
        pub stops : (f : RunFault) → ((offset : ℕ) (kind : FaultKind) → f ≢ fault.Damage offset kind)
            → Worked story past (b ++ rest) first new start now u (Err f) → (x : UnitsAround)
            → AroundFed story dialect (read ++ rest) first new start now x (Err f)
        stops f other worked x = by f other worked where
          cut_to : (units : List (List ℕ)) (c back : List ℕ) → HasBegun dialect (b ++ rest) units c back
              → IsCutTo dialect (read ++ rest) (blocks units) (begun c) back
          cut_to units c back has = record {
            whole = cut_more units (c ++ back) has.has.whole;
            each = all_with dialect is.blocks units is.cut.each has.has.each;
            front = has.in_unit;
          }

          by : (f : RunFault) → ((offset : ℕ) (kind : FaultKind) → f ≢ fault.Damage offset kind)
              → Worked story past (b ++ rest) first new start now u (Err f)
              → AroundFed story dialect (read ++ rest) first new start now x (Err f)
          by (fault.Write out) other (units, c, back, has, writes) =
              (blocks units, begun c, back, cut_to units c back has, rw (← told_is units c) writes)
          by (fault.Damage offset kind) other w = absurd (other offset kind refl)
          by fault.NoMemory other (units, c, back, has, inl (wants, settled)) = (
            blocks units,
            begun c,
            back,
            cut_to units c back has,
            wants.0,
            inl (wants.1, rw (← told_is units c) settled),
          )
          by fault.NoMemory other (units, c, back, has, inr (sound, v)) =
              (blocks units, begun c, back, cut_to units c back has, sound, inr (rw (← told_is units c) v))
          by f other (units, c, back, has, inl (wants, settled)) = absurd wants
          by f other (units, c, back, has, inr (sound, v)) =
              (blocks units, begun c, back, cut_to units c back has, sound, inr (rw (← told_is units c) v))

-- ---- the loop

-- fewer bytes are left after those that are passed over
pub counted_rest : (a : UnitsAround) (bytes : List ℕ) {most : ℕ} → a.read + length bytes ≤ most → {rest : List ℕ}
    {x : UnitsAround} → rest ≡ drop (passed a bytes) bytes → x ≡ record a { read = add a.read (passed a bytes) }
    → x.read + length rest ≤ most
counted_rest a bytes short rest_is x_is =
    (let y = ap (λ (y : UnitsAround). y.read) x_is in
    omega (arith, short, y, ap length rest_is, length-drop (passed a bytes) bytes))

pub short_rest : (a : UnitsAround) (bytes : List ℕ) → a.read + length bytes ≤ 2 ^ 63 → {rest : List ℕ} {x : UnitsAround}
    → rest ≡ drop (passed a bytes) bytes → x ≡ record a { read = add a.read (passed a bytes) }
    → x.read + length rest ≤ 2 ^ 63
short_rest a bytes short rest_is x_is = counted_rest a bytes short rest_is x_is

-- the bytes of the next unit aren't all, where it begins after one of them
pub fewer : (next : UnitsAround) (read : ℕ) (bytes : List ℕ) → bytes ≢ [] → next.read ≡ read → read < next.units.offset
    → {rest : List ℕ} → rest ≡ drop (passed next bytes) bytes → length rest < length bytes
fewer next read [] some same later rest_is = absurd (some refl)
fewer next read (x ∷ bytes) some same later rest_is =
    omega (arith, same, later, ap length rest_is, length-drop (passed next (x ∷ bytes)) (x ∷ bytes))

-- the bytes before the current unit are passed over
pub enters : {S : Type 0} {story : Story S} {dialect : Dialect} {t : List ℕ} {first new : S} {start now : Option (List ℕ)}
    {a : UnitsAround} → AroundIs story dialect t first new start now a → (bytes : List ℕ)
    → a.read + length bytes ≤ 2 ^ 63 → {rest : List ℕ} {x : UnitsAround} → rest ≡ drop (passed a bytes) bytes
    → x ≡ record a { read = add a.read (passed a bytes) }
    → PassedTo story dialect (t ++ bytes) first new start now x rest
enters is bytes short {x = x} rest_is x_is = rw rest_is (passes is bytes (omega (arith, short, is.read)) x x_is)

-- so far as the bytes go
pub within_limit : {S : Type 0} {story : Story S} {dialect : Dialect} {s : List ℕ} {first new : S}
    {start now : Option (List ℕ)} {a : UnitsAround} {rest : List ℕ}
    (so : PassedTo story dialect s first new start now a rest) → a.read + length rest ≤ 2 ^ 63
    → length so.read + length rest ≤ 2 ^ 63
within_limit so short = omega (arith, short, so.is.read)

pub some_rest : (rest : List ℕ) {is_empty : Bool} → is_empty ≡ eqb (length rest) 0 → is_empty ≡ false → rest ≢ []
some_rest [] is some none = cc
some_rest (x ∷ rest) is some none = cc

pub no_rest : (rest : List ℕ) {is_empty : Bool} → is_empty ≡ eqb (length rest) 0 → is_empty ≡ true → rest ≡ []
no_rest rest is none = nil_from_length rest (eqb-true (length rest) 0 (sym is ∙ none))

-- nothing is left
pub all_read : {S : Type 0} {story : Story S} {dialect : Dialect} {s : List ℕ} {first new : S} {start now : Option (List ℕ)}
    {a : UnitsAround} {rest : List ℕ} → PassedTo story dialect s first new start now a rest → rest ≡ []
    → AroundIs story dialect s first new start now a
all_read so none = rw (so.whole, none, append-nil) so.is

-- there is a byte for the fault
pub byte_left : (read : ℕ) (rest : List ℕ) → rest ≢ [] → read + length rest ≤ 2 ^ 63 → read < 2 ^ 63
byte_left read [] some short = absurd (some refl)
byte_left read (x ∷ rest) some short = omega (arith, short)

-- what was read, and the rest, are all
pub of_all : {S : Type 0} {story : Story S} {dialect : Dialect} {s : List ℕ} {first mid : S} {start before : Option (List ℕ)}
    {a : UnitsAround} {rest : List ℕ} (so : PassedTo story dialect s first mid start before a rest) (new : S)
    (now : Option (List ℕ)) (x : UnitsAround) (result : Result Flow RunFault)
    → AroundFed story dialect (so.read ++ rest) first new start now x result
    → AroundFed story dialect s first new start now x result
of_all {story = story} {dialect} {first = first} {start = start} so new now x result fed =
    subst (λ (l : List ℕ). AroundFed story dialect l first new start now x result) (sym so.whole) fed
