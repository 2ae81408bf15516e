-- The reader of a section that passes over damaged units.
use Rattle.std.proofs.Common.{◌≡◌, ◌<◌, ◌≤◌, ◌^◌, ◌⊎◌, inl, inr, ℕ, ◌+◌, ◌-◌, List, [], ◌∷◌, ◌++◌, length, take, drop, Option}
use Rattle.std.proofs.Common.{Some, arith, refl, sym, ap, ◌∙◌, append_assoc, append-nil, length-append}
use Rattle.std.proofs.Common.{length-take, take-append-drop, min, zero-add}
use Rattle.std.proofs.lemmas.Bool.{cases_lt}
use Rattle.std.proofs.lemmas.List.{drop_all}
use Rattle.std.specs.List.{AllByRecursion}
use Rattle.dl_head.specs.declared.dialect.Dialect.{Dialect}
use Rattle.dl_head.specs.Header.{unit_len}
use Rattle.dl_table.specs.declared.fault.FaultKind.{FaultKind}
use Rattle.dl_rows.specs.Refusal.{Refused}
use Rattle.dl_print.specs.Counts.{add}
use Rattle.dl_sections.specs.declared.around.UnitsAround.{UnitsAround}
use Rattle.dl_sections.specs.Around.{Block, damaged, IsBlock, bytes_of, block_bytes, units_around, whole_unit, Rest, begun}
use Rattle.dl_sections.specs.Around.{cut_off, broken, IsRest, faults_of, damaged_units, visits_around}
use Rattle.dl_sections.specs.GoingOn.{AroundIs, Awaits, passed}
use Rattle.dl_sections.specs.UnitsRead.{Before, UnitsAre}
use Rattle.dl_sections.specs.Visiting.{Settled, Story}
use Rattle.std.proofs.lemmas.Grind.{flat_map-append}
use Rattle.dl_sections.proofs.BlockLemmas.{blocks_visits-append, faults_in-append}
use Rattle.dl_sections.proofs.BlockLemmas.{past_of}
use Rattle.dl_sections.proofs.SectionLemmas.{none_begins, none_refused}
use Rattle.dl_sections.proofs.UnitsLemmas.{all_both}

-- ---- a damaged unit of which all bytes are there

module _ (dialect : Dialect) (blocks : List Block) (front back more : List ℕ) (at : ℕ) (kind : FaultKind) where
  abbrev pub with_damaged : List Block
  with_damaged = blocks ++ damaged front more at kind ∷ []

  pub bytes_damaged : bytes_of with_damaged ≡ bytes_of blocks ++ (front ++ more)
  bytes_damaged = rw (flat_map-append block_bytes blocks (damaged front more at kind ∷ []), append-nil) refl

  pub units_damaged : units_around with_damaged ≡ units_around blocks
  units_damaged = rw (flat_map-append whole_unit blocks (damaged front more at kind ∷ []), append-nil) refl

  pub faults_damaged : faults_of with_damaged (begun []) ≡ faults_of blocks (broken front back at kind)
  faults_damaged = rw (append-nil, faults_in-append 0 blocks (damaged front more at kind ∷ []), zero-add) refl

  pub visits_damaged : visits_around dialect with_damaged (begun [])
      ≡ visits_around dialect blocks (broken front back at kind)
  visits_damaged =
      rw (append-nil, blocks_visits-append dialect 0 blocks (damaged front more at kind ∷ []), append-nil, zero-add) refl

-- ---- where the bytes before the next unit are passed over

-- s is what was read, and a rest of which, if there is any, a unit is read next
pub record PassedTo {S : Type 0} (story : Story S) (dialect : Dialect) (s : List ℕ) (first new : S)
    (start now : Option (List ℕ)) (a : UnitsAround) (rest : List ℕ) : Type 0 where
  pub read : List ℕ
  pub whole : s ≡ read ++ rest
  pub is : AroundIs story dialect read first new start now a
  pub ready : (rest ≡ []) ⊎ ((b : List ℕ) × (is.rest ≡ begun b))

-- t was read up to within a damaged unit, front being its bytes up to the one that decides its fault
pub record Broke {S : Type 0} (story : Story S) (dialect : Dialect) (t : List ℕ) (first new : S)
    (start now : Option (List ℕ)) (a : UnitsAround) : Type 0 where
  pub blocks : List Block
  pub front : List ℕ
  pub back : List ℕ
  pub at : ℕ
  pub kind : FaultKind
  pub n : ℕ
  pub whole : t ≡ bytes_of blocks ++ (front ++ back)
  pub each : AllByRecursion (IsBlock dialect) blocks
  pub refused : Refused dialect front at kind
  pub len : unit_len dialect front ≡ Some n
  pub most : length front + length back ≤ n
  pub offset : a.units.offset ≡ length (bytes_of blocks) + n
  pub next : (past : Before dialect) → length past.bytes ≡ length (bytes_of blocks) + n
      → past.units ≡ units_around blocks → UnitsAre past a.units [] [] []
  pub read : a.read ≡ length t
  pub damaged : a.damaged ≡ damaged_units (faults_of blocks (broken front back at kind))
  pub settled : Settled story first start now (visits_around dialect blocks (broken front back at kind))
      (story.tells first new start now)

module _ {S : Type 0} {story : Story S} {dialect : Dialect} {t : List ℕ} {first new : S} {start now : Option (List ℕ)}
    {a : UnitsAround} (is : Broke story dialect t first new start now a) (bytes : List ℕ)
    (short : length t + length bytes < 2 ^ 64) (x : UnitsAround)
    (x_is : x ≡ record a { read = add a.read (passed a bytes) }) where
  abbrev pub Over : Type 0
  Over = PassedTo story dialect (t ++ bytes) first new start now x (drop (passed a bytes) bytes)

  abbrev front : List ℕ
  front = is.front

  abbrev back : List ℕ
  back = is.back

  size : length t ≡ length (bytes_of is.blocks) + (length front + length back)
  size = omega (
    arith,
    ap length is.whole,
    length-append (bytes_of is.blocks) (front ++ back),
    length-append front back,
  )

  abbrev k : ℕ
  k = passed a bytes

  abbrev taken : List ℕ
  taken = take k bytes

  k_is : k ≡ min (is.n - (length front + length back)) (length bytes)
  k_is =
      (let at_end : a.units.offset ≡ length (bytes_of is.blocks) + is.n = is.offset in
      omega (arith, at_end, is.read, size))

  taken_size : length taken ≡ k
  taken_size = omega (arith, length-take k bytes, k_is)

  x_units : x.units ≡ a.units
  x_units = ap (λ (y : UnitsAround). y.units) x_is

  x_damaged : x.damaged ≡ a.damaged
  x_damaged = ap (λ (y : UnitsAround). y.damaged) x_is

  x_read : x.read ≡ length (t ++ taken)
  x_read =
      (let y = ap (λ (y : UnitsAround). y.read) x_is in
      omega (arith, y, is.read, taken_size, k_is, length-append t taken, short))

  read_more : t ++ taken ≡ bytes_of is.blocks ++ (front ++ (back ++ taken))
  read_more = ap (λ (l : List ℕ). l ++ taken) is.whole ∙ simp append_assoc

  joined : t ++ bytes ≡ (t ++ taken) ++ drop k bytes
  joined = rw append_assoc (ap (λ (l : List ℕ). t ++ l) (sym (take-append-drop k bytes)))

  -- the unit goes on after the bytes
  goes_on : length bytes < is.n - (length front + length back) → Over
  goes_on lt =
      let all : k ≡ length bytes = omega (arith, lt, k_is) in record {
        read = t ++ taken;
        whole = joined;
        is = record {
          blocks = is.blocks;
          rest = broken front (back ++ taken) is.at is.kind;
          cut = record {
            whole = read_more;
            each = is.each;
            rest_is = (
              is.refused,
              λ m len.
                  let same : Some m ≡ Some is.n = sym len ∙ is.len in
                  let m_is : m ≡ is.n = cc in
                  omega (
                    arith,
                    lt,
                    m_is,
                    taken_size,
                    all,
                    length-append front (back ++ taken),
                    length-append back taken,
                  ),
            );
          };
          awaits = rw x_units (is.n, is.len, is.offset, is.next);
          read = x_read;
          damaged = x_damaged ∙ is.damaged;
          settled = is.settled;
        };
        ready = inl (drop_all k bytes (omega (arith, all)));
      }

  -- all its bytes are there
  is_whole : is.n - (length front + length back) ≤ length bytes → Over
  is_whole le =
      let some : k ≡ is.n - (length front + length back) = omega (arith, le, k_is) in
      let len : length (front ++ (back ++ taken)) ≡ is.n = omega (
        arith,
        some,
        taken_size,
        is.most,
        length-append front (back ++ taken),
        length-append back taken,
      ) in
      let more = back ++ taken in
      let blocks = with_damaged dialect is.blocks front back more is.at is.kind in
      let bytes_are = bytes_damaged dialect is.blocks front back more is.at is.kind in
      let units_are = units_damaged dialect is.blocks front back more is.at is.kind in record {
        read = t ++ taken;
        whole = joined;
        is = record {
          blocks = blocks;
          rest = begun [];
          cut = record {
            whole = rw (append-nil, bytes_are) read_more;
            each =
                all_both (IsBlock dialect) is.blocks (damaged front more is.at is.kind ∷ []) is.each
                ((is.refused, rw len is.len), tt);
            rest_is = (none_refused dialect, none_begins dialect);
          };
          awaits = rw x_units (λ past past_bytes past_units. is.next past (omega (
            arith,
            ap length past_bytes,
            ap length bytes_are,
            len,
            length-append (bytes_of is.blocks) (front ++ more),
          )) (past_units ∙ units_are));
          read = x_read;
          damaged = x_damaged ∙ is.damaged
              ∙ ap damaged_units (sym (faults_damaged dialect is.blocks front back more is.at is.kind));
          settled = rw (visits_damaged dialect is.blocks front back more is.at is.kind) is.settled;
        };
        ready = inr ([], refl);
      }

  pub passes_over : Over
  passes_over = elim (cases_lt (length bytes) (is.n - (length front + length back))) [
    | inl lt ↦ goes_on lt
    | inr le ↦ is_whole le
  ]

module _ {S : Type 0} {story : Story S} {dialect : Dialect} {t : List ℕ} {first new : S} {start now : Option (List ℕ)}
    {a : UnitsAround} (is : AroundIs story dialect t first new start now a) (bytes : List ℕ)
    (short : length t + length bytes < 2 ^ 64) (x : UnitsAround)
    (x_is : x ≡ record a { read = add a.read (passed a bytes) }) where
  abbrev pub Passes : Type 0
  Passes = PassedTo story dialect (t ++ bytes) first new start now x (drop (passed a bytes) bytes)

  -- there are none before a unit that is read
  within : (b : List ℕ) → is.rest ≡ begun b → Passes
  within b e =
      let whole = rw e at is.cut.whole in
      let are = (rw e at is.awaits) (past_of dialect is.blocks is.cut.each) refl refl in
      let none : passed a bytes ≡ 0 = omega (
        arith,
        are.offset,
        is.read,
        ap length whole,
        length-append (bytes_of is.blocks) b,
        length-append (bytes_of is.blocks) [],
      ) in
      let same : add a.read (passed a bytes) ≡ a.read = omega (arith, none, is.read, short) in
      let x_same : x ≡ a = x_is ∙ ap (λ (n : ℕ). record a { read = n }) same in
      rw (none, x_same) (record { read = t; whole = refl; is = is; ready = inr (b, e) })

  -- those of a damaged one
  in_damaged : (front back : List ℕ) (at : ℕ) (kind : FaultKind) → is.rest ≡ broken front back at kind → Passes
  in_damaged front back at kind e =
      let awaits : Awaits dialect a.units is.blocks (broken front back at kind) = rw e at is.awaits in
      let rest_is : IsRest dialect (broken front back at kind) = rw e at is.cut.rest_is in
      let less = rest_is.1 awaits.0 awaits.1 in
      passes_over (record {
        blocks = is.blocks;
        front = front;
        back = back;
        at = at;
        kind = kind;
        n = awaits.0;
        whole = rw e at is.cut.whole;
        each = is.cut.each;
        refused = rest_is.0;
        len = awaits.1;
        most = omega (arith, less, length-append front back);
        offset = awaits.2;
        next = awaits.3;
        read = is.read;
        damaged = rw e at is.damaged;
        settled = rw e at is.settled;
      }) bytes short x x_is

  pub passes : Passes
  passes = by is.rest refl where
    by : (rest : Rest) → is.rest ≡ rest → Passes
    by (begun b) e = within b e
    by (cut_off b) e = absurd (rw e at is.awaits)
    by (broken front back at kind) e = in_damaged front back at kind e
