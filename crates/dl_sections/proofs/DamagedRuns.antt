-- A damaged unit, at which a run of units stops.
use Rattle.std.proofs.Common.{◌≡◌, ◌≢◌, ◌<◌, ◌≤◌, ◌^◌, inl, inr, ℕ, ◌+◌, List, [], ◌∷◌, ◌++◌, length, drop}
use Rattle.std.proofs.Common.{Option, Some, None, Ok, Err, arith, refl, sym, ap, ◌∙◌, append_assoc, append-nil}
use Rattle.std.proofs.Common.{length-append, suc, subst, zero-add, ap₂}
use Rattle.std.proofs.lemmas.List.{append_cancel_left}
use Rattle.std.specs.List.{AllByRecursion, concat}
use Rattle.dl_head.specs.declared.dialect.Dialect.{Dialect}
use Rattle.dl_head.specs.Header.{unit_len}
use Rattle.dl_head.proofs.FrontLemmas.{fronts}
use Rattle.dl_table.specs.declared.fault.FaultKind.{FaultKind}
use Rattle.dl_rows.specs.LineUnit.{IsUnit}
use Rattle.dl_rows.specs.Refusal.{Refused}
use Rattle.dl_rows.specs.ReaderStands.{StandsFor}
use Rattle.dl_rows.specs.Runs.{Sound}
use Rattle.dl_rows.specs.declared.sink.Flow.{Flow}
use Rattle.dl_rows.specs.declared.sink.Flow.TheVariants as flow
use Rattle.dl_rows.proofs.UnitLengths.{unit_len_small}
use Rattle.dl_print.specs.Counts.{add}
use Rattle.dl_sections.specs.declared.around.Damage.{Damage}
use Rattle.dl_sections.specs.declared.around.UnitsAround.{UnitsAround}
use Rattle.dl_sections.specs.declared.fault.RunFault.{RunFault}
use Rattle.dl_sections.specs.declared.fault.RunFault.TheVariants as fault
use Rattle.dl_sections.specs.declared.section.SectionUnits.{SectionUnits}
use Rattle.dl_sections.specs.Around.{Block, IsBlock, bytes_of, faults_in, begun, broken, faults_of}
use Rattle.dl_sections.specs.Around.{damaged_units, visits_around, blocks_visits}
use Rattle.dl_sections.specs.GoingOn.{AroundFed, AroundIs, damage_in, IsTold, NextBegins, passed}
use Rattle.dl_sections.specs.Section.{Visit, HasBegun, NoUnitBegins, of_damage, visits, summary_of}
use Rattle.dl_sections.specs.UnitsRead.{Before, StopsWith, Worked, end_of, visits_since}
use Rattle.dl_sections.specs.Visiting.{Settled, Story}
use Rattle.dl_sections.proofs.AroundLemmas.{PassedTo, passes_over}
use Rattle.dl_sections.proofs.BlockLemmas.{all_with, bytes_with, few_faults}
use Rattle.dl_sections.proofs.Fronts.{none_is_some}
use Rattle.dl_sections.proofs.AroundSteps.{blocks, cut_more, damaged_is, past, read_is, told_is, units_are}

drop_past : (xs ys : List ℕ) (k : ℕ) → drop (length xs + k) (xs ++ ys) ≡ drop k ys
drop_past [] ys k = rw zero-add refl
drop_past (x ∷ xs) ys k =
    let more : length (x ∷ xs) + k ≡ suc (length xs + k) = omega arith in rw more (drop_past xs ys k)

-- the same bytes, and the same rest
passed_same : {S : Type 0} {story : Story S} {dialect : Dialect} {s s2 : List ℕ} {first new : S}
    {start now : Option (List ℕ)} {a : UnitsAround} {rest rest2 : List ℕ}
    → PassedTo story dialect s first new start now a rest → s2 ≡ s → rest2 ≡ rest
    → PassedTo story dialect s2 first new start now a rest2
passed_same to s_is rest_is = rw (s_is, rest_is) to

-- bytes of the rest decide what no byte before them does
decided_later : (dialect : Dialect) (b rest : List ℕ) (units : List (List ℕ)) (c back : List ℕ) (at : ℕ)
    (kind : FaultKind) → HasBegun dialect (b ++ rest) units c back → Refused dialect c at kind
    → NoUnitBegins dialect b → Sound dialect b
    → (later : List ℕ) × (1 ≤ length later) × (concat units ++ c ≡ b ++ later) × (rest ≡ later ++ back)
decided_later dialect b rest units c back at kind has refused none sound =
    elim (fronts b (concat units ++ c) rest back (has.has.whole ∙ sym (append_assoc (concat units) c back))) [
      | inl same ↦ absurd (before units [] has.has.each (same ∙ sym (append-nil (concat units ++ c))))
      | inr (inl g) ↦ (
        g.0 ∷ g.1,
        omega arith,
        g.2,
        append_cancel_left b rest ((g.0 ∷ g.1) ++ back) (has.has.whole
            ∙ sym (append_assoc (concat units) c back) ∙ ap (λ (l : List ℕ). l ++ back) g.2
            ∙ append_assoc b (g.0 ∷ g.1) back),
      )
      | inr (inr g) ↦ absurd (before units (g.0 ∷ g.1) has.has.each g.2)
    ]
  where
    before : (units : List (List ℕ)) (more : List ℕ) → AllByRecursion (IsUnit dialect) units
        → b ≡ (concat units ++ c) ++ more → ⊥
    before [] more all e = sound c more at kind e refused
    before (u ∷ units) more all e =
        none u ((concat units ++ c) ++ more)
        (e ∙ rw (append_assoc, append_assoc, append_assoc) refl) all.0

-- a run of units, after bytes of one, came to a damaged one
pub record Hit {S : Type 0} {dialect : Dialect} (story : Story S) (past : Before dialect) (s : List ℕ) (first mid : S)
    (start now : Option (List ℕ)) (u : SectionUnits) (damage : Damage) : Type 0 where
  pub units : List (List ℕ)
  pub c : List ℕ
  pub back : List ℕ
  pub has : HasBegun dialect s units c back
  pub at : ℕ
  pub at_is : damage.offset ≡ end_of past units + at
  pub refused : Refused dialect c at damage.kind
  pub stops : StopsWith past u units c
  pub settled : Settled story first start now (visits_since past units c) (story.tells first mid start now)

hit_of : {S : Type 0} {dialect : Dialect} {story : Story S} {past : Before dialect} {s : List ℕ} {first mid new : S}
    {start now : Option (List ℕ)} {u : SectionUnits} {unit : ℕ} (damage : Damage)
    → Worked story past s first mid start now u (Err (fault.Damage damage.offset damage.kind))
    → IsTold story mid new unit damage → Hit story past s first mid start now u damage
hit_of damage (units, c, back, has, inl (stops, settled)) told = record {
  units = units;
  c = c;
  back = back;
  has = has;
  at = stops.0;
  at_is = stops.1;
  refused = stops.2;
  stops = stops.4;
  settled = settled;
}
hit_of damage (units, c, back, has, inr (sound, v)) told =
    absurd (told.reasons _ (v.before ++ v.visit ∷ []) damage.offset damage.kind v.reason)

pub hit : {S : Type 0} {dialect : Dialect} {story : Story S} {past : Before dialect} {s : List ℕ} {first mid new : S}
    {start now : Option (List ℕ)} {u : SectionUnits} {unit : ℕ} (damage : Damage) (f : RunFault)
    → Worked story past s first mid start now u (Err f) → damage_in f ≡ Some damage
    → IsTold story mid new unit damage → Hit story past s first mid start now u damage
hit damage (fault.Damage offset kind) worked is told =
    let same : record { offset = offset; kind = kind } ≡ damage = cc in
    hit_of damage (rw (ap (λ (d : Damage). d.offset) same, ap (λ (d : Damage). d.kind) same) at worked) told
hit damage other worked is told = absurd (none_is_some is)

pub not_damage : (f : RunFault) → damage_in f ≡ None → (offset : ℕ) (kind : FaultKind) → f ≢ fault.Damage offset kind
not_damage f none offset kind is = absurd (none_is_some (sym none ∙ ap damage_in is))

module _ {S : Type 0} {story : Story S} {dialect : Dialect} {read : List ℕ} {first old : S} {start before : Option (List ℕ)}
    {a : UnitsAround} (is : AroundIs story dialect read first old start before a) (b : List ℕ) (e : is.rest ≡ begun b)
    (rest : List ℕ) (short : length read + length rest ≤ 2 ^ 63) {u : SectionUnits} {mid new : S}
    {now : Option (List ℕ)} {damage : Damage}
    (h : Hit story (past is b e) (b ++ rest) first mid start now u damage) (told : IsTold story mid new u.offset damage) where
  abbrev all : List Block
  all = blocks is b e rest h.units

  abbrev m : ℕ
  m = length (bytes_of all)

  m_is : end_of (past is b e) h.units ≡ m
  m_is = ap length (sym (bytes_with dialect is.blocks h.units))

  place : damage.offset ≡ m + h.at
  place = h.at_is ∙ ap (λ (n : ℕ). n + h.at) m_is

  each : AllByRecursion (IsBlock dialect) all
  each = all_with dialect is.blocks h.units is.cut.each h.has.has.each

  whole_is : read ++ rest ≡ bytes_of all ++ (h.c ++ h.back)
  whole_is = cut_more is b e rest h.units (h.c ++ h.back) h.has.has.whole

  -- the visitor was told of it
  heard : (back : List ℕ)
      → Settled story first start now (visits_around dialect all (broken h.c back h.at damage.kind))
      (story.tells first new start now)
  heard back =
      let before = visits_since (past is b e) h.units h.c in
      let same : before ++ of_damage u.offset damage.offset damage.kind ∷ []
      ≡ visits_around dialect all (broken h.c back h.at damage.kind) =
      ap (λ (n : ℕ). before ++ of_damage n damage.offset damage.kind ∷ []) (h.stops.offset ∙ m_is)
      ∙ ap (λ (n : ℕ). before ++ of_damage m n damage.kind ∷ []) place
      ∙ ap (λ (l : List Visit). l ++ of_damage m (m + h.at) damage.kind ∷ []) (told_is is b e rest h.units h.c)
      ∙ append_assoc (blocks_visits dialect 0 all) (visits dialect m h.c) (of_damage m (m + h.at) damage.kind ∷ []) in
      rw (← same) (record {
        tells = told.tells first start now before h.settled.tells;
        out = rw (told.quiet first before) h.settled.out;
      })

  -- it is counted
  few : length (faults_in 0 all) + 1 < 2 ^ 64
  few =
      omega (
        arith,
        few_faults dialect 0 all each,
        short,
        ap length whole_is,
        length-append (bytes_of all) (h.c ++ h.back),
        length-append read rest,
      )

  module _ (next : UnitsAround)
      (counted : (faults : List Damage) → length faults + 1 < 2 ^ 64 → a.damaged ≡ damaged_units faults
      → next.damaged ≡ damaged_units (faults ++ damage ∷ [])) where
    is_counted : (back : List ℕ) → next.damaged ≡ damaged_units (faults_of all (broken h.c back h.at damage.kind))
    is_counted back =
        counted (faults_in 0 all) few (damaged_is is b e rest h.units)
        ∙ ap (λ (n : ℕ). damaged_units (faults_in 0 all ++ record { offset = n; kind = damage.kind } ∷ [])) place

    -- no unit is known to follow
    pub ends : {n : Flow} → n ≡ flow.Stop → ((c : List ℕ) → StandsFor u.reader c
        → NextBegins (unit_len u.reader.dialect c) (record a { units = u }) next n)
        → AroundFed story dialect (read ++ rest) first new start now next (Ok flow.Stop)
    ends {n} stop begins = by (unit_len dialect h.c) refl (subst (λ (d : Dialect). NextBegins (unit_len d h.c) (record a { units = u }) next n)
        h.stops.reader_dialect (begins h.c h.stops.stands)) where
          by : (o : Option ℕ) → unit_len dialect h.c ≡ o → NextBegins o (record a { units = u }) next n
              → AroundFed story dialect (read ++ rest) first new start now next (Ok flow.Stop)
          by None none begins = (
            all,
            broken h.c h.back h.at damage.kind,
            ap₂ (λ s d. record { summary = s; damaged = d })
                (ap (λ (v : SectionUnits). v.summary) begins.1 ∙ h.stops.summary
                ∙ ap (summary_of dialect) (sym (units_are is b e rest h.units)))
                (is_counted h.back),
            inl (
              record {
                whole = whole_is;
                each = each;
                rest_is = (h.refused, λ n len. absurd (none_is_some (sym none ∙ len)));
              },
              none,
              heard h.back,
            ),
          )
          by (Some len) some begins = absurd (let on : flow.On ≡ flow.Stop = sym begins.0 ∙ stop in cc)

    -- the next unit begins after it
    pub goes_on : (read_same : next.read ≡ a.read) {n : Flow} → n ≡ flow.On → ((c : List ℕ) → StandsFor u.reader c
        → NextBegins (unit_len u.reader.dialect c) (record a { units = u }) next n)
        → (x : UnitsAround) → x ≡ record next { read = add next.read (passed next rest) }
        → PassedTo story dialect (read ++ rest) first new start now x (drop (passed next rest) rest)
    goes_on read_same {n} on begins x x_is =
        by (unit_len dialect h.c) refl (subst (λ (d : Dialect). NextBegins (unit_len d h.c) (record a { units = u }) next n)
        h.stops.reader_dialect (begins h.c h.stops.stands)) where
          by : (o : Option ℕ) → unit_len dialect h.c ≡ o → NextBegins o (record a { units = u }) next n
              → PassedTo story dialect (read ++ rest) first new start now x (drop (passed next rest) rest)
          by None none begins = absurd (let stop : flow.Stop ≡ flow.On = sym begins.0 ∙ on in cc)
          by (Some len) some begins =
              let d = decided_later dialect b rest h.units h.c h.back h.at damage.kind h.has h.refused
              (rw e at is.cut.rest_is).1 (rw e at is.cut.rest_is).0 in
              let later = d.0 in
              let t : List ℕ = read ++ later in
              let t_is : t ≡ bytes_of all ++ h.c = ap (λ (l : List ℕ). l ++ later) (read_is is b e)
              ∙ append_assoc (bytes_of is.blocks) b later ∙ ap (λ (l : List ℕ). bytes_of is.blocks ++ l) (sym d.2)
              ∙ sym (append_assoc (bytes_of is.blocks) (concat h.units) h.c)
              ∙ ap (λ (l : List ℕ). l ++ h.c) (sym (bytes_with dialect is.blocks h.units)) in
              let within = h.has.in_unit len some in
              let near = unit_len_small dialect h.c len some in
              let sizes = ap length whole_is in
              let t_size : length t ≡ m + length h.c = ap length t_is ∙ length-append (bytes_of all) h.c in
              let t_sum : length t ≡ length read + length later = length-append read later in
              let rest_size : length rest ≡ length later + length h.back = ap length d.3 ∙ length-append later h.back in
              let at_end : next.units.offset ≡ m + len = begins.1.offset_is ∙ omega (
                arith,
                h.stops.offset,
                m_is,
                within,
                near,
                is.read,
                short,
                t_size,
                t_sum,
                rest_size,
                d.1,
              ) in
              let a0 : UnitsAround = record next { read = length t } in
              let k_is : passed next rest ≡ length later + passed a0 h.back = omega (
                arith,
                at_end,
                read_same,
                is.read,
                rest_size,
                t_size,
                t_sum,
                within,
              ) in
              let read_is : add next.read (passed next rest) ≡ add a0.read (passed a0 h.back) = omega (
                arith,
                k_is,
                read_same,
                is.read,
                t_sum,
              ) in
              let to = passes_over {t = t} (record {
                blocks = all;
                front = h.c;
                back = [];
                at = h.at;
                kind = damage.kind;
                n = len;
                whole = rw append-nil t_is;
                each = each;
                refused = h.refused;
                len = some;
                most = omega (arith, within);
                offset = at_end;
                next = λ past2 bytes_are units_are2. record {
                  has = record { whole = refl; each = tt };
                  dialect_is = begins.1.dialect ∙ h.stops.dialect_is;
                  reader_dialect = begins.1.reader_dialect ∙ h.stops.dialect_is;
                  stands = begins.1.stands;
                  offset = at_end ∙ sym bytes_are ∙ ap length (sym (append-nil past2.bytes));
                  foreign = begins.1.foreign;
                  sequences = begins.1.sequences;
                  rows = begins.1.rows;
                  summary = begins.1.summary ∙ h.stops.summary
                      ∙ ap (summary_of dialect)
                      (sym (append-nil past2.units ∙ units_are2 ∙ units_are is b e rest h.units));
                };
                read = refl;
                damaged = is_counted [];
                settled = heard [];
              }) h.back (omega (arith, short, t_sum, rest_size)) x
              (x_is ∙ ap (λ (k : ℕ). record next { read = k }) read_is) in
              let dropped : drop (passed next rest) rest ≡ drop (passed a0 h.back) h.back =
              ap (λ (k : ℕ). drop k rest) k_is ∙ ap (λ (l : List ℕ). drop (length later + passed a0 h.back) l) d.3
              ∙ drop_past later h.back (passed a0 h.back) in
              passed_same to (ap (λ (l : List ℕ). read ++ l) d.3 ∙ sym (append_assoc read later h.back)) dropped
