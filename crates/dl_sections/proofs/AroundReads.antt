-- A section around damaged units, read piece by piece.
use Rattle.std.proofs.Common.{◌≡◌, ◌<◌, ◌^◌, inl, inr, ℕ, ◌+◌, List, [], ◌∷◌, ◌++◌, length, take, Option, Some, None}
use Rattle.std.proofs.Common.{Ok, arith, refl, ap, ap₂, ◌∙◌, append_assoc, append-nil, length-append}
use Rattle.std.specs.Prelude.{replicate}
use Rattle.std.proofs.lemmas.List.{take_all, length-replicate}
use Rattle.dl_head.specs.declared.dialect.Dialect.{Dialect}
use Rattle.dl_table.specs.declared.fault.FaultKind.TheVariants.{Truncated}
use Rattle.dl_rows.specs.Runs.{Sound}
use Rattle.dl_rows.proofs.UnitLengths.{unit_len_small}
use Rattle.dl_sections.specs.declared.around.Damage.{Damage}
use Rattle.dl_sections.specs.declared.around.DamagedUnits.{DamagedUnits}
use Rattle.dl_sections.specs.declared.around.Survey.{Survey}
use Rattle.dl_sections.specs.declared.around.UnitsAround.{UnitsAround}
use Rattle.dl_sections.specs.Around.{AllIsRead, bytes_of, units_around, faults_in, Rest, begun, cut_off, broken}
use Rattle.dl_sections.specs.Around.{damaged_units, IsRest, RanAround, visits_around}
use Rattle.dl_sections.specs.Around.{blocks_visits}
use Rattle.dl_sections.specs.GoingOn.{AroundIs, Awaits, IsTold, surveyed}
use Rattle.dl_sections.specs.Section.{NoUnitBegins, of_damage, summary_of, visits}
use Rattle.dl_sections.specs.UnitsRead.{Before, CutsOff, UnitsAre}
use Rattle.dl_sections.specs.Visiting.{Story}
use Rattle.dl_sections.proofs.AroundSteps.{are}
use Rattle.dl_sections.proofs.BlockLemmas.{each_unit, few_faults, few_whole, none_in_blocks, past_of}
use Rattle.dl_sections.proofs.SectionLemmas.{none_begins, none_refused}

-- ---- where the bytes are over

module _ {S : Type 0} {story : Story S} {dialect : Dialect} {t : List ℕ} {first old : S} {start now : Option (List ℕ)}
    {a : UnitsAround} (is : AroundIs story dialect t first old start now a) (limit : ℕ) (left : Option (List ℕ))
    (over : AllIsRead limit t left) where
  whole_within : take limit t ≡ t
  whole_within = take_all limit t over.0

  abbrev pub Ends : S → Survey → Type 0
  Ends new survey = RanAround story dialect limit t left first new start now (Ok survey)

  -- what is told of a unit that the bytes don't complete
  abbrev pub CutOff : Option Damage → Type 0
  CutOff result = (past : Before dialect) (s : List ℕ) (units : List (List ℕ)) (b : List ℕ) → UnitsAre past a.units s units b
      → NoUnitBegins dialect b → Sound dialect b → length past.bytes + length s < 2 ^ 64 → CutsOff past s b result

  summary_is : (b : List ℕ) → is.rest ≡ begun b → a.units.summary ≡ summary_of dialect (units_around is.blocks)
  summary_is b e = let u = are is b e in u.summary ∙ ap (summary_of dialect) (append-nil (units_around is.blocks))

  module _ (short : length t < 2 ^ 63) where
    -- none is begun
    pub ends : CutOff None → Ends old (surveyed a)
    ends none = by is.rest refl where
      by : (rest : Rest) → is.rest ≡ rest → Ends old (surveyed a)
      by (begun b) e =
          let past = past_of dialect is.blocks is.cut.each in
          let whole = rw e at is.cut.whole in
          let rest_is : IsRest dialect (begun b) = rw e at is.cut.rest_is in
          let empty : b ≡ [] = none past b [] b (are is b e) rest_is.1 rest_is.0
          (omega (arith, short, ap length whole, length-append (bytes_of is.blocks) b)) in
          inl (
            is.blocks,
            begun b,
            (
              record { whole = rw whole_within whole; each = is.cut.each; rest_is = rest_is },
              (empty, over),
              ap₂ (λ s d. record { summary = s; damaged = d }) (summary_is b e) (rw e at is.damaged),
            ),
            rw e at is.settled,
          )
      by (cut_off b) e = absurd (rw e at is.awaits)
      by (broken front back at kind) e =
          let awaits : Awaits dialect a.units is.blocks (broken front back at kind) = rw e at is.awaits in
          let fresh = awaits.3 (after_broken awaits.0) (omega (
            arith,
            length-append (bytes_of is.blocks) (replicate awaits.0 0),
            length-replicate {A = ℕ} awaits.0 0,
          )) refl in
          inl (
            is.blocks,
            broken front back at kind,
            (
              record { whole = rw whole_within (rw e at is.cut.whole); each = is.cut.each; rest_is = rw e at is.cut.rest_is },
              inr over,
              ap₂ (λ s d. record { summary = s; damaged = d })
                  (fresh.summary ∙ ap (summary_of dialect) (append-nil (units_around is.blocks)))
                  (rw e at is.damaged),
            ),
            rw e at is.settled,
          )
        where
          after_broken : ℕ → Before dialect
          after_broken n = record {
            bytes = bytes_of is.blocks ++ replicate n 0;
            units = units_around is.blocks;
            visits = blocks_visits dialect 0 is.blocks;
            each = each_unit dialect is.blocks is.cut.each;
            fits = (let few = few_whole dialect is.blocks in
                omega (arith, few, length-append (bytes_of is.blocks) (replicate n 0)));
            closed = none_in_blocks dialect 0 is.blocks;
          }

    -- one is
    pub cuts_off : (damage : Damage) → CutOff (Some damage) → {new : S} → IsTold story old new a.units.offset damage
        → (damaged : Option DamagedUnits)
        → ((faults : List Damage) → length faults + 1 < 2 ^ 64 → a.damaged ≡ damaged_units faults
        → damaged ≡ damaged_units (faults ++ damage ∷ []))
        → Ends new (record { summary = a.units.summary; damaged = damaged })
    cuts_off damage some {new} told damaged counted = by is.rest refl where
      by : (rest : Rest) → is.rest ≡ rest → Ends new (record { summary = a.units.summary; damaged = damaged })
      by (begun b) e =
          let past = past_of dialect is.blocks is.cut.each in
          let whole = rw e at is.cut.whole in
          let rest_is : IsRest dialect (begun b) = rw e at is.cut.rest_is in
          let cut = some past b [] b (are is b e) rest_is.1 rest_is.0
          (omega (arith, short, ap length whole, length-append (bytes_of is.blocks) b)) in
          let n = length (bytes_of is.blocks) in
          let place : damage ≡ record { offset = n + length b; kind = Truncated } =
          cut.1 ∙ ap (λ (m : ℕ). record { offset = m; kind = Truncated }) (length-append (bytes_of is.blocks) b) in
          let few = few_faults dialect 0 is.blocks is.cut.each in
          let before = visits_around dialect is.blocks (begun b) in
          let s = rw e at is.settled in
          let here : a.units.offset ≡ n = (are is b e).offset ∙ ap length (append-nil (bytes_of is.blocks)) in
          let told_all : before ++ of_damage a.units.offset damage.offset damage.kind ∷ []
          ≡ visits_around dialect is.blocks (cut_off b) =
          ap (λ (m : ℕ). before ++ of_damage m damage.offset damage.kind ∷ []) here
          ∙ ap (λ (d : Damage). before ++ of_damage n d.offset d.kind ∷ []) place
          ∙ append_assoc (blocks_visits dialect 0 is.blocks) (visits dialect n b) (of_damage n (n + length b) Truncated ∷ []) in
          inl (
            is.blocks,
            cut_off b,
            (
              record {
                whole = rw whole_within whole;
                each = is.cut.each;
                rest_is = (rest_is.0, rest_is.1, cut.0);
              },
              over,
              ap₂ (λ s d. record { summary = s; damaged = d }) (summary_is b e)
                  (counted (faults_in 0 is.blocks)
                  (omega (arith, few, short, ap length whole, length-append (bytes_of is.blocks) b))
                  (rw (e, append-nil) at is.damaged)
                  ∙ ap (λ (d : Damage). damaged_units (faults_in 0 is.blocks ++ d ∷ [])) place),
            ),
            rw (← told_all) (record {
              tells = told.tells first start now before s.tells;
              out = rw (told.quiet first before) s.out;
            }),
          )
      by (cut_off b) e = absurd (rw e at is.awaits)
      by (broken front back at kind) e =
          let awaits : Awaits dialect a.units is.blocks (broken front back at kind) = rw e at is.awaits in
          let near = unit_len_small dialect front awaits.0 awaits.1 in
          let whole : t ≡ bytes_of is.blocks ++ (front ++ back) = rw e at is.cut.whole in
          let past : Before dialect = record {
            bytes = bytes_of is.blocks ++ replicate awaits.0 0;
            units = units_around is.blocks;
            visits = blocks_visits dialect 0 is.blocks;
            each = each_unit dialect is.blocks is.cut.each;
            fits = (let few = few_whole dialect is.blocks in
                omega (arith, few, length-append (bytes_of is.blocks) (replicate awaits.0 0)));
            closed = none_in_blocks dialect 0 is.blocks;
          } in
          absurd ((some past [] [] [] (awaits.3 past (omega (
            arith,
            length-append (bytes_of is.blocks) (replicate awaits.0 0),
            length-replicate {A = ℕ} awaits.0 0,
          )) refl) (none_begins dialect) (none_refused dialect) (omega (
            arith,
            near,
            short,
            ap length whole,
            length-append (bytes_of is.blocks) (front ++ back),
            length-append (bytes_of is.blocks) (replicate awaits.0 0),
            length-replicate {A = ℕ} awaits.0 0,
          ))).0 refl)
