-- Sections without damage, and the first fault of those with damage, where the calls go on and where they don't.
use Rattle.std.proofs.Common.{◌≡◌, ℕ, ◌+◌, List, [], ◌∷◌, ◌++◌, length, map, Option, Some, None, arith, refl, sym, ap, ◌∙◌}
use Rattle.std.specs.Prelude.{option_map}
use Rattle.std.specs.Option.{option_or}
use Rattle.dl_head.specs.declared.dialect.Dialect.{Dialect}
use Rattle.dl_rows.specs.LineUnit.{unit_rows}
use Rattle.dl_rows.specs.declared.row.Row.{Row}
use Rattle.dl_look.specs.Answer.{answer}
use Rattle.dl_look.specs.declared.place.Place.{Place}
use Rattle.dl_sections.specs.declared.around.Damage.{Damage}
use Rattle.dl_sections.specs.declared.around.DamagedUnits.{DamagedUnits}
use Rattle.dl_sections.specs.declared.around.Survey.{Survey}
use Rattle.dl_sections.specs.Around.{Block, whole, damaged, begun, damaged_units, faults_in, rest_faults}
use Rattle.dl_sections.specs.Around.{bytes_of, units_around}
use Rattle.dl_sections.specs.AroundCommands.{how_many}
use Rattle.dl_sections.specs.Section.{summary_of}
use Rattle.dl_sections.proofs.AroundLaws.{first_fault, nothing_damaged, without_damage}
use Rattle.dl_buffers.specs.declared.finding.FoundRow.{FoundRow}
use Rattle.dl_buffers.specs.declared.record.RowRecord.{RowRecord}
use Rattle.dl_buffers.specs.AllCalls.{Answers, found_from, found_in, place_of_address}
use Rattle.dl_buffers.specs.AroundCallLaws.{ChecksAlike, FindsAlike, TellsFirst}
use Rattle.dl_buffers.specs.AroundCalls.{found_after, found_around}
use Rattle.dl_buffers.specs.Records.{counts_of, record_of}

-- ---- counts

pub checks_alike : ChecksAlike
checks_alike dialect s c d f g = (
  λ so.
      let summary = so.0 in
      let ends = so.1 in (
        map whole ends.0,
        begun [],
        record { summary = summary; damaged = None },
        without_damage dialect (length s) s (Some []) ends.0 summary ends.1,
        refl,
        so.2,
        so.3,
      ),
  λ so.
      let survey = so.2 in (
        survey.summary,
        (units_around so.0, nothing_damaged dialect (length s) s (Some []) so.0 so.1 survey so.3 so.4),
        so.5 ∙ ap (λ (o : Option DamagedUnits). counts_of survey.summary (how_many o)) so.4,
        so.6,
      ),
)

same_units : (a b : DamagedUnits) → Some a ≡ Some b → a ≡ b
same_units a b e = cc

pub tells_first : TellsFirst
tells_first dialect s c d d2 f g g2 (offset, kind, (units, b, back, ends), kept, told)
    (blocks, rest, survey, all, ends2, some, counts, told2) =
    let first = first_fault dialect (length s) s (Some []) (Some []) units b back offset kind blocks rest survey ends ends2 in
    let is = same_units all _ (sym some ∙ first.1) in
    told ∙ sym (ap (λ (u : DamagedUnits). record_of u.first.offset u.first.kind) is) ∙ sym told2

-- ---- the look-up of many addresses

-- what is found is the same
answers_same : (found found2 : ℕ → Option FoundRow) (addresses : List ℕ) (p q : List RowRecord) (n : List ℕ)
    → ((a : ℕ) → found a ≡ found2 a) → Answers found addresses p q n → Answers found2 addresses p q n
answers_same found found2 addresses p q n same so = record {
  rows = λ i a asked. rw (← same a) (so.rows i a asked);
  units_are = λ i a asked. rw (← same a) (so.units_are i a asked);
}

of_units : (dialect : Dialect) (offset : ℕ) (units : List (List ℕ)) (x : Place)
    → found_from dialect offset units x ≡ found_after dialect offset (map whole units) x
of_units dialect offset [] x = refl
of_units dialect offset (u ∷ units) x =
    ap (option_or (option_map (λ (r : Row). record { row = r; unit = offset }) (answer (unit_rows dialect u) x)))
    (of_units dialect (offset + length u) units x)

-- of blocks without a fault
of_blocks : (dialect : Dialect) (offset : ℕ) (blocks : List Block) (x : Place) → faults_in offset blocks ≡ []
    → found_after dialect offset blocks x ≡ found_from dialect offset (units_around blocks) x
of_blocks dialect offset [] x none = refl
of_blocks dialect offset (whole u ∷ blocks) x none =
    ap (option_or (option_map (λ (r : Row). record { row = r; unit = offset }) (answer (unit_rows dialect u) x)))
    (of_blocks dialect (offset + length u) blocks x none)
of_blocks dialect offset (damaged front back at kind ∷ blocks) x none = absurd cc

none_first : (a b : List Damage) → damaged_units (a ++ b) ≡ None → a ≡ []
none_first [] b e = refl
none_first (d ∷ a) b e = absurd cc

pub finds_alike : FindsAlike
finds_alike refused dialect s addresses p q m n f g = (
  λ (fit, (units, has, answers), same). (
    fit,
    (
      map whole units,
      begun [],
      record { summary = summary_of dialect units; damaged = None },
      without_damage dialect (length s) s (Some []) units (summary_of dialect units)
          (has, refl, refl, omega arith, refl, refl),
      refl,
      answers_same (found_in dialect units) (found_around dialect (map whole units)) addresses p q n
          (λ a. of_units dialect 0 units (place_of_address a)) answers,
    ),
    same,
  ),
  λ (fit, (blocks, rest, survey, ends, none, answers), same).
      let units = nothing_damaged dialect (length s) s (Some []) blocks rest survey ends none in
      let no_fault = none_first (faults_in 0 blocks) (rest_faults (length (bytes_of blocks)) rest)
      (sym (ap (λ (v : Survey). v.damaged) ends.2) ∙ none) in (
        fit,
        (
          units_around blocks,
          units.0,
          answers_same (found_around dialect blocks) (found_in dialect (units_around blocks)) addresses p q n
              (λ a. of_blocks dialect 0 blocks (place_of_address a) no_fault) answers,
        ),
        same,
      ),
)
