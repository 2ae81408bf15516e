-- The look-up of a place in the units of a section.
use Rattle.std.proofs.Common.{◌<◌, ◌^◌, arith, inl, inr, ℕ, ◌+◌, List, [], ◌∷◌, ◌++◌, length, Ok, Err, refl, sym, ap, ◌∙◌}
use Rattle.std.proofs.Common.{subst}
use Rattle.std.specs.List.{AllByRecursion}
use Rattle.dl_head.specs.declared.dialect.Dialect.{Dialect}
use Rattle.dl_look.specs.declared.place.Place.{Place}
use Rattle.dl_look.specs.Answer.{answer}
use Rattle.dl_sections.specs.declared.in_memory.SectionRead.{SectionRead}
use Rattle.dl_sections.specs.declared.in_memory.SectionStop.{SectionStop}
use Rattle.dl_sections.specs.declared.in_memory.SectionStop.TheVariants as stop
use Rattle.dl_sections.specs.InMemory.{ReadsSection, UnitTold, units_told}
use Rattle.dl_sections.specs.Commands.{NoneAnswers}
use Rattle.dl_sections.specs.Section.{HasUnits}
use Rattle.dl_buffers.specs.declared.finding.Seeker.{Seeker}
use Rattle.dl_buffers.specs.declared.record.FaultRecord.{FaultRecord}
use Rattle.dl_buffers.specs.declared.record.RowRecord.{RowRecord}
use Rattle.dl_buffers.specs.FindCalls.{Finds, Seeks, StopsSeeking}
use Rattle.dl_buffers.specs.Records.{record_of}
use Rattle.dl_buffers.specs.Seekers.{NoneTold, seeker_story}
use Rattle.dl_buffers.specs.Stops.{fault_told, status_of}
use Rattle.dl_buffers.proofs.ToldUnits.{last_told, offset_of_fault}

pub all_push : {A : Type 0} (P : A → Type 0) (xs : List A) (x : A) → AllByRecursion P xs → P x
    → AllByRecursion P (xs ++ x ∷ [])
all_push P [] x all p = (p, tt)
all_push P (y ∷ xs) x all p = (all.0, all_push P xs x all.1 p)

none_answers : (dialect : Dialect) (x : Place) (offset : ℕ) (units : List (List ℕ))
    → NoneTold x (units_told dialect offset units) → NoneAnswers dialect x units
none_answers dialect x offset [] none = tt
none_answers dialect x offset (u ∷ units) none = (none.0, none_answers dialect x (offset + length u) units none.1)

module _ (dialect : Dialect) (s : List ℕ) (first now : Seeker) where
  -- what is found
  pub seeks : {read : SectionRead} → ReadsSection seeker_story dialect s first now (Ok read)
      → Seeks dialect s first.place (Ok now.found)
  seeks (units, back, has, is, inl (end, looks)) =
      rw looks.found (
        units,
        subst (HasUnits dialect s units) end has,
        none_answers dialect first.place 0 units looks.none,
      )
  seeks (units, back, has, is, inr found) =
      let last = last_told dialect 0 units found.before found.last found.whole in
      rw found.found (
        last.front,
        last.u,
        back,
        subst (λ (l : List (List ℕ)). HasUnits dialect s l back) last.whole has,
        none_answers dialect first.place 0 last.front (subst (NoneTold first.place) last.before_are found.none),
        ap (λ (t : UnitTold). answer t.rows first.place) (sym last.last_is) ∙ found.answers,
        ap (λ (t : UnitTold). t.unit.offset) last.last_is ∙ omega arith,
      )

  pub stops : (f : SectionStop) → ReadsSection seeker_story dialect s first now (Err f) → Seeks dialect s first.place (Err f)
  stops (stop.Damaged offset kind) (units, b, back, ends, looks) =
      (units, b, back, ends, none_answers dialect first.place 0 units looks.none)
  stops stop.NoMemory (units, b, back, ends, looks) = (units, b, back, ends, none_answers dialect first.place 0 units looks.none)

-- what is told of a stop
pub finds_stopped : (dialect : Dialect) (s : List ℕ) (x : Place) (p : RowRecord) (m : ℕ) (f : FaultRecord)
    → length s < 2 ^ 64 → (stop : SectionStop) → StopsSeeking dialect s x stop
    → Finds dialect s x p p m m f (fault_told stop 0 f) (status_of stop)
finds_stopped dialect s x p m f few (stop.Damaged at kind) stops = (
  at,
  kind,
  stops,
  refl,
  refl,
  ap (λ (n : ℕ). record_of n kind) (offset_of_fault dialect s stops.0 stops.1 stops.2 at kind stops.3 few),
)
finds_stopped dialect s x p m f few stop.NoMemory stops = (stops, refl, refl, refl)
