-- The counts of a section in memory, and where its reading stops.
use Rattle.std.proofs.Common.{◌≡◌, ◌<◌, ◌^◌, inl, inr, ℕ, List, length, Option, Some, None, Ok, Err, arith, refl, ap, subst}
use Rattle.std.specs.Prelude.{⊤}
use Rattle.dl_head.specs.declared.dialect.Dialect.{Dialect}
use Rattle.dl_sections.specs.declared.around.DamagedUnits.{DamagedUnits}
use Rattle.dl_sections.specs.declared.around.Survey.{Survey}
use Rattle.dl_sections.specs.declared.in_memory.SectionRead.{SectionRead}
use Rattle.dl_sections.specs.declared.in_memory.SectionStop.{SectionStop}
use Rattle.dl_sections.specs.declared.in_memory.SectionStop.TheVariants as stop
use Rattle.dl_sections.specs.Around.{begun}
use Rattle.dl_sections.specs.AroundInMemory.{ReadsAround}
use Rattle.dl_sections.specs.InMemory.{ReadsSection}
use Rattle.dl_sections.specs.Section.{HasUnits}
use Rattle.dl_buffers.specs.declared.checking.Unkept.{Unkept}
use Rattle.dl_buffers.specs.declared.record.Counts.{Counts}
use Rattle.dl_buffers.specs.declared.record.FaultRecord.{FaultRecord}
use Rattle.dl_buffers.specs.declared.status.Status.TheVariants as status
use Rattle.dl_buffers.specs.AroundCalls.{ChecksAround, counts_around}
use Rattle.dl_buffers.specs.Calls.{Checks}
use Rattle.dl_buffers.specs.Records.{counts_of, record_of}
use Rattle.dl_buffers.specs.Stops.{damage_told, fault_told, status_around, status_of}
use Rattle.dl_buffers.specs.Unkept.{unkept_story}
use Rattle.dl_buffers.proofs.ToldUnits.{offset_of_fault}

module _ (dialect : Dialect) (s : List ℕ) (first now : Unkept) (c : Counts) (f : FaultRecord) where
  pub checks : (read : SectionRead) → ReadsSection unkept_story dialect s first now (Ok read) → (d : Counts)
      → d ≡ counts_of read.summary 0 → Checks dialect s c d f f status.Done
  checks read (units, back, has, is, inl (end, heard)) d counts = (
    read.summary,
    (
      units,
      (
        subst (HasUnits dialect s units) end has,
        refl,
        refl,
        omega arith,
        refl,
        ap (λ (r : SectionRead). r.summary) is,
      ),
    ),
    counts,
    refl,
  )
  checks read (units, back, has, is, inr done) d counts = absurd done

  pub checks_stopped : length s < 2 ^ 64 → (stop : SectionStop)
      → ReadsSection unkept_story dialect s first now (Err stop)
      → Checks dialect s c c f (fault_told stop 0 f) (status_of stop)
  checks_stopped few (stop.Damaged at kind) (units, b, back, ends, heard) = (
    at,
    kind,
    (units, b, back, ends),
    refl,
    ap (λ (n : ℕ). record_of n kind) (offset_of_fault dialect s units b back at kind ends few),
  )
  checks_stopped few stop.NoMemory (units, b, back, ends, heard) = ((units, b, back, ends), refl, refl)

-- ---- around damaged units

module _ (dialect : Dialect) (s : List ℕ) (first now : Unkept) (c : Counts) (f : FaultRecord) where
  pub checks_around : (survey : Survey) → ReadsAround {E = ⊤} unkept_story dialect s first now (Ok survey) → (d : Counts)
      → d ≡ counts_around survey
      → ChecksAround dialect s c d f (damage_told survey.damaged f) (status_around survey.damaged)
  checks_around survey (inl (blocks, rest, ends, heard)) d counts = by survey.damaged refl where
    by : (units : Option DamagedUnits) → survey.damaged ≡ units
        → ChecksAround dialect s c d f (damage_told units f) (status_around units)
    by None none = (blocks, rest, survey, ends, none, counts, refl)
    by (Some units) some = (blocks, rest, survey, units, ends, some, counts, refl)
  checks_around survey (inr (blocks, others, cut, is, done)) d counts = absurd done

  pub checks_refused : ReadsAround {E = ⊤} unkept_story dialect s first now (Err tt)
      → ChecksAround dialect s c c f f status.NoMemory
  checks_refused (blocks, b, ends, heard) = (blocks, begun b, ends, refl, refl)
