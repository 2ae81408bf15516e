-- What is told of units of other versions, and kept of them. No promise rests on this file.
use Rattle.std.specs.Prelude.{◌≡◌, ℕ, List, [], ◌∷◌, flat_map, Option, Some, None}
use Rattle.std.specs.Io.KnownBytes.{Appends}
use Rattle.dl_sections.specs.declared.passing_over.OtherVersions.{OtherVersions}
use Rattle.dl_sections.specs.declared.passing_over.PassedOver.{PassedOver}
use Rattle.dl_sections.specs.declared.passing_over.VersionRange.{VersionRange}
use Rattle.dl_sections.specs.PassedOver.{IsGreatest, IsLeast}
use Rattle.dl_sections.specs.Section.{Visit, of_version}
use Rattle.dl_sections.specs.Visiting.{Story}

-- the version that a visit tells, which isn't 5
abbrev pub version_told : Visit → List ℕ
version_told (of_version offset version) = version ∷ []
version_told visit = []

abbrev pub versions_told : List Visit → List ℕ
versions_told visits = flat_map version_told visits

-- the least of these versions and the greatest, where there is one
abbrev pub Spans : (versions : List ℕ) → Option VersionRange → Type 0
Spans versions None = versions ≡ []
Spans versions (Some range) = IsLeast range.least versions × IsGreatest range.greatest versions

-- these units, the versions being in this range
abbrev pub IsPassedOver : (units : ℕ) → Option VersionRange → Option PassedOver → Type 0
IsPassedOver units None passed = passed ≡ None
IsPassedOver units (Some range) passed =
    passed ≡ Some (record { units = units; least = range.least; greatest = range.greatest })

-- nothing is printed, and the range is that of the versions told
abbrev pub version_story : Story OtherVersions
version_story = record {
  text = λ first visits. [];
  tells = λ first new start now visits. Appends start now [] × Spans (versions_told visits) new.range;
  is_done = λ first new start now visits. ⊥;
  refuses = λ first visits fault. ⊥;
}
