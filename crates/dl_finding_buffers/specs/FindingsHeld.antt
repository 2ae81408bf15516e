-- The records of findings are held, or memory was refused for them. No promise rests on this file.
use Rattle.std.specs.Prelude.{◌≡◌, ◌≢◌, ℕ, List, Result, IfOk, OnErr}
use Rattle.std.specs.Global.{Vec}
use Rattle.dl_findings.specs.declared.finding.Finding.{Finding}
use Rattle.dl_findings.specs.declared.finding_told.FindingForm.TheVariants as forms
use Rattle.dl_findings.specs.FindingTold.{findings_text}
use Rattle.dl_held.specs.Holding.{CannotHold}
use Rattle.dl_memory.specs.declared.memory.NoMemory.{NoMemory}
use Rattle.dl_source_buffers.specs.declared.end.End.{End}
use Rattle.dl_source_buffers.specs.declared.end.End.TheVariants as ends

-- v is the records of findings, unless memory was refused before the end; it is held, or can't be
abbrev pub IsHeld : (refuses : ℕ → Type 0) (v : List ℕ) → End → Result (Vec ℕ) NoMemory → Type 0
IsHeld refuses v end records =
    ((end ≢ ends.NoMemory) → ((found : List Finding) × (v ≡ findings_text forms.Record found)))
    × IfOk records (λ list. list.items ≡ v) × OnErr records (CannotHold refuses v)
