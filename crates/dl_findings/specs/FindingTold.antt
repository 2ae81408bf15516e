-- A finding as it is told: a line of words, a JSON object in a line, or a record.
use Rattle.std.specs.Prelude.{ℕ, List, flat_map}
use Rattle.dl_findings.specs.declared.finding.Finding.{Finding}
use Rattle.dl_findings.specs.declared.finding_told.FindingForm.{FindingForm}
use Rattle.dl_findings.specs.declared.finding_told.FindingForm.TheVariants as forms
use Rattle.dl_findings.specs.FindingJson.{finding_object}
use Rattle.dl_findings.specs.FindingRecord.{finding_record}
use Rattle.dl_findings.specs.FindingText.{finding_line}

abbrev pub finding_told : FindingForm → Finding → List ℕ
finding_told forms.Line f = finding_line f
finding_told forms.Object f = finding_object f
finding_told forms.Record f = finding_record f

-- one after the other
abbrev pub findings_text : FindingForm → List Finding → List ℕ
findings_text form findings = flat_map (finding_told form) findings
