-- Records that stand one after the other.
use Rattle.std.proofs.Common.{◌≡◌, ◌∙◌, ℕ, ◌+◌, ◌*◌, ◌/◌, ◌<◌, List, [], ◌∷◌, ◌++◌, None, ap, arith, drop, get_or, length, length-append, map, refl, suc, sym, take, zero}
use Rattle.std.proofs.Math.Seq.{drop-append_seam, take-append_seam}
use Rattle.std.proofs.lemmas.List.{length-map, map-append, take_more}
use Rattle.dl_findings.specs.FindingRecord.{finding_record}
use Rattle.dl_findings.specs.FindingTold.{findings_text}
use Rattle.dl_findings.specs.declared.finding.Finding.{Finding}
use Rattle.dl_findings.specs.declared.finding.Found.TheVariants.{NoEnd}
use Rattle.dl_findings.specs.declared.finding_told.FindingForm.TheVariants as forms
use Rattle.dl_findings.proofs.RecordLemmas.{record_len}

pub any_finding : Finding
any_finding = record { offset = 0; row = None; found = NoEnd }

abbrev pub text_of : List Finding → List ℕ
text_of found = findings_text forms.Record found

pub text_len : (found : List Finding) → length (text_of found) ≡ length found * 72
text_len [] = refl
text_len (f ∷ found) =
    omega (arith, length-append (finding_record f) (text_of found), record_len f, text_len found)

pub count_of : (found : List Finding) (len : ℕ) → len ≡ length (text_of found) → len / 72 ≡ length found
count_of found len is = omega (arith, is, text_len found)

-- the record of each number
pub record_of : (found : List Finding) (k : ℕ) (d : Finding) → k < length found
    → take 72 (drop (k * 72) (text_of found)) ≡ finding_record (get_or found k d)
record_of [] k d lt = absurd (omega (arith, lt))
record_of (f ∷ found) zero d lt =
    ap (λ (n : ℕ). take n (finding_record f ++ text_of found)) (sym (record_len f))
    ∙ take-append_seam (finding_record f) (text_of found)
record_of (f ∷ found) (suc k) d lt =
    ap (take 72) (ap (λ (n : ℕ). drop n (finding_record f ++ text_of found)) (next k)
    ∙ sym (Rattle.std.proofs.Common.drop-drop (k * 72) (length (finding_record f)) (finding_record f ++ text_of found))
    ∙ ap (drop (k * 72)) (drop-append_seam (finding_record f) (text_of found)))
    ∙ record_of found k d (omega (arith, lt))
  where
    next : (n : ℕ) → suc n * 72 ≡ length (finding_record f) + n * 72
    next n = omega (arith, record_len f)

-- those of the first
abbrev pub records_upto : (n : ℕ) → List Finding → List (List ℕ)
records_upto n found = map finding_record (take n found)

pub records_more : (found : List Finding) (n : ℕ) (d : Finding) → n < length found
    → records_upto (n + 1) found ≡ records_upto n found ++ finding_record (get_or found n d) ∷ []
records_more found n d lt =
    ap (map finding_record) (take_more found n d lt) ∙ map-append finding_record (take n found) (get_or found n d ∷ [])

pub records_count : (found : List Finding) (n : ℕ) → n < length found → n ≡ length (records_upto n found)
records_count found n lt =
    omega (arith, length-map (take n found) finding_record, Rattle.std.proofs.Common.length-take n found, lt)
