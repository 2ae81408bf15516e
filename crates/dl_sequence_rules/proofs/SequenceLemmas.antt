-- The overlaps of sequences, one after the other.
use Rattle.std.proofs.Common.{◌≡◌, ◌∙◌, ℕ, ◌+◌, ◌<◌, List, [], ◌∷◌, ◌++◌, length, take, sym, ap}
use Rattle.std.proofs.Common.{append_assoc}
use Rattle.std.proofs.lemmas.List.{append-nil, take_more}
use Rattle.std.proofs.lemmas.Option.{slice_get-get_or}
use Rattle.dl_findings.specs.declared.finding.Finding.{Finding}
use Rattle.dl_sequence_rules.specs.declared.ended.Ended.{Ended}
use Rattle.dl_sequence_rules.specs.Alone.{ended_at, no_ended}
use Rattle.dl_sequence_rules.specs.Overlaps.{overlap_at, overlap_found, overlap_of_one}
use Rattle.dl_sequence_rules.specs.SequenceFindings.{overlaps_after}

-- one sequence more
pub overlaps-push : (earlier sequences : List Ended) (s : Ended)
    → overlaps_after earlier (sequences ++ s ∷ []) ≡ overlaps_after earlier sequences ++ overlap_found (earlier ++ sequences) s
overlaps-push earlier [] s =
    append-nil (overlap_found earlier s) ∙ sym (ap (λ (l : List Ended). overlap_found l s) (append-nil earlier))
overlaps-push earlier (t ∷ sequences) s =
    let now = overlap_found earlier t in
    let later = overlaps_after (earlier ++ t ∷ []) sequences in
    ap (λ (l : List Finding). now ++ l) (overlaps-push (earlier ++ t ∷ []) sequences s)
    ∙ sym (append_assoc now later (overlap_found ((earlier ++ t ∷ []) ++ sequences) s))
    ∙ ap (λ (l : List Ended). (now ++ later) ++ overlap_found l s) (append_assoc earlier (t ∷ []) sequences)

-- those of the first sequences, and of the next one
pub overlaps_more : (sequences : List Ended) (at : ℕ) → at < length sequences
    → overlaps_after [] (take (at + 1) sequences) ≡ overlaps_after [] (take at sequences) ++ overlap_at sequences at
overlaps_more sequences at lt =
    ap (overlaps_after []) (take_more sequences at no_ended lt)
    ∙ overlaps-push [] (take at sequences) (ended_at sequences at)
    ∙ sym (ap (λ o. overlaps_after [] (take at sequences) ++ overlap_of_one (take at sequences) o) (slice_get-get_or sequences at no_ended lt))
