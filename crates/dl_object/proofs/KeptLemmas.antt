-- What is left of a program, by what stands at its front.
use Rattle.std.proofs.Common.{◌≡◌, ℕ, ◌+◌, Bool, true, cond, List, [], ◌∷◌, ◌++◌, length, sym, ap}
use Rattle.std.proofs.Common.{◌∙◌, append_assoc, append-nil}
use Rattle.dl_num.specs.declared.fixed.Order.{Order}
use Rattle.dl_num.specs.Front.{SpellsNowhere, Standing}
use Rattle.dl_field.specs.declared.params.Params.{Params}
use Rattle.dl_reloc.specs.declared.placed.Placed.{Placed}
use Rattle.dl_rows.specs.Matrix.{is_end}
use Rattle.dl_object.specs.Sequences.{Spelled, Sequences, spelled, spelled_in, bytes_of, with_sequence, sequences_after}
use Rattle.dl_object.specs.Sequences.{sequences}
use Rattle.dl_object.specs.Kept.{sequence_kept, sequences_kept, cut_kept, standing_kept, program_kept}
use Rattle.dl_object.specs.Fronts.{NoEnd, IsSequence, Runs}
use Rattle.dl_object.proofs.RunLemmas.{runs_bytes, spelled_after, spelled_last}

-- ---- sequences

sequences_none : (begun s : List Spelled) → NoEnd s → sequences_after begun s ≡ record { whole = []; begun = begun ++ s }
sequences_none begun [] none =
    ap (λ (z : List Spelled). let cut : Sequences = record { whole = []; begun = z } in cut) (sym (append-nil begun))
sequences_none begun (o ∷ s) none =
    ap (λ (b : Bool). cond b (with_sequence (begun ++ o ∷ []) (sequences_after [] s)) (sequences_after (begun ++ o ∷ []) s))
    none.0
    ∙ sequences_none (begun ++ o ∷ []) s none.1
    ∙ ap (λ (z : List Spelled). let cut : Sequences = record { whole = []; begun = z } in cut)
    (append_assoc begun (o ∷ []) s)

sequences_first : (begun front : List Spelled) (last : Spelled) (more : List Spelled) → NoEnd front
    → is_end last.operation ≡ true
    → sequences_after begun ((front ++ last ∷ []) ++ more) ≡ with_sequence (begun ++ (front ++ last ∷ [])) (sequences more)
sequences_first begun [] last more none ends =
    ap (λ (b : Bool). cond b (with_sequence (begun ++ last ∷ []) (sequences_after [] more))
    (sequences_after (begun ++ last ∷ []) more)) ends
sequences_first begun (o ∷ front) last more none ends =
    ap (λ (b : Bool). cond b (with_sequence (begun ++ o ∷ []) (sequences_after [] ((front ++ last ∷ []) ++ more)))
    (sequences_after (begun ++ o ∷ []) ((front ++ last ∷ []) ++ more))) none.0
    ∙ sequences_first (begun ++ o ∷ []) front last more none.1 ends
    ∙ ap (λ (z : List Spelled). with_sequence z (sequences more)) (append_assoc begun (o ∷ []) (front ++ last ∷ []))

sequence_first : (s more : List Spelled) → IsSequence s → sequences (s ++ more) ≡ with_sequence s (sequences more)
sequence_first s more is =
    ap (λ (z : List Spelled). sequences (z ++ more)) is.is ∙ sequences_first [] is.front is.last more is.none is.ends
    ∙ ap (λ (z : List Spelled). with_sequence z (sequences more)) (sym is.is)

-- ---- a program

module _ (order : Order) (h : Params) (places : List Placed) (section at : ℕ) (b : List ℕ) (s : List Spelled)
    (rest : List ℕ) (r : Runs order h b s rest) where
  -- a whole sequence
  pub kept_sequence : IsSequence s
      → program_kept order h places section at b
      ≡ sequence_kept h places section at s
      ++ program_kept order h places section (at + length (bytes_of s)) rest
  kept_sequence is =
      let found = spelled_in order h rest in
      ap (standing_kept h places section at) (spelled_after order h b s rest r)
      ∙ ap (λ (cut : Sequences). cut_kept h places section at cut found.rest) (sequence_first s found.found is)
      ∙ append_assoc (sequence_kept h places section at s)
      (sequences_kept h places section (at + length (bytes_of s)) (sequences found.found).whole)
      (bytes_of (sequences found.found).begun ++ found.rest)

  -- no whole sequence, and then what isn't whole or good
  module _ (none : NoEnd s) (nowhere : SpellsNowhere (spelled order h) rest) where
    pub kept_rest : program_kept order h places section at b ≡ b
    kept_rest =
        ap (standing_kept h places section at) (spelled_last order h b s rest r nowhere)
        ∙ ap (λ (z : List Spelled). cut_kept h places section at (sequences z) rest) (append-nil s)
        ∙ ap (λ (cut : Sequences). cut_kept h places section at cut rest) (sequences_none [] s none)
        ∙ sym (runs_bytes order h b s rest r)

    pub rest_is : (spelled_in order h b).rest ≡ rest
    rest_is = ap (λ (f : Standing Spelled). f.rest) (spelled_last order h b s rest r nowhere)
