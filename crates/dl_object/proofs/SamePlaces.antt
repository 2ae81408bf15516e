-- What is left of a section hangs on the section at each place alone.
use Rattle.std.proofs.Common.{◌≡◌, ℕ, ◌+◌, cond, List, [], ◌∷◌, ◌++◌, length, Option, Some, None, refl, sym, ap, subst}
use Rattle.std.proofs.Common.{◌∙◌}
use Rattle.dl_head.specs.declared.dialect.Dialect.{Dialect}
use Rattle.dl_field.specs.declared.params.Params.{Params}
use Rattle.dl_reloc.specs.declared.placed.Placed.{Placed}
use Rattle.dl_object.specs.Sequences.{Spelled, spelled_in, bytes_of, sequences}
use Rattle.dl_object.specs.Kept.{address_place, section_at, section_at_any, is_same, passed_over, sequence_kept}
use Rattle.dl_object.specs.Kept.{sequences_kept, program_kept}
use Rattle.dl_object.specs.Section.{Keeps, ends, unread, own}

module _ (places sorted : List Placed) (section : ℕ)
    (same : (at : ℕ) → section_at sorted at ≡ section_at places at) where
  same_any : (o : Option ℕ) → section_at_any sorted o ≡ section_at_any places o
  same_any None = refl
  same_any (Some at) = same at

  same_sequence : (h : Params) (at : ℕ) (s : List Spelled)
      → sequence_kept h sorted section at s ≡ sequence_kept h places section at s
  same_sequence h at s =
      ap (λ (o : Option ℕ). cond (is_same section o) (bytes_of s) (passed_over (length (bytes_of s))))
      (same_any (address_place h at s))

  same_sequences : (h : Params) (at : ℕ) (cut : List (List Spelled))
      → sequences_kept h sorted section at cut ≡ sequences_kept h places section at cut
  same_sequences h at [] = refl
  same_sequences h at (s ∷ more) =
      ap (λ (z : List ℕ). z ++ sequences_kept h sorted section (at + length (bytes_of s)) more) (same_sequence h at s)
      ∙ ap (λ (z : List ℕ). sequence_kept h places section at s ++ z)
      (same_sequences h (at + length (bytes_of s)) more)

  same_program : (dialect : Dialect) (h : Params) (at : ℕ) (program : List ℕ)
      → program_kept dialect.order h sorted section at program ≡ program_kept dialect.order h places section at program
  same_program dialect h at program =
      let found = spelled_in dialect.order h program in
      let cut = sequences found.found in
      ap (λ (z : List ℕ). z ++ (bytes_of cut.begun ++ found.rest)) (same_sequences h at cut.whole)

  pub same_kept : (dialect : Dialect) {at : ℕ} {b new : List ℕ} → Keeps dialect sorted section at b new
      → Keeps dialect places section at b new
  same_kept dialect (ends none) = ends none
  same_kept dialect (unread f body k) = unread f body (same_kept dialect k)
  same_kept dialect (own {at = at} {h = h} {head = head} {body = program} {after = after} {new = new} header body k) =
      subst (λ (z : List ℕ). Keeps dialect places section at ((head ++ program) ++ after) ((head ++ z) ++ new))
      (sym (same_program dialect h.params (at + length head) program)) (own header body (same_kept dialect k))
