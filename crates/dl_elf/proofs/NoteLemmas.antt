-- Notes one after the other.
use Rattle.std.proofs.Common.{◌≡◌, ℕ, zero, suc, ◌+◌, ◌-◌, ◌<◌, ◌≤◌, true, false, nat_le, List, length, Some, None}
use Rattle.std.proofs.Common.{refl, sym, ap, ◌∙◌, arith, inl, inr, length-drop}
use Rattle.std.proofs.lemmas.Bool.{cases_Bool, leb-true, lt-leb}
use Rattle.dl_num.specs.declared.fixed.Order.{Order}
use Rattle.dl_num.proofs.LebFrontLemmas.{and_left}
use Rattle.dl_elf.specs.Notes.{has_note, is_build_id, after_note, description, build_id_from, description_offset}
use Rattle.dl_elf.specs.Notes.{description_size, padded}

pub no_more_notes : (n : ℕ) (order : Order) (b : List ℕ) → has_note order b ≡ false → build_id_from n order b ≡ None
no_more_notes zero order b none = refl
no_more_notes (suc n) order b none = rw none refl

pub build_id_found : (n : ℕ) (order : Order) (b : List ℕ) → has_note order b ≡ true → is_build_id order b ≡ true
    → build_id_from (suc n) order b ≡ Some (description order b)
build_id_found n order b has is = rw (has, is) refl

pub note_passed : (n : ℕ) (order : Order) (b : List ℕ) → has_note order b ≡ true → is_build_id order b ≡ false
    → build_id_from (suc n) order b ≡ build_id_from n order (after_note order b)
note_passed n order b has is = rw (has, is) refl

pub note-long : (order : Order) (b : List ℕ) → has_note order b ≡ true → 12 ≤ length b
note-long order b has =
    leb-true 12 (length b)
    (and_left (nat_le 12 (length b)) (nat_le (description_offset order b + description_size order b) (length b)) has)

pub short_no_note : (order : Order) (b : List ℕ) → length b < 12 → has_note order b ≡ false
short_no_note order b short = rw (lt-leb 12 (length b) short) refl

pub length-after_note : (order : Order) (b : List ℕ) → length (after_note order b) ≤ length b - 12
length-after_note order b =
    omega (arith, length-drop (description_offset order b + padded (description_size order b)) b)

-- a list of notes has no more notes than bytes
pub enough : (m k : ℕ) (order : Order) (b : List ℕ) → length b ≤ m → length b ≤ k
    → build_id_from m order b ≡ build_id_from k order b
enough zero k order b l l' = sym (no_more_notes k order b (short_no_note order b (omega (arith, l))))
enough (suc m) zero order b l l' = no_more_notes (suc m) order b (short_no_note order b (omega (arith, l')))
enough (suc m) (suc k) order b l l' = elim (cases_Bool (has_note order b)) [
  | inl has ↦ (elim (cases_Bool (is_build_id order b)) [
    | inl is ↦ build_id_found m order b has is ∙ sym (build_id_found k order b has is)
    | inr none ↦ note_passed m order b has none
        ∙ (enough m k order (after_note order b) (omega (arith, l, note-long order b has, length-after_note order b))
        (omega (arith, l', note-long order b has, length-after_note order b)) ∙ sym (note_passed k order b has none))
  ])
  | inr none ↦ no_more_notes (suc m) order b none ∙ sym (no_more_notes (suc k) order b none)
]

-- the notes after one that has no build ID
pub notes_after : (order : Order) (b rest : List ℕ) → has_note order b ≡ true → is_build_id order b ≡ false
    → rest ≡ after_note order b
    → build_id_from (length b) order b ≡ build_id_from (length rest) order rest
notes_after order b rest has none is =
    let long = note-long order b has in
    let few = length-after_note order b in
    let more : length b ≡ suc (length b - 1) = omega (arith, long) in
    rw is (ap (λ n. build_id_from n order b) more ∙ (note_passed (length b - 1) order b has none
    ∙ enough (length b - 1) (length (after_note order b)) order (after_note order b) (omega (arith, few, long))
    (omega arith)))

pub rest-short : (order : Order) (b rest : List ℕ) → rest ≡ after_note order b → length rest ≤ length b
rest-short order b rest is = rw is (omega (arith, length-after_note order b))
