-- What the bytes of an operand spell first.
use Rattle.std.proofs.Common.{◌≡◌, ℕ, suc, ◌+◌, ◌^◌, ◌<◌, ◌≤◌, ℤ, pos, negsuc, true, false, ◌==◌, List, [], ◌∷◌, ◌++◌}
use Rattle.std.proofs.Common.{length, Option, Some, None, Result, Ok, Err, if◌then◌else◌, refl, sym, ap, ◌∙◌}
use Rattle.std.proofs.Common.{arith, inl, inr, zero, ◌-◌, slice_index, append_assoc}
use Rattle.std.proofs.lemmas.Bool.{cases_lt, lt-ltb, le-ltb, eq-eqb, ne_eqb, lt-leb}
use Rattle.std.proofs.lemmas.List.{length-append, append-nil, drop-append-le, drop_all}
use Rattle.dl_num.specs.Front.{SpellsNowhere, SpellsFirst}
use Rattle.dl_num.specs.Leb.{groups, signed_groups, AllContinue, IsLeb, IsUleb, IsSleb, IsSigned64}
use Rattle.dl_num.specs.LebFront.{is_leb, leb_front}
use Rattle.dl_num.proofs.LebFrontLemmas.{is_leb-ends, is_leb-continues, leb_front-leb, leb_front-append}
use Rattle.dl_num.proofs.LebFrontLemmas.{leb_front-continues}
use Rattle.dl_table.specs.declared.fault.FaultKind.{FaultKind}
use Rattle.dl_table.specs.declared.fault.FaultKind.TheVariants as fault
use Rattle.dl_rows.specs.declared.operation.Operation.{Operation}
use Rattle.dl_rows.specs.OperationSpelt.{fits_signed, last_byte, signed_number, unsigned_operand, signed_operand}
use Rattle.dl_rows.specs.OperationSpelt.{are_lebs, operation_spelt}
use Rattle.dl_num.specs.declared.fixed.Order.{Order}
use Rattle.dl_num.proofs.FrontLemmas.{front_before}
use Rattle.dl_field.specs.declared.params.Params.{Params}
use Rattle.dl_rows.specs.declared.operation.Operation.TheVariants as op
use Rattle.dl_rows.specs.Phases.{LebsLeft}
use Rattle.dl_rows.proofs.FirstLemmas.{At, at_nowhere, at_first, at_byte, nil_front}

-- what an operand's bytes are: an operation, or a fault
abbrev pub Verdict : Type 0
Verdict = Result Operation FaultKind

-- fronts of bytes that continue do
pub continue_front : (w front back : List ℕ) → AllContinue w → w ≡ front ++ back → AllContinue front
continue_front w [] back h e = tt
continue_front [] (b ∷ front) back h e = absurd cc
continue_front (a ∷ w) (b ∷ front) back h e =
    let s : a ≡ b = cc in
    let t : w ≡ front ++ back = cc in
    (rw s at h.0, continue_front w front back h.1 t)

-- so do proper fronts of bytes that continue up to the last one
pub continue_before : (before : List ℕ) (last : ℕ) (front : List ℕ) (x : ℕ) (back : List ℕ) → AllContinue before
    → before ++ last ∷ [] ≡ front ++ x ∷ back → AllContinue front
continue_before before last [] x back h e = tt
continue_before [] last (b ∷ []) x back h e = absurd cc
continue_before [] last (b ∷ c ∷ front) x back h e = absurd cc
continue_before (a ∷ before) last (b ∷ front) x back h e =
    let s : a ≡ b = cc in
    let t : before ++ last ∷ [] ≡ front ++ x ∷ back = cc in
    (rw s at h.0, continue_before before last front x back h.1 t)

-- proper fronts of a number in LEB128
pub leb_front_continues : (w front : List ℕ) (last : ℕ) (before : List ℕ) (x : ℕ) (back : List ℕ) → IsLeb w before last
    → w ≡ front ++ x ∷ back → AllContinue front
leb_front_continues w front last before x back leb e =
    continue_before before last front x back leb.continue (sym leb.bytes ∙ e)

pub is_leb-number : (w front : List ℕ) (last : ℕ) → IsLeb w front last → is_leb w ≡ true
is_leb-number w front last leb =
    rw leb.bytes (is_leb-ends front last leb.continue leb.ends)

last_byte-push : (w : List ℕ) (b : ℕ) → last_byte (w ++ b ∷ []) ≡ b
last_byte-push [] b = refl
last_byte-push (a ∷ []) b = refl
last_byte-push (a ∷ c ∷ w) b = last_byte-push (c ∷ w) b

pub signed_number-is : (w : List ℕ) (i : ℤ) → IsSleb w i → signed_number w ≡ i
signed_number-is w i s =
    let b : last_byte w ≡ s.1 = rw s.2.bytes (last_byte-push s.0 s.1) in
    ap (λ (z : ℕ). signed_groups w z) b ∙ sym s.3

-- ---- an unsigned operand

pub unsigned_nowhere : (make : ℕ → Operation) (w : List ℕ) → AllContinue w → SpellsNowhere (unsigned_operand make) w
unsigned_nowhere make w h front back e = rw (is_leb-continues front (continue_front w front back h e)) refl

pub unsigned_first : (make : ℕ → Operation) (w : List ℕ) (n : ℕ) → IsUleb w n → n < 2 ^ 64
    → SpellsFirst (unsigned_operand make) w (Ok (make n))
unsigned_first make w n u lt = record {
  spells = (let g : groups w ≡ n = sym u.3 in rw (is_leb-number w u.0 u.1 u.2, g, lt-ltb n (2 ^ 64) lt) refl);
  shortest = λ front x back e. rw (is_leb-continues front (leb_front_continues w front u.1 u.0 x back u.2 e)) refl;
}

pub unsigned_out : (make : ℕ → Operation) (w : List ℕ) (n : ℕ) → IsUleb w n → 2 ^ 64 ≤ n
    → SpellsFirst (unsigned_operand make) w (Err fault.LebRange)
unsigned_out make w n u le = record {
  spells = (let g : groups w ≡ n = sym u.3 in rw (is_leb-number w u.0 u.1 u.2, g, le-ltb n (2 ^ 64) le) refl);
  shortest = λ front x back e. rw (is_leb-continues front (leb_front_continues w front u.1 u.0 x back u.2 e)) refl;
}

-- ---- a signed operand

fits_signed-true : (i : ℤ) → IsSigned64 i → fits_signed i ≡ true
fits_signed-true (pos n) h = lt-ltb n (2 ^ 63) h
fits_signed-true (negsuc n) h = lt-ltb n (2 ^ 63) h

fits_signed-false : (i : ℤ) → (IsSigned64 i → ⊥) → fits_signed i ≡ false
fits_signed-false (pos n) h = elim (cases_lt n (2 ^ 63)) [ inl lt ↦ absurd (h lt) | inr le ↦ le-ltb n (2 ^ 63) le ]
fits_signed-false (negsuc n) h = elim (cases_lt n (2 ^ 63)) [ inl lt ↦ absurd (h lt) | inr le ↦ le-ltb n (2 ^ 63) le ]

pub signed_nowhere : (make : ℤ → Operation) (w : List ℕ) → AllContinue w → SpellsNowhere (signed_operand make) w
signed_nowhere make w h front back e = rw (is_leb-continues front (continue_front w front back h e)) refl

pub signed_first : (make : ℤ → Operation) (w : List ℕ) (i : ℤ) → IsSleb w i → IsSigned64 i
    → SpellsFirst (signed_operand make) w (Ok (make i))
signed_first make w i s range = record {
  spells = rw (is_leb-number w s.0 s.1 s.2, signed_number-is w i s, fits_signed-true i range) refl;
  shortest = λ front x back e. rw (is_leb-continues front (leb_front_continues w front s.1 s.0 x back s.2 e)) refl;
}

pub signed_out : (make : ℤ → Operation) (w : List ℕ) (i : ℤ) → IsSleb w i → (IsSigned64 i → ⊥)
    → SpellsFirst (signed_operand make) w (Err fault.LebRange)
signed_out make w i s out = record {
  spells = rw (is_leb-number w s.0 s.1 s.2, signed_number-is w i s, fits_signed-false i out) refl;
  shortest = λ front x back e. rw (is_leb-continues front (leb_front_continues w front s.1 s.0 x back s.2 e)) refl;
}

-- ---- an operand of fixed size

-- `size` bytes, and what they make
abbrev pub sized : ℕ → (List ℕ → Operation) → List ℕ → Option Verdict
sized size make w = if length w == size then Some (Ok (make w)) else None

pub sized_nowhere : (size : ℕ) (make : List ℕ → Operation) (w : List ℕ) → length w < size
    → SpellsNowhere (sized size make) w
sized_nowhere size make w lt front back e =
    let l : length w ≡ length front + length back = ap length e ∙ length-append front back in
    rw (ne_eqb (length front) size (λ k. omega arith)) refl

pub sized_first : (size : ℕ) (make : List ℕ → Operation) (w : List ℕ) → length w ≡ size
    → SpellsFirst (sized size make) w (Ok (make w))
sized_first size make w e = record {
  spells = rw (eq-eqb (length w) size e) refl;
  shortest =
      λ front x back k. (let l : length w ≡ length front + suc (length back) = ap length k ∙ length-append front (x
      ∷ back) in rw (ne_eqb (length front) size (λ m. omega arith)) refl);
}

-- a number that is begun isn't one
begun_fails : (left : ℕ) (begun : List ℕ) → 1 ≤ left → AllContinue begun → are_lebs left begun ≡ false
begun_fails zero begun some c = absurd (omega arith)
begun_fails (suc left) begun some c = rw (leb_front-continues begun c, is_leb-continues begun c) refl

-- a number at the front
number_passes : (left : ℕ) (begun : List ℕ) (b : ℕ) (x : List ℕ) → AllContinue begun → b < 128
    → are_lebs (suc left) (begun ++ b ∷ x) ≡ are_lebs left x
number_passes left begun b x c lt =
    let w = begun ++ b ∷ [] in
    let t : is_leb w ≡ true = is_leb-ends begun b c lt in
    let same = leb_front-leb w t in
    let a : begun ++ b ∷ x ≡ w ++ x = sym (append_assoc begun (b ∷ []) x) in
    let f : leb_front (w ++ x) ≡ w = leb_front-append w x (rw same t) ∙ same in
    let d = drop-append-le (length w) w x (omega arith)
    ∙ ap (λ (z : List ℕ). z ++ x) (drop_all (length w) w (omega arith)) in
    rw (a, f, t, d) refl

pub lebs_start : (count : ℕ) → 1 ≤ count → LebsLeft count [] count
lebs_start count some = record {
  some = some;
  begun = [];
  continue = tt;
  same = λ x. refl;
  nowhere =
      λ front back e. rw (nil_front front back e) (begun_fails count [] some tt);
}

-- the fronts of w and one byte more
nowhere_push : (count : ℕ) (w : List ℕ) (b : ℕ)
    → ((front : List ℕ) (back : List ℕ) → w ≡ front ++ back → are_lebs count front ≡ false)
    → are_lebs count (w ++ b ∷ []) ≡ false → (front : List ℕ) (back : List ℕ) → w ++ b ∷ [] ≡ front ++ back
    → are_lebs count front ≡ false
nowhere_push count w b h whole front [] e =
    rw (e ∙ append-nil front) at whole
nowhere_push count w b h whole front (y ∷ back) e = let r = front_before w front b y back e in h front r.0 r.1

pub lebs_more : (count : ℕ) (w : List ℕ) (left b : ℕ) → LebsLeft count w left → 128 ≤ b
    → LebsLeft count (w ++ b ∷ []) left
lebs_more count w left b l le =
    let c = continue_push l.begun b l.continue le in
    let same : (x : List ℕ) → are_lebs count ((w ++ b ∷ []) ++ x) ≡ are_lebs left ((l.begun ++ b ∷ []) ++ x) =
    λ x. rw (append_assoc w (b ∷ []) x, append_assoc l.begun (b ∷ []) x) (l.same (b ∷ x)) in
    record {
      some = l.some;
      begun = l.begun ++ b ∷ [];
      continue = c;
      same = same;
      nowhere = nowhere_push count w b l.nowhere (l.same (b ∷ []) ∙ begun_fails left (l.begun ++ b ∷ []) l.some c);
    }
  where
    continue_push : (w : List ℕ) (b : ℕ) → AllContinue w → 128 ≤ b → AllContinue (w ++ b ∷ [])
    continue_push [] b c le = (le, tt)
    continue_push (a ∷ w) b c le = (c.0, continue_push w b c.1 le)

pub lebs_next : (count : ℕ) (w : List ℕ) (left b : ℕ) → LebsLeft count w (suc left) → b < 128 → 1 ≤ left
    → LebsLeft count (w ++ b ∷ []) left
lebs_next count w left b l lt some =
    let same : (x : List ℕ) → are_lebs count ((w ++ b ∷ []) ++ x) ≡ are_lebs left x =
    λ x. rw (append_assoc w (b ∷ []) x) (l.same (b ∷ x) ∙ number_passes left l.begun b x l.continue lt) in
    record {
      some = some;
      begun = [];
      continue = tt;
      same = same;
      nowhere =
          nowhere_push count w b l.nowhere (l.same (b ∷ []) ∙ number_passes left l.begun b [] l.continue lt
          ∙ begun_fails left [] some tt);
    }

-- the last number's last byte
pub lebs_last : (count : ℕ) (w : List ℕ) (b : ℕ) → LebsLeft count w 1 → b < 128 → are_lebs count (w ++ b ∷ []) ≡ true
lebs_last count w b l lt = l.same (b ∷ []) ∙ number_passes 0 l.begun b [] l.continue lt

-- ---- an opcode that is passed over

abbrev skipped : ℕ → List ℕ → Option Verdict
skipped count w = if are_lebs count w then Some (Ok op.Skipped) else None

pub skipped_then : (order : Order) (h : Params) (b : ℕ) → 12 < b → b < h.opcode_base → (u : List ℕ)
    → operation_spelt order h (b ∷ u) ≡ skipped (slice_index h.lengths.items (b - 1)) u
skipped_then order h b above below u =
    rw (lt-leb h.opcode_base b below, ne_eqb b 0 (λ k. omega arith), lt-leb b 12 above) refl

skipped_at : (order : Order) (h : Params) (b : ℕ) → 12 < b → b < h.opcode_base
    → At (operation_spelt order h) (skipped (slice_index h.lengths.items (b - 1))) (b ∷ []) []
skipped_at order h b above below =
    at_byte (operation_spelt order h) (skipped (slice_index h.lengths.items (b - 1))) b [] refl
    (skipped_then order h b above below)

pub skipped_nowhere : (order : Order) (h : Params) (b : ℕ) (w : List ℕ) (left : ℕ) → 12 < b → b < h.opcode_base
    → LebsLeft (slice_index h.lengths.items (b - 1)) w left
    → SpellsNowhere (operation_spelt order h) (b ∷ w)
skipped_nowhere order h b w left above below l =
    at_nowhere w (skipped_at order h b above below) (λ front back e. rw (l.nowhere front back e) refl)

pub skipped_first : (order : Order) (h : Params) (b : ℕ) (w : List ℕ) (c : ℕ) → 12 < b → b < h.opcode_base
    → LebsLeft (slice_index h.lengths.items (b - 1)) w 1 → c < 128
    → SpellsFirst (operation_spelt order h) (b ∷ (w ++ c ∷ [])) (Ok op.Skipped)
skipped_first order h b w c above below l lt =
    at_first (w ++ c ∷ []) (skipped_at order h b above below) (record {
      spells = rw (lebs_last (slice_index h.lengths.items (b - 1)) w c l lt) refl;
      shortest = λ front x back e. (let r = front_before w front c x back e in rw (l.nowhere front r.0 r.1) refl);
    })
