-- A program of which the first bytes are replaced.
use Rattle.std.proofs.Common.{◌≡◌, ◌⊎◌, inl, inr, ℕ, ◌+◌, ◌-◌, Bool, true, false, cond, List, [], ◌∷◌, ◌++◌, length, take, drop, Option}
use Rattle.std.proofs.Common.{Some, None, refl, sym, ap, subst, ◌∙◌, arith, append_assoc, take-add}
use Rattle.std.proofs.lemmas.List.{take-append-drop, drop-drop, take_at}
use Rattle.dl_num.specs.declared.fixed.Order.{Order}
use Rattle.dl_num.specs.Front.{SpellsNowhere}
use Rattle.dl_field.specs.declared.params.Params.{Params}
use Rattle.dl_reloc.specs.declared.placed.Placed.{Placed}
use Rattle.dl_rows.specs.Matrix.{is_address}
use Rattle.dl_rows.proofs.FirstLemmas.{nil_front}
use Rattle.dl_object.specs.declared.sequence.Sequence.{Sequence}
use Rattle.dl_object.specs.declared.sequence.Front.{Front}
use Rattle.dl_object.specs.declared.sequence.Front.TheVariants as front
use Rattle.dl_object.specs.Sequences.{Spelled, spelled, bytes_of}
use Rattle.dl_object.specs.Kept.{address_place, section_at_any, is_same, passed_over, sequence_kept, program_kept}
use Rattle.dl_object.specs.Fronts.{Runs, FrontIs, place_from}
use Rattle.dl_object.proofs.KeptLemmas.{kept_sequence, kept_rest}
use Rattle.dl_object.proofs.RunLemmas.{runs_bytes}

-- what begins at a later place
place_later : (h : Params) (from at : ℕ) (s : List Spelled)
    → address_place h (from + at) s ≡ place_from from (address_place h at s)
place_later h from at [] = refl
place_later h from at (o ∷ s) =
    let here : from + at + (length o.bytes - h.address_size) ≡ from + (at + (length o.bytes - h.address_size)) =
    omega arith in
    let later : address_place h (from + at + length o.bytes) s ≡ place_from from (address_place h (at + length o.bytes) s) =
    ap (λ (n : ℕ). address_place h n s) (omega arith) ∙ place_later h from (at + length o.bytes) s in
    elim (is_address o.operation) as (λ b.
    cond b (Some (from + at + (length o.bytes - h.address_size))) (address_place h (from + at + length o.bytes) s)
    ≡ place_from from (cond b (Some (at + (length o.bytes - h.address_size))) (address_place h (at + length o.bytes) s))) [
      | true ↦ ap (λ (n : ℕ). Some n) here
      | false ↦ later
    ]

nothing_nowhere : (order : Order) (h : Params) → SpellsNowhere (spelled order h) []
nothing_nowhere order h front back e =
    subst (λ (w : List ℕ). ◌≡◌ {A = Option Spelled} (spelled order h w) None) (sym (nil_front front back e)) refl

module _ (order : Order) (h : Params) (places : List Placed) (section offset : ℕ) (old : List ℕ) where
  -- the first bytes of the program are replaced
  pub record Replaced (new : List ℕ) (at : ℕ) : Type 0 where
    pub rest : drop at new ≡ drop at old
    pub kept : program_kept order h places section offset old
        ≡ take at new ++ program_kept order h places section (offset + at) (drop at old)

  module _ (new : List ℕ) (at : ℕ) (so : Replaced new at) where
    -- a whole sequence more
    module _ (q : Sequence) (f : FrontIs order h (drop at new) (front.Sequence q)) where
      abbrev left : List ℕ
      left = sequence_kept h places section (offset + at) f.0

      pub sequence_replaced : (next : List ℕ) (end : ℕ) → end ≡ at + q.len → drop end next ≡ drop end new
          → take end next ≡ take at new ++ left → Replaced next end
      sequence_replaced next end e rest front =
          let r : Runs order h (drop at old) f.0 (drop q.len (drop at old)) =
          subst (λ (b : List ℕ). Runs order h b f.0 (drop q.len b)) so.rest f.2 in
          let later : drop q.len (drop at old) ≡ drop end old =
          drop-drop q.len at old ∙ ap (λ (n : ℕ). drop n old) (sym e) in
          let place : offset + at + length (bytes_of f.0) ≡ offset + end = (let len = f.3 in omega (arith, len, e)) in
          record {
            rest =
                rest ∙ ap (λ (n : ℕ). drop n new) e ∙ sym (drop-drop q.len at new)
                ∙ ap (drop q.len) so.rest ∙ later;
            kept =
                so.kept
                ∙ ap (λ (b : List ℕ). take at new ++ b)
                (kept_sequence order h places section (offset + at) (drop at old) f.0 (drop q.len (drop at old)) r f.1)
                ∙ sym (append_assoc (take at new) left
                (program_kept order h places section (offset + at + length (bytes_of f.0)) (drop q.len (drop at old))))
                ∙ ap (λ (b : List ℕ). b ++ program_kept order h places section (offset + at + length (bytes_of f.0)) (drop q.len (drop at old)))
                (sym front)
                ∙ ap (λ (n : ℕ). take end next ++ program_kept order h places section n (drop q.len (drop at old))) place
                ∙ ap (λ (b : List ℕ). take end next ++ program_kept order h places section (offset + end) b) later;
          }

      -- its section
      pub wanted_is : (b : Bool) → b ≡ is_same section (section_at_any places (place_from (offset + at) q.address))
          → left ≡ cond b (bytes_of f.0) (passed_over q.len)
      wanted_is b e =
          let place : address_place h (offset + at) f.0 ≡ place_from (offset + at) q.address =
          ap (λ (n : ℕ). address_place h n f.0) (omega arith) ∙ place_later h (offset + at) 0 f.0
          ∙ ap (place_from (offset + at)) (sym f.4) in
          ap (λ (o : Option ℕ). cond (is_same section (section_at_any places o)) (bytes_of f.0) (passed_over (length (bytes_of f.0)))) place
          ∙ ap (λ (t : Bool). cond t (bytes_of f.0) (passed_over (length (bytes_of f.0)))) (sym e)
          ∙ ap (λ (n : ℕ). cond b (bytes_of f.0) (passed_over n)) (sym f.3)

      pub front_is : take q.len (drop at new) ≡ bytes_of f.0
      front_is =
          ap (take q.len) (runs_bytes order h (drop at new) f.0 (drop q.len (drop at new)) f.2)
          ∙ take_at (bytes_of f.0) (drop q.len (drop at new)) q.len (sym f.3)

    -- the same, of bytes that are those
    module _ (q : Sequence) (b : List ℕ) (same : b ≡ drop at new) (f : FrontIs order h b (front.Sequence q)) where
      abbrev there : FrontIs order h (drop at new) (front.Sequence q)
      there = subst (λ (z : List ℕ). FrontIs order h z (front.Sequence q)) same f

      -- a sequence of the section stays
      pub wanted_stays : true ≡ is_same section (section_at_any places (place_from (offset + at) q.address))
          → Replaced new (at + q.len)
      wanted_stays e =
          sequence_replaced q there new (at + q.len) refl refl
          (take-add at q.len new
          ∙ ap (λ (z : List ℕ). take at new ++ z) (front_is q there ∙ sym (wanted_is q there true e)))

      -- another one is passed over
      pub other_passed : false ≡ is_same section (section_at_any places (place_from (offset + at) q.address))
          → (next : List ℕ) → drop (at + q.len) next ≡ drop (at + q.len) new
          → take (at + q.len) next ≡ take at new ++ passed_over q.len → Replaced next (at + q.len)
      other_passed e next rest front =
          sequence_replaced q there next (at + q.len) refl rest
          (front ∙ ap (λ (z : List ℕ). take at new ++ z) (sym (wanted_is q there false e)))

    -- no sequence more
    all_replaced : (b : List ℕ) → b ≡ drop at new → FrontIs order h b front.Open
        → new ≡ program_kept order h places section offset old
    all_replaced b same f =
        let r : Runs order h (drop at old) f.0 [] =
        subst (λ (b : List ℕ). Runs order h b f.0 []) (same ∙ so.rest) f.2 in
        sym (so.kept
        ∙ ap (λ (b : List ℕ). take at new ++ b)
        (kept_rest order h places section (offset + at) (drop at old) f.0 [] r f.1 (nothing_nowhere order h)
        ∙ sym so.rest)
        ∙ take-append-drop at new)

    damaged_replaced : (b : List ℕ) → b ≡ drop at new → FrontIs order h b front.Damaged
        → new ≡ program_kept order h places section offset old
    damaged_replaced b same f =
        let r : Runs order h (drop at old) f.0 f.1 =
        subst (λ (b : List ℕ). Runs order h b f.0 f.1) (same ∙ so.rest) f.3 in
        sym (so.kept
        ∙ ap (λ (b : List ℕ). take at new ++ b)
        (kept_rest order h places section (offset + at) (drop at old) f.0 f.1 r f.2 f.4 ∙ sym so.rest)
        ∙ take-append-drop at new)

    -- no whole sequence more
    pub rest_stays : (b : List ℕ) → b ≡ drop at new → (found : Front) → (found ≡ front.Open) ⊎ (found ≡ front.Damaged)
        → FrontIs order h b found → new ≡ program_kept order h places section offset old
    rest_stays b same found (inl e) f = all_replaced b same (subst (FrontIs order h b) e f)
    rest_stays b same found (inr e) f = damaged_replaced b same (subst (FrontIs order h b) e f)
