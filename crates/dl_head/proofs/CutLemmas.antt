-- Cutting good fields off the front of bytes may stop anywhere and go on, and what is cut off spells the values.
use Rattle.std.proofs.Common.{◌≡◌, ℕ, List, [], ◌∷◌, ◌++◌, Some, None, Result, Ok, Err, refl, sym, ap, ◌∙◌}
use Rattle.std.proofs.Common.{append_assoc, append-nil}
use Rattle.dl_num.specs.declared.fixed.Order.{Order}
use Rattle.dl_head.specs.declared.dialect.Dialect.{Dialect}
use Rattle.dl_table.specs.declared.fault.FaultKind.{FaultKind}
use Rattle.dl_field.specs.HeaderData.{HeaderData}
use Rattle.dl_table.specs.Value.{Judgement, good, bad}
use Rattle.dl_field.specs.Layout.{Layout, last_entry, Item, following, following_all, field_spelt}
use Rattle.dl_head.specs.HeaderLayout.{header_layout}
use Rattle.dl_head.specs.Header.{SpellsFields, Cut, with_item, cut_after, cut}
use Rattle.dl_field.proofs.FieldLemmas.{field_once, field_empty, none_some}

-- what is cut off first, and then
abbrev pub then_cut : Cut → Cut → Cut
then_cut s t = record { items = s.items ++ t.items; rest = t.rest }

abbrev pub cut_of : List Item → List ℕ → Cut
cut_of items rest = record { items = items; rest = rest }

-- what is cut off where the bytes so far are judged so
abbrev pub cut_on : Order → Layout → List ℕ → Judgement Item → List ℕ → Cut
cut_on order layout begun o b = elim o [
  | Some (Ok i) ↦ with_item i (cut_after order (following layout i) [] b)
  | Some (Err kind) ↦ cut_after order layout begun b
  | None ↦ cut_after order layout begun b
]

pub cut_after-append : (order : Order) (layout : Layout) (begun b c : List ℕ)
    → cut_after order layout begun (b ++ c)
    ≡ then_cut (cut_after order layout begun b)
    (cut_after order (following_all layout (cut_after order layout begun b).items) (cut_after order layout begun b).rest
    c)
cut_after-append order layout begun [] c = refl
cut_after-append order layout begun (x ∷ b) c =
    elim (field_spelt order layout (begun ++ x ∷ [])) as (λ o. cut_on order layout (begun ++ x ∷ []) o (b ++ c)
    ≡ then_cut (cut_on order layout (begun ++ x ∷ []) o b)
    (cut_after order (following_all layout (cut_on order layout (begun ++ x ∷ []) o b).items)
    (cut_on order layout (begun ++ x ∷ []) o b).rest c)) [
      | Some (Ok i) ↦ ap (with_item i) (cut_after-append order (following layout i) [] b c)
      | Some (Err kind) ↦ cut_after-append order layout (begun ++ x ∷ []) b c
      | None ↦ cut_after-append order layout (begun ++ x ∷ []) b c
    ]

-- what is cut off b ++ c
pub cut-append : (dialect : Dialect) (b c : List ℕ)
    → cut dialect (b ++ c) ≡ then_cut (cut dialect b)
    (cut_after dialect.order (following_all (header_layout dialect) (cut dialect b).items) (cut dialect b).rest c)
cut-append dialect b c = cut_after-append dialect.order (header_layout dialect) [] b c

-- ---- one byte more

cut_step : (dialect : Dialect) (b : List ℕ) (x : ℕ) (items : List Item) (rest : List ℕ) (o : Judgement Item)
    → cut dialect b ≡ cut_of items rest
    → field_spelt dialect.order (following_all (header_layout dialect) items) (rest ++ x ∷ []) ≡ o
    → cut dialect (b ++ x ∷ []) ≡ then_cut (cut_of items rest)
    (cut_on dialect.order (following_all (header_layout dialect) items) (rest ++ x ∷ []) o [])
cut_step dialect b x items rest o e f = rw (cut-append dialect b (x ∷ []), e, f) refl

-- a byte within a field
pub cut_within : (dialect : Dialect) (b : List ℕ) (x : ℕ) (items : List Item) (rest : List ℕ)
    → cut dialect b ≡ cut_of items rest
    → field_spelt dialect.order (following_all (header_layout dialect) items) (rest ++ x ∷ []) ≡ None
    → cut dialect (b ++ x ∷ []) ≡ cut_of items (rest ++ x ∷ [])
cut_within dialect b x items rest e f = rw (cut_step dialect b x items rest None e f, append-nil items) refl

-- a byte that ends a good field
pub cut_good : (dialect : Dialect) (b : List ℕ) (x : ℕ) (items : List Item) (rest : List ℕ) (i : Item)
    → cut dialect b ≡ cut_of items rest
    → field_spelt dialect.order (following_all (header_layout dialect) items) (rest ++ x ∷ []) ≡ good i
    → cut dialect (b ++ x ∷ []) ≡ cut_of (items ++ i ∷ []) []
cut_good dialect b x items rest i e f = cut_step dialect b x items rest (good i) e f

-- a byte that ends a bad field
pub cut_bad : (dialect : Dialect) (b : List ℕ) (x : ℕ) (items : List Item) (rest : List ℕ) (kind : FaultKind)
    → cut dialect b ≡ cut_of items rest
    → field_spelt dialect.order (following_all (header_layout dialect) items) (rest ++ x ∷ []) ≡ bad kind
    → cut dialect (b ++ x ∷ []) ≡ cut_of items (rest ++ x ∷ [])
cut_bad dialect b x items rest kind e f = rw (cut_step dialect b x items rest (bad kind) e f, append-nil items) refl

-- ---- fields are cut off, whatever follows

-- bytes that begin a spelling are not judged
pub before_none : (order : Order) (layout : Layout) (w : List ℕ) (x : ℕ) (v : List ℕ) (r : Result Item FaultKind)
    → field_spelt order layout (w ++ x ∷ v) ≡ Some r → field_spelt order layout w ≡ None
before_none order layout w x v r e = none_of (field_spelt order layout w) refl
  where
    none_of : (o : Judgement Item) → field_spelt order layout w ≡ o → field_spelt order layout w ≡ None
    none_of None f = f
    none_of (Some s) f = absurd (field_once order layout w x v s r f e)

-- begun is the front of a good field, and x ∷ v what is left of it
cut_field : (order : Order) (layout : Layout) (begun : List ℕ) (x : ℕ) (v y : List ℕ) (i : Item)
    → field_spelt order layout (begun ++ x ∷ v) ≡ good i
    → cut_after order layout begun (x ∷ (v ++ y)) ≡ with_item i (cut_after order (following layout i) [] y)
cut_field order layout begun x [] y i e = ap (λ o. cut_on order layout (begun ++ x ∷ []) o y) e
cut_field order layout begun x (c ∷ v) y i e =
    let f : field_spelt order layout ((begun ++ x ∷ []) ++ c ∷ v) ≡ good i = rw append_assoc e in
    ap (λ o. cut_on order layout (begun ++ x ∷ []) o (c ∷ (v ++ y)))
    (before_none order layout (begun ++ x ∷ []) c v (Ok i) f)
    ∙ cut_field order layout (begun ++ x ∷ []) c v y i f

pub cut_front : (order : Order) (layout : Layout) (front y : List ℕ) (i : Item)
    → field_spelt order layout front ≡ good i → cut_after order layout [] (front ++ y)
    ≡ with_item i (cut_after order (following layout i) [] y)
cut_front order layout [] y i e = absurd (none_some (field_empty order layout) e)
cut_front order layout (x ∷ v) y i e = cut_field order layout [] x v y i e

abbrev pub with_items : List Item → Cut → Cut
with_items items c = record { items = items ++ c.items; rest = c.rest }

pub cut_fields : (order : Order) (layout : Layout) (items : List Item) (w y : List ℕ)
    → SpellsFields order layout items w
    → cut_after order layout [] (w ++ y) ≡ with_items items (cut_after order (following_all layout items) [] y)
cut_fields order layout [] w y s = rw s refl
cut_fields order layout (i ∷ items) w y s =
    rw (
      s.2,
      append_assoc s.0 s.1 y,
      cut_front order layout s.0 (s.1 ++ y) i s.3,
      cut_fields order (following layout i) items s.1 y s.4,
    ) refl

-- after the last entry nothing is cut off
pub cut_last : (order : Order) (h : HeaderData) (begun y : List ℕ)
    → cut_after order (last_entry h) begun y ≡ cut_of [] (begun ++ y)
cut_last order h begun [] = rw (append-nil begun) refl
cut_last order h begun (x ∷ y) = rw (cut_last order h (begun ++ x ∷ []) y, append_assoc begun (x ∷ []) y) refl

-- ---- what is cut off spells the values

pub record Sound (order : Order) (layout : Layout) (w : List ℕ) (c : Cut) : Type 0 where
  pub front : List ℕ
  pub whole : w ≡ front ++ c.rest
  pub spelt : SpellsFields order layout c.items front

sound_by : (order : Order) (layout : Layout) (begun : List ℕ) (x : ℕ) (b : List ℕ) (o : Judgement Item)
    → field_spelt order layout (begun ++ x ∷ []) ≡ o
    → ((i : Item) → Sound order (following layout i) b (cut_after order (following layout i) [] b))
    → Sound order layout ((begun ++ x ∷ []) ++ b) (cut_after order layout (begun ++ x ∷ []) b)
    → Sound order layout (begun ++ x ∷ b) (cut_on order layout (begun ++ x ∷ []) o b)
sound_by order layout begun x b (Some (Ok i)) e next same =
    let s = next i in
    record {
      front = (begun ++ x ∷ []) ++ s.front;
      whole = sym (append_assoc begun (x ∷ []) b) ∙ ap (λ (z : List ℕ). (begun ++ x ∷ []) ++ z) s.whole
          ∙ sym (append_assoc (begun ++ x ∷ []) s.front _);
      spelt = (begun ++ x ∷ [], s.front, refl, e, s.spelt);
    }
sound_by order layout begun x b (Some (Err kind)) e next same =
    record { front = same.front; whole = sym (append_assoc begun (x ∷ []) b) ∙ same.whole; spelt = same.spelt }
sound_by order layout begun x b None e next same =
    record { front = same.front; whole = sym (append_assoc begun (x ∷ []) b) ∙ same.whole; spelt = same.spelt }

pub cut_sound : (order : Order) (layout : Layout) (begun b : List ℕ)
    → Sound order layout (begun ++ b) (cut_after order layout begun b)
cut_sound order layout begun [] = record { front = []; whole = append-nil begun; spelt = refl }
cut_sound order layout begun (x ∷ b) =
    sound_by order layout begun x b (field_spelt order layout (begun ++ x ∷ [])) refl
    (λ i. cut_sound order (following layout i) [] b) (cut_sound order layout (begun ++ x ∷ []) b)
