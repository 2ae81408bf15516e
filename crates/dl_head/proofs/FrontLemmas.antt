-- Fronts of a list, and fronts of the spellings of fields.
use Rattle.std.proofs.Common.{◌≡◌, ℕ, ◌⊎◌, inl, inr, List, [], ◌∷◌, ◌++◌, Ok, refl, sym, ap, subst, ◌∙◌, append_assoc}
use Rattle.std.proofs.Common.{append-nil}
use Rattle.dl_num.specs.declared.fixed.Order.{Order}
use Rattle.dl_table.specs.Value.{good}
use Rattle.dl_field.specs.Layout.{Layout, Item, following, following_all, field_spelt}
use Rattle.dl_head.specs.Header.{SpellsFields, with_item, cut_after}
use Rattle.dl_field.proofs.FieldLemmas.{none_some}
use Rattle.dl_head.proofs.CutLemmas.{cut_of, before_none, cut_front}
use Rattle.dl_head.proofs.HeaderLaws.{nothing_cut}

-- bytes go on
abbrev pub GoesOn : List ℕ → List ℕ → Type 0
GoesOn b c = (x : ℕ) × (back : List ℕ) × (c ≡ b ++ x ∷ back)

-- of two fronts of a list one is a front of the other
pub fronts : (b c v u : List ℕ) → b ++ v ≡ c ++ u → (b ≡ c) ⊎ (GoesOn b c ⊎ GoesOn c b)
fronts [] [] v u e = inl refl
fronts [] (y ∷ c) v u e = inr (inl (y, c, refl))
fronts (x ∷ b) [] v u e = inr (inr (x, b, refl))
fronts (x ∷ b) (y ∷ c) v u e =
    let same : x ≡ y = cc in
    let rest : b ++ v ≡ c ++ u = cc in
    elim (fronts b c v u rest) [
      | inl f ↦ inl (cc)
      | inr (inl g) ↦ inr (inl (g.0, g.1, rw same (ap (λ (l : List ℕ). y ∷ l) g.2)))
      | inr (inr g) ↦ inr (inr (g.0, g.1, rw same (ap (λ (l : List ℕ). y ∷ l) g.2)))
    ]

-- what is left of a list after a front of it
pub after_front : (b v u : List ℕ) → b ++ v ≡ b ++ u → v ≡ u
after_front [] v u e = e
after_front (x ∷ b) v u e = after_front b v u (let f : b ++ v ≡ b ++ u = cc in f)

-- b ends inside the spelling of the field i: the fields before it are cut off, and rest begins its spelling
pub record Inside (order : Order) (layout : Layout) (items : List Item) (b : List ℕ) : Type 0 where
  pub before : List Item
  pub item : Item
  pub after : List Item
  pub items_are : items ≡ before ++ item ∷ after
  pub fields : List ℕ
  pub rest : List ℕ
  pub whole : b ≡ fields ++ rest
  pub spelt : SpellsFields order layout before fields
  pub byte : ℕ
  pub back : List ℕ
  pub field : field_spelt order (following_all layout before) (rest ++ byte ∷ back) ≡ good item
  pub cut_is : cut_after order layout [] b ≡ cut_of before rest

-- no front of some bytes is a field, where more bytes make one
no_front : (order : Order) (layout : Layout) (b : List ℕ) (x : ℕ) (back : List ℕ) (i : Item)
    → field_spelt order layout (b ++ x ∷ back) ≡ good i
    → (front rest : List ℕ) (j : Item) → b ≡ front ++ rest → field_spelt order layout front ≡ good j → ⊥
no_front order layout b x back i e front [] j same f =
    let k : field_spelt order layout (front ++ x ∷ back) ≡ good i =
    ap (λ (l : List ℕ). field_spelt order layout (l ++ x ∷ back)) (sym (same ∙ append-nil front)) ∙ e in
    none_some (before_none order layout front x back (Ok i) k) f
no_front order layout b x back i e front (y ∷ rest) j same f =
    let k : field_spelt order layout (front ++ y ∷ (rest ++ x ∷ back)) ≡ good i =
    ap (λ (l : List ℕ). field_spelt order layout l)
    (sym (append_assoc front (y ∷ rest) (x ∷ back)) ∙ ap (λ (l : List ℕ). l ++ x ∷ back) (sym same)) ∙ e in
    none_some (before_none order layout front y (rest ++ x ∷ back) (Ok i) k) f

first_inside : (order : Order) (layout : Layout) (i : Item) (items : List Item) (b : List ℕ) (x : ℕ) (back : List ℕ)
    → field_spelt order layout (b ++ x ∷ back) ≡ good i
    → Inside order layout (i ∷ items) b
first_inside order layout i items b x back e = record {
  before = [];
  item = i;
  after = items;
  items_are = refl;
  fields = [];
  rest = b;
  whole = refl;
  spelt = refl;
  byte = x;
  back = back;
  field = e;
  cut_is = nothing_cut order layout [] b (no_front order layout b x back i e);
}

later_inside : (order : Order) (layout : Layout) (i : Item) (items : List Item) (front b : List ℕ)
    → field_spelt order layout front ≡ good i → Inside order (following layout i) items b
    → Inside order layout (i ∷ items) (front ++ b)
later_inside order layout i items front b e in_rest = record {
  before = i ∷ in_rest.before;
  item = in_rest.item;
  after = in_rest.after;
  items_are = ap (λ (l : List Item). i ∷ l) in_rest.items_are;
  fields = front ++ in_rest.fields;
  rest = in_rest.rest;
  whole = ap (λ (l : List ℕ). front ++ l) in_rest.whole ∙ sym (append_assoc front in_rest.fields in_rest.rest);
  spelt = (front, in_rest.fields, refl, e, in_rest.spelt);
  byte = in_rest.byte;
  back = in_rest.back;
  field = in_rest.field;
  cut_is = cut_front order layout front b i e ∙ ap (with_item i) in_rest.cut_is;
}

inside_cases : (order : Order) (layout : Layout) (i : Item) (items : List Item) (front rest b : List ℕ) (x : ℕ)
    (back : List ℕ) → field_spelt order layout front ≡ good i
    → b ++ x ∷ back ≡ front ++ rest → ((c : List ℕ) → GoesOn c rest → Inside order (following layout i) items c)
    → (b ≡ front) ⊎ (GoesOn b front ⊎ GoesOn front b) → Inside order layout (i ∷ items) b
inside_cases order layout i items front rest b x back e same later (inl is) =
    let goes : GoesOn [] rest = (
      x,
      back,
      sym
          (after_front front (x ∷ back) rest (ap (λ (l : List ℕ). l ++ x ∷ back) (sym is) ∙ same)),
    ) in
    subst (λ (l : List ℕ). Inside order layout (i ∷ items) l) (append-nil front ∙ sym is)
    (later_inside order layout i items front [] e (later [] goes))
inside_cases order layout i items front rest b x back e same later (inr (inl g)) =
    first_inside order layout i items b g.0 g.1 (ap (λ (l : List ℕ). field_spelt order layout l) (sym g.2) ∙ e)
inside_cases order layout i items front rest b x back e same later (inr (inr g)) =
    let goes : GoesOn (g.0 ∷ g.1) rest = (
      x,
      back,
      sym (after_front front (g.0 ∷ g.1 ++ x ∷ back) rest
          (sym (append_assoc front (g.0 ∷ g.1) (x ∷ back)) ∙ ap (λ (l : List ℕ). l ++ x ∷ back) (sym g.2) ∙ same)),
    ) in
    subst (λ (l : List ℕ). Inside order layout (i ∷ items) l) (sym g.2)
    (later_inside order layout i items front (g.0 ∷ g.1) e (later (g.0 ∷ g.1) goes))

-- bytes that more bytes follow in the spellings of fields end inside one of them
pub inside : (order : Order) (layout : Layout) (items : List Item) (w b : List ℕ) → SpellsFields order layout items w
    → GoesOn b w → Inside order layout items b
inside order layout [] w [] s g = let e : [] ≡ [] ++ g.0 ∷ g.1 = sym s ∙ g.2 in absurd cc
inside order layout [] w (y ∷ b) s g = let e : [] ≡ y ∷ (b ++ g.0 ∷ g.1) = sym s ∙ g.2 in absurd cc
inside order layout (i ∷ items) w b s g =
    inside_cases order layout i items s.0 s.1 b g.0 g.1 s.3 (sym g.2 ∙ s.2)
    (λ c goes. inside order (following layout i) items s.1 c s.4 goes)
    (fronts b s.0 (g.0 ∷ g.1) s.1 (sym g.2 ∙ s.2))
