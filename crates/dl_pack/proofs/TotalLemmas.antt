-- What is known of stretches, of one more.
use Rattle.std.proofs.Common.{◌≡◌, ℕ, ◌+◌, ◌-◌, ◌<◌, ◌≤◌, ◌^◌, Bool, true, false, List, [], ◌∷◌, ◌++◌, length, map, max, min}
use Rattle.std.proofs.Common.{arith, refl, sym, ap, ap₂, subst, ◌∙◌, length-append, Option, Some, None, eqb, ◌⊎◌, inl, inr}
use Rattle.std.specs.Prelude.{if◌then◌else◌, is_some}
use Rattle.std.specs.List.{All, Contains}
use Rattle.std.proofs.lemmas.Bool.{eqb-true}
use Rattle.std.proofs.lemmas.Grind.{flat_map-append}
use Rattle.std.proofs.lemmas.List.{append-nil, map-append}
use Rattle.std.proofs.lemmas.List.Elements.{All-push, All-append, Contains-append_left, Contains-append_right}
use Rattle.dl_stretch.specs.declared.told.Told.{Told}
use Rattle.dl_stretch.specs.declared.stretch.Stretch.{Stretch}
use Rattle.dl_pack.specs.declared.columns.Column.TheVariants as kind
use Rattle.dl_pack.specs.declared.fault.PackFault.{PackFault}
use Rattle.dl_pack.specs.declared.fault.PackFault.TheVariants as fault
use Rattle.dl_pack.specs.declared.totals.StartTotals.{StartTotals}
use Rattle.dl_pack.specs.declared.totals.RowTotals.{RowTotals}
use Rattle.dl_pack.specs.Columns.{told_number, number_of, column_of, greatest}
use Rattle.dl_pack.specs.Faults.{AreTooMany, MentionFails, MoreFails}
use Rattle.dl_pack.specs.IndexOf.{told_files, files_of_stretch, files_told, file_order}
use Rattle.dl_pack.specs.Numbering.{number_in, with_mention, mentioned}
use Rattle.dl_pack.specs.Totals.{AreStarts, AreRows, OrderOr}
use Rattle.dl_pack.proofs.ColumnLemmas.{greatest_push}
use Rattle.dl_pack.proofs.FoundLemmas.{number_upto, added}
use Rattle.dl_pack.proofs.MentionLemmas.{number_new, number_old}
use Rattle.dl_pack.proofs.OrderLemmas.{mentioned-append, mentioned_longer}

greatest_mapped : (f : Stretch → ℕ) (list : List Stretch) (x : Stretch)
    → greatest (map f (list ++ x ∷ [])) ≡ max (f x) (greatest (map f list))
greatest_mapped f list x = ap greatest (map-append f list (x ∷ [])) ∙ greatest_push (map f list) (f x)

-- the greatest number of a column, of one number more
pub greatest_more : (f : Stretch → ℕ) (list : List Stretch) (x : Stretch) (g n r : ℕ) → g ≡ greatest (map f list)
    → n ≡ f x → r ≡ max n g → r ≡ greatest (map f (list ++ x ∷ []))
greatest_more f list x g n r was at is = is ∙ ap₂ max at was ∙ sym (greatest_mapped f list x)

pub greatest_same : (f : Stretch → ℕ) (list : List Stretch) (x : Stretch) (g : ℕ) → g ≡ greatest (map f list) → 0 ≡ f x
    → g ≡ greatest (map f (list ++ x ∷ []))
greatest_same f list x g was none = greatest_more f list x g 0 g was none (omega arith)

abbrev most : ℕ
most = 0xffffffffffffffff

pub starts_more : (t : StartTotals) (list : List Stretch) (x : Stretch) → AreStarts t list → (count base high : ℕ)
    → ((t.count ≡ 0) × (base ≡ x.start)) ⊎ ((t.count ≡ 0 → ⊥) × (base ≡ t.base))
    → count ≡ min (t.count + 1) most → high ≡ max (x.start - base) t.greatest → x.start < 2 ^ 64
    → AreStarts (record { count = count; base = base; greatest = high }) (list ++ x ∷ [])
starts_more t [] x are count base high at counted is lt =
    let none : t.count ≡ 0 = (let h = are.count in omega (arith, h)) in
    let here : base ≡ x.start = elim at [ inl (e, b) ↦ b | inr (ne, b) ↦ absurd (ne none) ] in
    record {
      count = omega (arith, counted, none);
      base = here;
      greatest = λ order. (let g = are.greatest order in omega (arith, is, here, g));
      starts = All-push (λ (s : Stretch). s.start < 2 ^ 64) [] x are.starts lt;
    }
starts_more t (y ∷ list) x are count base high at counted is lt =
    let h = are.count in
    let some : t.count ≡ 0 → ⊥ = λ e. omega (arith, h, e) in
    let here : base ≡ y.start = elim at [ inl (e, b) ↦ absurd (some e) | inr (ne, b) ↦ b ∙ are.base ] in
    record {
      count = omega (arith, counted, h, length-append (y ∷ list) (x ∷ []));
      base = here;
      greatest = λ order. greatest_more (number_of y.start order kind.Start) (y ∷ list) x t.greatest (x.start - y.start) high
          (are.greatest order) refl (is ∙ ap (λ b. max (x.start - b) t.greatest) here);
      starts = All-push (λ (s : Stretch). s.start < 2 ^ 64) (y ∷ list) x are.starts lt;
    }

pub rows_none : (t : RowTotals) (list : List Stretch) (x : Stretch) → x.told ≡ None → AreRows t list
    → AreRows t (list ++ x ∷ [])
rows_none t list x is are = record {
  line = λ base order. greatest_same (number_of base order kind.Line) list x t.line (are.line base order)
      (sym (ap (told_number order kind.Line) is));
  column = λ base order. greatest_same (number_of base order kind.Column) list x t.column (are.column base order)
      (sym (ap (told_number order kind.Column) is));
  discriminator = λ base order. greatest_same (number_of base order kind.Discriminator) list x t.discriminator
      (are.discriminator base order) (sym (ap (told_number order kind.Discriminator) is));
}

pub rows_some : (t : RowTotals) (list : List Stretch) (x : Stretch) (told : Told) → x.told ≡ Some told → AreRows t list
    → (l c d : ℕ) → l ≡ max told.line t.line → c ≡ max told.column t.column
    → d ≡ max told.discriminator t.discriminator
    → AreRows (record { line = l; column = c; discriminator = d }) (list ++ x ∷ [])
rows_some t list x told is are l c d l_is c_is d_is = record {
  line = λ base order. greatest_more (number_of base order kind.Line) list x t.line told.line l (are.line base order)
      (sym (ap (told_number order kind.Line) is)) l_is;
  column = λ base order. greatest_more (number_of base order kind.Column) list x t.column told.column c
      (are.column base order) (sym (ap (told_number order kind.Column) is)) c_is;
  discriminator = λ base order. greatest_more (number_of base order kind.Discriminator) list x t.discriminator
      told.discriminator d (are.discriminator base order) (sym (ap (told_number order kind.Discriminator) is)) d_is;
}

-- ---- the order of files

told_push : (list : List Stretch) (x : Stretch) → files_told (list ++ x ∷ []) ≡ files_told list ++ files_of_stretch x
told_push list x =
    flat_map-append files_of_stretch list (x ∷ [])
    ∙ ap (λ more. files_told list ++ more) (append-nil (files_of_stretch x))

order_push : (list : List Stretch) (x : Stretch) → file_order (list ++ x ∷ []) ≡ mentioned (file_order list) (files_of_stretch x)
order_push list x = ap (mentioned []) (told_push list x) ∙ mentioned-append [] (files_told list) (files_of_stretch x)

fails_more : (n : ℕ) (list : List Stretch) (x : Stretch) (f : PackFault) → MentionFails n list f
    → MentionFails n (list ++ x ∷ []) f
fails_more n list x fault.BuildId h = absurd h
fails_more n list x fault.File h =
    (h.0, subst (λ l. Contains l h.0) (sym (told_push list x)) (Contains-append_left (files_told list) (files_of_stretch x) h.0 h.1), h.2)
fails_more n list x fault.TooMany h =
    subst AreTooMany (sym (order_push list x)) (omega (arith, h, mentioned_longer (file_order list) (files_of_stretch x)))
fails_more n list x fault.NoMemory h = absurd h

here_fails : (n m : ℕ) (order : List ℕ) (list : List Stretch) (x : Stretch) (f : PackFault) → m ≡ n → order ≡ file_order list
    → MoreFails m order x f → MentionFails n (list ++ x ∷ []) f
here_fails n m order list x fault.BuildId same is h = absurd h
here_fails n m order list x fault.File same is h =
    let here = subst (λ told. Contains told h.0) (append-nil (files_of_stretch x)) h.1 in
    let le = h.2 in
    (h.0, subst (λ l. Contains l h.0) (sym (told_push list x)) (Contains-append_right (files_told list) (files_of_stretch x) h.0 here), omega (arith, le, same))
here_fails n m order list x fault.TooMany same is h =
    subst AreTooMany (ap (λ o. mentioned o (files_of_stretch x)) is ∙ sym (order_push list x)) h
here_fails n m order list x fault.NoMemory same is h = absurd h

pub fails_here : (o : Option PackFault) (n m : ℕ) (order : List ℕ) (list : List Stretch) (x : Stretch) (f : PackFault)
    → is_some o ≡ false → OrderOr o n order list → m ≡ n → MoreFails m order x f → MentionFails n (list ++ x ∷ []) f
fails_here (Some g) n m order list x f none h same fails = cc
fails_here None n m order list x f none h same fails = here_fails n m order list x f same h.0 fails

pub order_stays : (o : Option PackFault) (n : ℕ) (order : List ℕ) (list : List Stretch) (x : Stretch) → is_some o ≡ true
    → OrderOr o n order list → OrderOr o n order (list ++ x ∷ [])
order_stays None n order list x some h = cc
order_stays (Some f) n order list x some h = fails_more n list x f h

pub order_more : (o : Option PackFault) (n m : ℕ) (order new : List ℕ) (list : List Stretch) (x : Stretch)
    → is_some o ≡ false → OrderOr o n order list → new ≡ mentioned order (files_of_stretch x)
    → All (λ file. file < m) (files_of_stretch x) → m ≡ n → OrderOr o n new (list ++ x ∷ [])
order_more (Some f) n m order new list x none h is within same = cc
order_more None n m order new list x none h is within same = (
  is ∙ ap (λ o. mentioned o (files_of_stretch x)) h.0 ∙ sym (order_push list x),
  subst (All (λ file. file < n)) (sym (told_push list x))
      (All-append (λ file. file < n) (files_told list) (files_of_stretch x) h.1
      (subst (λ k. All (λ file. file < k) (files_of_stretch x)) same within)),
)

-- ---- the greatest number of a file is how many are mentioned

same_cases : (b : Bool) (order : List ℕ) (item j : ℕ) → eqb (number_in order item) 0 ≡ b → 1 ≤ number_in order j
    → number_in (if b then order ++ item ∷ [] else order) j ≡ number_in order j
same_cases true order item j new some =
    let none : number_in order item ≡ 0 = eqb-true (number_in order item) 0 new in
    number_old order item j (λ e. (let same : number_in order item ≡ number_in order j = ap (number_in order) e in omega arith))
same_cases false order item j old some = refl

number_same : (order items : List ℕ) (j : ℕ) → 1 ≤ number_in order j → number_in (mentioned order items) j ≡ number_in order j
number_same order [] j some = refl
number_same order (item ∷ items) j some =
    let e : number_in (with_mention order item) j ≡ number_in order j =
    same_cases (eqb (number_in order item) 0) order item j refl some in
    number_same (with_mention order item) items j (omega (arith, e, some)) ∙ e

one_mentioned : (b : Bool) (order : List ℕ) (item : ℕ) → eqb (number_in order item) 0 ≡ b
    → max (length order) (number_in (if b then order ++ item ∷ [] else order) item)
    ≡ length (if b then order ++ item ∷ [] else order)
one_mentioned true order item new =
    omega (arith, number_new order item (eqb-true (number_in order item) 0 new), length-append order (item ∷ []))
one_mentioned false order item old = omega (arith, number_upto order item)

greatest_numbers : (order items : List ℕ)
    → max (length order) (greatest (map (number_in (mentioned order items)) items)) ≡ length (mentioned order items)
greatest_numbers order [] = omega arith
greatest_numbers order (item ∷ items) =
    let next : List ℕ = with_mention order item in
    let rest : ℕ = greatest (map (number_in (mentioned next items)) items) in
    let n : number_in (mentioned next items) item ≡ number_in next item = number_same next items item (added order item) in
    let w : max (length order) (number_in next item) ≡ length next =
    one_mentioned (eqb (number_in order item) 0) order item refl in
    omega (arith, greatest_numbers next items, n, w)

one_file : (o : Option Told) (order : List ℕ) (g : ℕ) (rest : List ℕ) → g ≡ greatest (map (number_in order) rest)
    → max (told_number order kind.File o) g ≡ greatest (map (number_in order) (told_files o ++ rest))
one_file None order g rest is = omega (arith, is)
one_file (Some t) order g rest is = ap (max (number_in order t.file)) is

file_numbers : (base : ℕ) (order : List ℕ) (list : List Stretch)
    → greatest (column_of base order kind.File list) ≡ greatest (map (number_in order) (files_told list))
file_numbers base order [] = refl
file_numbers base order (s ∷ list) =
    one_file s.told order (greatest (column_of base order kind.File list)) (files_told list) (file_numbers base order list)

pub file_greatest : (base : ℕ) (list : List Stretch)
    → greatest (column_of base (file_order list) kind.File list) ≡ length (file_order list)
file_greatest base list =
    file_numbers base (file_order list) list ∙ omega (arith, greatest_numbers [] (files_told list))
