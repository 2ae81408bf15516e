-- What answers of two lists of places, one after the other.
use Rattle.std.proofs.Common.{◌≡◌, ℕ, ◌<◌, min, Bool, true, false, List, [], ◌∷◌, ◌++◌, filter, refl, sym, ap}
use Rattle.std.proofs.Common.{ap₂, ◌∙◌, arith, append-nil}
use Rattle.std.specs.Prelude.{◌&&◌, ◌==◌, nat_le, nat_lt, if◌then◌else◌}
use Rattle.std.specs.List.{list_all}
use Rattle.std.proofs.lemmas.Bool.Decides.{nat_tests}
use Rattle.dl_lines.specs.declared.question.Wanted.{Wanted}
use Rattle.dl_lines.specs.Places.{CodePlace}
use Rattle.dl_lines.specs.Answers.{answering, fits, least_of}
use Rattle.dl_lines.specs.Kept.{both}
use Rattle.dl_lines.proofs.BestLemmas.{both_none}

-- no line is below n
abbrev none_below : ℕ → List CodePlace → Bool
none_below n places = list_all (λ (q : CodePlace). nat_le n q.line) places

abbrev of_line : ℕ → List CodePlace → List CodePlace
of_line m places = filter (λ (p : CodePlace). p.line == m) places

pub filter_both : {A : Type 0} (f : A → Bool) (a b : List A) → filter f (a ++ b) ≡ filter f a ++ filter f b
filter_both f [] b = refl
filter_both {A} f (x ∷ a) b = by (f x) (filter_both f a b) where
  by : (is : Bool) → filter f (a ++ b) ≡ filter f a ++ filter f b → (if is then x ∷ filter f (a ++ b) else filter f (a ++ b))
      ≡ (if is then x ∷ filter f a else filter f a) ++ filter f b
  by true e = ap (λ (l : List A). x ∷ l) e
  by false e = e

none_both : (n : ℕ) (a b : List CodePlace) → none_below n (a ++ b) ≡ (none_below n a && none_below n b)
none_both n [] b = refl
none_both n (p ∷ a) b = by (nat_le n p.line) (none_both n a b) where
  by : (is : Bool) → none_below n (a ++ b) ≡ (none_below n a && none_below n b)
      → (is && none_below n (a ++ b)) ≡ ((is && none_below n a) && none_below n b)
  by true e = e
  by false e = refl

-- ---- the least line

abbrev least_line : CodePlace → List CodePlace → ℕ
least_line p [] = p.line
least_line p (q ∷ places) = min p.line (least_line q places)

none_least : (n : ℕ) (p : CodePlace) (places : List CodePlace) → none_below n (p ∷ places) ≡ nat_le n (least_line p places)
none_least n p [] = by (nat_le n p.line) where
  by : (b : Bool) → (b && true) ≡ b
  by true = refl
  by false = refl
none_least n p (q ∷ places) =
    ap (λ (b : Bool). nat_le n p.line && b) (none_least n q places) ∙ both_le n p.line (least_line q places) where
      both_le : (n a b : ℕ) → (nat_le n a && nat_le n b) ≡ nat_le n (min a b)
      both_le n a b = grind (arith, nat_tests)

-- those that have no line below theirs have the least line
same_test : (f : ℕ → Bool) (m : ℕ) → ((n : ℕ) → f n ≡ nat_le n m) → (places : List CodePlace) → none_below m places ≡ true
    → filter (λ (p : CodePlace). f p.line) places ≡ of_line m places
same_test f m is [] all = refl
same_test f m is (p ∷ places) all =
    ap₂ (λ (b : Bool) (l : List CodePlace). if b then p ∷ l else l) (is p.line ∙ le_eq p.line m (first all))
    (same_test f m is places (rest all)) where
      first : (nat_le m p.line && none_below m places) ≡ true → nat_le m p.line ≡ true
      first e = grind (arith, e)

      rest : (nat_le m p.line && none_below m places) ≡ true → none_below m places ≡ true
      rest e = grind (arith, e)

      le_eq : (n m : ℕ) → nat_le m n ≡ true → nat_le n m ≡ (n == m)
      le_eq n m e = grind (arith, nat_tests, e)

none_of_line : (m k : ℕ) → m < k → (places : List CodePlace) → none_below k places ≡ true → of_line m places ≡ []
none_of_line m k lt [] all = refl
none_of_line m k lt (p ∷ places) all =
    ap₂ (λ (b : Bool) (l : List CodePlace). if b then p ∷ l else l) differs (none_of_line m k lt places rest) where
      differs : (p.line == m) ≡ false
      differs = grind (arith, nat_tests, lt, all)

      rest : none_below k places ≡ true
      rest = grind (arith, all)

record HasLine (m : ℕ) (places : List CodePlace) : Type 0 where
  first : CodePlace
  others : List CodePlace
  is : of_line m places ≡ first ∷ others
  line : first.line ≡ m

has_least : (p : CodePlace) (places : List CodePlace) → HasLine (least_line p places) (p ∷ places)
has_least p [] = record {
  first = p;
  others = [];
  is = ap (λ (b : Bool). if b then p ∷ [] else []) (same p.line);
  line = refl;
} where
  same : (n : ℕ) → (n == n) ≡ true
  same n = grind (arith, nat_tests)
has_least p (q ∷ places) = by (p.line == min p.line (least_line q places)) refl (has_least q places) where
  m : ℕ
  m = min p.line (least_line q places)

  by : (b : Bool) → (p.line == m) ≡ b → HasLine (least_line q places) (q ∷ places) → HasLine m (p ∷ q ∷ places)
  by true e h = record {
    first = p;
    others = of_line m (q ∷ places);
    is = ap (λ (b : Bool). if b then p ∷ of_line m (q ∷ places) else of_line m (q ∷ places)) e;
    line = grind (arith, nat_tests, e);
  }
  by false e h =
      let same : least_line q places ≡ m = grind (arith, nat_tests, e) in
      record {
        first = h.first;
        others = h.others;
        is =
            ap (λ (b : Bool). if b then p ∷ of_line m (q ∷ places) else of_line m (q ∷ places)) e
            ∙ ap (λ (n : ℕ). of_line n (q ∷ places)) (sym same) ∙ h.is;
        line = h.line ∙ same;
      }

least_is : (p : CodePlace) (places : List CodePlace) → least_of (p ∷ places) ≡ of_line (least_line p places) (p ∷ places)
least_is p places =
    same_test (λ n. none_below n (p ∷ places)) (least_line p places) (λ n. none_least n p places) (p ∷ places)
    (none_least (least_line p places) p places ∙ le_self (least_line p places)) where
      le_self : (n : ℕ) → nat_le n n ≡ true
      le_self n = grind (arith, nat_tests)

-- of two lists
pub least_both : (a b : List CodePlace) → least_of (a ++ b) ≡ both (least_of a) (least_of b)
least_both [] b = refl
least_both (p ∷ a) [] = ap least_of (append-nil (p ∷ a)) ∙ sym (both_none (least_of (p ∷ a)))
least_both (p ∷ a) (q ∷ b) =
    all ∙ parts (nat_lt m n) refl (nat_lt n m) refl
    ∙ ap₂ both (sym (least_is p a)) (sym (least_is q b)) where
      m : ℕ
      m = least_line p a

      n : ℕ
      n = least_line q b

      test : (k : ℕ) → none_below k ((p ∷ a) ++ q ∷ b) ≡ nat_le k (min m n)
      test k =
          none_both k (p ∷ a) (q ∷ b) ∙ ap₂ (λ (x y : Bool). x && y) (none_least k p a) (none_least k q b)
          ∙ both_le k m n where
            both_le : (k a b : ℕ) → (nat_le k a && nat_le k b) ≡ nat_le k (min a b)
            both_le k a b = grind (arith, nat_tests)

      all : least_of ((p ∷ a) ++ q ∷ b) ≡ of_line (min m n) (p ∷ a) ++ of_line (min m n) (q ∷ b)
      all =
          same_test (λ k. none_below k ((p ∷ a) ++ q ∷ b)) (min m n) test ((p ∷ a) ++ q ∷ b)
          (test (min m n) ∙ le_self (min m n))
          ∙ filter_both (λ (x : CodePlace). x.line == min m n) (p ∷ a) (q ∷ b) where
            le_self : (k : ℕ) → nat_le k k ≡ true
            le_self k = grind (arith, nat_tests)

      a_all : none_below m (p ∷ a) ≡ true
      a_all = none_least m p a ∙ le_self m where
        le_self : (k : ℕ) → nat_le k k ≡ true
        le_self k = grind (arith, nat_tests)

      b_all : none_below n (q ∷ b) ≡ true
      b_all = none_least n q b ∙ le_self n where
        le_self : (k : ℕ) → nat_le k k ≡ true
        le_self k = grind (arith, nat_tests)

      -- both by their first places
      of_both : (is_lt is_gt : Bool) → nat_lt m n ≡ is_lt → nat_lt n m ≡ is_gt
          → both (of_line m (p ∷ a)) (of_line n (q ∷ b))
          ≡ (if is_lt then of_line m (p ∷ a) else if is_gt then of_line n (q ∷ b)
          else of_line m (p ∷ a) ++ of_line n (q ∷ b))
      of_both is_lt is_gt lt gt =
          let x = has_least p a in
          let y = has_least q b in
          ap₂ both x.is y.is
          ∙ ap₂ (λ (s t : Bool). if s then x.first ∷ x.others else if t then y.first ∷ y.others
          else (x.first ∷ x.others) ++ (y.first ∷ y.others))
          (ap₂ nat_lt x.line y.line ∙ lt) (ap₂ nat_lt y.line x.line ∙ gt)
          ∙ ap₂ (λ (s t : List CodePlace). if is_lt then s else if is_gt then t else s ++ t) (sym x.is) (sym y.is)

      parts : (is_lt : Bool) → nat_lt m n ≡ is_lt → (is_gt : Bool) → nat_lt n m ≡ is_gt
          → of_line (min m n) (p ∷ a) ++ of_line (min m n) (q ∷ b) ≡ both (of_line m (p ∷ a)) (of_line n (q ∷ b))
      parts true lt is_gt gt =
          let same : min m n ≡ m = grind (arith, nat_tests, lt) in
          let below : m < n = grind (arith, nat_tests, lt) in
          ap (λ (k : ℕ). of_line k (p ∷ a) ++ of_line k (q ∷ b)) same
          ∙ ap (λ (l : List CodePlace). of_line m (p ∷ a) ++ l) (none_of_line m n below (q ∷ b) b_all)
          ∙ append-nil (of_line m (p ∷ a)) ∙ sym (of_both true is_gt lt gt)
      parts false lt true gt =
          let same : min m n ≡ n = grind (arith, nat_tests, gt) in
          let below : n < m = grind (arith, nat_tests, gt) in
          ap (λ (k : ℕ). of_line k (p ∷ a) ++ of_line k (q ∷ b)) same
          ∙ ap (λ (l : List CodePlace). l ++ of_line n (q ∷ b)) (none_of_line n m below (p ∷ a) a_all)
          ∙ sym (of_both false true lt gt)
      parts false lt false gt =
          let first : min m n ≡ m = grind (arith, nat_tests, lt, gt) in
          let second : min m n ≡ n = grind (arith, nat_tests, lt, gt) in
          ap₂ (λ (j k : ℕ). of_line j (p ∷ a) ++ of_line k (q ∷ b)) first second ∙ sym (of_both false false lt gt)

pub answering_both : (exact : Bool) (w : Wanted) (a b : List CodePlace)
    → answering exact w (a ++ b) ≡ both (answering exact w a) (answering exact w b)
answering_both exact w a b =
    ap least_of (filter_both (fits exact w) a b) ∙ least_both (filter (fits exact w) a) (filter (fits exact w) b)
