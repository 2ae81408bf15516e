-- Words that ask for a line.
use Rattle.std.proofs.Common.{◌≡◌, ◌≢◌, ◌⊎◌, inl, inr, ℕ, zero, suc, ◌+◌, ◌-◌, ◌*◌, ◌<◌, ◌≤◌, ◌^◌, Bool, true, false, List, [], ◌∷◌, ◌++◌, length, take, drop, get_or}
use Rattle.std.proofs.Common.{refl, sym, ap, ap₂, ◌∙◌, arith, length-append, length-drop, true≢false, Option, Some, None}
use Rattle.std.specs.Prelude.{IfNone}
use Rattle.std.specs.Prelude.{◌&&◌}
use Rattle.std.specs.List.{list_all}
use Rattle.std.proofs.lemmas.List.{length-take-le, take_more, take_all, take-append-drop}
use Rattle.std.proofs.lemmas.List.Folds.{list_all-append}
use Rattle.dl_lines.specs.Words.{AsksFor, is_digit, number_after}
use Rattle.dl_lines.proofs.EachLemmas.{below_or_not}

-- digits one after the other
number_both : (n : ℕ) (a b : List ℕ) → number_after n (a ++ b) ≡ number_after (number_after n a) b
number_both n [] b = refl
number_both n (d ∷ a) b = number_both (10 * n + (d - 0x30)) a b

-- a number doesn't fall with digits behind it
number_rises : (n : ℕ) (digits : List ℕ) → n ≤ number_after n digits
number_rises n [] = omega arith
number_rises n (d ∷ digits) = omega (arith, number_rises (10 * n + (d - 0x30)) digits)

pub one_digit : (digits : List ℕ) (at n m : ℕ) → at < length digits → list_all is_digit (take at digits) ≡ true
    → n ≡ number_after 0 (take at digits) → is_digit (get_or digits at 0) ≡ true
    → m ≡ 10 * n + (get_or digits at 0 - 0x30)
    → (list_all is_digit (take (at + 1) digits) ≡ true) × (m ≡ number_after 0 (take (at + 1) digits))
one_digit digits at n m lt all is digit now = (
  ap (list_all is_digit) (take_more digits at 0 lt) ∙ list_all-append is_digit (take at digits) (get_or digits at 0 ∷ [])
      ∙ ap₂ (λ (a b : Bool). a && (b && true)) all digit,
  now ∙ ap (λ (k : ℕ). 10 * k + (get_or digits at 0 - 0x30)) is
      ∙ sym (ap (number_after 0) (take_more digits at 0 lt) ∙ number_both 0 (take at digits) (get_or digits at 0 ∷ [])),
)

-- no number is said
pub no_digit : (digits : List ℕ) (at n : ℕ) → at < length digits → n ≡ number_after 0 (take at digits)
    → (is_digit (get_or digits at 0) ≡ false) ⊎ (2 ^ 64 ≤ 10 * n + (get_or digits at 0 - 0x30))
    → (list_all is_digit digits ≡ false) ⊎ (2 ^ 64 ≤ number_after 0 digits)
no_digit digits at n lt is (inl other) = inl (
    ap (list_all is_digit) (sym (take-append-drop (at + 1) digits))
    ∙ list_all-append is_digit (take (at + 1) digits) (drop (at + 1) digits)
    ∙ ap (λ (b : Bool). b && list_all is_digit (drop (at + 1) digits))
    (ap (list_all is_digit) (take_more digits at 0 lt) ∙ list_all-append is_digit (take at digits) (get_or digits at 0 ∷ [])
    ∙ ap (λ (b : Bool). list_all is_digit (take at digits) && (b && true)) other ∙ and_false (list_all is_digit (take at digits)))) where
      and_false : (b : Bool) → (b && false) ≡ false
      and_false true = refl
      and_false false = refl
no_digit digits at n lt is (inr large) = inr (
    let here = ap (number_after 0) (take_more digits at 0 lt) ∙ number_both 0 (take at digits) (get_or digits at 0 ∷ [])
    ∙ ap (λ (k : ℕ). 10 * k + (get_or digits at 0 - 0x30)) (sym is) in
    let all = ap (number_after 0) (sym (take-append-drop (at + 1) digits))
    ∙ number_both 0 (take (at + 1) digits) (drop (at + 1) digits) in
    omega (arith, large, here, all, number_rises (number_after 0 (take (at + 1) digits)) (drop (at + 1) digits)))

-- a digit is no colon
no_colon : (digits : List ℕ) (k : ℕ) → list_all is_digit digits ≡ true → k < length digits → get_or digits k 0 ≢ 0x3a
no_colon [] k all lt = absurd (omega (arith, lt))
no_colon (d ∷ digits) zero all lt = λ e. other e all where
  other : d ≡ 0x3a → (is_digit d && list_all is_digit digits) ≡ true → ⊥
  other e all = true≢false (sym all ∙ ap (λ (b : ℕ). is_digit b && list_all is_digit digits) e)
no_colon (d ∷ digits) (suc k) all lt = no_colon digits k (rest (is_digit d) all) (omega (arith, lt)) where
  rest : (b : Bool) → (b && list_all is_digit digits) ≡ true → list_all is_digit digits ≡ true
  rest true e = e
  rest false e = absurd (true≢false (sym e))

at_colon : (path digits : List ℕ) → get_or (path ++ 0x3a ∷ digits) (length path) 0 ≡ 0x3a
at_colon [] digits = refl
at_colon (b ∷ path) digits = at_colon path digits

past_colon : (path digits : List ℕ) (k : ℕ) → length path < k
    → get_or (path ++ 0x3a ∷ digits) k 0 ≡ get_or digits (k - length path - 1) 0
past_colon [] digits zero lt = absurd (omega (arith, lt))
past_colon [] digits (suc k) lt = ap (λ (n : ℕ). get_or digits n 0) (omega arith)
past_colon (b ∷ path) digits zero lt = absurd (omega (arith, lt))
past_colon (b ∷ path) digits (suc k) lt =
    past_colon path digits k (omega (arith, lt)) ∙ ap (λ (n : ℕ). get_or digits n 0) (omega arith)

-- the last colon stands after the path
pub colon_is : (word path : List ℕ) (line i : ℕ) → AsksFor word path line → i < length word → get_or word i 0 ≡ 0x3a
    → ((k : ℕ) → i < k → k < length word → get_or word k 0 ≢ 0x3a) → i ≡ length path
colon_is word path line i asks within colon last = by (below_or_not i (length path)) (below_or_not (length path) i) where
  long : length word ≡ length path + (length asks.digits + 1)
  long = ap length asks.whole ∙ length-append path (0x3a ∷ asks.digits) ∙ (omega arith)

  by : (i < length path) ⊎ (length path ≤ i) → (length path < i) ⊎ (i ≤ length path) → i ≡ length path
  by (inl lt) other =
      absurd (last (length path) lt (omega (arith, long))
      (ap (λ (l : List ℕ). get_or l (length path) 0) asks.whole ∙ at_colon path asks.digits))
  by (inr le) (inl above) =
      absurd (no_colon asks.digits (i - length path - 1) asks.decimal (omega (arith, above, within, long))
      (sym (past_colon path asks.digits i above) ∙ ap (λ (l : List ℕ). get_or l i 0) (sym asks.whole) ∙ colon))
  by (inr le) (inr under) = omega (arith, le, under)

drop_front : (path : List ℕ) (b : ℕ) (rest : List ℕ) → drop (suc (length path)) (path ++ b ∷ rest) ≡ rest
drop_front [] b rest = refl
drop_front (x ∷ path) b rest = drop_front path b rest

-- what stands after it
pub digits_are : (word path : List ℕ) (line i : ℕ) (asks : AsksFor word path line) → i ≡ length path
    → drop (i + 1) word ≡ asks.digits
digits_are word path line i asks is =
    let n : i + 1 ≡ suc (length path) = omega (arith, is) in
    ap₂ (λ (n : ℕ) (l : List ℕ). drop n l) n asks.whole ∙ drop_front path 0x3a asks.digits

-- there is a colon
pub has_colon : (word path : List ℕ) (line : ℕ) → AsksFor word path line
    → ((k : ℕ) → k < length word → get_or word k 0 ≢ 0x3a) → ⊥
has_colon word path line asks none =
    none (length path) (omega (arith, ap length asks.whole, length-append path (0x3a ∷ asks.digits)))
    (ap (λ (l : List ℕ). get_or l (length path) 0) asks.whole ∙ at_colon path asks.digits)

pub cut_at : (word : List ℕ) (i : ℕ) → i < length word → get_or word i 0 ≡ 0x3a
    → word ≡ take i word ++ 0x3a ∷ drop (suc i) word
cut_at [] i lt is = absurd (omega (arith, lt))
cut_at (b ∷ word) zero lt is = ap (λ (x : ℕ). x ∷ word) is
cut_at (b ∷ word) (suc i) lt is = ap (λ (l : List ℕ). b ∷ l) (cut_at word i (omega (arith, lt)) is)

-- all that is left
pub rest_is : (word : List ℕ) (n : ℕ) → take (length word - n) (drop n word) ≡ drop n word
rest_is word n = take_all (length word - n) (drop n word) (omega (arith, length-drop n word))

pub on_none : {A P : Type 0} (o : Option A) → P → IfNone o P
on_none None p = p
on_none (Some a) p = tt

pub no_path : (word path : List ℕ) (line i : ℕ) (asks : AsksFor word path line) → i ≡ length path → i ≡ 0 → ⊥
no_path word path line i asks is none = by path asks.named (sym is ∙ none) where
  by : (path : List ℕ) → path ≢ [] → length path ≡ 0 → ⊥
  by [] named e = named refl
  by (b ∷ path) named e = omega (arith, e)

pub no_line : (word path : List ℕ) (line : ℕ) (asks : AsksFor word path line) (digits : List ℕ) → digits ≡ asks.digits
    → line < 2 ^ 64
    → (digits ≡ []) ⊎ ((list_all is_digit digits ≡ false) ⊎ (2 ^ 64 ≤ number_after 0 digits)) → ⊥
no_line word path line asks digits is small (inl none) = asks.some (sym is ∙ none)
no_line word path line asks digits is small (inr (inl other)) =
    true≢false (sym asks.decimal ∙ ap (list_all is_digit) (sym is) ∙ other)
no_line word path line asks digits is small (inr (inr large)) =
    omega (arith, small, large, asks.number, ap (number_after 0) is)

pub asked : (word : List ℕ) (i line : ℕ) → i < length word → get_or word i 0 ≡ 0x3a → i ≢ 0
    → take (length word - (i + 1)) (drop (i + 1) word) ≢ []
    → list_all is_digit (take (length word - (i + 1)) (drop (i + 1) word)) ≡ true
    → line ≡ number_after 0 (take (length word - (i + 1)) (drop (i + 1) word))
    → AsksFor word (take i word) line
asked word i line lt colon named some all number = record {
  digits = drop (i + 1) word;
  whole = cut_at word i lt colon
      ∙ ap (λ (n : ℕ). take i word ++ 0x3a ∷ drop n word) one;
  named = λ e. named (omega (arith, ap length e, length-take-le i word (omega (arith, lt))));
  some = λ e. some (rest_is word (i + 1) ∙ e);
  decimal = ap (list_all is_digit) (sym (rest_is word (i + 1))) ∙ all;
  number = number ∙ ap (number_after 0) (rest_is word (i + 1));
} where
  one : suc i ≡ i + 1
  one = omega arith
