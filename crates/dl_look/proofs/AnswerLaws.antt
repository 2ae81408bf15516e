-- What holds of each answer.
use Rattle.std.proofs.Common.{◌≡◌, Bool, true, false, List, [], ◌∷◌, ◌++◌, reverse, Some, None, refl, sym, ap, subst}
use Rattle.std.proofs.Common.{◌∙◌, append_assoc}
use Rattle.std.specs.Prelude.{if◌then◌else◌}
use Rattle.std.specs.List.{find}
use Rattle.std.specs.Option.{option_and_then}
use Rattle.std.proofs.lemmas.List.{reverse-append}
use Rattle.std.proofs.lemmas.Bool.{and_parts}
use Rattle.dl_rows.specs.declared.row.Row.{Row}
use Rattle.dl_look.specs.declared.place.Place.{Place}
use Rattle.dl_look.specs.Answer.{place_of, is_below, is_at_most, is_rising, first_place, last_place, covers}
use Rattle.dl_look.specs.Answer.{sequences_after, sequences, last_upto, answer}
use Rattle.dl_look.specs.FinderRows.{unended}
use Rattle.dl_look.specs.Laws.{AnswersAreRows, AnswersAreUpto, AnswersAreNoEndRows}
use Rattle.dl_look.proofs.PlaceOrder.{above-below}
use Rattle.dl_look.proofs.MoreRows.{last_place-push, answers_for}
use Rattle.dl_look.proofs.SpanLemmas.{joined, joined-sequences}

-- all elements are of the kind
abbrev pub Every : {A : Type 0} → (A → Type 0) → List A → Type 0
Every P [] = Unit {0}
Every P (x ∷ xs) = P x × Every P xs

pub Every-append : {A : Type 0} (P : A → Type 0) (xs ys : List A) → Every P xs → Every P ys → Every P (xs ++ ys)
Every-append P [] ys a b = b
Every-append P (x ∷ xs) ys a b = (a.0, Every-append P xs ys a.1 b)

Every-left : {A : Type 0} (P : A → Type 0) (xs ys : List A) → Every P (xs ++ ys) → Every P xs
Every-left P [] ys a = tt
Every-left P (x ∷ xs) ys a = (a.0, Every-left P xs ys a.1)

Every-right : {A : Type 0} (P : A → Type 0) (xs ys : List A) → Every P (xs ++ ys) → Every P ys
Every-right P [] ys a = a
Every-right P (x ∷ xs) ys a = Every-right P xs ys a.1

Every-reverse : {A : Type 0} (P : A → Type 0) (xs : List A) → Every P xs → Every P (reverse xs)
Every-reverse P [] a = tt
Every-reverse P (x ∷ xs) a =
    subst (Every P) (sym (reverse-append (x ∷ []) xs)) (Every-append P (reverse xs) (x ∷ []) (Every-reverse P xs a.1)
    (a.0, tt))

Every-both : {A : Type 0} (P Q R : A → Type 0) (xs : List A) → ((x : A) → P x → Q x → R x) → Every P xs → Every Q xs
    → Every R xs
Every-both P Q R [] f a b = tt
Every-both P Q R (x ∷ xs) f a b = (f x a.0 b.0, Every-both P Q R xs f a.1 b.1)

-- what is found is one of the elements, and passes the test
find-Some : {A : Type 0} (P : A → Type 0) (test : A → Bool) (xs : List A) (y : A) → Every P xs → find test xs ≡ Some y
    → P y × (test y ≡ true)
find-Some P test [] y a e = cc
find-Some P test (x ∷ xs) y a e =
    elim (test x) as (λ b. test x ≡ b → (if b then Some x else find test xs) ≡ Some y → P y × (test y ≡ true)) [
      | true ↦ λ t same. (let is : x ≡ y = cc in (subst P is a.0, ap test (sym is) ∙ t))
      | false ↦ λ t later. find-Some P test xs y a.1 later
    ] refl e

-- the answer's sequence, which the answer is found in
answer-Some : (P : List Row → Type 0) (rows : List Row) (x : Place) (r : Row) → Every P (sequences rows)
    → answer rows x ≡ Some r → (s : List Row) × P s × (answers_for x s ≡ true) × (last_upto x s ≡ Some r)
answer-Some P rows x r all e =
    elim (find (answers_for x) (sequences rows)) as (λ o. find (answers_for x) (sequences rows) ≡ o
    → option_and_then (last_upto x) o ≡ Some r → (s : List Row) × P s × (answers_for x s ≡ true)
    × (last_upto x s ≡ Some r)) [
      | None ↦ λ f n. cc
      | Some s ↦ λ f found. (let g = find-Some P (answers_for x) (sequences rows) s all f in (s, g.0, g.1, found))
    ] refl e

nothing : {A : Type 0} (xs : List A) → Every (λ _. Unit {0}) xs
nothing [] = tt
nothing (x ∷ xs) = (tt, nothing xs)

pub upto : AnswersAreUpto
upto rows x r e =
    let a = answer-Some (λ _. Unit {0}) rows x r (nothing (sequences rows)) e in
    (find-Some (λ _. Unit {0}) (λ q. is_at_most (place_of q) x) (reverse a.0) r (nothing (reverse a.0)) a.3).1

-- ---- no end row

abbrev pub NoEnd : Row → Type 0
NoEnd r = r.end_sequence ≡ false

-- rows that don't end a sequence, and one after them that does
pub record IsSequence (s : List Row) : Type 0 where
  pub inner : List Row
  pub last : Row
  pub is : s ≡ inner ++ last ∷ []
  pub no_end : Every NoEnd inner
  pub ends : last.end_sequence ≡ true

pub sequences-are : (begun rows : List Row) → Every NoEnd begun → Every IsSequence (sequences_after begun rows)
sequences-are begun [] a = tt
sequences-are begun (r ∷ rows) a =
    elim r.end_sequence as (λ b. r.end_sequence ≡ b
    → Every IsSequence (if b then (begun ++ r ∷ []) ∷ sequences_after [] rows
    else sequences_after (begun ++ r ∷ []) rows)) [
      | true ↦ λ e. (record { inner = begun; last = r; is = refl; no_end = a; ends = e }, sequences-are [] rows tt)
      | false ↦ λ e. sequences-are (begun ++ r ∷ []) rows (Every-append NoEnd begun (r ∷ []) a (e, tt))
    ] refl

-- an end row is above x
abbrev EndAbove : Place → Row → Type 0
EndAbove x r = is_at_most (place_of r) x ≡ true → r.end_sequence ≡ false

ends_above : (x : Place) (s : List Row) → IsSequence s → covers x s ≡ true → Every (EndAbove x) s
ends_above x s q h =
    let ends = (and_parts (is_at_most (first_place s) x) (is_below x (last_place s)) h).1 in
    let last = ap last_place q.is ∙ last_place-push q.inner q.last in
    let above = above-below x (place_of q.last) (sym (ap (is_below x) last) ∙ ends) in
    let before = Every-both NoEnd NoEnd (EndAbove x) q.inner (λ r n _ _. n) q.no_end q.no_end in
    subst (Every (EndAbove x)) (sym q.is) (Every-append (EndAbove x) q.inner (q.last ∷ []) before ((λ t. cc), tt))

pub no_end_row : AnswersAreNoEndRows
no_end_row rows x r e =
    let a = answer-Some IsSequence rows x r (sequences-are [] rows tt) e in
    let covering = (and_parts (is_rising a.0) (covers x a.0) a.2).1 in
    let found =
    find-Some (EndAbove x) (λ q. is_at_most (place_of q) x) (reverse a.0) r
    (Every-reverse (EndAbove x) a.0 (ends_above x a.0 a.1 covering)) a.3 in
    found.0 found.1

-- ---- one of the rows

abbrev IsAmong : List Row → Row → Type 0
IsAmong rows r = (front back : List Row) × (rows ≡ front ++ r ∷ back)

each_among : (front rows : List Row) → Every (IsAmong (front ++ rows)) rows
each_among front [] = tt
each_among front (r ∷ rows) = (
  (front, rows, refl),
  subst (λ l. Every (IsAmong l) rows) (append_assoc front (r ∷ []) rows) (each_among (front ++ r ∷ []) rows),
)

each_part : (P : Row → Type 0) (ss : List (List Row)) → Every P (joined ss) → Every (Every P) ss
each_part P [] a = tt
each_part P (s ∷ ss) a = (Every-left P s (joined ss) a, each_part P ss (Every-right P s (joined ss) a))

pub one_of_the_rows : AnswersAreRows
one_of_the_rows rows x r e =
    let all = subst (Every (IsAmong rows)) (sym (joined-sequences [] rows)) (each_among [] rows) in
    let parts =
    each_part (IsAmong rows) (sequences rows)
    (Every-left (IsAmong rows) (joined (sequences rows)) (unended rows) all) in
    let a = answer-Some (Every (IsAmong rows)) rows x r parts e in
    (find-Some (IsAmong rows) (λ q. is_at_most (place_of q) x) (reverse a.0) r (Every-reverse (IsAmong rows) a.0 a.1)
    a.3).0
