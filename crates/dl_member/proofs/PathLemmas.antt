-- Paths of members, and folders.
use Rattle.std.proofs.Common.{◌≡◌, ◌≢◌, ◌<◌, ◌≤◌, ◌-◌, ◌+◌, ◌++◌, ◌∷◌, ◌∙◌, [], ℕ, suc, List, length, take, drop, arith, ap, sym, subst, refl}
use Rattle.std.proofs.Common.{append_assoc, ◌⊎◌, inl, inr, length-append, get_or, take-append-drop, MatchOption, MatchResult, Result, Ok, Err, Some, None}
use Rattle.std.proofs.Math.Seq.{get_or-append_right, get_or-append_seam, take-append_seam, take-suc}
use Rattle.std.proofs.lemmas.Bool.{ne_eqb}
use Rattle.std.proofs.lemmas.List.Sums.{suffix_len_is}
use Rattle.std.proofs.lemmas.Str.Pattern.{NoCharPasses-char, drop_at_char, rfind_char}
use Rattle.std.specs.Prelude.{not, ◌==◌}
use Rattle.std.specs.Str.Pattern.{MatchBeginsAt, RFindsChar}
use Rattle.dl_member.specs.Paths.{IsMemberPath, folder, member_path}
use Rattle.dl_member.specs.Parts.{IsAroundLast}

-- ---- around the last parenthesis that opens

-- the rest of a list behind its first element
tail_same : (c : ℕ) (a b : List ℕ) → c ∷ a ≡ c ∷ b → a ≡ b
tail_same c a b e = ap (drop 1) e

pub around_last : (text front rest back : List ℕ) (at : ℕ) → MatchBeginsAt (RFindsChar 40) text at → front ≡ take at text
    → rest ≡ drop at text → rest ≡ 40 ∷ back → IsAroundLast text front back
around_last text front rest back at h is_front is_rest is_back =
    let d = drop_at_char 40 text at h.0 h.1.1 (omega arith) in
    let same : drop h.0 text ≡ back = tail_same 40 (drop h.0 text) back (sym d ∙ (sym is_rest ∙ is_back)) in
    record {
      whole = sym (take-append-drop at text) ∙ (ap (λ x. x ++ drop at text) (sym is_front) ∙ ap (λ x. front ++ x) (sym is_rest ∙ is_back));
      last = λ i within. subst (λ x. get_or x i 0 ≢ 40) same
          (NoCharPasses-char 40 (drop h.0 text) i h.1.0 (omega arith) (omega (arith, within, ap length same)));
    }

-- what stands before one that is behind another: the other isn't the last
not_before : (a b x y : List ℕ) → a ++ 40 ∷ b ≡ x ++ 40 ∷ y → ((i : ℕ) → i < length y → get_or y i 0 ≢ 40) → length x < length a → ⊥
not_before a b x y e last less =
    let here : get_or (a ++ 40 ∷ b) (length a) 0 ≡ 40 = get_or-append_seam a 40 b 0 in
    let there : get_or (x ++ 40 ∷ y) (length a) 0 ≡ get_or (40 ∷ y) (length a - length x) 0 =
    get_or-append_right x (40 ∷ y) (length a) 0 (omega (arith, less)) in
    let on : length a - length x ≡ suc (length a - length x - 1) = omega (arith, less) in
    let behind : get_or (40 ∷ y) (length a - length x) 0 ≡ get_or y (length a - length x - 1) 0 = ap (λ k. get_or (40 ∷ y) k 0) on in
    last (length a - length x - 1)
    (omega (arith, ap length e, length-append a (40 ∷ b), length-append x (40 ∷ y), less))
    (sym (there ∙ behind) ∙ (ap (λ l. get_or l (length a) 0) (sym e) ∙ here))

-- a text has one such front
pub same_front : (text a b x y : List ℕ) → IsAroundLast text a b → IsAroundLast text x y → length a ≡ length x
same_front text a b x y one other =
    let e = sym one.whole ∙ other.whole in
    omega (arith, not_before a b x y e other.last, not_before x y a b (sym e) one.last)

-- ---- paths

-- the path without what closes it
opened : (archive name : List ℕ) → member_path archive name ≡ (archive ++ 40 ∷ name) ++ 41 ∷ []
opened archive name = sym (append_assoc archive (40 ∷ name) (41 ∷ []))

pub not_closed : (path archive name : List ℕ) → ((front : List ℕ) → path ≢ front ++ 41 ∷ []) → IsMemberPath path archive name → ⊥
not_closed path archive name none is = none (archive ++ 40 ∷ name) (is.whole ∙ opened archive name)

-- lists are the same in front of the same element
front_same : (a b : List ℕ) (c : ℕ) → a ++ c ∷ [] ≡ b ++ c ∷ [] → a ≡ b
front_same a b c e =
    let lens : length a ≡ length b = omega (arith, ap length e, length-append a (c ∷ []), length-append b (c ∷ [])) in
    sym (take-append_seam a (c ∷ [])) ∙ (ap (take (length a)) e ∙ (ap (λ n. take n (b ++ c ∷ [])) lens ∙ take-append_seam b (c ∷ [])))

-- what closes the path being taken away, the parts stand around the parenthesis
pub parts_around : (path text archive name : List ℕ) → path ≡ text ++ 41 ∷ [] → IsMemberPath path archive name
    → IsAroundLast text archive name
parts_around path text archive name closed is = record {
  whole = front_same text (archive ++ 40 ∷ name) 41 (sym closed ∙ (is.whole ∙ opened archive name));
  last = is.opens_before;
}

pub not_opened : (path text archive name : List ℕ) → path ≡ text ++ 41 ∷ [] → ((i : ℕ) → i < length text → get_or text i 0 ≢ 40)
    → IsMemberPath path archive name → ⊥
not_opened path text archive name closed none is =
    let around = parts_around path text archive name closed is in
    none (length archive) (omega (arith, ap length around.whole, length-append archive (40 ∷ name)))
    (ap (λ l. get_or l (length archive) 0) around.whole ∙ get_or-append_seam archive 40 name 0)

-- one of the parts is empty
pub not_both : (path text a b archive name : List ℕ) → path ≡ text ++ 41 ∷ [] → IsAroundLast text a b
    → ((0 < length a) × (length b ≤ 0)) ⊎ (length a ≤ 0) → IsMemberPath path archive name → ⊥
not_both path text a b archive name closed one (inr none) is =
    let around = parts_around path text archive name closed is in
    omega (arith, same_front text a b archive name one around, is.has_archive, none)
not_both path text a b archive name closed one (inl none) is =
    let around = parts_around path text archive name closed is in
    omega (
      arith,
      same_front text a b archive name one around,
      is.has_name,
      none.1,
      ap length one.whole,
      ap length around.whole,
      length-append a (40 ∷ b),
      length-append archive (40 ∷ name),
    )

pub is_path : (path text archive name : List ℕ) → path ≡ text ++ 41 ∷ [] → IsAroundLast text archive name → 0 < length archive
    → 0 < length name → IsMemberPath path archive name
is_path path text archive name closed one some other = record {
  whole = closed ∙ (ap (λ t. t ++ 41 ∷ []) one.whole ∙ sym (opened archive name));
  has_archive = some;
  has_name = other;
  opens_before = one.last;
}

-- ---- folders

-- the front of n bytes, behind which there is no slash, and which ends with one unless it is empty
folder_is : (path : List ℕ) (n : ℕ) → n ≤ length path → ((k : ℕ) → n ≤ k → k < length path → get_or path k 0 ≢ 47)
    → (0 < n → get_or path (n - 1) 0 ≡ 47) → folder path ≡ take n path
folder_is path n within behind ends =
    let len = suffix_len_is (λ c. not (c == 47)) path n 0 within (λ k from to. rw (ne_eqb (get_or path k 0) 47 (behind k from to)) refl)
    (λ some. rw (ends some) refl) in
    rw len (ap (λ k. take k path) (omega (arith, within)))

pub no_folder : (path : List ℕ) → MatchOption None (RFindsChar 47 path None) (MatchBeginsAt (RFindsChar 47) path) → folder path ≡ []
no_folder path none =
    let nowhere = rfind_char 47 path None none (omega arith) in
    folder_is path 0 (omega arith) (λ k from to. nowhere k to) (λ some. absurd (omega (arith, some)))

pub folder_at : (path front : List ℕ) (at : ℕ) → MatchBeginsAt (RFindsChar 47) path at → front ≡ take at path
    → folder path ≡ front ++ 47 ∷ []
folder_at path front at here is =
    let there = rfind_char 47 path (Some at) here (omega arith) in
    folder_is path (suc at) (omega (arith, there.0)) (λ k from to. there.2 k (omega (arith, from)) to) (λ some. subst (λ k. get_or path k 0 ≡ 47) (omega arith) there.1)
    ∙ (take-suc path at 0 there.0 ∙ (ap (λ c. take at path ++ c ∷ []) there.1 ∙ ap (λ l. l ++ 47 ∷ []) (sym is)))

-- one text put behind another
pub both_put : {A E : Type 0} (before front back mid now whole : List ℕ) (r : Result A E) → mid ≡ before ++ front
    → whole ≡ front ++ back → MatchResult r (λ x. now ≡ mid ++ back) (λ x. 8194 < length mid + length back)
    → MatchResult r (λ x. now ≡ before ++ whole) (λ x. 8194 < length before + length whole)
both_put before front back mid now whole (Ok x) is all put =
    put ∙ (ap (λ l. l ++ back) is ∙ (append_assoc before front back ∙ ap (λ l. before ++ l) (sym all)))
both_put before front back mid now whole (Err x) is all put =
    omega (arith, put, ap length is, ap length all, length-append before front, length-append front back)
