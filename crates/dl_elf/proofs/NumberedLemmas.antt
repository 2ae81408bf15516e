-- The first of some numbers that passes a test, and names in the name table byte by byte.
use Rattle.std.proofs.Common.{◌≡◌, ℕ, zero, suc, ◌+◌, ◌-◌, ◌^◌, ◌<◌, ◌≤◌, ◌&&◌, Bool, true, false, nat_lt, List, [], ◌∷◌}
use Rattle.std.proofs.Common.{◌++◌, length, take, drop, min, get_or, Option, Some, None, refl, sym, ap, ◌∙◌, arith}
use Rattle.std.proofs.Common.{inl, inr}
use Rattle.std.proofs.Common.{length-append, length-drop, length-take}
use Rattle.std.specs.Prelude.{slice_get, if◌then◌else◌, ◌↔◌, IfOk, Result, Ok, Err}
use Rattle.std.specs.Str.{bytes_eq}
use Rattle.std.proofs.lemmas.Bool.{cases_lt, lt-ltb}
use Rattle.std.proofs.lemmas.List.{take_more, take_all, get_or-take, get_or-drop}
use Rattle.std.proofs.Math.ListN.{get_or-append}
use Rattle.std.proofs.Math.Seq.{get_or-append_seam}
use Rattle.dl_num.proofs.LebFrontLemmas.{and_right, true_false}
use Rattle.std.proofs.lemmas.Option.{slice_get-get_or, slice_get_within, slice_get_past, get_or_from_slice_get}
use Rattle.std.proofs.lemmas.Slice.Eq.{bytes_eq-Decides}
use Rattle.dl_elf.specs.declared.file.Elf.{Elf}
use Rattle.dl_elf.specs.declared.section.SectionHeader.{SectionHeader}
use Rattle.dl_elf.specs.Numbered.{first_upto, has_name, or_else}

not_true : (b : Bool) → (b ≡ true → ⊥) → b ≡ false
not_true true refuted = absurd (refuted refl)
not_true false refuted = refl

-- what holds of an answer, where more is known of it
pub ok_map : {A E : Type 0} {P Q : A → Type 0} (r : Result A E) → ((a : A) → P a → Q a) → IfOk r P → IfOk r Q
ok_map (Ok a) more holds = more a holds
ok_map (Err e) more holds = tt

-- whether two tests pass, by what they came to
pub both_are : (a b x y r : Bool) → a ≡ x → b ≡ y → (a && b) ≡ r → (x && y) ≡ r
both_are a b x y r one two is = sym (ap (λ z. z && b) one ∙ ap (λ z. x && z) two) ∙ is

-- ---- the first number

-- it stays the first of more numbers
first_stays : (p : ℕ → Bool) (end n k : ℕ) → n ≤ end → first_upto p n ≡ Some k → first_upto p end ≡ Some k
first_stays p zero n k le is =
    let none : zero ≡ n = omega (arith, le) in
    ap (first_upto p) none ∙ is
first_stays p (suc end) n k le is = elim (cases_lt n (suc end)) [
  | inl less ↦ ap (λ o. or_else o (if p (suc end) then Some (suc end) else None))
      (first_stays p end n k (omega (arith, less)) is)
  | inr more ↦ (let same : suc end ≡ n = omega (arith, le, more) in ap (first_upto p) same ∙ is)
]

-- a number that passes after those that don't
pub first_is : (p : ℕ → Bool) (n count : ℕ) → 1 ≤ n → n < count
    → ◌≡◌ {A = Option ℕ} (first_upto p (n - 1)) None → p n ≡ true → first_upto p (count - 1) ≡ Some n
first_is p n count from less none passes =
    let back : suc (n - 1) ≡ n = omega (arith, from) in
    first_stays p (count - 1) (suc (n - 1)) n (omega (arith, from, less))
    (ap (λ o. or_else o (if p (suc (n - 1)) then Some (suc (n - 1)) else None)) none
    ∙ (ap (λ k. if p k then Some k else None) back ∙ rw passes refl))

-- one more that doesn't
pub none_more : (p : ℕ → Bool) (n : ℕ) → 1 ≤ n → ◌≡◌ {A = Option ℕ} (first_upto p (n - 1)) None → p n ≡ false
    → ◌≡◌ {A = Option ℕ} (first_upto p (n + 1 - 1)) None
none_more p n from none fails =
    let on : n + 1 - 1 ≡ suc (n - 1) = omega (arith, from) in
    let back : suc (n - 1) ≡ n = omega (arith, from) in
    ap (first_upto p) on
    ∙ (ap (λ o. or_else o (if p (suc (n - 1)) then Some (suc (n - 1)) else None)) none
    ∙ (ap (λ k. if p k then Some k else None) back ∙ rw fails refl))

-- ---- names

-- a list and a text that are the same so far, and in the next item
same_more : (xs t : List ℕ) (i : ℕ) → i < length t → take i xs ≡ take i t → slice_get xs i ≡ Some (get_or t i 0)
    → take (i + 1) xs ≡ take (i + 1) t
same_more xs t i less so_far is =
    take_more xs i 0 (slice_get_within xs i (get_or t i 0) is)
    ∙ (ap (λ l. l ++ get_or xs i 0 ∷ []) so_far
    ∙ (ap (λ b. take i t ++ b ∷ []) (get_or_from_slice_get xs i (get_or t i 0) 0 is) ∙ sym (take_more t i 0 less)))

-- an item of a list that begins with a text
item_of : (xs t : List ℕ) (i : ℕ) → take (length t) xs ≡ t → i < length t → slice_get xs i ≡ Some (get_or t i 0)
item_of xs t i is less =
    let long : i < length xs = omega (arith, less, length-take (length t) xs, ap length is) in
    slice_get-get_or xs i 0 long
    ∙ ap Some (sym (get_or-take (length t) xs i 0 less) ∙ ap (λ l. get_or l i 0) is)

-- the byte at a sum that stops at the largest number
byte_from : (f : List ℕ) (s i at : ℕ) → length f < 2 ^ 64 → at ≡ min (min s (2 ^ 64 - 1) + i) (2 ^ 64 - 1)
    → slice_get f at ≡ slice_get (drop s f) i
byte_from f s i at short told = elim (cases_lt (s + i) (length f)) [
  | inl less ↦ (let here : at ≡ s + i = omega (arith, told, less, short) in
      let inside : i < length (drop s f) = omega (arith, length-drop s f, less) in
      ap (slice_get f) here
      ∙ (slice_get-get_or f (s + i) 0 less
      ∙ (ap Some (sym (get_or-drop s f i 0)) ∙ sym (slice_get-get_or (drop s f) i 0 inside))))
  | inr past ↦ (let outside : length f ≤ at = omega (arith, told, past, short) in
      let after : length (drop s f) ≤ i = omega (arith, length-drop s f, past) in
      slice_get_past f at outside ∙ sym (slice_get_past (drop s f) i after))
]

abbrev zero_ended : List ℕ → List ℕ
zero_ended name = name ++ 0 ∷ []

ended_length : (name : List ℕ) → length (zero_ended name) ≡ length name + 1
ended_length name = length-append name (0 ∷ [])

byte_in : (name : List ℕ) (i : ℕ) → i < length name → get_or (zero_ended name) i 0 ≡ get_or name i 0
byte_in name i less = get_or-append name (0 ∷ []) 0 i less

-- one more byte of the name
pub name_more : (f name : List ℕ) (s i at : ℕ) → length f < 2 ^ 64
    → at ≡ min (min s (2 ^ 64 - 1) + i) (2 ^ 64 - 1) → i < length name
    → take i (drop s f) ≡ take i (name ++ 0 ∷ []) → slice_get f at ≡ Some (get_or name i 0)
    → take (i + 1) (drop s f) ≡ take (i + 1) (name ++ 0 ∷ [])
name_more f name s i at short told less so_far is =
    same_more (drop s f) (zero_ended name) i (omega (arith, ended_length name, less)) so_far
    (sym (byte_from f s i at short told) ∙ (is ∙ ap Some (sym (byte_in name i less))))

begins : (e : Elf) (f name : List ℕ) (s : SectionHeader) → has_name e f name s ≡ true
    → take (length (zero_ended name)) (drop (e.names.offset + s.name_offset) f) ≡ zero_ended name
begins e f name s is =
    let at = e.names.offset + s.name_offset in
    let same =
    (bytes_eq-Decides (take (length name + 1) (drop at f)) (zero_ended name)).0
    (and_right (nat_lt (s.name_offset + length name) e.names.size)
    (bytes_eq (take (length name + 1) (drop at f)) (zero_ended name)) is) in
    ap (λ n. take n (drop at f)) (ended_length name) ∙ same

-- a byte that isn't that of the name
pub name_differs : (e : Elf) (f name : List ℕ) (s : SectionHeader) (i at : ℕ) → length f < 2 ^ 64
    → at ≡ min (min (e.names.offset + s.name_offset) (2 ^ 64 - 1) + i) (2 ^ 64 - 1) → i < length name
    → (slice_get f at ≡ Some (get_or name i 0) → ⊥) → has_name e f name s ≡ false
name_differs e f name s i at short told less differs = not_true (has_name e f name s) (λ is.
    let p = e.names.offset + s.name_offset in
    differs (byte_from f p i at short told
    ∙ (item_of (drop p f) (zero_ended name) i (begins e f name s is) (omega (arith, ended_length name, less))
    ∙ ap Some (byte_in name i less))))

-- all bytes of the name, and whether a zero byte follows
pub name_ends : (e : Elf) (f name : List ℕ) (s : SectionHeader) (at : ℕ) (zero_follows : Bool) → length f < 2 ^ 64
    → s.name_offset + length name < e.names.size
    → at ≡ min (min (e.names.offset + s.name_offset) (2 ^ 64 - 1) + length name) (2 ^ 64 - 1)
    → take (length name) (drop (e.names.offset + s.name_offset) f) ≡ take (length name) (name ++ 0 ∷ [])
    → zero_follows ≡ true ↔ (slice_get f at ≡ Some 0) → zero_follows ≡ has_name e f name s
name_ends e f name s at true short fits told so_far follows =
    let p = e.names.offset + s.name_offset in
    let last : get_or (zero_ended name) (length name) 0 ≡ 0 = get_or-append_seam name 0 [] 0 in
    let all : take (length name + 1) (drop p f) ≡ take (length name + 1) (zero_ended name) =
    same_more (drop p f) (zero_ended name) (length name) (omega (arith, ended_length name)) so_far
    (sym (byte_from f p (length name) at short told) ∙ (follows.0 refl ∙ ap Some (sym last))) in
    let whole : take (length name + 1) (drop p f) ≡ zero_ended name =
    all ∙ take_all (length name + 1) (zero_ended name) (omega (arith, ended_length name)) in
    let same = (bytes_eq-Decides (take (length name + 1) (drop p f)) (zero_ended name)).1 whole in
    rw (lt-ltb (s.name_offset + length name) e.names.size fits, same) refl
name_ends e f name s at false short fits told so_far follows = sym (not_true (has_name e f name s) (λ is.
    let p = e.names.offset + s.name_offset in
    let last : get_or (zero_ended name) (length name) 0 ≡ 0 = get_or-append_seam name 0 [] 0 in
    let here : slice_get f at ≡ Some 0 =
    byte_from f p (length name) at short told
    ∙ (item_of (drop p f) (zero_ended name) (length name) (begins e f name s is) (omega (arith, ended_length name))
    ∙ ap Some last) in
    absurd (true_false (follows.1 here) refl)))
