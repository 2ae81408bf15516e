-- The texts of paths, character by character.
use Rattle.std.proofs.Common.{◌≡◌, ℕ, zero, suc, ◌-◌, ◌<◌, ◌≤◌, Bool, true, false, List, [], ◌∷◌, ◌++◌, length, take}
use Rattle.std.proofs.Common.{drop, get_or, refl, sym, ap, ap₂, ◌∙◌, arith, append_assoc}
use Rattle.std.specs.Prelude.{if◌then◌else◌, ◌==◌}
use Rattle.std.specs.Str.{is_utf8}
use Rattle.std.proofs.lemmas.Bool.{false_from_ne_true, true≢false}
use Rattle.std.proofs.lemmas.Str.{IsUtf8-from_is_utf8, is_utf8-from_IsUtf8}
use Rattle.dl_path.proofs.LossyLemmas.{ascii_text, before_slash}
use Rattle.dl_path.specs.Shown.{character_len, shown, shown_after, shown_first}

-- the first that holds, of four
abbrev pub first_of : (a b c d : Bool) → ℕ
first_of a b c d = if a then 1 else if b then 2 else if c then 3 else if d then 4 else 0

one : (a : Bool) → first_of a a a a ≤ 1
one true = omega arith
one false = omega arith

two : (a b : Bool) → first_of a b b b ≤ 2
two true b = omega arith
two false true = omega arith
two false false = omega arith

three : (a b c : Bool) → first_of a b c c ≤ 3
three true b c = omega arith
three false true c = omega arith
three false false true = omega arith
three false false false = omega arith

four : (a b c d : Bool) → first_of a b c d ≤ 4
four true b c d = omega arith
four false true c d = omega arith
four false false true d = omega arith
four false false false true = omega arith
four false false false false = omega arith

-- a character lies within its text
pub character_within : (text : List ℕ) → 0 < length text → character_len text ≤ length text
character_within [] lt = absurd (omega arith)
character_within (x ∷ []) lt = one (is_utf8 (x ∷ []))
character_within (x ∷ y ∷ []) lt = two (is_utf8 (x ∷ [])) (is_utf8 (x ∷ y ∷ []))
character_within (x ∷ y ∷ z ∷ []) lt = three (is_utf8 (x ∷ [])) (is_utf8 (x ∷ y ∷ [])) (is_utf8 (x ∷ y ∷ z ∷ []))
character_within (x ∷ y ∷ z ∷ w ∷ text) lt =
    let le = four (is_utf8 (x ∷ [])) (is_utf8 (x ∷ y ∷ [])) (is_utf8 (x ∷ y ∷ z ∷ [])) (is_utf8 (x ∷ y ∷ z ∷ w ∷ [])) in
    omega (arith, le)

-- what is left of a character stands for itself
pub shown_left : (left : ℕ) (path : List ℕ) → left ≤ length path
    → shown_after left path ≡ take left path ++ shown_after 0 (drop left path)
shown_left zero path le = refl
shown_left (suc left) [] le = absurd (omega arith)
shown_left (suc left) (b ∷ path) le = ap (λ (l : List ℕ). b ∷ l) (shown_left left path (omega arith))

-- a character of some bytes stands for itself
pub character_shown : (path : List ℕ) (len : ℕ) → len ≡ character_len path → 1 < len → 0 < length path
    → shown path ≡ take len path ++ shown (drop len path)
character_shown [] len is more some = absurd (omega arith)
character_shown (b ∷ path) zero is more some = absurd (omega arith)
character_shown (b ∷ path) (suc zero) is more some = absurd (omega arith)
character_shown (b ∷ path) (suc (suc k)) is more some =
    let within = character_within (b ∷ path) some in
    let left : suc (suc k) - 1 ≡ suc k = omega arith in
    ap (λ (n : ℕ). shown_first n b ++ shown_after (n - 1) path) (sym is)
    ∙ ap (λ (n : ℕ). b ∷ shown_after n path) left
    ∙ ap (λ (l : List ℕ). b ∷ l) (shown_left (suc k) path (omega (arith, within, is)))

-- a byte that is a character, or part of none
pub byte_shown : (path : List ℕ) (len d : ℕ) → len ≡ character_len path → len < 2 → 0 < length path
    → shown path ≡ shown_first (if len == 1 then 1 else 0) (get_or path 0 d) ++ shown (drop 1 path)
byte_shown [] len d is few some = absurd (omega arith)
byte_shown (b ∷ path) zero d is few some = ap (λ (n : ℕ). shown_first n b ++ shown_after (n - 1) path) (sym is)
byte_shown (b ∷ path) (suc zero) d is few some = ap (λ (n : ℕ). shown_first n b ++ shown_after (n - 1) path) (sym is)
byte_shown (b ∷ path) (suc (suc k)) d is few some = absurd (omega arith)

-- ---- at a slash

-- what has a slash in it begins with a text before that
no_text : (w rest : List ℕ) → is_utf8 w ≡ false → is_utf8 (w ++ 0x2f ∷ rest) ≡ false
no_text w rest none =
    false_from_ne_true (is_utf8 (w ++ 0x2f ∷ rest)) (λ is. true≢false
    (sym (is_utf8-from_IsUtf8 w (before_slash w rest (IsUtf8-from_is_utf8 (w ++ 0x2f ∷ rest) is))) ∙ none))

one_same : (a b c d : Bool) → (a ≡ false → b ≡ false) → (a ≡ false → c ≡ false) → (a ≡ false → d ≡ false)
    → first_of a b c d ≡ first_of a a a a
one_same true b c d e e' e'' = refl
one_same false b c d e e' e'' =
    ap₂ (λ (x y : Bool). first_of false x y d) (e refl) (e' refl)
    ∙ ap (λ (x : Bool). first_of false false false x) (e'' refl)

two_same : (a b c d : Bool) → (b ≡ false → c ≡ false) → (b ≡ false → d ≡ false) → first_of a b c d ≡ first_of a b b b
two_same true b c d e e' = refl
two_same false true c d e e' = refl
two_same false false c d e e' = ap₂ (λ (x y : Bool). first_of false false x y) (e refl) (e' refl)

three_same : (a b c d : Bool) → (c ≡ false → d ≡ false) → first_of a b c d ≡ first_of a b c c
three_same true b c d e = refl
three_same false true c d e = refl
three_same false false true d e = refl
three_same false false false d e = ap (λ (x : Bool). first_of false false false x) (e refl)

-- a character ends before a slash
character_before : (x : ℕ) (a b : List ℕ) → character_len (x ∷ a ++ 0x2f ∷ b) ≡ character_len (x ∷ a)
character_before x [] b =
    one_same (is_utf8 (x ∷ [])) (is_utf8 (x ∷ 0x2f ∷ [])) (is_utf8 (x ∷ 0x2f ∷ take 1 b))
    (is_utf8 (x ∷ 0x2f ∷ take 2 b)) (no_text (x ∷ []) []) (no_text (x ∷ []) (take 1 b)) (no_text (x ∷ []) (take 2 b))
character_before x (y ∷ []) b =
    two_same (is_utf8 (x ∷ [])) (is_utf8 (x ∷ y ∷ [])) (is_utf8 (x ∷ y ∷ 0x2f ∷ [])) (is_utf8 (x ∷ y ∷ 0x2f ∷ take 1 b))
    (no_text (x ∷ y ∷ []) []) (no_text (x ∷ y ∷ []) (take 1 b))
character_before x (y ∷ z ∷ []) b =
    three_same (is_utf8 (x ∷ [])) (is_utf8 (x ∷ y ∷ [])) (is_utf8 (x ∷ y ∷ z ∷ [])) (is_utf8 (x ∷ y ∷ z ∷ 0x2f ∷ []))
    (no_text (x ∷ y ∷ z ∷ []) [])
character_before x (y ∷ z ∷ w ∷ a) b = refl

-- a byte of ASCII is a character
pub ascii_is : (b : ℕ) → b < 128 → is_utf8 (b ∷ []) ≡ true
ascii_is b low = is_utf8-from_IsUtf8 (b ∷ []) (ascii_text b low)

pub ascii_first : (b : ℕ) (path : List ℕ) → b < 128 → shown (b ∷ path) ≡ shown_first 1 b ++ shown path
ascii_first b path low =
    ap (λ (n : ℕ). shown_first n b ++ shown_after (n - 1) path)
    (ap (λ (one : Bool). first_of one (is_utf8 (take 2 (b ∷ path))) (is_utf8 (take 3 (b ∷ path)))
    (is_utf8 (take 4 (b ∷ path)))) (ascii_is b low))

after_at_slash : (left : ℕ) (a b : List ℕ) → left ≤ length a
    → shown_after left (a ++ 0x2f ∷ b) ≡ shown_after left a ++ 0x2f ∷ shown b
after_at_slash zero [] b le = ascii_first 0x2f b (omega arith)
after_at_slash (suc left) [] b le = absurd (omega arith)
after_at_slash (suc left) (x ∷ a) b le = ap (λ (l : List ℕ). x ∷ l) (after_at_slash left a b (omega arith))
after_at_slash zero (x ∷ a) b le =
    let n = character_len (x ∷ a) in
    let within = character_within (x ∷ a) (omega arith) in
    ap (λ (k : ℕ). shown_first k x ++ shown_after (k - 1) (a ++ 0x2f ∷ b)) (character_before x a b)
    ∙ ap (λ (l : List ℕ). shown_first n x ++ l) (after_at_slash (n - 1) a b (omega (arith, within)))
    ∙ sym (append_assoc (shown_first n x) (shown_after (n - 1) a) (0x2f ∷ shown b))

pub shown_at_slash : (a b : List ℕ) → shown (a ++ 0x2f ∷ b) ≡ shown a ++ 0x2f ∷ shown b
shown_at_slash a b = after_at_slash 0 a b (omega arith)
