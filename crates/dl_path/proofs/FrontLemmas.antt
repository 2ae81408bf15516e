-- Texts that are printed front after front.
use Rattle.std.proofs.Common.{◌≡◌, ℕ, zero, suc, ◌+◌, ◌<◌, ◌≤◌, Bool, true, false, List, [], ◌∷◌, ◌++◌, length, take, ap₂}
use Rattle.std.proofs.Common.{drop, max}
use Rattle.std.proofs.Common.{get_or, refl, sym, ap, ◌∙◌, arith, ⊎_elim, codes, append_assoc, append-nil, ◌/◌, ◌%◌}
use Rattle.std.specs.Prelude.{if◌then◌else◌, ◌==◌, ◌||◌, ◌&&◌, nat_le, nat_lt, not, cond}
use Rattle.std.specs.List.{list_all}
use Rattle.std.specs.Str.{all_scalars, bytes_eq, chars, chars_after, encode_utf8_all, is_utf8, lead_bits}
use Rattle.std.proofs.lemmas.Bool.{and_parts, cases_lt, eqb-false, eqb-true, le-leb, le-ltb, leb-true, lt-leb}
use Rattle.std.proofs.lemmas.Bool.{lt-ltb, ltb-true}
use Rattle.std.proofs.lemmas.Bool.{ne_eqb, or_from, or_parts, or_right, true≢false}
use Rattle.std.proofs.lemmas.Grind.{flat_map-append}
use Rattle.std.proofs.lemmas.List.{take-append-drop}
use Rattle.std.specs.Char.{digit_char}
use Rattle.std.specs.Str.Lossy.{replacement_bytes, utf8_invalid_len, utf8_lossy, utf8_valid_len}
use Rattle.std.proofs.lemmas.Str.{IsUtf8-from_ascii, utf8_lossy-IsUtf8, utf8_lossy_chunk, utf8_lossy_empty}
use Rattle.std.proofs.lemmas.Str.{utf8_lossy_last_chunk}
use Rattle.json.specs.Print.{escape, escape_byte, escape_letter}
use Rattle.dl_path.proofs.LossyLemmas.{lossy_at_slash}
use Rattle.dl_path.specs.Fronts.{front_text, shown_byte}
use Rattle.dl_path.specs.Shown.{character_len, is_control, is_plain, numbered, shown, shown_first, stands}
use Rattle.dl_path.proofs.ShownLemmas.{ascii_first, ascii_is, byte_shown, character_shown, character_within, first_of}

not_false : (b : Bool) → not b ≡ true → b ≡ false
not_false true e = absurd (true≢false (sym e))
not_false false e = refl

-- ---- locations

-- a byte that stands for itself is low, no backslash, and no control byte
record Plain (b : ℕ) : Type 0 where
  low : b < 128
  other : (b == 0x5c) ≡ false
  shows : is_control b ≡ false

plain_is : (b : ℕ) → is_plain b ≡ true → Plain b
plain_is b is =
    let p = and_parts (stands b) (nat_lt b 0x7f) is in
    let q = and_parts (nat_le 0x20 b) (not ((b == 0x22) || (b == 0x5c))) p.0 in
    let r = or_parts (b == 0x22) (b == 0x5c) (not_false ((b == 0x22) || (b == 0x5c)) q.1) in
    let from : 0x20 ≤ b = leb-true 0x20 b q.0 in
    let below : b < 0x7f = ltb-true b 0x7f p.1 in
    record {
      low = omega (arith, below);
      other = r.1;
      shows = or_from (nat_lt b 0x20) (b == 0x7f) (le-ltb b 0x20 from)
          (ne_eqb b 0x7f (λ e. absurd (omega (arith, e, below))));
    }

plain_first : (b : ℕ) → is_plain b ≡ true → shown_first 1 b ≡ b ∷ []
plain_first b is =
    let p = plain_is b is in
    ap₂ (λ (x y : Bool). if x then codes "\\\\" else if y then numbered b else b ∷ []) p.other p.shows

-- a low byte is shown as a character, any other by its number
low_byte : (b : ℕ) → b < 128 → shown_byte b ≡ shown_first 1 b
low_byte b low =
    ap (λ (high : Bool). if b == 0x5c then codes "\\\\" else if is_control b || high then numbered b else b ∷ [])
    (lt-leb 0x80 b low)
    ∙ ap (λ (c : Bool). if b == 0x5c then codes "\\\\" else if c then numbered b else b ∷ []) (or_none (is_control b))
  where
    or_none : (b : Bool) → (b || false) ≡ b
    or_none true = refl
    or_none false = refl

high_byte : (b : ℕ) → 128 ≤ b → shown_byte b ≡ numbered b
high_byte b high =
    ap₂ (λ (x y : Bool). if x then codes "\\\\" else if y then numbered b else b ∷ [])
    (ne_eqb b 0x5c (λ e. absurd (omega (arith, e))))
    (or_right (is_control b) (nat_le 0x80 b) (le-leb 0x80 b high))

pub plain_text : (w rest : List ℕ) → list_all is_plain w ≡ true → shown (w ++ rest) ≡ w ++ shown rest
plain_text [] rest all = refl
plain_text (b ∷ w) rest all =
    let p = and_parts (is_plain b) (list_all is_plain w) all in
    ascii_first b (w ++ rest) (plain_is b p.0).low
    ∙ ap₂ (λ (x y : List ℕ). x ++ y) (plain_first b p.0) (plain_text w rest p.1)

pub plain_front : (w : List ℕ) → list_all is_plain w ≡ true → front_text shown_byte w ≡ w
plain_front [] all = refl
plain_front (b ∷ []) all =
    let p = and_parts (is_plain b) true all in low_byte b (plain_is b p.0).low ∙ plain_first b p.0
plain_front (b ∷ c ∷ w) all = refl

none_after : (p q r : Bool) (c : ℕ) → p ≡ false → chars_after (cond p 0 (cond q 1 (cond r 2 3))) c [] ≡ []
none_after true q r c e = absurd (true≢false e)
none_after false true r c e = refl
none_after false false true c e = refl
none_after false false false c e = refl

-- a byte that isn't of ASCII is no character by itself
no_character : (b : ℕ) → 128 ≤ b → is_utf8 (b ∷ []) ≡ false
unfolding is_utf8 chars
no_character b high =
    ap (λ (cs : List ℕ). all_scalars cs && bytes_eq (encode_utf8_all cs) (b ∷ []))
    (none_after (nat_lt b 128) (nat_lt b 224) (nat_lt b 240) (lead_bits b) (le-ltb b 128 high))

not_one : (a b c d : Bool) → a ≡ false → first_of a b c d < 2 → first_of a b c d ≡ 0
not_one true b c d e lt = absurd (true≢false e)
not_one false true c d e lt = absurd (omega arith)
not_one false false true d e lt = absurd (omega arith)
not_one false false false true e lt = absurd (omega arith)
not_one false false false false e lt = refl

is_one : (a b c d : Bool) → a ≡ true → first_of a b c d ≡ 1
is_one true b c d e = refl
is_one false b c d e = absurd (true≢false (sym e))

byte_front : (b : ℕ) (rest : List ℕ) (len : ℕ) → len ≡ character_len (b ∷ rest) → len < 2
    → shown_first (if len == 1 then 1 else 0) b ≡ shown_byte b
byte_front b rest len is few = ⊎_elim low high (cases_lt b 128) where
  low : b < 128 → shown_first (if len == 1 then 1 else 0) b ≡ shown_byte b
  low lt =
      ap (λ (n : ℕ). shown_first (if n == 1 then 1 else 0) b)
      (is ∙ is_one (is_utf8 (b ∷ [])) (is_utf8 (take 2 (b ∷ rest))) (is_utf8 (take 3 (b ∷ rest)))
      (is_utf8 (take 4 (b ∷ rest))) (ascii_is b lt)) ∙ sym (low_byte b lt)

  high : 128 ≤ b → shown_first (if len == 1 then 1 else 0) b ≡ shown_byte b
  high le =
      ap (λ (n : ℕ). shown_first (if n == 1 then 1 else 0) b)
      (is ∙ not_one (is_utf8 (b ∷ [])) (is_utf8 (take 2 (b ∷ rest))) (is_utf8 (take 3 (b ∷ rest)))
      (is_utf8 (take 4 (b ∷ rest))) (no_character b le) (omega (arith, is))) ∙ sym (high_byte b le)

-- a character, or a byte that is part of none
pub character_front : (text : List ℕ) (len : ℕ) → len ≡ character_len text → 0 < length text
    → shown text ≡ front_text shown_byte (take (max len 1) text) ++ shown (drop (max len 1) text)
character_front [] len is some = absurd (omega arith)
character_front (b ∷ text) zero is some =
    byte_shown (b ∷ text) 0 0 is (omega arith) some
    ∙ ap (λ (l : List ℕ). l ++ shown text) (byte_front b text 0 is (omega arith))
character_front (b ∷ text) (suc zero) is some =
    byte_shown (b ∷ text) 1 0 is (omega arith) some
    ∙ ap (λ (l : List ℕ). l ++ shown text) (byte_front b text 1 is (omega arith))
character_front (b ∷ []) (suc (suc k)) is some =
    absurd (let within = character_within (b ∷ []) some in omega (arith, is, within))
character_front (b ∷ c ∷ text) (suc (suc k)) is some =
    let n : max (suc (suc k)) 1 ≡ suc (suc k) = omega arith in
    character_shown (b ∷ c ∷ text) (suc (suc k)) is (omega arith) some
    ∙ ap (λ (j : ℕ). front_text shown_byte (take j (b ∷ c ∷ text)) ++ shown (drop j (b ∷ c ∷ text))) (sym n)

-- bytes that stand for themselves
pub plain_cut : (text : List ℕ) (n : ℕ) → list_all is_plain (take n text) ≡ true
    → shown text ≡ front_text shown_byte (take n text) ++ shown (drop n text)
plain_cut text n all =
    ap shown (sym (take-append-drop n text))
    ∙ plain_text (take n text) (drop n text) all
    ∙ ap (λ (l : List ℕ). l ++ shown (drop n text)) (sym (plain_front (take n text) all))

-- ---- JSON strings

escape_stands : (b : ℕ) → stands b ≡ true → escape_byte b ≡ b ∷ []
unfolding escape_byte
escape_stands b is =
    let p = and_parts (nat_le 0x20 b) (not ((b == 0x22) || (b == 0x5c))) is in
    let from : 0x20 ≤ b = leb-true 0x20 b p.0 in
    let letter : escape_letter b ≡ 0 = rw (
      not_false ((b == 0x22) || (b == 0x5c)) p.1,
      ne_eqb b 8 (λ e. absurd (omega (arith, e))),
      ne_eqb b 12 (λ e. absurd (omega (arith, e))),
      ne_eqb b 10 (λ e. absurd (omega (arith, e))),
      ne_eqb b 13 (λ e. absurd (omega (arith, e))),
      ne_eqb b 9 (λ e. absurd (omega (arith, e))),
    ) in
    rw (letter, le-ltb b 32 from)

escape_same : (w : List ℕ) → list_all stands w ≡ true → escape w ≡ w
escape_same [] all = refl
escape_same (b ∷ w) all =
    let p = and_parts (stands b) (list_all stands w) all in
    ap₂ (λ (x y : List ℕ). x ++ y) (escape_stands b p.0) (escape_same w p.1)

stands_front : (w : List ℕ) → list_all stands w ≡ true → front_text escape_byte w ≡ w
stands_front [] all = refl
stands_front (b ∷ []) all = let p = and_parts (stands b) true all in escape_stands b p.0
stands_front (b ∷ c ∷ w) all = refl

-- what stands for itself, or else one byte
pub escape_front : (text : List ℕ) (n : ℕ) → list_all stands (take n text) ≡ true → 0 < length text
    → escape text ≡ front_text escape_byte (take (max n 1) text) ++ escape (drop (max n 1) text)
escape_front [] n all some = absurd (omega arith)
escape_front (b ∷ text) zero all some = refl
escape_front (b ∷ text) (suc k) all some =
    let n = suc k in
    let w = b ∷ text in
    let same : max n 1 ≡ n = omega arith in
    ap escape (sym (take-append-drop n w))
    ∙ flat_map-append escape_byte (take n w) (drop n w)
    ∙ ap (λ (l : List ℕ). l ++ escape (drop n w)) (escape_same (take n w) all ∙ sym (stands_front (take n w) all))
    ∙ ap (λ (j : ℕ). front_text escape_byte (take j w) ++ escape (drop j w)) (sym same)

pub json_nothing : escape (utf8_lossy []) ≡ []
json_nothing = ap escape (utf8_lossy_empty [] refl)

-- the JSON string of a text goes apart at a slash
pub json_at_slash : (a b : List ℕ)
    → escape (utf8_lossy (a ++ 0x2f ∷ b)) ≡ escape (utf8_lossy a) ++ 0x2f ∷ escape (utf8_lossy b)
unfolding escape_byte
json_at_slash a b =
    ap escape (lossy_at_slash a b) ∙ flat_map-append escape_byte (utf8_lossy a) (0x2f ∷ utf8_lossy b)

-- ---- bytes and chunks of a JSON string

pub escape_short : (b letter : ℕ) → letter ≡ escape_letter b → 0 < letter → 92 ∷ letter ∷ [] ≡ escape_byte b
unfolding escape_byte
escape_short b letter is some =
    sym (ap (λ (n : ℕ). cond (nat_lt 0 n) (92 ∷ n ∷ []) (cond (nat_lt b 32)
    (92 ∷ 117 ∷ 48 ∷ 48 ∷ digit_char (b / 16) ∷ digit_char (b % 16) ∷ []) (b ∷ []))) (sym is)
    ∙ ap (λ (c : Bool). cond c (92 ∷ letter ∷ []) (cond (nat_lt b 32)
    (92 ∷ 117 ∷ 48 ∷ 48 ∷ digit_char (b / 16) ∷ digit_char (b % 16) ∷ []) (b ∷ []))) (lt-ltb 0 letter some))

no_letter : (b letter : ℕ) → letter ≡ escape_letter b → letter ≤ 0
    → escape_byte b ≡ cond (nat_lt b 32) (92 ∷ 117 ∷ 48 ∷ 48 ∷ digit_char (b / 16) ∷ digit_char (b % 16) ∷ []) (b ∷ [])
unfolding escape_byte
no_letter b letter is none =
    let zero_is : escape_letter b ≡ 0 = omega (arith, is) in
    ap (λ (n : ℕ). cond (nat_lt 0 n) (92 ∷ n ∷ []) (cond (nat_lt b 32)
    (92 ∷ 117 ∷ 48 ∷ 48 ∷ digit_char (b / 16) ∷ digit_char (b % 16) ∷ []) (b ∷ []))) zero_is

pub escape_control : (b letter high low : ℕ) → letter ≡ escape_letter b → letter ≤ 0 → b < 32
    → high ≡ digit_char (b / 16) → low ≡ digit_char (b % 16) → 92 ∷ 117 ∷ 48 ∷ 48 ∷ high ∷ low ∷ [] ≡ escape_byte b
escape_control b letter high low is none lt e e' =
    ap₂ (λ (x y : ℕ). 92 ∷ 117 ∷ 48 ∷ 48 ∷ x ∷ y ∷ []) e e'
    ∙ sym (no_letter b letter is none
    ∙ ap (λ (c : Bool). cond c (92 ∷ 117 ∷ 48 ∷ 48 ∷ digit_char (b / 16) ∷ digit_char (b % 16) ∷ []) (b ∷ []))
    (lt-ltb b 32 lt))

pub escape_self : (b letter : ℕ) → letter ≡ escape_letter b → letter ≤ 0 → 32 ≤ b → b ∷ [] ≡ escape_byte b
escape_self b letter is none le =
    sym (no_letter b letter is none
    ∙ ap (λ (c : Bool). cond c (92 ∷ 117 ∷ 48 ∷ 48 ∷ digit_char (b / 16) ∷ digit_char (b % 16) ∷ []) (b ∷ []))
    (le-ltb b 32 le))

escape_replacement : (w : List ℕ) → escape (replacement_bytes ++ w) ≡ replacement_bytes ++ escape w
unfolding escape_byte
escape_replacement w = refl

-- a chunk: a text, and what isn't UTF-8 after it
pub chunk_text : (bs valid invalid rest : List ℕ) → bs ≡ valid ++ (invalid ++ rest) → length valid ≡ utf8_valid_len bs
    → length invalid ≡ utf8_invalid_len (drop (utf8_valid_len bs) bs) → (length invalid ≡ 0 → length rest ≡ 0)
    → escape (utf8_lossy bs)
    ≡ (escape valid ++ (if length invalid == 0 then [] else replacement_bytes)) ++ escape (utf8_lossy rest)
chunk_text bs valid invalid rest parts is is' last = by (length invalid == 0) refl where
  by : (none : Bool) → (length invalid == 0) ≡ none → escape (utf8_lossy bs)
      ≡ (escape valid ++ (if length invalid == 0 then [] else replacement_bytes)) ++ escape (utf8_lossy rest)
  by true e =
      let none = eqb-true (length invalid) 0 e in
      ap escape (utf8_lossy_last_chunk bs valid invalid rest parts is none (last none))
      ∙ flat_map-append escape_byte valid (utf8_lossy rest)
      ∙ ap (λ (l : List ℕ). l ++ escape (utf8_lossy rest)) (sym (append-nil (escape valid)))
      ∙ ap (λ (c : Bool). (escape valid ++ (if c then [] else replacement_bytes)) ++ escape (utf8_lossy rest)) (sym e)
  by false e =
      let not_none = eqb-false (length invalid) 0 e in
      let some : 0 < length invalid = omega (arith, not_none) in
      ap escape (utf8_lossy_chunk bs valid invalid rest parts is is' some)
      ∙ flat_map-append escape_byte valid (replacement_bytes ++ utf8_lossy rest)
      ∙ ap (λ (l : List ℕ). escape valid ++ l) (escape_replacement (utf8_lossy rest))
      ∙ sym (append_assoc (escape valid) replacement_bytes (escape (utf8_lossy rest)))
      ∙ ap (λ (c : Bool). (escape valid ++ (if c then [] else replacement_bytes)) ++ escape (utf8_lossy rest)) (sym e)

-- ---- texts of which all bytes stand for themselves

pub plain_shown : (w : List ℕ) → list_all is_plain w ≡ true → w ≡ shown w
plain_shown w all =
    sym (append-nil w) ∙ sym (plain_text w [] all) ∙ ap shown (append-nil w)

plain_ascii : (w : List ℕ) → list_all is_plain w ≡ true → (i : ℕ) → get_or w i 0 < 128
plain_ascii [] all i = omega arith
plain_ascii (b ∷ w) all zero = (plain_is b (and_parts (is_plain b) (list_all is_plain w) all).0).low
plain_ascii (b ∷ w) all (suc i) = plain_ascii w (and_parts (is_plain b) (list_all is_plain w) all).1 i

plain_stands : (w : List ℕ) → list_all is_plain w ≡ true → list_all stands w ≡ true
plain_stands [] all = refl
plain_stands (b ∷ w) all =
    let p = and_parts (is_plain b) (list_all is_plain w) all in
    ap₂ (λ (x y : Bool). x && y) (and_parts (stands b) (nat_lt b 0x7f) p.0).0 (plain_stands w p.1)

pub plain_json : (w : List ℕ) → list_all is_plain w ≡ true → w ≡ escape (utf8_lossy w)
plain_json w all =
    sym (ap escape (utf8_lossy-IsUtf8 w (IsUtf8-from_ascii w (plain_ascii w all))) ∙ escape_same w (plain_stands w all))
