-- What is told of a line, byte by byte.
use Rattle.std.proofs.Common.{◌≡◌, ◌⊎◌, inl, inr, ℕ, ◌+◌, ◌<◌, ◌≤◌, Bool, true, false, not, ◌==◌, if◌then◌else◌, List, []}
use Rattle.std.proofs.Common.{◌∷◌, ◌++◌, length, take, get_or, arith, refl, sym, ap, ap₂, ◌∙◌}
use Rattle.std.specs.Prelude.{◌&&◌, nat_lt}
use Rattle.std.specs.List.{list_all}
use Rattle.std.proofs.lemmas.Bool.{cases_lt, lt-ltb}
use Rattle.std.proofs.lemmas.List.{length-take-le, length_push, take-append-le, take_all, take_more}
use Rattle.std.proofs.lemmas.List.Folds.{list_all-append}
use Rattle.dl_asked.specs.AskedLines.{is_blank, trim_end, trim_start, word_size}
use Rattle.dl_asked.specs.LineWord.{with_byte}

-- what is kept of a line of which these bytes were read
abbrev pub kept_of : List ℕ → List ℕ
kept_of line = take word_size (trim_start line)

-- ---- a byte more

not_empty : (t : List ℕ) → 1 ≤ length t → (length t == 0) ≡ false
not_empty t some = search (arith, some)

started : (line : List ℕ) (c : ℕ)
    → trim_start (line ++ c ∷ [])
    ≡ (if length (trim_start line) == 0 then trim_start (c ∷ []) else trim_start line ++ c ∷ [])
started [] c = refl
started (d ∷ line) c =
    elim (is_blank d) as (λ b. (if b then trim_start (line ++ c ∷ []) else d ∷ (line ++ c ∷ []))
    ≡ (if length (if b then trim_start line else d ∷ line) == 0 then trim_start (c ∷ [])
    else (if b then trim_start line else d ∷ line) ++ c ∷ [])) [
      | true ↦ started line c
      | false ↦ ap (λ (b : Bool). if b then trim_start (c ∷ []) else d ∷ (line ++ c ∷ []))
          (sym (not_empty (d ∷ line) (omega arith)))
    ]

-- a byte after some that were kept
kept_after : (t : List ℕ) (c : ℕ) → 1 ≤ length t → with_byte (take word_size t) c ≡ take word_size (t ++ c ∷ [])
kept_after t c some = by (cases_lt (length t) word_size) where
  by : (length t < word_size) ⊎ (word_size ≤ length t) → with_byte (take word_size t) c ≡ take word_size (t ++ c ∷ [])
  by (inl lt) =
      let all : take word_size t ≡ t = take_all word_size t (omega (arith, lt)) in
      let more : take word_size (t ++ c ∷ []) ≡ t ++ c ∷ [] =
      take_all word_size (t ++ c ∷ []) (let n = length_push t c in omega (arith, lt, n)) in
      let room : nat_lt (length t) word_size ≡ true = lt-ltb (length t) word_size lt in
      rw (all, more, room, not_empty t some) refl
  by (inr ge) =
      let len : length (take word_size t) ≡ word_size = length-take-le word_size t ge in
      rw (len, take-append-le word_size t (c ∷ []) ge) refl

first_kept : (c : ℕ) → with_byte [] c ≡ take word_size (trim_start (c ∷ []))
first_kept c = by (is_blank c) where
  by : (b : Bool) → (if not b then c ∷ [] else []) ≡ take word_size (if b then [] else c ∷ [])
  by true = refl
  by false = refl

pub kept_more : (line : List ℕ) (c : ℕ) → with_byte (kept_of line) c ≡ kept_of (line ++ c ∷ [])
kept_more line c = by (trim_start line) ∙ sym (ap (take word_size) (started line c)) where
  by : (t : List ℕ) → with_byte (take word_size t) c
      ≡ take word_size (if length t == 0 then trim_start (c ∷ []) else t ++ c ∷ [])
  by [] = first_kept c
  by (d ∷ t) =
      kept_after (d ∷ t) c (omega arith)
      ∙ ap (λ (b : Bool). take word_size (if b then trim_start (c ∷ []) else (d ∷ t) ++ c ∷ []))
      (sym (not_empty (d ∷ t) (omega arith)))

-- ---- blanks at the end

and_true : (b : Bool) → (b && true) ≡ b
and_true true = refl
and_true false = refl

and_false : (b : Bool) → (b && false) ≡ false
and_false true = refl
and_false false = refl

blank_last : (w : List ℕ) (c : ℕ) → is_blank c ≡ true → trim_end (w ++ c ∷ []) ≡ trim_end w
blank_last [] c is = ap (λ (b : Bool). if b && true then [] else c ∷ []) is
blank_last (d ∷ w) c is =
    ap₂ (λ (b : Bool) (l : List ℕ). if is_blank d && b then [] else d ∷ l) (list_all-append is_blank w (c ∷ [])
    ∙ (ap (λ (b : Bool). list_all is_blank w && (b && true)) is ∙ and_true (list_all is_blank w))) (blank_last w c is)

other_last : (w : List ℕ) (c : ℕ) → is_blank c ≡ false → trim_end (w ++ c ∷ []) ≡ w ++ c ∷ []
other_last [] c is = ap (λ (b : Bool). if b && true then [] else c ∷ []) is
other_last (d ∷ w) c is =
    ap₂ (λ (b : Bool) (l : List ℕ). if is_blank d && b then [] else d ∷ l) (list_all-append is_blank w (c ∷ [])
    ∙ (ap (λ (b : Bool). list_all is_blank w && (b && true)) is ∙ and_false (list_all is_blank w))) (other_last w c is)
    ∙ ap (λ (b : Bool). if b then [] else d ∷ (w ++ c ∷ [])) (and_false (is_blank d))

-- one byte fewer, which is a blank
pub one_fewer : (bytes : List ℕ) (len c : ℕ) → len < length bytes → c ≡ get_or bytes len 0 → is_blank c ≡ true
    → trim_end (take (len + 1) bytes) ≡ trim_end (take len bytes)
one_fewer bytes len c lt at is =
    ap trim_end (take_more bytes len 0 lt) ∙ (ap (λ d. trim_end (take len bytes ++ d ∷ [])) (sym at)
    ∙ blank_last (take len bytes) c is)

-- the last byte is no blank
pub none_fewer : (bytes : List ℕ) (len c : ℕ) → len < length bytes → c ≡ get_or bytes len 0 → is_blank c ≡ false
    → trim_end (take (len + 1) bytes) ≡ take (len + 1) bytes
none_fewer bytes len c lt at is =
    ap trim_end (take_more bytes len 0 lt) ∙ (ap (λ d. trim_end (take len bytes ++ d ∷ [])) (sym at)
    ∙ (other_last (take len bytes) c is ∙ (ap (λ d. take len bytes ++ d ∷ []) at ∙ sym (take_more bytes len 0 lt))))
