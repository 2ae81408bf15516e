-- What lines ask for byte by byte is what they ask for one by one.
use Rattle.std.proofs.Common.{◌≡◌, ℕ, suc, Bool, true, false, ◌==◌, if◌then◌else◌, List, [], ◌∷◌, ◌++◌}
use Rattle.std.proofs.Common.{None, refl, sym, ap, ap₂, ◌∙◌, subst}
use Rattle.std.proofs.lemmas.Bool.{eqb-true}
use Rattle.dl_asked.specs.declared.line.Line.{Line}
use Rattle.dl_asked.specs.declared.line.Text.TheVariants.{Blank}
use Rattle.dl_asked.specs.Line.{after_byte, asked_at_end, asked_of, new_line, text_after, text_so_far}
use Rattle.dl_asked.specs.LinesRead.{asked_from, no_address_from}
use Rattle.dl_asked.specs.AskedLines.{and_asked, asked_in, asked_of_line, asked_of_lines, if_no_address}
use Rattle.dl_asked.specs.AskedLines.{lines_after, no_address_among, no_address_in, trim_end, without_return}
use Rattle.dl_asked.specs.LineWord.{with_byte, word_after, word_so_far}
use Rattle.dl_asked.proofs.WordLemmas.{kept_more, kept_of}
use Rattle.dl_asked.proofs.LineTexts.{line_asks, run, run-more}

-- ---- a 0x0d at the end of a line

dropped : (line : List ℕ) → without_return (line ++ 13 ∷ []) ≡ line
dropped [] = refl
dropped (c ∷ []) = refl
dropped (c ∷ d ∷ line) = ap (λ (l : List ℕ). c ∷ l) (dropped (d ∷ line))

kept : (line : List ℕ) (c : ℕ) → (c == 13) ≡ false → without_return (line ++ c ∷ []) ≡ line ++ c ∷ []
kept [] c not = ap (λ (b : Bool). if b then [] else c ∷ []) not
kept (d ∷ []) c not = ap (λ (l : List ℕ). d ∷ l) (kept [] c not)
kept (d ∷ e ∷ line) c not = ap (λ (l : List ℕ). d ∷ l) (kept (e ∷ line) c not)

-- ---- bytes of a line

-- these were read
record Read (hex : Bool) (line : List ℕ) (l : Line) : Type 0 where
  so_far : text_so_far hex l ≡ run hex Blank line
  ended : l.text ≡ run hex Blank (without_return line)
  word : word_so_far l (kept_of (without_return line)) ≡ kept_of line

read_none : (hex : Bool) → Read hex [] new_line
read_none hex = record { so_far = refl; ended = refl; word = refl }

read_return : (hex : Bool) (line : List ℕ) (l : Line) → Read hex line l
    → Read hex (line ++ 13 ∷ []) (after_byte hex l 13)
read_return hex line l r = record {
  so_far = ap (λ t. text_after hex t 13) r.so_far ∙ sym (run-more hex Blank line 13);
  ended = r.so_far ∙ sym (ap (run hex Blank) (dropped line));
  word = ap (λ l. with_byte (kept_of l) 13) (dropped line) ∙ kept_more line 13;
}

read_other : (hex : Bool) (line : List ℕ) (l : Line) (c : ℕ) → (c == 13) ≡ false → Read hex line l
    → Read hex (line ++ c ∷ []) (after_byte hex l c)
read_other hex line l c not r =
    let now : text_after hex (text_so_far hex l) c ≡ run hex Blank (line ++ c ∷ []) =
    ap (λ t. text_after hex t c) r.so_far ∙ sym (run-more hex Blank line c) in
    rw not (record {
      so_far = now;
      ended = now ∙ sym (ap (run hex Blank) (kept line c not));
      word = ap kept_of (kept line c not);
    })

read_byte : (hex : Bool) (line : List ℕ) (l : Line) (c : ℕ) → Read hex line l
    → Read hex (line ++ c ∷ []) (after_byte hex l c)
read_byte hex line l c r = by (c == 13) refl where
  by : (b : Bool) → (c == 13) ≡ b → Read hex (line ++ c ∷ []) (after_byte hex l c)
  by true e =
      subst (λ d. Read hex (line ++ d ∷ []) (after_byte hex l d)) (sym (eqb-true c 13 e)) (read_return hex line l r)
  by false e = read_other hex line l c e r

-- ---- lines

line_ends : (hex : Bool) (line : List ℕ) (l : Line) → Read hex line l
    → asked_of l.text ≡ asked_of_line hex (without_return line)
line_ends hex line l r = ap asked_of r.ended ∙ line_asks hex (without_return line)

input_ends : (hex : Bool) (line : List ℕ) (l : Line) → Read hex line l
    → asked_at_end hex l ≡ asked_of_line hex line
input_ends hex line l r = ap asked_of r.so_far ∙ line_asks hex line

asked_after : (hex : Bool) (line : List ℕ) (l : Line) (b : List ℕ) → Read hex line l
    → asked_from hex l b ≡ asked_of_lines hex (lines_after line b)
asked_after hex line l [] r = ap (λ a. and_asked a []) (input_ends hex line l r)
asked_after hex line l (c ∷ b) r =
    let next = after_byte hex l c in
    elim (c == 10) as (λ x. (if x then and_asked (asked_of l.text) (asked_from hex new_line b)
    else asked_from hex next b) ≡ asked_of_lines hex (if x then without_return line ∷ lines_after [] b
    else lines_after (line ++ c ∷ []) b)) [
      | true ↦ ap₂ and_asked (line_ends hex line l r) (asked_after hex [] new_line b (read_none hex))
      | false ↦ asked_after hex (line ++ c ∷ []) next b (read_byte hex line l c r)
    ]

-- what it says first, with a byte more
word_read : (hex : Bool) (line : List ℕ) (l : Line) (c : ℕ) → Read hex line l
    → word_after l (kept_of (without_return line)) c ≡ kept_of (without_return (line ++ c ∷ []))
word_read hex line l c r = by (c == 13) refl where
  now : List ℕ
  now = word_so_far l (kept_of (without_return line))

  by : (b : Bool) → (c == 13) ≡ b
      → (if b then now else with_byte now c) ≡ kept_of (without_return (line ++ c ∷ []))
  by true e =
      r.word ∙ ap kept_of (sym (ap (λ d. without_return (line ++ d ∷ [])) (eqb-true c 13 e) ∙ dropped line))
  by false e = ap (λ w. with_byte w c) r.word ∙ (kept_more line c ∙ ap kept_of (sym (kept line c e)))

numbered_after : (hex : Bool) (n : ℕ) (line : List ℕ) (l : Line) (b : List ℕ) → Read hex line l
    → no_address_from hex l n (kept_of (without_return line)) b ≡ no_address_among hex n (lines_after line b)
numbered_after hex n line l [] r =
    ap₂ (λ a w. if_no_address a (n, trim_end w) None) (input_ends hex line l r) r.word
numbered_after hex n line l (c ∷ b) r =
    let next = after_byte hex l c in
    let word = kept_of (without_return line) in
    elim (c == 10) as (λ x. (if x then if_no_address (asked_of l.text) (n, trim_end word)
    (no_address_from hex new_line (suc n) [] b)
    else no_address_from hex next n (word_after l word c) b) ≡ no_address_among hex n (if x
    then without_return line ∷ lines_after [] b else lines_after (line ++ c ∷ []) b)) [
      | true ↦ ap₂ (λ a o. if_no_address a (n, trim_end word) o) (line_ends hex line l r)
          (numbered_after hex (suc n) [] new_line b (read_none hex))
      | false ↦ ap (λ w. no_address_from hex next n w b) (word_read hex line l c r)
          ∙ numbered_after hex n (line ++ c ∷ []) next b (read_byte hex line l c r)
    ]

pub lines_asked : (hex : Bool) (b : List ℕ) → asked_from hex new_line b ≡ asked_in hex b
lines_asked hex b = asked_after hex [] new_line b (read_none hex)

pub lines_numbered : (hex : Bool) (b : List ℕ) → no_address_from hex new_line 1 [] b ≡ no_address_in hex b
lines_numbered hex b = numbered_after hex 1 [] new_line b (read_none hex)
