-- Lines that are read byte by byte.
use Rattle.std.proofs.Common.{◌≡◌, ℕ, suc, ◌+◌, ◌%◌, ◌<◌, ◌^◌, Bool, true, false, if◌then◌else◌, List, []}
use Rattle.std.proofs.Common.{◌∷◌, ◌++◌, length, Option, Some, None, arith, refl, sym, ap, ap₂}
use Rattle.std.proofs.Common.{◌∙◌, append-nil, append_assoc, subst}
use Rattle.std.specs.Prelude.{◌||◌, option_map}
use Rattle.std.specs.List.{list_any}
use Rattle.std.specs.Option.{option_or}
use Rattle.std.proofs.Math.Nat.{mod-eq_of_lt}
use Rattle.std.proofs.lemmas.List.{length_push}
use Rattle.std.proofs.lemmas.List.Folds.{list_any-append}
use Rattle.dl_look.specs.declared.asked.Asked.{Asked}
use Rattle.dl_asked.specs.declared.asked_lines.CurrentLine.{CurrentLine}
use Rattle.dl_asked.specs.Line.{after_byte, asked_at_end, asked_of, new_line}
use Rattle.dl_asked.specs.AskedLines.{NumberedWord, and_asked, asked_in, ended, if_no_address, is_end, no_address_in}
use Rattle.dl_asked.specs.AskedLines.{other_line_seen, trim_end}
use Rattle.dl_asked.specs.LineWord.{word_after, word_so_far}
use Rattle.dl_asked.specs.LinesRead.{Notes, Stands, asked_from, no_address_from}
use Rattle.dl_asked.specs.Reading.{HasRead}
use Rattle.dl_asked.proofs.LineCuts.{lines_asked, lines_numbered}

-- ---- lines that have ended

or_false : (b : Bool) → (b || false) ≡ b
or_false true = refl
or_false false = refl

or_true : (b : Bool) → (b || true) ≡ true
or_true true = refl
or_true false = refl

-- a byte more of the line that has not ended
pub ended_before : (done : List ℕ) (c : ℕ) → is_end c ≡ false → ended (done ++ c ∷ []) ≡ ended done
ended_before [] c not = ap (λ (b : Bool). if b || false then c ∷ [] else []) not
ended_before (d ∷ done) c not =
    ap₂ (λ (b : Bool) (l : List ℕ). if b then d ∷ l else []) (list_any-append is_end (d ∷ done) (c ∷ [])
    ∙ (ap (λ (b : Bool). list_any is_end (d ∷ done) || (b || false)) not ∙ or_false (list_any is_end (d ∷ done))))
    (ended_before done c not)

-- the line ends
pub ended_now : (done : List ℕ) (c : ℕ) → is_end c ≡ true → ended (done ++ c ∷ []) ≡ done ++ c ∷ []
ended_now [] c is = ap (λ (b : Bool). if b || false then c ∷ [] else []) is
ended_now (d ∷ done) c is =
    ap₂ (λ (b : Bool) (l : List ℕ). if b then d ∷ l else []) (list_any-append is_end (d ∷ done) (c ∷ [])
    ∙ (ap (λ (b : Bool). list_any is_end (d ∷ done) || (b || false)) is ∙ or_true (list_any is_end (d ∷ done))))
    (ended_now done c is)

-- ---- bytes

and_asked_front : (a : Option Asked) (xs : List Asked) → and_asked a xs ≡ and_asked a [] ++ xs
and_asked_front None xs = refl
and_asked_front (Some a) xs = refl

or_none : (o : Option NumberedWord) → option_or o None ≡ o
or_none None = refl
or_none (Some n) = refl

-- the current line takes a byte
pub byte_taken : (hex : Bool) (done : List ℕ) (c : ℕ) (asked : List Asked) (old new : CurrentLine)
    → HasRead hex done asked old → is_end c ≡ false
    → new.hex ≡ old.hex → new.line ≡ after_byte old.hex old.line c
    → new.number ≡ old.number → new.word ≡ word_after old.line old.word c
    → new.no_address ≡ old.no_address → HasRead hex (done ++ c ∷ []) (asked ++ []) new
byte_taken hex done c asked old new r not_end own line number word no_address =
    let s = r.stands in
    let now : new.line ≡ after_byte hex old.line c = line ∙ ap (λ b. after_byte b old.line c) s.own in
    let len = length_push done c in
    record {
      ended = append-nil asked ∙ (r.ended ∙ ap (asked_in hex) (sym (ended_before done c not_end)));
      stands = record {
        own = own ∙ s.own;
        asked = λ rest. ap (asked_from hex new_line) (append_assoc done (c ∷ []) rest) ∙ (s.asked (c ∷ rest)
            ∙ (ap (λ (b : Bool). asked ++ (if b
            then and_asked (asked_of old.line.text) (asked_from hex new_line rest)
            else asked_from hex (after_byte hex old.line c) rest)) not_end
            ∙ ap₂ (λ xs l. xs ++ asked_from hex l rest) (sym (append-nil asked)) (sym now)));
        counted = λ few. (let before = s.counted (omega (arith, len, few)) in omega (arith, len, before, number));
        no_address =
            λ few rest. ap (no_address_from hex new_line 1 []) (append_assoc done (c ∷ []) rest)
            ∙ (s.no_address (omega (arith, len, few)) (c ∷ rest)
            ∙ (ap (λ (b : Bool). option_or (option_map other_line_seen old.no_address) (if b
            then if_no_address (asked_of old.line.text) (old.number, trim_end old.word)
            (no_address_from hex new_line (suc old.number) [] rest)
            else no_address_from hex (after_byte hex old.line c) old.number (word_after old.line old.word c) rest)) not_end
            ∙ (ap₂ (λ o l. option_or (option_map other_line_seen o)
            (no_address_from hex l old.number (word_after old.line old.word c) rest)) (sym no_address) (sym now)
            ∙ ap₂ (λ n w. option_or (option_map other_line_seen new.no_address)
            (no_address_from hex new.line n w rest)) (sym number) (sym word))));
      };
    }

-- the current line ends
line_ended : (hex : Bool) (done : List ℕ) (c : ℕ) (asked : List Asked) (old noted new : CurrentLine)
    → HasRead hex done asked old → is_end c ≡ true → Notes (asked_of old.line.text) old noted
    → new.hex ≡ noted.hex → new.line ≡ new_line
    → new.number ≡ (noted.number + 1) % 2 ^ 64 → new.word ≡ []
    → new.no_address ≡ noted.no_address
    → HasRead hex (done ++ c ∷ []) (asked ++ and_asked (asked_of old.line.text) []) new
line_ended hex done c asked old noted new r is n own line wrapped word no_address =
    let s = r.stands in
    let number : length (done ++ c ∷ []) < 2 ^ 63 → new.number ≡ suc noted.number =
    λ few. (let len = length_push done c in let before = s.counted (omega (arith, len, few)) in
    let small : noted.number + 1 < 2 ^ 64 = omega (arith, len, before, few, n.number) in
    wrapped ∙ (mod-eq_of_lt small ∙ omega arith)) in
    let a = asked_of old.line.text in
    let len = length_push done c in
    let stands : Stands hex (done ++ c ∷ []) (asked ++ and_asked a []) new = record {
      own = own ∙ (n.hex ∙ s.own);
      asked = λ rest. ap (asked_from hex new_line) (append_assoc done (c ∷ []) rest) ∙ (s.asked (c ∷ rest)
          ∙ (ap (λ (b : Bool). asked ++ (if b then and_asked a (asked_from hex new_line rest)
          else asked_from hex (after_byte hex old.line c) rest)) is
          ∙ (ap (λ xs. asked ++ xs) (and_asked_front a (asked_from hex new_line rest))
          ∙ (sym (append_assoc asked (and_asked a []) (asked_from hex new_line rest))
          ∙ ap (λ l. (asked ++ and_asked a []) ++ asked_from hex l rest) (sym line)))));
      counted = λ few. (let before = s.counted (omega (arith, len, few)) in
          let m = number few in omega (arith, len, before, m, n.number));
      no_address =
          λ few rest. ap (no_address_from hex new_line 1 []) (append_assoc done (c ∷ []) rest)
          ∙ (s.no_address (omega (arith, len, few)) (c ∷ rest)
          ∙ (ap (λ (b : Bool). option_or (option_map other_line_seen old.no_address) (if b
          then if_no_address a (old.number, trim_end old.word) (no_address_from hex new_line (suc old.number) [] rest)
          else no_address_from hex (after_byte hex old.line c) old.number (word_after old.line old.word c) rest)) is
          ∙ (sym (n.no_address (no_address_from hex new_line (suc old.number) [] rest))
          ∙ (ap₂ (λ o l. option_or (option_map other_line_seen o) (no_address_from hex l (suc old.number) [] rest))
          (sym no_address) (sym line)
          ∙ ap₂ (λ m w. option_or (option_map other_line_seen new.no_address) (no_address_from hex new.line m w rest))
          (ap suc (sym n.number) ∙ sym (number few)) (sym word)))));
    } in
    record {
      ended = sym (ap (asked_in hex) (ended_now done c is)
          ∙ (sym (lines_asked hex (done ++ c ∷ []))
          ∙ (ap (asked_from hex new_line) (sym (append-nil (done ++ c ∷ [])))
          ∙ (stands.asked []
          ∙ (ap (λ l. (asked ++ and_asked a []) ++ asked_from hex l []) line
          ∙ append-nil (asked ++ and_asked a []))))));
      stands = stands;
    }

-- a: what it asks for
pub line_taken : (hex : Bool) (done : List ℕ) (c : ℕ) (asked : List Asked) (a : Option Asked) (old noted new : CurrentLine)
    → HasRead hex done asked old → is_end c ≡ true → a ≡ asked_of old.line.text → Notes a old noted
    → new.hex ≡ noted.hex → new.line ≡ new_line
    → new.number ≡ (noted.number + 1) % 2 ^ 64 → new.word ≡ []
    → new.no_address ≡ noted.no_address → HasRead hex (done ++ c ∷ []) (asked ++ and_asked a []) new
line_taken hex done c asked a old noted new r is e n own line wrapped word no_address =
    subst (λ x. HasRead hex (done ++ c ∷ []) (asked ++ and_asked x []) new) (sym e)
    (line_ended hex done c asked old noted new r is (subst (λ x. Notes x old noted) e n) own line wrapped word no_address)

-- whatever follows, what the lines ask for that have ended is asked for first
pub asked_so_far : (hex : Bool) (done : List ℕ) (asked : List Asked) (s : CurrentLine) → HasRead hex done asked s
    → (rest : List ℕ) → asked_in hex (done ++ rest) ≡ asked ++ asked_from hex s.line rest
asked_so_far hex done asked s r rest = sym (lines_asked hex (done ++ rest)) ∙ r.stands.asked rest

-- the input ends
pub end_asked : (hex : Bool) (done : List ℕ) (asked : List Asked) (s : CurrentLine) → HasRead hex done asked s
    → asked ++ and_asked (asked_at_end s.hex s.line) [] ≡ asked_in hex done
end_asked hex done asked s r =
    ap (λ h. asked ++ and_asked (asked_at_end h s.line) []) r.stands.own
    ∙ (sym (r.stands.asked []) ∙ (ap (asked_from hex new_line) (append-nil done) ∙ lines_asked hex done))

pub end_numbered : (hex : Bool) (done word : List ℕ) (asked : List Asked) (old new : CurrentLine)
    → HasRead hex done asked old → word ≡ word_so_far old.line old.word
    → Notes (asked_at_end old.hex old.line) (record old { word = word }) new → length done < 2 ^ 63
    → option_map other_line_seen new.no_address ≡ no_address_in hex done
end_numbered hex done word asked old new r told notes few =
    sym (or_none (option_map other_line_seen new.no_address))
    ∙ (notes.no_address None
    ∙ (ap₂ (λ h w. option_or (option_map other_line_seen old.no_address)
    (if_no_address (asked_at_end h old.line) (old.number, trim_end w) None)) r.stands.own told
    ∙ (sym (r.stands.no_address few [])
    ∙ (ap (no_address_from hex new_line 1 []) (append-nil done) ∙ lines_numbered hex done))))
