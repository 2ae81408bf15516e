-- A line that is read byte by byte asks for what its text without blanks says.
use Rattle.std.proofs.Common.{◌≡◌, ℕ, Bool, true, false, ◌||◌, ◌==◌, if◌then◌else◌, List, [], ◌∷◌, ◌++◌}
use Rattle.std.proofs.Common.{Option, Some, None, refl, sym, ap, ◌∙◌}
use Rattle.std.specs.Prelude.{◌&&◌}
use Rattle.std.specs.List.{list_all}
use Rattle.std.proofs.lemmas.Bool.{eqb-true}
use Rattle.dl_cmd.specs.AddressText.{address_of, text_after as word_after}
use Rattle.dl_cmd.specs.declared.address.AddressText.{AddressText}
use Rattle.dl_cmd.specs.declared.address.AddressText.TheVariants.{Empty, Zero, Prefix, Digits, Other}
use Rattle.dl_cmd.proofs.AddressLemmas.{all_after, other_says, text_says}
use Rattle.dl_look.specs.declared.asked.Asked.{Asked}
use Rattle.dl_asked.specs.declared.line.Text.{Text}
use Rattle.dl_asked.specs.declared.line.Text.TheVariants.{Blank, Word, Ended}
use Rattle.dl_asked.specs.Line.{asked_of, text_after}
use Rattle.dl_asked.specs.AskedLines.{asked_by, asked_of_line, is_blank, trim_end, trim_start}

-- all these bytes more
abbrev pub run : (hex : Bool) → Text → List ℕ → Text
run hex t [] = t
run hex t (c ∷ b) = run hex (text_after hex t c) b

pub run-more : (hex : Bool) (t : Text) (b : List ℕ) (c : ℕ) → run hex t (b ++ c ∷ []) ≡ text_after hex (run hex t b) c
run-more hex t [] c = refl
run-more hex t (d ∷ b) c = run-more hex (text_after hex t d) b c

abbrev said : Option ℕ → Option Asked
said address = Some (record { address = address })

-- a space (32) and a tab (9) are no part of an address
blanks_end : (hex : Bool) (word : AddressText) → (word_after hex word 32 ≡ Other) × (word_after hex word 9 ≡ Other)
blanks_end true Empty = (refl, refl)
blanks_end false Empty = (refl, refl)
blanks_end true Zero = (refl, refl)
blanks_end false Zero = (refl, refl)
blanks_end hex Prefix = (refl, refl)
blanks_end hex (Digits true n) = (refl, refl)
blanks_end hex (Digits false n) = (refl, refl)
blanks_end hex Other = (refl, refl)

blank_ends : (hex : Bool) (word : AddressText) (c : ℕ) → is_blank c ≡ true → word_after hex word c ≡ Other
blank_ends hex word c is = by (c == 32) refl is where
  by : (b : Bool) → (c == 32) ≡ b → (b || (c == 9)) ≡ true → word_after hex word c ≡ Other
  by true e is = ap (word_after hex word) (eqb-true c 32 e) ∙ (blanks_end hex word).0
  by false e is = ap (word_after hex word) (eqb-true c 9 is) ∙ (blanks_end hex word).1

-- after a word only blanks may follow
ended_asks : (hex : Bool) (address : Option ℕ) (rest : List ℕ)
    → asked_of (run hex (Ended address) rest) ≡ said (if list_all is_blank rest then address else None)
ended_asks hex address [] = refl
ended_asks hex address (c ∷ rest) =
    elim (is_blank c) as (λ b. asked_of (run hex (Ended (if b then address else None)) rest)
    ≡ said (if b && list_all is_blank rest then address else None)) [
      | true ↦ ended_asks hex address rest
      | false ↦ ended_asks hex None rest ∙ elim (list_all is_blank rest) as (λ b. said (if b then None else None) ≡ said None) [
        | true ↦ refl
        | false ↦ refl
      ]
    ]

-- a byte more: what follows the word ends it, or is asked for with it
byte_asks : (hex : Bool) (word : AddressText) (c : ℕ) (rest : List ℕ)
    → asked_of (run hex (Word (word_after hex word c)) rest) ≡ said (address_of (all_after hex word (c ∷ trim_end rest)))
    → asked_of (run hex (Word word) (c ∷ rest)) ≡ said (address_of (all_after hex word (trim_end (c ∷ rest))))
byte_asks hex word c rest more = by (is_blank c) refl where
  blank : (all : Bool) → is_blank c ≡ true → (if all then address_of word else None)
      ≡ address_of (all_after hex word (if all then [] else c ∷ trim_end rest))
  blank true is = refl
  blank false is =
      sym (other_says hex (trim_end rest))
      ∙ ap (λ t. address_of (all_after hex t (trim_end rest))) (sym (blank_ends hex word c is))

  by : (b : Bool) → is_blank c ≡ b
      → asked_of (run hex (if b then Ended (address_of word) else Word (word_after hex word c)) rest)
      ≡ said (address_of (all_after hex word (if b && list_all is_blank rest then [] else c ∷ trim_end rest)))
  by true is = ended_asks hex (address_of word) rest ∙ ap said (blank (list_all is_blank rest) is)
  by false is = more

word_asks : (hex : Bool) (word : AddressText) (rest : List ℕ)
    → asked_of (run hex (Word word) rest) ≡ said (address_of (all_after hex word (trim_end rest)))
word_asks hex word [] = refl
word_asks hex word (c ∷ rest) = byte_asks hex word c rest (word_asks hex (word_after hex word c) rest)

-- what a line asks for, byte by byte
pub line_asks : (hex : Bool) (line : List ℕ) → asked_of (run hex Blank line) ≡ asked_of_line hex line
line_asks hex [] = refl
line_asks hex (c ∷ line) = by (is_blank c) refl (line_asks hex line) where
  by : (b : Bool) → is_blank c ≡ b → asked_of (run hex Blank line) ≡ asked_of_line hex line
      → asked_of (run hex (if b then Blank else Word (word_after hex Empty c)) line)
      ≡ asked_by hex (trim_end (if b then trim_start line else c ∷ line))
  by true is later = later
  by false is later =
      word_asks hex (word_after hex Empty c) line ∙ (ap said (text_says hex (c ∷ trim_end line))
      ∙ ap (λ (b : Bool). asked_by hex (if b && list_all is_blank line then [] else c ∷ trim_end line)) (sym is))
