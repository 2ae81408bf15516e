-- The numbers of the texts of a path stand for these texts as more texts come.
use Rattle.std.proofs.Common.{◌≡◌, ℕ, zero, suc, ◌-◌, ◌≤◌, Bool, true, false, List, [], ◌∷◌, ◌++◌, length, Some, arith}
use Rattle.std.proofs.Common.{append-nil, length-append, sym, ap, ap₂, ◌∙◌}
use Rattle.std.specs.Prelude.{if◌then◌else◌, slice_get}
use Rattle.std.specs.List.{list_any}
use Rattle.std.specs.Option.{option_to_list}
use Rattle.std.specs.Str.{bytes_eq}
use Rattle.dl_pack.specs.Named.{Grows, parts_of, text_of, with_text}
use Rattle.dl_pack.proofs.NameLemmas.{text_grown}

text_stays : (old new : List (List ℕ)) (n : ℕ) → n ≤ length old → Grows old new → text_of new n ≡ text_of old n
text_stays old new n within (more, is) = ap (λ (texts : List (List ℕ)). text_of texts n) is ∙ text_grown old more n within

pub more_texts : (put : Bool) (old new : List (List ℕ)) (text : List ℕ)
    → new ≡ (if put then with_text old text else old) → Grows old new
more_texts false old new text is = ([], is ∙ sym (append-nil old))
more_texts true old new text is = by (list_any (bytes_eq text) old) is where
  by : (known : Bool) → new ≡ (if known then old else old ++ text ∷ []) → Grows old new
  by true is = ([], is ∙ sym (append-nil old))
  by false is = (text ∷ [], is)

pub numbered_text : (texts : List (List ℕ)) (n : ℕ) (text : List ℕ) → 1 ≤ n → slice_get texts (n - 1) ≡ Some text
    → text_of texts n ≡ text ∷ []
numbered_text texts zero text some at = absurd (omega (arith, some))
numbered_text texts (suc n) text some at = ap option_to_list (ap (slice_get texts) (omega arith) ∙ at)

-- the texts after each of three were added
pub three_texts : (one two three : List (List ℕ)) (a b c : ℕ) (first second : List (List ℕ)) (last : List ℕ)
    → text_of one a ≡ first → a ≤ length one → Grows one two → text_of two b ≡ second → b ≤ length two → Grows two three
    → text_of three c ≡ last ∷ [] → parts_of three (a ∷ b ∷ c ∷ []) ≡ first ++ (second ++ last ∷ [])
three_texts one two three a b c first second last is within grows is' within' grows' is'' =
    let later : a ≤ length two = more grows within in
    ap₂ (λ (x y : List (List ℕ)). x ++ y)
    (text_stays two three a later grows' ∙ text_stays one two a within grows ∙ is)
    (ap₂ (λ (x y : List (List ℕ)). x ++ y) (text_stays two three b within' grows' ∙ is') is'')
  where
    more : Grows one two → a ≤ length one → a ≤ length two
    more (texts, e) le = rw e (omega (arith, le, length-append one texts))
