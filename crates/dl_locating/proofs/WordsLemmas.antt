-- The words of `addr`, which are texts after references.
use Rattle.std.proofs.Common.{◌≡◌, Bor, ℕ, ◌+◌, Bool, false, true, List, [], ◌∷◌, ◌++◌, length, map, take, drop, arith}
use Rattle.std.proofs.Common.{Option, Some, None, Result, Ok, Err, refl, sym, ap, ◌∙◌, ◌≢◌}
use Rattle.std.specs.Prelude.{◌<◌, if◌then◌else◌, is_some, not, option_to_list, slice_index_or}
use Rattle.std.specs.Option.{option_map_or}
use Rattle.std.proofs.lemmas.List.{drop_more, length-map, length-take-le, map-append, take-append-drop, take_more}
use Rattle.std.proofs.lemmas.Option.{none-some}
use Rattle.std.specs.List.{list_all}
use Rattle.std.specs.Result.{is_err, OnErr}
use Rattle.std.proofs.lemmas.List.Folds.{list_all-map}
use Rattle.dl_cmd.specs.Address.{address_by}
use Rattle.dl_cmd.specs.Job.{AddrTexts, Text}
use Rattle.dl_memory.specs.Refusals.{IsRefused}
use Rattle.dl_sections.specs.declared.fault.RunFault.TheVariants as fault
use Rattle.dl_look.specs.declared.asked.Asked.{Asked}
use Rattle.dl_program.specs.declared.stop.Stop.{Stop}
use Rattle.dl_program.specs.declared.stop.Stop.TheVariants.{NotAddress, Run}
use Rattle.dl_locating.specs.Locate.{AddressesStop, IsFirstOther, WordsStop, base_in, first_other}

abbrev pub now : Bor (List ℕ) → List ℕ
now s = s.now

abbrev pub asked_by : (hex : Bool) → List ℕ → Asked
asked_by hex text = record { address = address_by hex text }

mapped : (hex : Bool) (xs : List (Bor (List ℕ))) → map (λ s. asked_by hex (now s)) xs ≡ map (asked_by hex) (map now xs)
mapped hex [] = refl
mapped hex (x ∷ xs) = ap (λ (l : List Asked). asked_by hex (now x) ∷ l) (mapped hex xs)

pub words_asked : (hex : Bool) (xs ys : List (Bor (List ℕ))) (asked : List Asked) → xs ≡ ys
    → asked ≡ map (λ s. asked_by hex (now s)) xs → asked ≡ map (asked_by hex) (map now ys)
words_asked hex xs ys asked same is = is ∙ (ap (map (λ s. asked_by hex (now s))) same ∙ mapped hex ys)

pub words_understood : (hex : Bool) (xs ys : List (Bor (List ℕ))) (b : Bool) → xs ≡ ys
    → list_all (λ s. is_some (address_by hex (now s))) xs ≡ b
    → list_all (λ t. is_some (address_by hex t)) (map now ys) ≡ b
words_understood hex xs ys b same is =
    list_all-map (λ t. is_some (address_by hex t)) now ys
    ∙ (ap (list_all (λ s. is_some (address_by hex (now s)))) (sym same) ∙ is)

-- what is made of no texts is nothing
pub map_none : {A B : Type 0} (f : A → B) (xs : List A) (ys : List B) → ys ≡ map f xs → length ys ≡ 0 → xs ≡ []
map_none f [] ys e none = refl
map_none f (x ∷ xs) ys e none = absurd (omega (arith, none, ap length e))

-- ---- the first word that is no address

-- it stands before all that comes after
pub first_front : (hex : Bool) (a b : List Text) (word : Text) → first_other hex a ≡ Some word
    → first_other hex (a ++ b) ≡ Some word
first_front hex [] b word is = absurd (none-some word is)
first_front hex (x ∷ a) b word is = on (is_some (address_by hex x)) (first_front hex a b word) is where
  on : (fine : Bool) → (first_other hex a ≡ Some word → first_other hex (a ++ b) ≡ Some word)
      → (if fine then first_other hex a else Some x) ≡ Some word
      → (if fine then first_other hex (a ++ b) else Some x) ≡ Some word
  on true rest is = rest is
  on false rest is = is

-- where these are addresses it is the first of the others
pub first_after : (hex : Bool) (a b : List Text) → first_other hex a ≡ None
    → first_other hex (a ++ b) ≡ first_other hex b
first_after hex [] b none = refl
first_after hex (x ∷ a) b none = on (is_some (address_by hex x)) (first_after hex a b) none where
  on : (fine : Bool) → (first_other hex a ≡ None → first_other hex (a ++ b) ≡ first_other hex b)
      → (if fine then first_other hex a else Some x) ≡ None
      → (if fine then first_other hex (a ++ b) else Some x) ≡ first_other hex b
  on true rest none = rest none
  on false rest none = absurd (none-some x (sym none))

-- words that were read, and one more that is an address, or isn't
pub read_on : (hex : Bool) (words : List (Bor (List ℕ))) (i : ℕ) (d : Bor (List ℕ)) → i < length words
    → is_some (address_by hex (slice_index_or words i d).now) ≡ true → first_other hex (map now (take i words)) ≡ None
    → first_other hex (map now (take (i + 1) words)) ≡ None
read_on hex words i d within fine none =
    let word = slice_index_or words i d in
    ap (λ (l : List (Bor (List ℕ))). first_other hex (map now l)) (take_more words i d within)
    ∙ (ap (first_other hex) (map-append now (take i words) (word ∷ []))
    ∙ (first_after hex (map now (take i words)) (word.now ∷ []) none ∙ one word (is_some (address_by hex word.now)) fine))
  where
    one : (word : Bor (List ℕ)) (b : Bool) → b ≡ true → (if b then None else Some word.now) ≡ None
    one word b e = rw e refl

pub stops_at : (hex : Bool) (words : List (Bor (List ℕ))) (i : ℕ) (d : Bor (List ℕ)) → i < length words
    → is_some (address_by hex (slice_index_or words i d).now) ≡ false
    → first_other hex (map now (take i words)) ≡ None
    → first_other hex (map now words) ≡ Some (slice_index_or words i d).now
stops_at hex words i d within bad none =
    let word = slice_index_or words i d in
    ap (λ (l : List (Bor (List ℕ))). first_other hex (map now l)) (sym (take-append-drop i words))
    ∙ (ap (first_other hex) (map-append now (take i words) (drop i words))
    ∙ (first_after hex (map now (take i words)) (map now (drop i words)) none
    ∙ (ap (λ (l : List (Bor (List ℕ))). first_other hex (map now l)) (drop_more words i d within)
    ∙ one word (map now (drop (i + 1) words)) (is_some (address_by hex word.now)) bad)))
  where
    one : (word : Bor (List ℕ)) (rest : List Text) (b : Bool) → b ≡ false
        → (if b then first_other hex rest else Some word.now) ≡ Some word.now
    one word rest b e = rw e refl

-- what `is_none` tells
pub is_told : (found said : Option ℕ) (b e : Bool) → found ≡ said → is_some found ≡ not b → b ≡ e
    → is_some said ≡ not e
is_told found said b e is tells sure = ap is_some (sym is) ∙ (tells ∙ ap not sure)

-- no memory is had for one more of the addresses, which are no more than the words
pub words_refused : {A E : Type 0} (refuses : ℕ → Type 0) (hex : Bool) (words : List (Bor (List ℕ))) (i : ℕ) (asked : List Asked)
    (pushed : Result A E) → i < length words → asked ≡ map (λ s. asked_by hex (now s)) (take i words) → is_err pushed ≡ true
    → OnErr pushed (refuses (length asked + 1)) → (map now words ≢ []) × IsRefused refuses (length (map now words))
words_refused refuses hex words i asked (Ok a) within is failed refused = absurd cc
words_refused refuses hex words i asked (Err e) within is failed refused =
    let all = length-map words now in (
      λ none. omega (arith, within, all, ap length none),
      (
        length asked + 1,
        omega (
          arith,
          within,
          all,
          ap length is
              ∙ (length-map (take i words) (λ s. asked_by hex (now s)) ∙ length-take-le i words (omega (arith, within))),
        ),
        refused,
      ),
    )

-- ---- why the words stop

base_fine : (w : AddrTexts) (base : Option Text) (n : ℕ) → option_map_or (address_by w.hex) base (Some 0) ≡ Some n
    → first_other w.hex (option_to_list base) ≡ None
base_fine w None n is = refl
base_fine w (Some text) n is = one (is_some (address_by w.hex text)) (ap is_some is) where
  one : (b : Bool) → b ≡ true → (if b then None else Some text) ≡ None
  one b e = rw e refl

pub base_stops : (refuses : ℕ → Type 0) (w : AddrTexts) (stop : Stop) → IsFirstOther w.hex (option_to_list w.base) stop → WordsStop refuses w stop
base_stops refuses w (NotAddress word) h = first_front w.hex (option_to_list w.base) w.addresses word.now h
base_stops refuses w (Run fault.NoMemory) h = absurd h
base_stops refuses w other h = h

pub words_stop : (refuses : ℕ → Type 0) (w : AddrTexts) (n : ℕ) (xs ys : List (Bor (List ℕ))) (stop : Stop) → base_in w ≡ Some n → xs ≡ ys
    → w.addresses ≡ map now ys → AddressesStop refuses w.hex (map now xs) stop → WordsStop refuses w stop
words_stop refuses w n xs ys (NotAddress word) based same texts h =
    first_after w.hex (option_to_list w.base) w.addresses (base_fine w w.base n based)
    ∙ (ap (first_other w.hex) (texts ∙ ap (map now) (sym same)) ∙ h)
words_stop refuses w n xs ys (Run fault.NoMemory) based same texts h =
    let its : w.addresses ≡ map now xs = texts ∙ ap (map now) (sym same) in rw its h
words_stop refuses w n xs ys other based same texts h = h
