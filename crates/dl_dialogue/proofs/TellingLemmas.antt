-- Paths of what an index tells, and faults of one in a file.
use Rattle.std.proofs.Common.{◌≡◌, inl, inr, ℕ, Bool, ◌+◌, ◌*◌, ◌≤◌, List, [], ◌∷◌, ◌++◌, length, drop, Option, Some, None, sym}
use Rattle.std.proofs.Common.{ap, ◌∙◌, append-nil, length-append, length-drop, length-take, arith, Result, Ok, Err, IfErr, IfOk, IfSome}
use Rattle.std.specs.Prelude.{is_some}
use Rattle.std.specs.Borrow.{Bor}
use Rattle.std.specs.declared.io.Error.{Error}
use Rattle.dl_elf.specs.Elf.{bytes_at}
use Rattle.dl_elf.specs.Source.{ForBytes}
use Rattle.dl_elf.specs.declared.file.Range.{Range}
use Rattle.dl_index_file.specs.Reading.{ReadFails, TextFails}
use Rattle.dl_index.specs.Shown.{text_told, texts_told}
use Rattle.dl_index.specs.TextPlaces.{AreAt, StandsAt}
use Rattle.dl_index.specs.declared.index.FoundLine.{FoundLine}
use Rattle.dl_index_file.specs.Shown.{Lies, text_shown}
use Rattle.dl_index_file.specs.declared.fault.TextFault.{TextFault}
use Rattle.dl_index_file.specs.declared.fault.TextFault.TheVariants as of
use Rattle.dl_dialogue.specs.Asking.{AsksForPath}
use Rattle.dl_dialogue.specs.Faults.{FileFails, TellFails, as_told}
use Rattle.dl_dialogue.specs.declared.fault.TellFault.{TellFault}
use Rattle.dl_dialogue.specs.declared.fault.TellFault.TheVariants as told
use Rattle.std.specs.List.{concat}
use Rattle.std.proofs.lemmas.List.Folds.{concat-append}
use Rattle.dl_making.specs.Telling.{path_told}
use Rattle.dl_dialogue.specs.Paths.{path_if}

-- three parts of the texts, one after the other
pub joined_three : (a b c : List (List ℕ)) → (([] ++ concat a) ++ concat b) ++ concat c ≡ concat (a ++ b ++ c)
joined_three a b c = sym (concat-append (a ++ b) c ∙ ap (λ l. l ++ concat c) (concat-append a b))

pub path_is : (texts : List (List ℕ)) (is : Bool) (path : List ℕ) → is ≡ is_some (path_told texts) → path ≡ concat texts
    → path_if is path ≡ path_told texts
path_is [] is path known same = ap (λ b. path_if b path) known
path_is (t ∷ texts) is path known same = ap (λ b. path_if b path) known ∙ ap (λ p. Some p) same

-- memory is asked for fewer items
pub asks_fewer : (Fails : Error → Type 0) (P Q refuses : ℕ → Type 0) (fault : TellFault) → ((n : ℕ) → P n → Q n)
    → TellFails Fails P refuses fault → TellFails Fails Q refuses fault
asks_fewer Fails P Q refuses (told.Read error) wider fails = fails
asks_fewer Fails P Q refuses told.NoMemory wider (n, asked, refused) = (n, wider n asked, refused)

-- a text that lies in the file
pub text_fails : (known : Option (List ℕ)) (Fails : Error → Type 0) (refuses : ℕ → Type 0) (before : ℕ) (place : Range) (r : Result (Unit {0}) TextFault)
    → IfErr r (TextFails known Fails refuses before place) → ForBytes known (λ b. Lies b (Some place))
    → IfErr (as_told r) (FileFails known Fails (λ n. ForBytes known (λ b. n ≤ before + length b)) refuses)
text_fails known Fails refuses before place (Ok x) fails lies = tt
text_fails known Fails refuses before place (Err of.NoMemory) (n, few, stands, refused) lies =
    (n, λ b is below. (let stand = stands b is below in omega (arith, stand)), refused)
text_fails known Fails refuses before place (Err (of.Read error)) (inl fails) lies = inl fails
text_fails known Fails refuses before place (Err (of.Read error)) (inr (kind, ends)) lies =
    inr (kind, λ b is below. (let short = ends b is below in let within = lies b is below in omega (arith, short, within)))

-- one of the texts of a path, behind no more than two
pub path_fails : (known : Option (List ℕ)) (Fails : Error → Type 0) (refuses : ℕ → Type 0) (fault : TellFault) (before : ℕ)
    → ForBytes known (λ b. before ≤ 2 * length b)
    → FileFails known Fails (λ n. ForBytes known (λ b. n ≤ before + length b)) refuses fault
    → FileFails known Fails (AsksForPath known) refuses fault
path_fails known Fails refuses fault before two fails = asks_fewer (ReadFails known Fails) (λ n. ForBytes known (λ b. n ≤ before + length b))
    (AsksForPath known) refuses fault (λ n few b is below. (
    let some = few b is below in
    let most = two b is below in
    omega (arith, some, most)
    )) fails

-- the last one
pub last_fails : {A : Type 0} (known : Option (List ℕ)) (Fails : Error → Type 0) (refuses : ℕ → Type 0) (r : Result A TellFault) (before : ℕ)
    → ForBytes known (λ b. before ≤ 2 * length b)
    → IfErr r (FileFails known Fails (λ n. ForBytes known (λ b. n ≤ before + length b)) refuses)
    → IfErr r (FileFails known Fails (AsksForPath known) refuses)
last_fails known Fails refuses (Ok x) before two fails = tt
last_fails known Fails refuses (Err fault) before two fails = path_fails known Fails refuses fault before two fails

-- a text of a file isn't longer than the file
pub shown_len : (b : List ℕ) (text : Option Range) → length (concat (text_shown b text)) ≤ length b
shown_len b None = omega arith
shown_len b (Some place) = omega (
  arith,
  ap length (append-nil (bytes_at place.offset place.size b)),
  length-take place.size (drop place.offset b),
  length-drop place.offset b,
)

-- a text more
pub text_more : (b before more : List ℕ) (text : Option Range) (most : ℕ) → length before ≤ most
    → more ≡ before ++ concat (text_shown b text) → length more ≤ most + length b
text_more b before more text most few is =
    omega (arith, few, ap length is, length-append before (concat (text_shown b text)), shown_len b text)

-- nor one of an index in memory than its bytes
told_len : (b : List ℕ) (place : ℕ) (text : Option (Bor (List ℕ))) → IfSome text (λ t. StandsAt b place t.now)
    → length (concat (text_told text)) ≤ length b
told_len b place None stands = omega arith
told_len b place (Some text) stands = omega (arith, ap length (append-nil text.now), stands.within)

-- three texts, one after the other
pub len_three : (a b c : List (List ℕ)) → length (concat (a ++ b ++ c)) ≡ length (concat a) + length (concat b) + length (concat c)
len_three a b c = omega (
  arith,
  ap length (sym (joined_three a b c)),
  length-append (([] ++ concat a) ++ concat b) (concat c),
  length-append ([] ++ concat a) (concat b),
)

pub path_len : (b : List ℕ) (found : FoundLine) → AreAt b found → length (concat (texts_told found.texts)) ≤ 3 * length b
path_len b found at = omega (
  arith,
  len_three (text_told found.texts.first) (text_told found.texts.second) (text_told found.texts.third),
  told_len b found.places.first found.texts.first at.first,
  told_len b found.places.second found.texts.second at.second,
  told_len b found.places.third found.texts.third at.third,
)

pub text_read : (r : Result (Unit {0}) TextFault) (old new bytes : List ℕ) → IfOk r (λ _. new ≡ old ++ bytes)
    → IfOk (as_told r) (λ _. new ≡ old ++ concat (bytes ∷ []))
text_read (Ok x) old new bytes read = read ∙ ap (λ l. old ++ l) (sym (append-nil bytes))
text_read (Err fault) old new bytes read = tt

-- three texts are read one after the other
pub read_three : (r : Result (Unit {0}) TellFault) (a b c : List (List ℕ)) (none one two three : List ℕ) → none ≡ []
    → one ≡ none ++ concat a → two ≡ one ++ concat b → IfOk r (λ _. three ≡ two ++ concat c)
    → IfOk r (λ _. three ≡ concat (a ++ b ++ c))
read_three (Ok x) a b c none one two three empty first second third =
    third ∙ (ap (λ l. l ++ concat c) (second ∙ ap (λ l. l ++ concat b) (first ∙ ap (λ l. l ++ concat a) empty))
    ∙ joined_three a b c)
read_three (Err fault) a b c none one two three empty first second third = tt

-- what holds of each of all bytes that may be known
pub of_all_bytes : {A E : Type 0} (known : Option (List ℕ)) (r : Result A E) (Q : List ℕ → A → Type 0)
    → ForBytes known (λ b. IfOk r (Q b)) → IfOk r (λ x. ForBytes known (λ b. Q b x))
of_all_bytes known (Ok x) Q all = all
of_all_bytes known (Err e) Q all = tt
