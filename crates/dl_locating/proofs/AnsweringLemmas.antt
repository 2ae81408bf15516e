-- Addresses that are answered by what is told of them.
use Rattle.std.proofs.Common.{◌≡◌, ◌==◌, ℕ, ◌≤◌, Bool, true, false, List, [], ◌∷◌, length, Option, Some, None, Result, Ok, Err, inl, inr}
use Rattle.std.proofs.Common.{arith, refl, sym, ap, ◌∙◌, subst}
use Rattle.std.specs.Prelude.{◌⊎◌, IfErr, IfNone, IfSome}
use Rattle.std.specs.Global.{Vec}
use Rattle.std.specs.Option.{option_copied}
use Rattle.std.specs.declared.io.Error.{Error}
use Rattle.dl_addr.specs.Location.{Location}
use Rattle.dl_addr.specs.declared.question.WhichFound.{WhichFound}
use Rattle.dl_addr.specs.declared.style.Style.{Style}
use Rattle.dl_cmd.specs.Job.{AddrTexts}
use Rattle.dl_dialogue.specs.Answers.{AnswersAll, Manner}
use Rattle.dl_dialogue.specs.Dialogues.{AnswersLines}
use Rattle.dl_dialogue.specs.Faults.{TellFails}
use Rattle.dl_dialogue.specs.declared.dialogue.Answered.{Answered}
use Rattle.dl_dialogue.specs.declared.fault.AnswerFault.{AnswerFault}
use Rattle.dl_held.specs.Holding.{CannotHold}
use Rattle.dl_index.specs.IsIndex.{IsHeaded}
use Rattle.dl_index_file.specs.Opening.{IfRead, Opens}
use Rattle.dl_index_file.specs.declared.fault.OpenFault.{OpenFault}
use Rattle.dl_index_file.specs.declared.fault.OpenFault.TheVariants as index
use Rattle.dl_look.specs.declared.asked.Asked.{Asked}
use Rattle.dl_open.specs.declared.stop.FileStop.{FileStop}
use Rattle.dl_sections.specs.declared.around.Survey.{Survey}
use Rattle.dl_locating.specs.OverElfFile.{IsMade, IsUnmade, is_refused}
use Rattle.dl_locating.specs.OverIndex.{IsNotOpened}
use Rattle.dl_locating.specs.Answering.{AnswersAsked, AnswersGiven, IsManner, answered_given}
use Rattle.dl_locating.specs.Locate.{form_in}
use Rattle.dl_locating.specs.Understood.{IsUnderstood}
use Rattle.dl_locating.specs.declared.addr_words.AskedWords.{AskedWords}

pub no_items : {A : Type 0} (xs : List A) → length xs ≡ 0 → xs ≡ []
no_items [] none = refl
no_items (x ∷ xs) none = absurd (omega (arith, none))

-- the manner in which the words ask
pub manner : (w : AddrTexts) (u : AskedWords) (f : ℕ → Option Location) (style : Style) → IsUnderstood w u
    → style.form ≡ form_in w → style.basenames ≡ w.basenames → option_copied style.section ≡ w.section
    → IsManner w f (record { style = style; base = u.base; told = f })
manner w u f style understood form basenames section = record {
  understood = understood.understood;
  base = understood.base;
  form = form;
  basenames = basenames;
  section = section;
  told = refl;
}

-- the words have no address
pub lines_asked : (refuses : ℕ → Type 0) (w : AddrTexts) (u : AskedWords) (f : ℕ → Option Location) (m : Manner) (Fails : Error → Type 0)
    (Asks : ℕ → Type 0) (bytes : List ℕ) (left start now : Option (List ℕ)) (result : Result Answered AnswerFault) → IsUnderstood w u
    → IsManner w f m → length u.asked.items ≡ 0 → AnswersLines m w.hex (TellFails Fails Asks refuses) bytes left start now result
    → AnswersAsked refuses w f Fails Asks bytes left start now result
lines_asked refuses w u f m Fails Asks bytes left start now result understood is none answers = (
  m,
  is,
  subst (λ given. AnswersGiven refuses w m Fails Asks given bytes left start now result)
      (sym (no_items u.asked.items none) ∙ understood.asked) answers,
)

-- the words have some
pub words_asked : (refuses : ℕ → Type 0) (w : AddrTexts) (u : AskedWords) (f : ℕ → Option Location) (m : Manner) (Fails : Error → Type 0)
    (Asks : ℕ → Type 0) (left start now : Option (List ℕ)) (found : Result WhichFound AnswerFault) (result : Result Answered AnswerFault)
    (slice : List Asked)
    → IsUnderstood w u → IsManner w f m → (length u.asked.items == 0) ≡ false → slice ≡ u.asked.items
    → AnswersAll m (TellFails Fails Asks refuses) slice start now found
    → result ≡ answered_given found → AnswersAsked refuses w f Fails Asks [] left start now result
words_asked refuses w u f m Fails Asks left start now found result slice understood is some sliced answers given = (
  m,
  is,
  subst (λ given. AnswersGiven refuses w m Fails Asks given [] left start now result) understood.asked
      (by u.asked.items some (subst (λ these. AnswersAll m (TellFails Fails Asks refuses) these start now found) sliced answers)),
) where
  by : (items : List Asked) → (length items == 0) ≡ false → AnswersAll m (TellFails Fails Asks refuses) items start now found
      → AnswersGiven refuses w m Fails Asks items [] left start now result
  by [] some answers = absurd (let e : true ≡ false = some in cc)
  by (a ∷ items) some answers = (refl, found, answers, given)

-- ---- an index that was made

pub never_empty : (b : List ℕ) → IsHeaded b → b ≡ [] → ⊥
never_empty b headed empty =
    let long : 128 ≤ length b = headed.whole.header.len in
    let none : length b ≡ 0 = ap length empty in
    omega (arith, long, none)

module _ (refuses : ℕ → Type 0) (v : List ℕ) (answer : Result Survey FileStop) where
  -- it is held, or there is none
  pub index_is : (refused : Bool) (made : Option (Vec ℕ)) → refused ≡ is_refused answer
      → IfSome made (λ list. (refused ≡ false) × (list.items ≡ v)) → IfNone made ((refused ≡ true) ⊎ CannotHold refuses v)
      → IsMade refuses v answer made
  index_is refused (Some list) is (not, whole) none = (sym is ∙ not, whole)
  index_is refused None is whole (inl refused_is) = inl (sym is ∙ refused_is)
  index_is refused None is whole (inr cannot) = inr cannot

  pub index_none : (made : Option (Vec ℕ)) → IsMade refuses v answer made → made ≡ None → IsUnmade refuses v answer
  index_none made is none = let P : Option (Vec ℕ) → Type 0 = IsMade refuses v answer in subst P none is

  pub index_some : (made : Option (Vec ℕ)) (list : Vec ℕ) → IsMade refuses v answer made → made ≡ Some list
      → (is_refused answer ≡ false) × (list.items ≡ v)
  index_some made list is some = let P : Option (Vec ℕ) → Type 0 = IsMade refuses v answer in subst P some is

-- why an index isn't opened
pub not_opened : {A : Type 0} (Fails : Error → Type 0) (b : List ℕ) (r : Result A OpenFault) → Opens b r → IfRead Fails r
    → IfErr r (IsNotOpened Fails b)
not_opened Fails b (Ok opened) opens read = tt
not_opened Fails b (Err (index.Read error)) opens read = read
not_opened Fails b (Err (index.Index fault)) opens read = opens.0
