-- The laws of words.
use Rattle.std.proofs.Common.{◌≡◌, ◌∙◌, ◌||◌, Bool, true, false, [], ◌∷◌, List, refl, sym, ap}
use Rattle.std.specs.Prelude.{if◌then◌else◌}
use Rattle.std.specs.Option.{option_map_or}
use Rattle.std.proofs.Math.Bool.{or-true}
use Rattle.clap.specs.Faults.{fault_of}
use Rattle.clap.specs.Kinds.{Kinds, or_else}
use Rattle.clap.specs.Words.{subcommand_of}
use Rattle.clap.specs.declared.error.kind.ErrorKind.TheVariants.{ArgumentConflict, MissingRequiredArgument}
use Rattle.clap.proofs.OnLiterals.{clap_on_literals}
use Rattle.dl_options.specs.CommandLine.{command_line}
use Rattle.dl_cmd.specs.Job.{Text, WordTexts}
use Rattle.dl_cmd.specs.Laws.{ConflictIsFault, FaultlessWordsAsk, FaultlessWordsStand, FileExcludesInput, LackIsFault, Say}
use Rattle.dl_cmd.specs.Laws.{WorkedWords}
use Rattle.dl_cmd.specs.Refusals.{has_conflict, lacks_word, refusal_of, says_both_follow, word_faults}
use Rattle.dl_cmd.specs.Words.{said}
use Rattle.dl_cmd.proofs.WordLemmas.{asks, neither, no_kind}

pub faultless_words_ask : FaultlessWordsAsk
faultless_words_ask words none = asks words (neither (fault_of command_line words) _ none).0

-- what isn't refused stands
stands : (conflict lack : Bool)
    → (if conflict then ArgumentConflict ∷ [] else (if lack then MissingRequiredArgument ∷ [] else [])) ≡ []
    → (conflict ≡ false) × (lack ≡ false)
stands true lack none = absurd (no_kind _ _ none)
stands false true none = absurd (no_kind _ _ none)
stands false false none = (refl, refl)

pub faultless_words_stand : FaultlessWordsStand
faultless_words_stand words w none is =
    stands (has_conflict w) (lacks_word w)
    (sym (ap (λ o. option_map_or refusal_of o []) is) ∙ (neither (fault_of command_line words) _ none).1)

-- words that clap takes have the faults of what they say
faults_are : (words : List Text) (w : WordTexts) → Say words w → word_faults words ≡ refusal_of w
faults_are words w says =
    ap (λ (ks : Kinds). or_else ks (option_map_or refusal_of (said (subcommand_of command_line words)) [])) says.0
    ∙ ap (λ o. option_map_or refusal_of o []) says.1

pub conflict_is_fault : ConflictIsFault
conflict_is_fault words w says is =
    faults_are words w says
    ∙ ap (λ (b : Bool). if b then ArgumentConflict ∷ [] else (if lacks_word w then MissingRequiredArgument ∷ [] else [])) is

pub lack_is_fault : LackIsFault
lack_is_fault words w says no_conflict is =
    faults_are words w says
    ∙ ap (λ (b : Bool). if b then ArgumentConflict ∷ [] else (if lacks_word w then MissingRequiredArgument ∷ [] else []))
    no_conflict
    ∙ ap (λ (b : Bool). if b then MissingRequiredArgument ∷ [] else []) is

later : (first second : Bool) → second ≡ true → (first || second) ≡ true
later first second is = rw is (or-true first)

pub file_excludes_input : FileExcludesInput
file_excludes_input file big units is = (
  λ w follow files. later (says_both_follow follow) _ (rw is (or-true _)),
  λ keep_going follow files. later (says_both_follow follow) _ (rw is (or-true _)),
  λ address op section line_str strings follow files. later (says_both_follow follow) _ (rw is (or-true _)),
  λ to_5 comp_dir follow files. later (says_both_follow follow) _ is,
  λ w follow files. later (says_both_follow follow) _ (rw is (or-true _)),
  λ w follow files. later (says_both_follow follow) _ (rw is (or-true _)),
)

pub worked_words : WorkedWords
unfolding clap_on_literals
worked_words = (
  refl,
  refl,
  refl,
  refl,
  refl,
  refl,
  refl,
  refl,
  refl,
  refl,
  refl,
  refl,
  refl,
  refl,
  refl,
  refl,
  refl,
  refl,
  refl,
  refl,
  refl,
  refl,
  refl,
  refl,
  refl,
  refl,
  refl,
  refl,
  refl,
)
