-- The words of `lines`, which are texts after references.
use Rattle.std.proofs.Common.{◌≡◌, Bor, Bool, ℕ, ◌+◌, true, false, List, [], ◌∷◌, ◌++◌, length, map, take, drop, arith}
use Rattle.std.proofs.Common.{Option, Some, None, Result, Ok, Err, refl, sym, ap, ◌∙◌, ◌≢◌, subst}
use Rattle.std.specs.Prelude.{◌<◌, OnOk, is_none, is_some, not, slice_index_or}
use Rattle.std.specs.Option.{option_map}
use Rattle.std.specs.Result.{is_err, OnErr}
use Rattle.std.proofs.lemmas.List.{drop_more, length-map, length-take-le, map-append, take-append-drop, take_more}
use Rattle.dl_cmd.specs.Job.{Text}
use Rattle.dl_lines.specs.Words.{AsksFor}
use Rattle.dl_lines.specs.declared.question.Wanted.{Wanted}
use Rattle.dl_memory.specs.Refusals.{IsRefused}
use Rattle.dl_sections.specs.declared.fault.RunFault.TheVariants as fault
use Rattle.dl_program.specs.Blaming as stops
use Rattle.dl_program.specs.declared.stop.Stop.{Stop}
use Rattle.dl_program.specs.declared.stop.Stop.TheVariants.{NotLine, Run}
use Rattle.dl_locating.specs.SourceWords.{AreAsked, LinesStop}
use Rattle.dl_locating.specs.declared.located.Located.{Located}
use Rattle.dl_locating.proofs.WordsLemmas.{now}

-- a file is named, or none
pub none_named : (file : Option (Bor Text)) (b : Bool) → is_some file ≡ not b → b ≡ true → option_map now file ≡ None
none_named None b tells sure = refl
none_named (Some path) true tells sure = absurd cc
none_named (Some path) false tells sure = absurd cc

pub some_named : (file : Option (Bor Text)) (b : Bool) → is_some file ≡ not b → b ≡ false
    → is_none (option_map now file) ≡ false
some_named (Some path) b tells sure = refl
some_named None true tells sure = absurd cc
some_named None false tells sure = absurd cc

-- what a call ensures that didn't fail
pub unless_failed : {A E : Type 0} (P : Type 0) (result : Result A E) → OnOk result P → is_err result ≡ false → P
unless_failed P (Ok a) holds not = holds
unless_failed P (Err e) holds not = absurd cc

-- as many lines are asked for as there are words
pub asked_length : (words : List Text) (lines : List Wanted) → AreAsked words lines → length lines ≡ length words
asked_length [] [] asked = refl
asked_length (word ∷ words) (line ∷ lines) asked =
    let same = asked_length words lines asked.1 in omega (arith, same)
asked_length [] (line ∷ lines) asked = absurd asked
asked_length (word ∷ words) [] asked = absurd asked

-- one word more
pub asked_more : (words : List Text) (lines : List Wanted) (word : Text) (line : Wanted) → AreAsked words lines
    → AsksFor word line.path.now line.line → AreAsked (words ++ word ∷ []) (lines ++ line ∷ [])
asked_more [] [] word line asked more = (more, tt)
asked_more (first ∷ words) (one ∷ lines) word line asked more = (asked.0, asked_more words lines word line asked.1 more)
asked_more [] (one ∷ lines) word line asked more = absurd asked
asked_more (first ∷ words) [] word line asked more = absurd asked

pub read_on : (words : List (Bor Text)) (i : ℕ) (d : Bor Text) (lines : List Wanted) (line : Wanted) → i < length words
    → AreAsked (map now (take i words)) lines → AsksFor (slice_index_or words i d).now line.path.now line.line
    → AreAsked (map now (take (i + 1) words)) (lines ++ line ∷ [])
read_on words i d lines line within asked more =
    let word = slice_index_or words i d in
    subst (λ (ws : List Text). AreAsked ws (lines ++ line ∷ []))
    (sym (ap (map now) (take_more words i d within) ∙ map-append now (take i words) (word ∷ [])))
    (asked_more (map now (take i words)) lines word.now line asked more)

-- the words before one, it, and those behind it
pub parted : (words : List (Bor Text)) (i : ℕ) (d : Bor Text) → i < length words
    → map now words ≡ map now (take i words) ++ (slice_index_or words i d).now ∷ map now (drop (i + 1) words)
parted words i d within =
    ap (map now) (sym (take-append-drop i words))
    ∙ (map-append now (take i words) (drop i words)
    ∙ ap (λ (l : List (Bor Text)). map now (take i words) ++ map now l) (drop_more words i d within))

-- no memory is had for one more of the lines, which are no more than the words
pub lines_refused : {A E : Type 0} (refuses : ℕ → Type 0) (words : List (Bor Text)) (i : ℕ) (lines : List Wanted)
    (pushed : Result A E) → i < length words → AreAsked (map now (take i words)) lines → is_err pushed ≡ true
    → OnErr pushed (refuses (length lines + 1)) → (map now words ≢ []) × IsRefused refuses (length (map now words))
lines_refused refuses words i lines (Ok a) within asked failed refused = absurd cc
lines_refused refuses words i lines (Err e) within asked failed refused =
    let all = length-map words now in (
      λ none. omega (arith, within, all, ap length none),
      (
        length lines + 1,
        omega (
          arith,
          within,
          all,
          asked_length (map now (take i words)) lines asked
              ∙ (length-map (take i words) now ∙ length-take-le i words (omega (arith, within))),
        ),
        refused,
      ),
    )

-- words that ask for no line, or memory that is refused for them: neither a read nor a write failed
pub lines_reads : (refuses : ℕ → Type 0) (words : List Text) (stop : Stop) → LinesStop refuses words stop
    → stops.ReadsNothing {A = Located} (Err stop)
lines_reads refuses words (NotLine word) why = tt
lines_reads refuses words (Run fault.NoMemory) why = tt
lines_reads refuses words other why = absurd why

pub lines_writer : (fails : Type 0) (refuses : ℕ → Type 0) (words : List Text) (stop : Stop) → LinesStop refuses words stop
    → stops.IsBlamed fails stop
lines_writer fails refuses words (NotLine word) why = tt
lines_writer fails refuses words (Run fault.NoMemory) why = tt
lines_writer fails refuses words other why = absurd why
