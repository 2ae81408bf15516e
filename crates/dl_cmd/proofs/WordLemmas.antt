-- Words without a fault ask for a job.
use Rattle.std.proofs.Common.{◌≡◌, ◌∙◌, ◌&&◌, ◌||◌, Bool, ℕ, true, false, not, List, [], ◌∷◌, Option, Some, None, Result, Ok, Err}
use Rattle.std.proofs.Common.{IsErrAnd, refl, sym, ap, ap₂, subst, codes, is_some, true≢false}
use Rattle.std.proofs.lemmas.Result.{IfOk-weaker}
use Rattle.std.specs.Prelude.{⊤, Box, IfOk, IfSome, find, fold, if◌then◌else◌, option_map, unwrap_or}
use Rattle.std.specs.Option.{option_map_or}
use Rattle.std.specs.Box.{box_value}
use Rattle.std.specs.List.{list_all}
use Rattle.std.specs.Str.{bytes_eq}
use Rattle.std.proofs.lemmas.Option.{none-some}
use Rattle.std.proofs.lemmas.Slice.Eq.{bytes_eq-Decides}
use Rattle.clap.specs.Faults.{built_fault, check_fault, entered_fault, fault_of, is_simple_and_free, other_fault}
use Rattle.clap.specs.Faults.{defaults_fault, settle_fault, turn_fault, walk_fault, word_fault}
use Rattle.clap.specs.Kinds.{FailsBy, HasKind, Kinds, check_kinds, or_else}
use Rattle.clap.specs.Lexer.{long_of, short_of}
use Rattle.clap.specs.Simple.{App, Shape, argument_words, built, entered, label_of, names_of, rows_at}
use Rattle.clap.specs.Walk.{Held, Names, Outcome, Row, Rule, Step, Text, Waiting, Walk, after_flag, after_step, answers_to}
use Rattle.clap.specs.Walk.{arg_by_index, arg_by_long, bundle, done, idle, long_met, long_or_other, next, nothing_held}
use Rattle.clap.specs.Walk.{option, plain, plain_word, positional, refused, short_or_plain, subcommand, subcommand_met}
use Rattle.clap.specs.Walk.{subcommand_or_other, to_positional, trailing, value, waits, walk, walk_from, walked, walked_from}
use Rattle.clap.specs.Walk.{finished, settled, word_met}
use Rattle.clap.specs.declared.error.Error.{Error}
use Rattle.clap.specs.declared.error.kind.ErrorKind.{ErrorKind}
use Rattle.clap.specs.declared.error.kind.ErrorKind.TheVariants.{ArgumentConflict, DisplayHelp, InvalidSubcommand}
use Rattle.clap.specs.declared.error.kind.ErrorKind.TheVariants.{MissingRequiredArgument, OutOfMemory}
use Rattle.clap.specs.declared.parser.matches.SubCommand.{SubCommand}
use Rattle.clap.specs.declared.parser.matches.ArgMatches.TheViews.{out-SubCommand}
use Rattle.clap.specs.Words.{is_simple, kind_of, subcommand_of, subcommand_rows}
use Rattle.clap.proofs.FaultLemmas.{failed_up, first_fails}
use Rattle.clap.proofs.WalkLemmas.{both}
use Rattle.dl_options.specs.CommandLine.{command_line}
use Rattle.dl_cmd.specs.Job.{Request, WordTexts}
use Rattle.dl_options.specs.Memory.{WantsRefused, clap_refused}
use Rattle.dl_cmd.specs.Refusals.{has_conflict, lacks_word, refusal_of, word_faults}
use Rattle.dl_cmd.specs.Words.{files_words_of, follow_by, follow_said_of, follow_words_of, request_of, requested, said}
use Rattle.dl_cmd.specs.Words.{said_of}

abbrev is_nil : {X : Type 0} → List X → Bool
is_nil [] = true
is_nil (x ∷ xs) = false

pub no_kind : (k : ErrorKind) (ks : Kinds) → k ∷ ks ≡ [] → ⊥
no_kind k ks e = true≢false (sym (ap (λ (x : Kinds). is_nil x) e))

-- where two steps give no kind, neither does
pub neither : (a b : Kinds) → or_else a b ≡ [] → (a ≡ []) × (b ≡ [])
neither [] b none = (refl, none)
neither (k ∷ ks) b none = absurd (no_kind k ks none)

-- the word was no subcommand
abbrev IsOther : Step → Type 0
IsOther (next waiting) = ⊤
IsOther (trailing position) = ⊤
IsOther (subcommand name) = ⊥
IsOther value = ⊤

plain_is : (c : List Rule) (waiting : Waiting) (word : Text) (h : Held) → IsOther (plain_word c waiting word h).1
plain_is c idle word h = tt
plain_is c (option id) word h = tt
plain_is c positional word h = tt

flag_is : (c : List Rule) (waiting : Waiting) (word : Text) (h : Held) (o : Outcome)
    → IsOther (after_flag c waiting word h o).1
flag_is c waiting word h done = tt
flag_is c waiting word h (waits id) = tt
flag_is c waiting word h plain = plain_is c waiting word h
flag_is c waiting word h refused = plain_is c waiting word h

short_is : (c : List Rule) (waiting : Waiting) (word : Text) (flags : Option Text) (h : Held)
    → IsOther (short_or_plain c waiting word flags h).1
short_is c waiting word None h = plain_is c waiting word h
short_is c waiting word (Some flags) h =
    flag_is c waiting word (bundle c flags h).0 (bundle c flags h).1

long_is : (c : List Rule) (waiting : Waiting) (word : Text) (o : Option (Text × Option Text)) (h : Held)
    → IsOther (long_or_other c waiting word o h).1
long_is c waiting word None h = short_is c waiting word (short_of word) h
long_is c waiting word (Some p) h =
    let met = long_met c (arg_by_long c p.0) p.1 h in
    flag_is c waiting word met.0 met.1

-- where a walk stopped, if it did, that was not at `help`
abbrev IsNoHelp : Option (Text × List Text) → Type 0
IsNoHelp stop = option_map_or (λ p. bytes_eq p.0 (codes "help")) stop false ≡ false

on_positional : (c : List Rule) (a : Option Rule) (word : Text) (w : Walk) (h : Held) → IsNoHelp w.stopped
    → IsNoHelp (to_positional c a word w h).stopped
on_positional c None word w h before = before
on_positional c (Some a) word w h before = refl

on_other : (c : List Rule) (word : Text) (w : Walk) (h : Held) (step : Step) → IsOther step → IsNoHelp w.stopped
    → IsNoHelp (after_step c word w h step).stopped
on_other c word w h (next waiting) other before = before
on_other c word w h (trailing position) other before = before
on_other c word w h (subcommand name) other before = absurd other
on_other c word w h value other before = on_positional c (arg_by_index c w.position) word w h before

help_only : (is off : Bool) → off ≡ false
    → (if is && not off then DisplayHelp ∷ InvalidSubcommand ∷ [] else []) ≡ [] → is ≡ false
help_only true true on none = absurd (true≢false on)
help_only true false on none = absurd (no_kind _ _ none)
help_only false off on none = refl

-- a word without a fault is no `help`
on_word : (s : Shape) (w : Walk) (word : Text) (met : Option Text) (waiting : Waiting) (position : ℕ) (h : Held)
    → s.disable_help_subcommand ≡ false → other_fault s met word h ≡ [] → IsNoHelp w.stopped
    → let m = subcommand_or_other s.rules met waiting position word h in
    IsNoHelp (after_step s.rules word w m.0 m.1).stopped
on_word s w word (Some name) waiting position h asked none before =
    help_only (bytes_eq name (codes "help")) s.disable_help_subcommand asked none
on_word s w word None waiting position h asked none before = go (bytes_eq word (45 ∷ 45 ∷ []))
  where
    go : (is : Bool)
        → let m = if is then (h, trailing position) else long_or_other s.rules waiting word (long_of word) h in
        IsNoHelp (after_step s.rules word w m.0 m.1).stopped
    go true = before
    go false = on_other s.rules word w _ _ (long_is s.rules waiting word (long_of word) h) before

on_turn : (s : Shape) (names : Names) (w : Walk) (word : Text) (is_trailing : Bool) → s.disable_help_subcommand ≡ false
    → word_fault s names is_trailing w.waiting word w.held ≡ [] → IsNoHelp w.stopped
    → let m = word_met s.rules names is_trailing w.waiting w.position word w.held in
    IsNoHelp (after_step s.rules word w m.0 m.1).stopped
on_turn s names w word true asked none before = on_other s.rules word w w.held value tt before
on_turn s names w word false asked none before =
    on_word s w word (subcommand_met names w.waiting word) w.waiting w.position w.held asked none before

on_walked : (s : Shape) (names : Names) (w : Walk) (word : Text) (stop : Option (Text × List Text)) (rest : Kinds)
    → s.disable_help_subcommand ≡ false
    → (if is_some stop then [] else or_else (word_fault s names w.is_trailing w.waiting word w.held) rest) ≡ []
    → stop ≡ w.stopped → IsNoHelp stop → IsNoHelp (walked_from s.rules names stop w word).stopped
on_walked s names w word None rest asked none is before =
    on_turn s names w word w.is_trailing asked (neither _ _ none).0 (subst IsNoHelp is before)
on_walked s names w word (Some p) rest asked none is before = before

no_help : (s : Shape) (names : Names) (words : List Text) (w : Walk) → s.disable_help_subcommand ≡ false
    → walk_fault s names w words ≡ [] → IsNoHelp w.stopped → IsNoHelp (fold (walked s.rules names) w words).stopped
unfolding walked walk_fault
no_help s names [] w asked none before = before
no_help s names (word ∷ words) w asked none before =
    let parts = neither (turn_fault s names w word) _ none in
    no_help s names words (walked s.rules names w word) asked parts.1
    (on_walked s names w word w.stopped _ asked parts.0 refl before)

-- the subcommand of this name asks for a job
abbrev is_job : Text → Bool
is_job name = is_some (request_of name [])

chosen : {X : Type 0} (a b c d e f g h i : Bool) (a' b' c' d' e' f' g' h' i' a'' b'' c'' d'' e'' f'' g'' h'' i'' : X)
    → is_some (if a then Some a' else (if b then Some b' else (if c then Some c' else (if d then Some d' else (if e then Some e' else (if f then Some f' else (if g then Some g' else (if h then Some h' else (if i then Some i' else None)))))))))
    ≡ is_some (if a then Some a'' else (if b then Some b'' else (if c then Some c'' else (if d then Some d'' else (if e then Some e'' else (if f then Some f'' else (if g then Some g'' else (if h then Some h'' else (if i then Some i'' else None)))))))))
chosen true b c d e f g h i a' b' c' d' e' f' g' h' i' a'' b'' c'' d'' e'' f'' g'' h'' i'' = refl
chosen false true c d e f g h i a' b' c' d' e' f' g' h' i' a'' b'' c'' d'' e'' f'' g'' h'' i'' = refl
chosen false false true d e f g h i a' b' c' d' e' f' g' h' i' a'' b'' c'' d'' e'' f'' g'' h'' i'' = refl
chosen false false false true e f g h i a' b' c' d' e' f' g' h' i' a'' b'' c'' d'' e'' f'' g'' h'' i'' = refl
chosen false false false false true f g h i a' b' c' d' e' f' g' h' i' a'' b'' c'' d'' e'' f'' g'' h'' i'' = refl
chosen false false false false false true g h i a' b' c' d' e' f' g' h' i' a'' b'' c'' d'' e'' f'' g'' h'' i'' = refl
chosen false false false false false false true h i a' b' c' d' e' f' g' h' i' a'' b'' c'' d'' e'' f'' g'' h'' i'' = refl
chosen false false false false false false false true i a' b' c' d' e' f' g' h' i' a'' b'' c'' d'' e'' f'' g'' h'' i'' = refl
chosen false false false false false false false false true a' b' c' d' e' f' g' h' i' a'' b'' c'' d'' e'' f'' g'' h'' i'' = refl
chosen false false false false false false false false false a' b' c' d' e' f' g' h' i' a'' b'' c'' d'' e'' f'' g'' h'' i'' = refl

any_rows : (name : Text) (rows : List Row) → is_some (request_of name rows) ≡ is_job name
any_rows name rows =
    chosen {X = Request} (bytes_eq name (codes "addr")) (bytes_eq name (codes "index")) (bytes_eq name (codes "dump"))
    (bytes_eq name (codes "check")) (bytes_eq name (codes "find")) (bytes_eq name (codes "copy"))
    (bytes_eq name (codes "sources")) (bytes_eq name (codes "lines")) (bytes_eq name (codes "lint"))
    _ _ _ _ _ _ _ _ _ _ _ _ _ _ _ _ _ _

-- each of these subcommands asks for a job or is `help`
abbrev is_known : Shape → Bool
is_known s = (is_job s.name && is_nil s.aliases) || (bytes_eq s.name (codes "help") && is_nil s.aliases)

left : (b : Bool) → (b || false) ≡ true → b ≡ true
left true is = refl
left false is = is

known_job : (s : Shape) (word : Text) (job : Bool) → is_job s.name ≡ job
    → ((job && is_nil s.aliases) || (bytes_eq s.name (codes "help") && is_nil s.aliases)) ≡ true
    → bytes_eq word (codes "help") ≡ false → answers_to word (label_of s) ≡ true → is_job s.name ≡ true
known_job s word true job known other is = job
known_job s word false job known other is = absurd (clash s.aliases (both _ _ known).0 (both _ _ known).1 is)
  where
    clash : (aliases : List Text) → bytes_eq s.name (codes "help") ≡ true → is_nil aliases ≡ true
        → answers_to word (s.name, aliases) ≡ true → ⊥
    clash [] help none is =
        let same = sym ((bytes_eq-Decides s.name word).0 (left _ is)) ∙ (bytes_eq-Decides s.name (codes "help")).0 help in
        true≢false (sym ((bytes_eq-Decides word (codes "help")).1 same) ∙ other)
    clash (x ∷ xs) help none is = true≢false (sym none)

-- the subcommand that answers to the name, with its matches
abbrev found : Text → List Text → List Shape → Option (Text × List Row)
found word words subs = option_map (λ s. rows_at s words) (find (λ s. answers_to word (label_of s)) subs)

asked_first : (word : Text) (words : List Text) (s : Shape) (subs : List Shape) → is_known s ≡ true
    → bytes_eq word (codes "help") ≡ false
    → (is_some (found word words subs) ≡ true → is_some (requested (found word words subs)) ≡ true) → (is : Bool)
    → answers_to word (label_of s) ≡ is
    → is_some (if is then Some (rows_at s words) else found word words subs) ≡ true
    → is_some (requested (if is then Some (rows_at s words) else found word words subs)) ≡ true
asked_first word words s subs known other rest true is some =
    any_rows s.name (rows_at s words).1 ∙ known_job s word (is_job s.name) refl known other is
asked_first word words s subs known other rest false is some = rest some

at_first : (word : Text) (words : List Text) (s : Shape) (subs : List Shape) (is : Bool)
    → option_map (λ s. rows_at s words) (if is then Some s else find (λ s. answers_to word (label_of s)) subs)
    ≡ (if is then Some (rows_at s words) else found word words subs)
at_first word words s subs true = refl
at_first word words s subs false = refl

-- the first of known subcommands that answers to a name that isn't `help` asks for a job
asked_of : (word : Text) (words : List Text) (subs : List Shape) → list_all is_known subs ≡ true
    → bytes_eq word (codes "help") ≡ false → is_some (found word words subs) ≡ true
    → is_some (requested (found word words subs)) ≡ true
asked_of word words [] known other some = some
asked_of word words (s ∷ subs) known other some =
    let here = at_first word words s subs (answers_to word (label_of s)) in
    ap (λ (o : Option (Text × List Row)). is_some (requested o)) here
    ∙ asked_first word words s subs (both _ _ known).0 other (asked_of word words subs (both _ _ known).1 other)
    (answers_to word (label_of s)) refl (ap is_some (sym here) ∙ some)

wants : (help sub arg : Bool) → sub ≡ true → check_kinds help sub arg ≡ [] → ⊥
wants true sub arg is none = no_kind _ _ none
wants false true arg is none = no_kind _ _ none
wants false false arg is none = true≢false (sym is)

-- a subcommand that has to be there is there, where the last step has no fault
has_subcommand : (s : Shape) (rows : List Row) (has : Bool) → s.subcommand_required ≡ true → check_fault s rows has ≡ []
    → has ≡ true
has_subcommand s rows true asked none = refl
has_subcommand s rows false asked none = absurd (wants _ s.subcommand_required _ asked none)

asks_built : (a : App) (words : List Text) → a.top.subcommand_required ≡ true → a.top.disable_help_subcommand ≡ false
    → list_all is_known a.subs ≡ true → built_fault a nothing_held words ≡ []
    → is_some (requested (entered a (walk a.top.rules (names_of a) nothing_held words).stopped)) ≡ true
asks_built a words wanted asked known none =
    let end = walk a.top.rules (names_of a) nothing_held words in
    let walked = neither (walk_fault a.top (names_of a) (walk_from nothing_held) words) _ none in
    let settled_first = neither (entered_fault a end.stopped) _ walked.1 in
    let defaults_first = neither (settle_fault a.top.rules a.top.args_override_self end.held) _ settled_first.1 in
    let checked = neither (defaults_fault (settled a.top.rules end.held).rows a.top.rules) _ defaults_first.1 in
    go end.stopped (no_help a.top (names_of a) words (walk_from nothing_held) asked walked.0 refl)
    (has_subcommand a.top (finished a.top.rules end.held) _ wanted checked.1)
  where
    go : (stop : Option (Text × List Text)) → IsNoHelp stop → is_some (entered a stop) ≡ true
        → is_some (requested (entered a stop)) ≡ true
    go None other some = some
    go (Some p) other some = asked_of p.0 p.1 a.subs known other some

-- words without a fault ask for a job
pub asks : (words : List Text) → fault_of command_line words ≡ []
    → is_some (requested (subcommand_of command_line words)) ≡ true
asks words none = asks_built (built command_line) (argument_words command_line words) refl refl refl none

-- the subcommand that a parse entered, by its name and its matches
subcommand_entered : {Z : Type 0} (o : Option (Box SubCommand Z)) (name : Text) (rows : List Row)
    → Some name ≡ option_map (λ b. (out-SubCommand (box_value b)).name.now) o
    → Some rows ≡ option_map (λ p. p.1) (subcommand_rows o) → subcommand_rows o ≡ Some (name, rows)
subcommand_entered None name rows named has = absurd (none-some name (sym named))
subcommand_entered (Some b) name rows named has =
    sym (ap₂ (λ (n : Text) (r : List Row). Some (n, r)) (ap (λ (x : Option Text). unwrap_or x name) named)
    (ap (λ (x : Option (List Row)). unwrap_or x rows) has))

-- the subcommand that these words name is the one that a parse of them met
pub named_by : {Z : Type 0} {X : Type 0} (app : App) (words : List Text) (o : Option (Box SubCommand Z))
    (name : Text) (rows : List Row) → app ≡ command_line
    → (is_simple app ≡ true → X × (subcommand_rows o ≡ subcommand_of app words))
    → Some name ≡ option_map (λ b. (out-SubCommand (box_value b)).name.now) o
    → Some rows ≡ option_map (λ p. p.1) (subcommand_rows o)
    → subcommand_of command_line words ≡ Some (name, rows)
named_by app words o name rows is matches named has =
    let met = (matches (rw is refl)).1 ∙ ap (λ (a : App). subcommand_of a words) is in
    sym met ∙ subcommand_entered o name rows named has

-- a parse that answers Ok found no fault
pub no_fault : (app : App) (words : List Text) → app ≡ command_line
    → (is_simple_and_free app ≡ true → fault_of app words ≡ []) → fault_of command_line words ≡ []
no_fault app words is none = ap (λ (a : App). fault_of a words) (sym is) ∙ none (rw is refl)

-- a parse that fails has the kind of a fault of the words
pub failed : {T : Type 0} (r : Result T Error) (e : Error) (app : App) (words : List Text) → app ≡ command_line
    → (is_simple_and_free app ≡ true → HasKind (fault_of app words) e) → IsErrAnd r (λ y. y ≡ e)
    → FailsBy (word_faults words) r
failed r e app words is kinds err =
    failed_up r e (λ _. word_faults words ≡ []) (word_faults words) err
    (first_fails (fault_of command_line words) _ (kind_of e)
    (subst (λ (a : App). HasKind (fault_of a words) e) is (kinds (rw is refl))))

-- want of memory that clap answers was refused
pub clap_wants : {T : Type 0} (r : Result T Error) (e : Error) → IsErrAnd r (λ y. y ≡ e) → WantsRefused r
clap_wants (Ok x) e err = tt
clap_wants (Err y) e err = λ wants. clap_refused e (subst (λ (z : Error). kind_of z ≡ OutOfMemory) err wants)

-- past a parse the kinds are those of what the words say
pub refused_by : {T : Type 0} (r : Result T Error) (words : List Text) (name : Text) (rows : List Row)
    → fault_of command_line words ≡ [] → subcommand_of command_line words ≡ Some (name, rows)
    → FailsBy (option_map_or refusal_of (said_of name rows) []) r → FailsBy (word_faults words) r
refused_by r words name rows none is kinds =
    let past = ap (λ (ks : Kinds). or_else ks (option_map_or refusal_of (said (subcommand_of command_line words)) []))
    none ∙ ap (λ (o : Option (Text × List Row)). option_map_or refusal_of (said o) []) is in
    subst (λ (ks : Kinds). FailsBy ks r) (sym past) kinds

some_made : {T : Type 0} (made : T → Request) (words : Option T) → is_some words ≡ is_some (option_map made words)
some_made made None = refl
some_made made (Some words) = refl

-- what was asked of the subcommand that words name is what they ask for
pub asked_by : {T : Type 0} (r : Result (Option T) Error) (made : T → Request) (words : List Text) (name : Text)
    (rows : List Row) → subcommand_of command_line words ≡ Some (name, rows)
    → IfOk r (λ o. option_map made o ≡ request_of name rows)
    → IfOk r (λ o. option_map made o ≡ requested (subcommand_of command_line words))
asked_by r made words name rows is same =
    IfOk-weaker r _ _ (λ o are. are ∙ sym (ap requested is)) same

-- where words have no fault something is asked for
pub some_asked : {T : Type 0} (r : Result (Option T) Error) (made : T → Request) (words : List Text)
    → fault_of command_line words ≡ []
    → IfOk r (λ o. option_map made o ≡ requested (subcommand_of command_line words)) → IfOk r (λ o. is_some o ≡ true)
some_asked r made words none same =
    IfOk-weaker r _ _ (λ o are. some_made made o ∙ ap is_some are ∙ asks words none) same

said_beside : {T X : Type 0} (made : T → X) (x : X) (o : Option T) → is_some o ≡ true
    → IfSome o (λ w. made w ≡ x) → option_map made o ≡ Some x
said_beside made x None some are = absurd (true≢false (sym some))
said_beside {X = X} made x (Some w) some are = ap (λ (y : X). Some y) are

-- what is said beside a job, of the subcommand that words name
pub beside_by : {T X : Type 0} (r : Result (Option T) Error) (made : T → X) (of : Text → List Row → X)
    (words : List Text) (name : Text) (rows : List Row) → subcommand_of command_line words ≡ Some (name, rows)
    → IfOk r (λ o. is_some o ≡ true) → IfOk r (λ o. IfSome o (λ w. made w ≡ of name rows))
    → IfOk r (λ o. option_map made o ≡ option_map (λ p. of p.0 p.1) (subcommand_of command_line words))
beside_by (Ok o) made of words name rows is some are =
    said_beside made (of name rows) o some are ∙ sym (ap (option_map (λ (p : Text × List Row). of p.0 p.1)) is)
beside_by (Err e) made of words name rows is some are = tt

is_memory : ErrorKind → Bool
is_memory OutOfMemory = true
is_memory _ = false

wants_memory : Kinds → Bool
wants_memory [] = false
wants_memory (k ∷ ks) = is_memory k

refusal_by : (conflict lack : Bool) (k : ErrorKind)
    → (if conflict then ArgumentConflict ∷ [] else (if lack then MissingRequiredArgument ∷ [] else [])) ≡ k ∷ []
    → k ≡ OutOfMemory → ⊥
unfolding wants_memory is_memory
refusal_by true lack k is memory = true≢false (sym (ap wants_memory is ∙ ap is_memory memory))
refusal_by false true k is memory = true≢false (sym (ap wants_memory is ∙ ap is_memory memory))
refusal_by false false k is memory = absurd (no_kind k [] (sym is))

-- no words are refused for want of memory
pub refused_for_words : (w : WordTexts) (k : ErrorKind) → refusal_of w ≡ k ∷ [] → k ≡ OutOfMemory → ⊥
refused_for_words w k = refusal_by (has_conflict w) (lacks_word w) k

-- what words say, as it stands
said_rows : (name : Text) (rows : List Row) (w : WordTexts) (request : Option Request)
    → Some w ≡ option_map (λ r. record {
      request = r;
      follow = follow_said_of rows;
      files = files_words_of name rows;
    }) request
    → (Some w.request ≡ request) × (w.follow ≡ follow_said_of rows) × (w.files ≡ files_words_of name rows)
said_rows name rows w None is = absurd (none-some w (sym is))
said_rows name rows w (Some r) is =
    let same = ap (λ (o : Option WordTexts). unwrap_or o w) is in (
      ap (λ (x : WordTexts). Some x.request) same,
      ap (λ (x : WordTexts). x.follow) same,
      ap (λ (x : WordTexts). x.files) same,
    )

-- and with what the subcommand does by what is said of other files
pub said_in_all : (name : Text) (rows : List Row) (w last : WordTexts) → Some w ≡ said_of name rows
    → last ≡ record w { follow = follow_by name w.follow }
    → (Some last.request ≡ request_of name rows) × (last.follow ≡ follow_words_of name rows)
    × (last.files ≡ files_words_of name rows)
said_in_all name rows w last says is =
    let rows_say = said_rows name rows w (request_of name rows) says in (
      ap (λ (x : WordTexts). Some x.request) is ∙ rows_say.0,
      ap (λ (x : WordTexts). x.follow) is ∙ ap (follow_by name) rows_say.1,
      ap (λ (x : WordTexts). x.files) is ∙ rows_say.2,
    )
