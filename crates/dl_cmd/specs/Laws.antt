-- What the laws of this crate say.
use Rattle.std.specs.Prelude.{◌≡◌, ℕ, Bool, List, [], ◌∷◌, Option, Some, codes, false, is_some, true}
use Rattle.clap.specs.Words.{fault_of, subcommand_of}
use Rattle.clap.specs.declared.error.kind.ErrorKind.TheVariants.{ArgumentConflict, DisplayHelp, MissingRequiredArgument}
use Rattle.clap.specs.declared.error.kind.ErrorKind.TheVariants.{MissingSubcommand, UnknownArgument}
use Rattle.dl_options.specs.CommandLine.{command_line}
use Rattle.dl_cmd.specs.Job.{DumpTexts, FilesTexts, FollowTexts, LintTexts, Request, SourcesTexts, Text, UnitTexts, WordTexts, check, copy, dump}
use Rattle.dl_cmd.specs.Job.{find, lint, sources}
use Rattle.dl_cmd.specs.Refusals.{has_conflict, lacks_word, says_of_input, word_faults}
use Rattle.dl_cmd.specs.Words.{requested, said}

-- words without a fault ask for a job
abbrev pub FaultlessWordsAsk : Type 0
FaultlessWordsAsk = (words : List Text) → word_faults words ≡ []
    → is_some (requested (subcommand_of command_line words)) ≡ true

-- whose words may stand together, and of which none is left out
abbrev pub FaultlessWordsStand : Type 0
FaultlessWordsStand = (words : List Text) (w : WordTexts) → word_faults words ≡ []
    → said (subcommand_of command_line words) ≡ Some w → (has_conflict w ≡ false) × (lacks_word w ≡ false)

-- clap takes the words, and they say this
abbrev pub Say : List Text → WordTexts → Type 0
Say words w = (fault_of command_line words ≡ []) × (said (subcommand_of command_line words) ≡ Some w)

-- words that may not stand together have that fault alone
abbrev pub ConflictIsFault : Type 0
ConflictIsFault = (words : List Text) (w : WordTexts) → Say words w → has_conflict w ≡ true
    → word_faults words ≡ ArgumentConflict ∷ []

-- and others of which one is left out have this one
abbrev pub LackIsFault : Type 0
LackIsFault = (words : List Text) (w : WordTexts) → Say words w → has_conflict w ≡ false → lacks_word w ≡ true
    → word_faults words ≡ MissingRequiredArgument ∷ []

-- this job may not be asked for, whatever is said beside it
abbrev pub IsRefused : Request → Type 0
IsRefused r = (follow : FollowTexts) (files : FilesTexts)
    → has_conflict (record { request = r; follow = follow; files = files }) ≡ true

-- FILE may not stand beside `--big` or `--older`
abbrev pub FileExcludesInput : Type 0
FileExcludesInput = (file : Text) (big : Bool) (units : UnitTexts) → says_of_input big units ≡ true
    → ((w : DumpTexts) → IsRefused (dump (record w { file = Some file; big = big; units = units })))
    × ((keep_going : Bool) → IsRefused (check (Some file) big units keep_going))
    × ((address : Option Text) (op : ℕ) (section line_str strings : Option Text)
    → IsRefused (find (Some file) big units address op section line_str strings))
    × ((to_5 : Bool) (comp_dir : Option Text) → IsRefused (copy (Some file) big units to_5 comp_dir))
    × ((w : SourcesTexts) → IsRefused (sources (record w { file = Some file; big = big; units = units })))
    × ((w : LintTexts) → IsRefused (lint (record w { file = Some file; big = big; units = units })))

-- the words of a command line, the program's name first
abbrev pub words_of : List Text → List Text
words_of words = codes "dwline" ∷ words

-- the faults of some command lines
abbrev pub WorkedWords : Type 0
WorkedWords =
    (word_faults (words_of (codes "dump" ∷ codes "a" ∷ [])) ≡ [])
    × (word_faults (words_of (codes "dump" ∷ codes "--big" ∷ codes "a" ∷ [])) ≡ ArgumentConflict ∷ [])
    × (word_faults (words_of (codes "dump" ∷ codes "--paths" ∷ codes "--comp-dir" ∷ codes "d" ∷ codes "a" ∷ [])) ≡ [])
    × (word_faults (words_of (codes "dump" ∷ codes "--comp-dir" ∷ codes "d" ∷ codes "a" ∷ []))
    ≡ MissingRequiredArgument ∷ [])
    × (word_faults (words_of (codes "find" ∷ codes "-j" ∷ codes ".text" ∷ codes "1" ∷ [])) ≡ MissingRequiredArgument ∷ [])
    × (word_faults (words_of (codes "addr" ∷ codes "-e" ∷ codes "a" ∷ [])) ≡ [])
    × (word_faults (words_of (codes "addr" ∷ [])) ≡ MissingRequiredArgument ∷ [])
    × (word_faults (words_of (codes "index" ∷ codes "--list" ∷ codes "a" ∷ [])) ≡ [])
    × (word_faults (words_of (codes "addr" ∷ codes "--no-follow" ∷ codes "--debug-dir" ∷ codes "d" ∷ codes "a" ∷ []))
    ≡ ArgumentConflict ∷ [])
    × (word_faults (words_of (codes "check" ∷ codes "--no-follow" ∷ [])) ≡ MissingRequiredArgument ∷ [])
    × (word_faults (words_of (codes "check" ∷ codes "a" ∷ codes "b" ∷ [])) ≡ [])
    × (word_faults (words_of (codes "check" ∷ codes "--files-from" ∷ codes "a" ∷ codes "--big" ∷ [])) ≡ ArgumentConflict ∷ [])
    × (word_faults (words_of (codes "check" ∷ codes "-0" ∷ codes "a" ∷ [])) ≡ MissingRequiredArgument ∷ [])
    × (word_faults (words_of (codes "copy" ∷ codes "--str" ∷ codes "a" ∷ [])) ≡ UnknownArgument ∷ [])
    × (word_faults (words_of (codes "check" ∷ codes "-h" ∷ [])) ≡ DisplayHelp ∷ [])
    × (word_faults (words_of []) ≡ MissingSubcommand ∷ [])
    × (word_faults (words_of (codes "sources" ∷ codes "--rows" ∷ codes "--md5" ∷ codes "a" ∷ [])) ≡ [])
    × (word_faults (words_of (codes "sources" ∷ codes "--line-str" ∷ codes "s" ∷ codes "a" ∷ [])) ≡ ArgumentConflict ∷ [])
    × (word_faults (words_of (codes "sources" ∷ codes "--all" ∷ [])) ≡ MissingRequiredArgument ∷ [])
    × (word_faults (words_of (codes "sources" ∷ codes "--unit" ∷ codes "0x40" ∷ codes "--json" ∷ [])) ≡ [])
    × (word_faults (words_of (codes "sources" ∷ codes "--unit" ∷ codes "0" ∷ codes "--keep-going" ∷ []))
    ≡ ArgumentConflict ∷ [])
    × (word_faults (words_of (codes "lines" ∷ codes "a" ∷ codes "b.c:1" ∷ codes "b.c:2" ∷ [])) ≡ [])
    × (word_faults (words_of (codes "lines" ∷ codes "a" ∷ [])) ≡ MissingRequiredArgument ∷ [])
    × (word_faults (words_of (codes "lines" ∷ codes "--address-size" ∷ codes "4" ∷ codes "--version-5" ∷ codes "a" ∷ []))
    ≡ ArgumentConflict ∷ [])
    × (word_faults (words_of (codes "lint" ∷ codes "--rule" ∷ codes "a" ∷ codes "--rule" ∷ codes "b" ∷ codes "c" ∷ [])) ≡ [])
    × (word_faults (words_of (codes "lint" ∷ codes "--str" ∷ codes "s" ∷ codes "a" ∷ [])) ≡ ArgumentConflict ∷ [])
    × (word_faults (words_of (codes "dump" ∷ codes "--unit" ∷ codes "0" ∷ codes "--keep-going" ∷ [])) ≡ ArgumentConflict ∷ [])
    × (word_faults (words_of (codes "dump" ∷ codes "--json" ∷ codes "--header" ∷ [])) ≡ ArgumentConflict ∷ [])
    × (word_faults (words_of (codes "dump" ∷ codes "--range" ∷ codes "1-2" ∷ codes "--operations" ∷ [])) ≡ [])
