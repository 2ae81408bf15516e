-- What is refused of words that clap takes, by what they say, and which kinds of error words have.
use Rattle.std.specs.Prelude.{◌&&◌, ◌||◌, Bool, false, not, true, List, [], ◌∷◌, Option, is_some, if◌then◌else◌}
use Rattle.std.specs.Option.{option_map_or}
use Rattle.clap.specs.Words.{fault_of, subcommand_of}
use Rattle.clap.specs.Kinds.{Kinds, or_else}
use Rattle.clap.specs.declared.error.kind.ErrorKind.TheVariants.{ArgumentConflict, MissingRequiredArgument}
use Rattle.dl_options.specs.CommandLine.{command_line}
use Rattle.dl_cmd.specs.Job.{DumpTexts, FilesTexts, FollowTexts, IndexTexts, Request, SourcesTexts, Text, UnitTexts, WordTexts}
use Rattle.dl_cmd.specs.Job.{addr, check, copy, dump, find, index, lines, lint, sources}
use Rattle.dl_cmd.specs.Words.{said}

-- `--version-5` beside `--address-size`, which is said of units of other versions
abbrev pub says_two_versions : UnitTexts → Bool
says_two_versions units = units.version_5 && is_some units.address_size

-- something is said that is so of a section on standard input alone: `--big` or `--older`
abbrev pub says_of_input : (big : Bool) → UnitTexts → Bool
says_of_input big units = big || is_some units.older

-- `--line-str` or `--str`
abbrev pub says_strings : (line_str strings : Option Text) → Bool
says_strings line_str strings = is_some line_str || is_some strings

-- something is said that is so of a file alone: `--version-5` or `--address-size`
abbrev pub says_of_file : UnitTexts → Bool
says_of_file units = units.version_5 || is_some units.address_size

-- there is a word, or more of them
abbrev pub is_there : List Text → Bool
is_there [] = false
is_there (word ∷ words) = true

-- `--debug-dir` or `--no-follow`
abbrev pub says_follow : FollowTexts → Bool
says_follow follow = is_there follow.debug_dirs || follow.no_follow

-- `--debug-dir` beside `--no-follow`, by which no other file is looked for
abbrev pub says_both_follow : FollowTexts → Bool
says_both_follow follow = is_there follow.debug_dirs && follow.no_follow

-- something is said of an index that is made
abbrev pub says_of_made : IndexTexts → FollowTexts → Bool
says_of_made w follow =
    is_some w.output || (w.all || (w.keep_going || (is_some w.section || (says_of_file w.units
    || (is_some w.comp_dir || says_follow follow)))))

-- FILE stands beside what is said of a section on standard input, or of its string sections
abbrev pub says_file_and_input : (file : Option Text) (big : Bool) → UnitTexts → (line_str strings : Option Text) → Bool
says_file_and_input file big units line_str strings =
    is_some file && (says_of_input big units || says_strings line_str strings)

-- `--json` beside what objects tell without it, or beside words of a part
abbrev pub says_two_forms : DumpTexts → Bool
says_two_forms w = w.json && (w.header || (w.operations || (w.paths || (is_some w.unit || is_some w.range))))

-- `--unit` beside `--range`, or beside `--keep-going`, which it does by itself
abbrev pub says_two_parts : DumpTexts → Bool
says_two_parts w = is_some w.unit && (is_some w.range || w.keep_going)

-- words of `dump` stand together that may not
abbrev pub dump_conflicts : DumpTexts → Bool
dump_conflicts w =
    says_two_versions w.units || (says_file_and_input w.file w.big w.units w.line_str w.strings
    || (says_two_forms w || says_two_parts w))

-- words of `sources` stand together that may not: `--unit` beside `--keep-going` too, which it does by itself
abbrev pub sources_conflicts : SourcesTexts → Bool
sources_conflicts w =
    says_two_versions w.units || (says_file_and_input w.file w.big w.units w.line_str w.strings
    || (is_some w.unit && w.keep_going))

-- `check` has a FILE, or a list of them
abbrev pub has_files : (file : Option Text) → FilesTexts → Bool
has_files file files = is_some file || is_some files.files_from

-- words of a job stand together that may not
abbrev pub job_conflicts : Request → FollowTexts → FilesTexts → Bool
job_conflicts (dump w) follow files = dump_conflicts w
job_conflicts (check file big units keep_going) follow files =
    says_two_versions units || (has_files file files && says_of_input big units)
job_conflicts (find file big units address op section line_str strings) follow files =
    says_two_versions units || says_file_and_input file big units line_str strings
job_conflicts (copy file big units to_5 comp_dir) follow files = is_some file && says_of_input big units
job_conflicts (addr w) follow files = says_two_versions w.units || (w.json && w.with_addresses)
job_conflicts (index w) follow files = says_two_versions w.units || (w.list && says_of_made w follow)
job_conflicts (sources w) follow files = sources_conflicts w
job_conflicts (lines w) follow files = says_two_versions w.units
job_conflicts (lint w) follow files =
    says_two_versions w.units || says_file_and_input w.file w.big w.units w.line_str w.strings

-- words stand together that may not
abbrev pub has_conflict : WordTexts → Bool
has_conflict w = says_both_follow w.follow || job_conflicts w.request w.follow w.files

-- a word of a job isn't there that has to be beside others: FILE, PATH:LINE, `--paths`, `--files-from`, `--to-5` or
-- `--output`
abbrev pub job_lacks : Request → FollowTexts → FilesTexts → Bool
job_lacks (dump w) follow files =
    (not (is_some w.file) && (says_of_file w.units || says_follow follow)) || (not w.paths && is_some w.comp_dir)
job_lacks (check file big units keep_going) follow files =
    (not (has_files file files) && (says_of_file units || says_follow follow))
    || (files.null && not (is_some files.files_from))
job_lacks (find file big units address op section line_str strings) follow files =
    not (is_some file) && (says_of_file units || (says_follow follow || is_some section))
job_lacks (copy file big units to_5 comp_dir) follow files =
    (not (is_some file) && is_some units.address_size)
    || (not to_5 && (is_some units.older || (is_some units.address_size || is_some comp_dir)))
job_lacks (addr w) follow files = not (is_some w.file)
job_lacks (index w) follow files = not w.list && not (is_some w.output)
job_lacks (sources w) follow files = not (is_some w.file) && (says_of_file w.units || (says_follow follow || w.all))
job_lacks (lines w) follow files = not (is_some w.file) || not (is_there w.wanted)
job_lacks (lint w) follow files = not (is_some w.file) && (says_of_file w.units || says_follow follow)

abbrev pub lacks_word : WordTexts → Bool
lacks_word w = job_lacks w.request w.follow w.files

-- the kind of error of a job that isn't done for its words, if it isn't
abbrev pub refusal_of : WordTexts → Kinds
refusal_of w =
    if has_conflict w then ArgumentConflict ∷ [] else (if lacks_word w then MissingRequiredArgument ∷ [] else [])

-- the kinds of error that these words may have, none where they ask for a job: those of clap's reading, and else that of
-- the job
abbrev pub word_faults : List Text → Kinds
word_faults words =
    or_else (fault_of command_line words) (option_map_or refusal_of (said (subcommand_of command_line words)) [])
