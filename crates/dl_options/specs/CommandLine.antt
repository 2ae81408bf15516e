-- The command line of the program, as clap reads it: none of its arguments has a rule on another one.
use Rattle.std.specs.Prelude.{◌≡◌, ℕ, false, [], ◌∷◌, Some, codes, true, pos}
use Rattle.clap.specs.Words.{App, app_of, rule_of, Rule, Text, new_app, new_rule, with_rule, with_subcommand}
use Rattle.clap.specs.declared.builder.arg.Arg.{Arg}
use Rattle.clap.specs.declared.builder.command.Command.{Command}
use Rattle.clap.specs.declared.builder.command.Command.TheViews.{out-Command}
use Rattle.clap.specs.declared.builder.ArgAction.TheVariants.{Append, SetTrue}
use Rattle.clap.specs.declared.builder.value_parser.ValueParser.TheVariants as vp

-- `--big`
abbrev pub big_rule : Rule
big_rule = record (new_rule (codes "big")) { long = Some (codes "big"); action = Some SetTrue }

-- `--line-str PATH`
abbrev pub line_str_rule : Rule
line_str_rule = record (new_rule (codes "line-str")) { long = Some (codes "line-str"); value_names = 1 }

-- `--str PATH`
abbrev pub str_rule : Rule
str_rule = record (new_rule (codes "str")) { long = Some (codes "str"); value_names = 1 }

-- `ADDRESS`
abbrev pub address_rule : Rule
address_rule = record (new_rule (codes "address")) { required = true; value_names = 1 }

-- `--op N`, a whole number from 0 to 255, and 0 where it isn't given
abbrev pub op_rule : Rule
op_rule = record (new_rule (codes "op")) {
  long = Some (codes "op");
  value_names = 1;
  parser = Some (vp.Signed (pos 0) (pos 255));
  defaults = codes "0" ∷ [];
}

-- `FILE`
abbrev pub file_rule : Rule
file_rule = record (new_rule (codes "file")) { value_names = 1 }

-- `FILE` of `check`, any number of them
abbrev pub files_rule : Rule
files_rule = record file_rule { action = Some Append }

-- `FILE` of `index`, which has to be there
abbrev pub index_file_rule : Rule
index_file_rule = record (new_rule (codes "file")) { required = true; value_names = 1 }

-- `-o PATH`, or `--output PATH`
abbrev pub output_rule : Rule
output_rule = record (new_rule (codes "output")) { long = Some (codes "output"); short = Some 111; value_names = 1 }

-- `-e FILE`, or `--exe FILE`
abbrev pub exe_rule : Rule
exe_rule = record (new_rule (codes "exe")) { long = Some (codes "exe"); short = Some 101; value_names = 1 }

-- `ADDRESS`, any number of them
abbrev pub addresses_rule : Rule
addresses_rule = record (new_rule (codes "address")) { action = Some Append; value_names = 1 }

-- `PATH:LINE`, any number of them
abbrev pub lines_rule : Rule
lines_rule = record (new_rule (codes "line")) { action = Some Append; value_names = 1 }

-- `--base ADDRESS`
abbrev pub base_rule : Rule
base_rule = record (new_rule (codes "base")) { long = Some (codes "base"); value_names = 1 }

-- `--section NAME`, or `-j NAME`
abbrev pub section_rule : Rule
section_rule = record (new_rule (codes "section")) { long = Some (codes "section"); short = Some 106; value_names = 1 }

-- `--id`, without a value
abbrev pub switch_rule : Text → Rule
switch_rule id = record (new_rule id) { long = Some id; action = Some SetTrue }

-- the same, or by its letter
abbrev pub letter_rule : Text → (letter : ℕ) → Rule
letter_rule id letter = record (switch_rule id) { short = Some letter }

-- `--id`, with a value
abbrev pub value_rule : Text → Rule
value_rule id = record (new_rule id) { long = Some id; value_names = 1 }

-- the same, any number of times
abbrev pub values_rule : Text → Rule
values_rule id = record (value_rule id) { action = Some Append }

-- which units of versions 2 to 4 are read of a file
abbrev pub with_units_of_file : App → App
with_units_of_file a = with_rule (with_rule a (value_rule (codes "address-size"))) (switch_rule (codes "version-5"))

-- the same of a file, or of a section on standard input
abbrev pub with_units : App → App
with_units a = with_units_of_file (with_rule a (value_rule (codes "older")))

-- units of versions 2 to 4 are copied as those of version 5
abbrev pub with_to_5 : App → App
with_to_5 a =
    with_rule (with_rule (with_rule (with_rule a (switch_rule (codes "to-5"))) (value_rule (codes "older")))
    (value_rule (codes "address-size"))) (value_rule (codes "comp-dir"))

-- whether units after a damaged one are read
abbrev pub with_keep_going : App → App
with_keep_going a = with_rule a (switch_rule (codes "keep-going"))

-- what is printed of each unit beside its directories, files and rows, and where their paths stand
abbrev pub with_shown : App → App
with_shown a =
    with_rule (with_rule (with_rule (with_rule a (switch_rule (codes "header"))) (switch_rule (codes "operations")))
    (switch_rule (codes "paths"))) (value_rule (codes "comp-dir"))

-- which units and sequences are printed, and whether as JSON objects
abbrev pub with_part : App → App
with_part a =
    with_rule (with_rule (with_rule a (switch_rule (codes "json"))) (value_rule (codes "unit"))) (value_rule (codes "range"))

-- which findings are told, and whether as JSON objects
abbrev pub with_rules : App → App
with_rules a =
    with_rule (with_rule (with_rule a (values_rule (codes "rule"))) (values_rule (codes "no-rule"))) (switch_rule (codes "json"))

-- which files are read in place of one without a line table
abbrev pub with_follow : App → App
with_follow a =
    with_rule (with_rule (with_rule a (values_rule (codes "debug-dir"))) (switch_rule (codes "no-follow"))) (switch_rule (codes "verbose"))

-- where the section comes from, in its order
abbrev pub with_input : App → App
with_input a = with_rule (with_rule a big_rule) file_rule

-- which files are read, and whether it is told how far the work is
abbrev pub with_files : App → App
with_files a =
    with_rule (with_rule (with_rule (with_rule (with_rule a big_rule) (value_rule (codes "files-from")))
    (letter_rule (codes "null") 48)) (switch_rule (codes "progress"))) files_rule

-- where the section comes from, and where its string sections do
abbrev pub with_strings : App → App
with_strings a = with_rule (with_rule (with_rule (with_rule a big_rule) line_str_rule) str_rule) file_rule

-- how answers are printed
abbrev pub with_printing : App → App
with_printing a =
    with_rule (with_rule (with_rule a (letter_rule (codes "addresses") 97)) (letter_rule (codes "basenames") 115))
    (switch_rule (codes "json"))

-- what addresses are asked for, and how they are answered
abbrev pub with_settings : App → App
with_settings a =
    with_rule (with_rule (with_rule (with_rule (with_rule (with_rule (with_printing a) (switch_rule (codes "decimal")))
    (switch_rule (codes "hex"))) base_rule) (switch_rule (codes "all"))) (switch_rule (codes "stop"))) section_rule

abbrev pub with_addresses : App → App
with_addresses a =
    with_rule (with_rule (with_rule (with_rule (with_rule (with_rule
    (with_follow (with_rule (with_rule (with_units (with_settings a)) (value_rule (codes "comp-dir")))
    (value_rule (codes "for")))) big_rule) line_str_rule) str_rule)
    exe_rule) file_rule) addresses_rule

-- `addr [-a] [-s] [--json] [--decimal] [--hex] [--base ADDRESS] [--all] [--stop] [-j NAME] [--older SIZE] [--address-size SIZE]
-- [--version-5] [--comp-dir DIR] [--for FILE] [--debug-dir DIR].. [--no-follow] [--verbose] [--big] [--line-str PATH]
-- [--str PATH] FILE [ADDRESS]..`, or with `-e FILE` in place of `FILE`
abbrev pub addr_app : App
addr_app = with_addresses (new_app (codes "addr"))

-- what an index is made of
abbrev pub with_making : App → App
with_making a =
    with_follow (with_rule (with_units_of_file (with_rule (with_keep_going (with_rule a (switch_rule (codes "all"))))
    section_rule)) (value_rule (codes "comp-dir")))

-- `index [--all] [--keep-going] [-j NAME] [--address-size SIZE] [--version-5] [--comp-dir DIR] [--debug-dir DIR]..
-- [--no-follow] [--verbose] -o PATH FILE`, or `index [--verbose] --list FILE`
abbrev pub index_app : App
index_app =
    with_rule (with_rule (with_rule (with_making (new_app (codes "index"))) (switch_rule (codes "list"))) output_rule)
    index_file_rule

-- `dump [--keep-going] [--header] [--operations] [--paths] [--comp-dir DIR] [--json] [--unit OFFSET] [--range LOW-HIGH]
-- [--older SIZE] [--address-size SIZE] [--version-5] [--debug-dir DIR].. [--no-follow] [--verbose] [--big]
-- [--line-str PATH] [--str PATH] [FILE]`
abbrev pub dump_app : App
dump_app = with_strings (with_follow (with_units (with_part (with_shown (with_keep_going (new_app (codes "dump")))))))

-- `check [--keep-going] [--older SIZE] [--address-size SIZE] [--version-5] [--debug-dir DIR].. [--no-follow] [--verbose]
-- [--big] [--files-from PATH] [-0] [--progress] [FILE]..`
abbrev pub check_app : App
check_app = with_files (with_follow (with_units (with_keep_going (new_app (codes "check")))))

-- `find ADDRESS [--op N] [-j NAME] [--older SIZE] [--address-size SIZE] [--version-5] [--debug-dir DIR].. [--no-follow]
-- [--verbose] [--big] [--line-str PATH] [--str PATH] [FILE]`
abbrev pub find_app : App
find_app =
    with_strings (with_follow (with_units
    (with_rule (with_rule (with_rule (new_app (codes "find")) address_rule) op_rule) section_rule)))

-- `copy [--to-5] [--older SIZE] [--address-size SIZE] [--comp-dir DIR] [--big] [FILE]`
abbrev pub copy_app : App
copy_app = with_input (with_to_5 (new_app (codes "copy")))

-- what is told of each source file, of which sequences and units, and where paths stand
abbrev pub with_listing : App → App
with_listing a =
    with_rule (with_keep_going (with_rule (with_rule (with_rule (with_rule (with_rule a (switch_rule (codes "rows")))
    (switch_rule (codes "md5"))) (switch_rule (codes "json"))) (value_rule (codes "unit"))) (switch_rule (codes "all"))))
    (value_rule (codes "comp-dir"))

-- `sources [--rows] [--md5] [--json] [--unit OFFSET] [--all] [--keep-going] [--comp-dir DIR] [--older SIZE]
-- [--address-size SIZE] [--version-5] [--debug-dir DIR].. [--no-follow] [--verbose] [--big] [--line-str PATH] [--str PATH]
-- [FILE]`
abbrev pub sources_app : App
sources_app = with_strings (with_follow (with_units (with_listing (new_app (codes "sources")))))

-- `lint [--keep-going] [--rule NAME].. [--no-rule NAME].. [--json] [--older SIZE] [--address-size SIZE] [--version-5]
-- [--debug-dir DIR].. [--no-follow] [--verbose] [--big] [--line-str PATH] [--str PATH] [FILE]`
abbrev pub lint_app : App
lint_app = with_strings (with_follow (with_units (with_rules (with_keep_going (new_app (codes "lint"))))))

-- which rows answer for a line, and of which units
abbrev pub with_search : App → App
with_search a =
    with_rule (with_rule (with_rule (with_rule a (switch_rule (codes "exact"))) (switch_rule (codes "all")))
    (switch_rule (codes "stop"))) section_rule

-- the file that is read, and the lines that are asked for
abbrev pub with_lines : App → App
with_lines a =
    with_rule (with_rule (with_rule (with_rule (with_rule (with_follow (with_rule (with_units (with_search a))
    (value_rule (codes "comp-dir")))) big_rule) line_str_rule) str_rule) file_rule) lines_rule

-- `lines [--exact] [--all] [--stop] [-j NAME] [--older SIZE] [--address-size SIZE] [--version-5] [--comp-dir DIR]
-- [--debug-dir DIR].. [--no-follow] [--verbose] [--big] [--line-str PATH] [--str PATH] FILE PATH:LINE..`
abbrev pub lines_app : App
lines_app = with_lines (new_app (codes "lines"))

-- `dwline`, which has a version and wants a subcommand
abbrev pub top_app : App
top_app =
    let a = new_app (codes "dwline") in
    record a { top = record a.top { has_version = true; subcommand_required = true } }

-- the whole program
abbrev pub command_line : App
command_line =
    with_subcommand (with_subcommand (with_subcommand (with_subcommand
    (with_subcommand (with_subcommand (with_subcommand (with_subcommand (with_subcommand top_app addr_app.top)
    index_app.top) dump_app.top) check_app.top) find_app.top) copy_app.top) sources_app.top) lines_app.top) lint_app.top

-- a command without global arguments, of which a parse reads this
abbrev pub IsApp : App → Command → Type 0
IsApp a c = (app_of c ≡ a) × ((out-Command c).has_globals ≡ false)

-- an argument that isn't global, of which a parse reads this
abbrev pub IsRule : Rule → Arg → Type 0
IsRule r a = (rule_of a ≡ r) × (a.global ≡ false)
