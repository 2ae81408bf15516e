-- What the words ask for, as clap reads them.
use Rattle.std.specs.Prelude.{ℕ, Bool, List, [], ◌∷◌, Option, Some, None, unwrap_or, codes, if◌then◌else◌, false, true}
use Rattle.std.specs.Prelude.{drop, not, option_map}
use Rattle.std.specs.Option.{option_map_or}
use Rattle.std.specs.Str.{bytes_eq}
use Rattle.clap.specs.Words.{Row, all_of, first_of, one_of}
use Rattle.clap.specs.Walk.{byte_or_zero}
use Rattle.clap.specs.declared.error.kind.ErrorKind.{ErrorKind}
use Rattle.clap.specs.declared.error.kind.ErrorKind.TheVariants.{DisplayHelp, DisplayVersion, OutOfMemory}
use Rattle.dl_cmd.specs.Job.{AddrTexts, DumpTexts, FilesTexts, FollowTexts, IndexTexts, LinesTexts, LintTexts, Request, SourcesTexts, Text}
use Rattle.dl_cmd.specs.Job.{UnitTexts, WordTexts, addr, check, copy, dump, find, index, lines, lint, sources}

-- the value of an argument that is a text, texts, a byte or a flag, in the matches of a subcommand
abbrev pub text_of : Text → List Row → Option Text
text_of id rows = first_of id rows

abbrev pub texts_of : Text → List Row → List Text
texts_of id rows = unwrap_or (all_of id rows) []

abbrev pub byte_of : Text → List Row → ℕ
byte_of id rows = option_map_or byte_or_zero (one_of id rows) 0

abbrev pub flag_of : Text → List Row → Bool
flag_of id rows = option_map_or (λ t. bytes_eq t (codes "true")) (first_of id rows) false

-- `addr` without `-e FILE`: the first word is FILE, the others are addresses. With it all words are addresses.
abbrev pub file_and_addresses : (exe first : Option Text) (others : List Text) → Option Text × List Text
file_and_addresses None first others = (first, others)
file_and_addresses (Some exe) None others = (Some exe, others)
file_and_addresses (Some exe) (Some first) others = (Some exe, first ∷ others)

abbrev pub unit_words_of : List Row → UnitTexts
unit_words_of rows = record {
  older = text_of (codes "older") rows;
  address_size = text_of (codes "address-size") rows;
  version_5 = flag_of (codes "version-5") rows;
}

abbrev pub addr_words_of : List Row → AddrTexts
addr_words_of rows = record {
  file = (file_and_addresses (text_of (codes "exe") rows) (text_of (codes "file") rows)
      (texts_of (codes "address") rows)).0;
  addresses = (file_and_addresses (text_of (codes "exe") rows) (text_of (codes "file") rows)
      (texts_of (codes "address") rows)).1;
  hex = not (flag_of (codes "decimal") rows);
  base = text_of (codes "base") rows;
  with_addresses = flag_of (codes "addresses") rows;
  basenames = flag_of (codes "basenames") rows;
  json = flag_of (codes "json") rows;
  all = flag_of (codes "all") rows;
  stop = flag_of (codes "stop") rows;
  section = text_of (codes "section") rows;
  big = flag_of (codes "big") rows;
  units = unit_words_of rows;
  comp_dir = text_of (codes "comp-dir") rows;
  made_of = text_of (codes "for") rows;
  line_str = text_of (codes "line-str") rows;
  strings = text_of (codes "str") rows;
}

abbrev pub index_words_of : List Row → IndexTexts
index_words_of rows = record {
  file = text_of (codes "file") rows;
  output = text_of (codes "output") rows;
  list = flag_of (codes "list") rows;
  all = flag_of (codes "all") rows;
  keep_going = flag_of (codes "keep-going") rows;
  section = text_of (codes "section") rows;
  units = unit_words_of rows;
  comp_dir = text_of (codes "comp-dir") rows;
}

abbrev pub sources_words_of : List Row → SourcesTexts
sources_words_of rows = record {
  file = text_of (codes "file") rows;
  rows = flag_of (codes "rows") rows;
  md5 = flag_of (codes "md5") rows;
  json = flag_of (codes "json") rows;
  unit = text_of (codes "unit") rows;
  all = flag_of (codes "all") rows;
  keep_going = flag_of (codes "keep-going") rows;
  big = flag_of (codes "big") rows;
  units = unit_words_of rows;
  comp_dir = text_of (codes "comp-dir") rows;
  line_str = text_of (codes "line-str") rows;
  strings = text_of (codes "str") rows;
}

abbrev pub lines_words_of : List Row → LinesTexts
lines_words_of rows = record {
  file = text_of (codes "file") rows;
  wanted = texts_of (codes "line") rows;
  exact = flag_of (codes "exact") rows;
  all = flag_of (codes "all") rows;
  stop = flag_of (codes "stop") rows;
  section = text_of (codes "section") rows;
  big = flag_of (codes "big") rows;
  units = unit_words_of rows;
  comp_dir = text_of (codes "comp-dir") rows;
  line_str = text_of (codes "line-str") rows;
  strings = text_of (codes "str") rows;
}

abbrev pub dump_words_of : List Row → DumpTexts
dump_words_of rows = record {
  file = text_of (codes "file") rows;
  big = flag_of (codes "big") rows;
  units = unit_words_of rows;
  line_str = text_of (codes "line-str") rows;
  strings = text_of (codes "str") rows;
  keep_going = flag_of (codes "keep-going") rows;
  header = flag_of (codes "header") rows;
  operations = flag_of (codes "operations") rows;
  paths = flag_of (codes "paths") rows;
  comp_dir = text_of (codes "comp-dir") rows;
  json = flag_of (codes "json") rows;
  unit = text_of (codes "unit") rows;
  range = text_of (codes "range") rows;
}

abbrev pub lint_words_of : List Row → LintTexts
lint_words_of rows = record {
  file = text_of (codes "file") rows;
  rules = texts_of (codes "rule") rows;
  no_rules = texts_of (codes "no-rule") rows;
  json = flag_of (codes "json") rows;
  keep_going = flag_of (codes "keep-going") rows;
  big = flag_of (codes "big") rows;
  units = unit_words_of rows;
  line_str = text_of (codes "line-str") rows;
  strings = text_of (codes "str") rows;
}

-- what the subcommand of this name asks for, with these matches
abbrev pub request_of : Text → List Row → Option Request
request_of name rows =
    let file = text_of (codes "file") rows in
    let big = flag_of (codes "big") rows in
    let units = unit_words_of rows in
    let line_str = text_of (codes "line-str") rows in
    let strings = text_of (codes "str") rows in
    if bytes_eq name (codes "addr") then Some (addr (addr_words_of rows)) else
    if bytes_eq name (codes "index") then Some (index (index_words_of rows)) else
    if bytes_eq name (codes "dump") then Some (dump (dump_words_of rows)) else
    if bytes_eq name (codes "check") then Some (check file big units (flag_of (codes "keep-going") rows)) else
    if bytes_eq name (codes "find")
    then Some (find file big units (text_of (codes "address") rows) (byte_of (codes "op") rows)
    (text_of (codes "section") rows) line_str strings) else
    if bytes_eq name (codes "copy") then Some (copy file big units (flag_of (codes "to-5") rows) (text_of (codes "comp-dir") rows)) else
    if bytes_eq name (codes "sources") then Some (sources (sources_words_of rows)) else
    if bytes_eq name (codes "lines") then Some (lines (lines_words_of rows)) else
    if bytes_eq name (codes "lint") then Some (lint (lint_words_of rows)) else None

-- the same of a reading of the words, which may hold no subcommand
abbrev pub requested : Option (Text × List Row) → Option Request
requested None = None
requested (Some p) = request_of p.0 p.1

-- what is said of files that are read in place of FILE, as it stands
abbrev pub follow_said_of : List Row → FollowTexts
follow_said_of rows = record {
  debug_dirs = texts_of (codes "debug-dir") rows;
  no_follow = flag_of (codes "no-follow") rows;
  verbose = flag_of (codes "verbose") rows;
}

-- the folder for separate debug files where none is said
abbrev pub dirs_or_default : List Text → List Text
dirs_or_default [] = codes "/usr/lib/debug" ∷ []
dirs_or_default (dir ∷ dirs) = dir ∷ dirs

-- what the subcommand of this name does by it: `copy` reads no other file
abbrev pub follow_by : Text → FollowTexts → FollowTexts
follow_by name said =
    if bytes_eq name (codes "copy") then record { debug_dirs = []; no_follow = true; verbose = false }
    else record said { debug_dirs = dirs_or_default said.debug_dirs }

abbrev pub follow_words_of : Text → List Row → FollowTexts
follow_words_of name rows = follow_by name (follow_said_of rows)

-- the files of the subcommand of this name beside the first: `check` alone may have some
abbrev pub files_words_of : Text → List Row → FilesTexts
files_words_of name rows =
    if bytes_eq name (codes "check") then record {
      others = drop 1 (texts_of (codes "file") rows);
      files_from = text_of (codes "files-from") rows;
      null = flag_of (codes "null") rows;
      progress = flag_of (codes "progress") rows;
    } else record { others = []; files_from = None; null = false; progress = false }

-- all that the words say of the subcommand of this name, as it stands: where no folder is said, there is none
abbrev pub said_of : Text → List Row → Option WordTexts
said_of name rows = option_map (λ r. record {
  request = r;
  follow = follow_said_of rows;
  files = files_words_of name rows;
}) (request_of name rows)

-- the same of a reading of the words
abbrev pub said : Option (Text × List Row) → Option WordTexts
said None = None
said (Some p) = said_of p.0 p.1

-- the program's status where the words gave no job
abbrev pub word_status_of : ErrorKind → ℕ
word_status_of DisplayHelp = 0
word_status_of DisplayVersion = 0
word_status_of OutOfMemory = 3
word_status_of _ = 2
