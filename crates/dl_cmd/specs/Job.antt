-- What the words ask for, as a job.
use Rattle.std.specs.Prelude.{ℕ, Bool, List, Option, Some, map, option_map}
use Rattle.dl_cmd.specs.declared.job.Job.{Job}
use Rattle.dl_cmd.specs.declared.job.Job.TheVariants.{Addr, Dump, Check, Find, Copy, Index, Lines, Lint, Sources}
use Rattle.dl_cmd.specs.declared.job.AddrWords.{AddrWords}
use Rattle.dl_cmd.specs.declared.job.DumpWords.{DumpWords}
use Rattle.dl_cmd.specs.declared.job.FilesWords.{FilesWords}
use Rattle.dl_cmd.specs.declared.job.FollowWords.{FollowWords}
use Rattle.dl_cmd.specs.declared.job.IndexWords.{IndexWords}
use Rattle.dl_cmd.specs.declared.job.LinesWords.{LinesWords}
use Rattle.dl_cmd.specs.declared.job.LintWords.{LintWords}
use Rattle.dl_cmd.specs.declared.job.SourcesWords.{SourcesWords}
use Rattle.dl_cmd.specs.declared.job.UnitWords.{UnitWords}
use Rattle.dl_cmd.specs.declared.job.Words.{Words}

-- the text of a word, by its bytes
abbrev pub Text : Type 0
Text = List ℕ

-- what is said of units of versions 2 to 4, by the texts of its words
pub record UnitTexts : Type 0 where
  pub older : Option Text
  pub address_size : Option Text
  pub version_5 : Bool

-- the words of `dump`, by their texts
pub record DumpTexts : Type 0 where
  pub file : Option Text
  pub big : Bool
  pub units : UnitTexts
  pub line_str : Option Text
  pub strings : Option Text
  pub keep_going : Bool
  pub header : Bool
  pub operations : Bool
  pub paths : Bool
  pub comp_dir : Option Text
  pub json : Bool
  pub unit : Option Text
  pub range : Option Text

-- the words of `lint`, by their texts
pub record LintTexts : Type 0 where
  pub file : Option Text
  pub rules : List Text
  pub no_rules : List Text
  pub json : Bool
  pub keep_going : Bool
  pub big : Bool
  pub units : UnitTexts
  pub line_str : Option Text
  pub strings : Option Text

-- the words of `addr`, by their texts
pub record AddrTexts : Type 0 where
  pub file : Option Text
  pub addresses : List Text
  pub hex : Bool
  pub base : Option Text
  pub with_addresses : Bool
  pub basenames : Bool
  pub json : Bool
  pub all : Bool
  pub stop : Bool
  pub section : Option Text
  pub big : Bool
  pub units : UnitTexts
  pub comp_dir : Option Text
  pub made_of : Option Text
  pub line_str : Option Text
  pub strings : Option Text

-- the words of `index`, by their texts
pub record IndexTexts : Type 0 where
  pub file : Option Text
  pub output : Option Text
  pub list : Bool
  pub all : Bool
  pub keep_going : Bool
  pub section : Option Text
  pub units : UnitTexts
  pub comp_dir : Option Text

-- the words of `sources`, by their texts
pub record SourcesTexts : Type 0 where
  pub file : Option Text
  pub rows : Bool
  pub md5 : Bool
  pub json : Bool
  pub unit : Option Text
  pub all : Bool
  pub keep_going : Bool
  pub big : Bool
  pub units : UnitTexts
  pub comp_dir : Option Text
  pub line_str : Option Text
  pub strings : Option Text

-- the words of `lines`, by their texts
pub record LinesTexts : Type 0 where
  pub file : Option Text
  pub wanted : List Text
  pub exact : Bool
  pub all : Bool
  pub stop : Bool
  pub section : Option Text
  pub big : Bool
  pub units : UnitTexts
  pub comp_dir : Option Text
  pub line_str : Option Text
  pub strings : Option Text

-- where the line table of a file that has none is looked for, by the texts of its words
pub record FollowTexts : Type 0 where
  pub debug_dirs : List Text
  pub no_follow : Bool
  pub verbose : Bool

-- the files of `check` beside the first, by the texts of its words
pub record FilesTexts : Type 0 where
  pub others : List Text
  pub files_from : Option Text
  pub null : Bool
  pub progress : Bool

-- a job, by the texts of its words
pub data Request : Type 0 where
  dump : DumpTexts → Request
  check : (file : Option Text) (big : Bool) (units : UnitTexts) (keep_going : Bool) → Request
  find : (file : Option Text) (big : Bool) (units : UnitTexts) (address : Option Text) (op : ℕ)
      (section line_str strings : Option Text) → Request
  copy : (file : Option Text) (big : Bool) (units : UnitTexts) (to_5 : Bool) (comp_dir : Option Text) → Request
  addr : AddrTexts → Request
  index : IndexTexts → Request
  sources : SourcesTexts → Request
  lines : LinesTexts → Request
  lint : LintTexts → Request

-- all that words say, by their texts
pub record WordTexts : Type 0 where
  pub request : Request
  pub follow : FollowTexts
  pub files : FilesTexts

-- the same job over the file at this path
abbrev pub with_file : Request → (path : Text) → Request
with_file (dump w) path = dump (record w { file = Some path })
with_file (check file big units keep_going) path = check (Some path) big units keep_going
with_file (find file big units address op section line_str strings) path =
    find (Some path) big units address op section line_str strings
with_file (copy file big units to_5 comp_dir) path = copy (Some path) big units to_5 comp_dir
with_file (addr w) path = addr (record w { file = Some path })
with_file (index w) path = index (record w { file = Some path })
with_file (sources w) path = sources (record w { file = Some path })
with_file (lines w) path = lines (record w { file = Some path })
with_file (lint w) path = lint (record w { file = Some path })

abbrev pub unit_words_made : UnitWords → UnitTexts
unit_words_made w = record {
  older = option_map (λ s. s.now) w.older;
  address_size = option_map (λ s. s.now) w.address_size;
  version_5 = w.version_5;
}

abbrev pub dump_words_made : DumpWords → DumpTexts
dump_words_made w = record {
  file = option_map (λ s. s.now) w.file;
  big = w.big;
  units = unit_words_made w.units;
  line_str = option_map (λ s. s.now) w.line_str;
  strings = option_map (λ s. s.now) w.strings;
  keep_going = w.keep_going;
  header = w.header;
  operations = w.operations;
  paths = w.paths;
  comp_dir = option_map (λ s. s.now) w.comp_dir;
  json = w.json;
  unit = option_map (λ s. s.now) w.unit;
  range = option_map (λ s. s.now) w.range;
}

abbrev pub lint_words_made : LintWords → LintTexts
lint_words_made w = record {
  file = option_map (λ s. s.now) w.file;
  rules = map (λ s. s.now) w.rules.items;
  no_rules = map (λ s. s.now) w.no_rules.items;
  json = w.json;
  keep_going = w.keep_going;
  big = w.big;
  units = unit_words_made w.units;
  line_str = option_map (λ s. s.now) w.line_str;
  strings = option_map (λ s. s.now) w.strings;
}

abbrev pub addr_words_made : AddrWords → AddrTexts
addr_words_made w = record {
  file = option_map (λ s. s.now) w.file;
  addresses = map (λ s. s.now) w.addresses.items;
  hex = w.hex;
  base = option_map (λ s. s.now) w.base;
  with_addresses = w.with_addresses;
  basenames = w.basenames;
  json = w.json;
  all = w.all;
  stop = w.stop;
  section = option_map (λ s. s.now) w.section;
  big = w.big;
  units = unit_words_made w.units;
  comp_dir = option_map (λ s. s.now) w.comp_dir;
  made_of = option_map (λ s. s.now) w.made_of;
  line_str = option_map (λ s. s.now) w.line_str;
  strings = option_map (λ s. s.now) w.strings;
}

abbrev pub index_words_made : IndexWords → IndexTexts
index_words_made w = record {
  file = option_map (λ s. s.now) w.file;
  output = option_map (λ s. s.now) w.output;
  list = w.list;
  all = w.all;
  keep_going = w.keep_going;
  section = option_map (λ s. s.now) w.section;
  units = unit_words_made w.units;
  comp_dir = option_map (λ s. s.now) w.comp_dir;
}

abbrev pub sources_words_made : SourcesWords → SourcesTexts
sources_words_made w = record {
  file = option_map (λ s. s.now) w.file;
  rows = w.rows;
  md5 = w.md5;
  json = w.json;
  unit = option_map (λ s. s.now) w.unit;
  all = w.all;
  keep_going = w.keep_going;
  big = w.big;
  units = unit_words_made w.units;
  comp_dir = option_map (λ s. s.now) w.comp_dir;
  line_str = option_map (λ s. s.now) w.line_str;
  strings = option_map (λ s. s.now) w.strings;
}

abbrev pub lines_words_made : LinesWords → LinesTexts
lines_words_made w = record {
  file = option_map (λ s. s.now) w.file;
  wanted = map (λ s. s.now) w.wanted.items;
  exact = w.exact;
  all = w.all;
  stop = w.stop;
  section = option_map (λ s. s.now) w.section;
  big = w.big;
  units = unit_words_made w.units;
  comp_dir = option_map (λ s. s.now) w.comp_dir;
  line_str = option_map (λ s. s.now) w.line_str;
  strings = option_map (λ s. s.now) w.strings;
}

abbrev pub request_made : Job → Request
request_made (Dump w) = dump (dump_words_made w)
request_made (Check file big units keep_going) =
    check (option_map (λ s. s.now) file) big (unit_words_made units) keep_going
request_made (Find file big units address op section line_str strings) =
    find (option_map (λ s. s.now) file) big (unit_words_made units) (option_map (λ s. s.now) address) op
    (option_map (λ s. s.now) section) (option_map (λ s. s.now) line_str) (option_map (λ s. s.now) strings)
request_made (Copy file big units to_5 comp_dir) =
    copy (option_map (λ s. s.now) file) big (unit_words_made units) to_5 (option_map (λ s. s.now) comp_dir)
request_made (Addr w) = addr (addr_words_made w)
request_made (Index w) = index (index_words_made w)
request_made (Sources w) = sources (sources_words_made w)
request_made (Lines w) = lines (lines_words_made w)
request_made (Lint w) = lint (lint_words_made w)

abbrev pub follow_words_made : FollowWords → FollowTexts
follow_words_made w = record {
  debug_dirs = map (λ s. s.now) w.debug_dirs.items;
  no_follow = w.no_follow;
  verbose = w.verbose;
}

abbrev pub files_words_made : FilesWords → FilesTexts
files_words_made w = record {
  others = map (λ s. s.now) w.others.items;
  files_from = option_map (λ s. s.now) w.files_from;
  null = w.null;
  progress = w.progress;
}

abbrev pub words_made : Words → WordTexts
words_made w = record {
  request = request_made w.job;
  follow = follow_words_made w.follow;
  files = files_words_made w.files;
}
