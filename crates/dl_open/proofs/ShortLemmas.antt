-- A directory that the units of a file say has no more bytes than the sections by which it is known.
use Rattle.std.proofs.Common.{◌≤◌, ℕ, Bool, true, false, cond, List, length, Option, Some, None, arith}
use Rattle.std.specs.Prelude.{nat_le, option_and_then}
use Rattle.std.specs.Option.{option_map_or}
use Rattle.dl_dirs.specs.Laws.{section_len}
use Rattle.dl_dirs.specs.Units.{directory}
use Rattle.dl_dirs.proofs.ShortLemmas.{directory_short}
use Rattle.dl_file.specs.InfoTable.{InfoTable}
use Rattle.dl_file.specs.LineTable.{Content, Inflated, Plain}
use Rattle.dl_sections.specs.declared.options.TheConstants.{SECTION_LIMIT}
use Rattle.dl_open.specs.declared.strings.TheConstants.{STRINGS_LIMIT}
use Rattle.dl_open.specs.Directories.{bytes_had, info_size, said_in, section_size, texts_had, within}
use Rattle.dl_open.specs.Tables.{bytes_of}

within_short : (limit : ℕ) (b : List ℕ) → section_len (within limit b) ≤ length b
within_short limit b = by (nat_le (length b) limit) where
  by : (fits : Bool) → section_len (cond fits (Some b) None) ≤ length b
  by true = omega arith
  by false = omega arith

-- the bytes that can be had of a section are no more than it has
had_short : (limit : ℕ) (c : Content) → section_len (bytes_had limit c) ≤ length (bytes_of c)
had_short limit (Plain b) = within_short limit b
had_short limit (Inflated name b None) = within_short limit b
had_short limit (Inflated name b (Some at)) = omega arith

section_short : (limit : ℕ) (section : Option Content) → section_len (option_and_then (bytes_had limit) section) ≤ section_size section
section_short limit None = omega arith
section_short limit (Some c) = had_short limit c

pub directories_short : (t : InfoTable) (offset : ℕ) → option_map_or length (said_in t offset) 0 ≤ info_size t
directories_short t offset =
    by (bytes_had SECTION_LIMIT t.info) (bytes_had STRINGS_LIMIT t.abbreviations) (had_short SECTION_LIMIT t.info) where
      of : (info abbreviations : List ℕ) → length info ≤ length (bytes_of t.info)
          → option_map_or length (directory t.order abbreviations (texts_had t) info offset) 0 ≤ info_size t
      of info abbreviations few =
          omega (
            arith,
            few,
            directory_short t.order abbreviations (texts_had t) info offset,
            section_short STRINGS_LIMIT t.str,
            section_short STRINGS_LIMIT t.line_str,
          )

      by : (info abbreviations : Option (List ℕ)) → section_len info ≤ length (bytes_of t.info)
          → option_map_or length (option_and_then (λ info. option_and_then (λ abbreviations.
          directory t.order abbreviations (texts_had t) info offset) abbreviations) info) 0 ≤ info_size t
      by None abbreviations few = omega arith
      by (Some info) None few = omega arith
      by (Some info) (Some abbreviations) few = of info abbreviations few
