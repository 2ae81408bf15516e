-- The bytes of string sections that were read whole. No promise rests on how this is said.
use Rattle.std.specs.Option.{option_map}
use Rattle.dl_print.specs.ValueText.{Strings}
use Rattle.dl_open.specs.declared.strings.StringSections.{StringSections}

abbrev pub strings_held : StringSections → Strings
strings_held s =
    record {
      line_strings = option_map (λ v. v.items) s.debug_line_str;
      strings =
          option_map (λ v. v.items) s.debug_str;
    }
