-- What is said of a section on the input, for contracts. No promise rests on this file.
use Rattle.std.specs.Option.{option_copied}
use Rattle.dl_program.specs.declared.over_input.Section.{Section}
use Rattle.dl_program.specs.Asked.{SectionWords}

abbrev pub section_seen : Section → SectionWords
section_seen s =
    record { big = s.big; older = option_copied s.older; line_str = option_copied s.line_str; strings = option_copied s.strings }
