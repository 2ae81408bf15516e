-- The names of the sections that are looked for. DWARF 5, sections 6.2, 7.3.2, 7.5 and 7.26.
use Rattle.std.specs.Prelude.{ℕ, Bool, true, false, List, codes}
use Rattle.dl_elf.specs.declared.name.SectionName.{SectionName}
use Rattle.dl_elf.specs.declared.name.SectionName.TheVariants.{DebugLine, ZdebugLine, DebugLineDwo, DebugLineStr}
use Rattle.dl_elf.specs.declared.name.SectionName.TheVariants.{ZdebugLineStr, DebugLineStrDwo, DebugStr, ZdebugStr}
use Rattle.dl_elf.specs.declared.name.SectionName.TheVariants.{DebugStrDwo, BuildIdNote, DebugInfo, ZdebugInfo}
use Rattle.dl_elf.specs.declared.name.SectionName.TheVariants.{DebugAbbrev, ZdebugAbbrev, DebugStrOffsets}
use Rattle.dl_elf.specs.declared.name.SectionName.TheVariants.{ZdebugStrOffsets}

abbrev pub name_bytes : SectionName → List ℕ
name_bytes DebugLine = codes ".debug_line"
name_bytes ZdebugLine = codes ".zdebug_line"
name_bytes DebugLineDwo = codes ".debug_line.dwo"
name_bytes DebugLineStr = codes ".debug_line_str"
name_bytes ZdebugLineStr = codes ".zdebug_line_str"
name_bytes DebugLineStrDwo = codes ".debug_line_str.dwo"
name_bytes DebugStr = codes ".debug_str"
name_bytes ZdebugStr = codes ".zdebug_str"
name_bytes DebugStrDwo = codes ".debug_str.dwo"
name_bytes BuildIdNote = codes ".note.gnu.build-id"
name_bytes DebugInfo = codes ".debug_info"
name_bytes ZdebugInfo = codes ".zdebug_info"
name_bytes DebugAbbrev = codes ".debug_abbrev"
name_bytes ZdebugAbbrev = codes ".zdebug_abbrev"
name_bytes DebugStrOffsets = codes ".debug_str_offsets"
name_bytes ZdebugStrOffsets = codes ".zdebug_str_offsets"

-- the name begins `.zdebug_`: the section is compressed, and no flag says so
abbrev pub is_zdebug : SectionName → Bool
is_zdebug ZdebugLine = true
is_zdebug ZdebugLineStr = true
is_zdebug ZdebugStr = true
is_zdebug DebugLine = false
is_zdebug DebugLineDwo = false
is_zdebug DebugLineStr = false
is_zdebug DebugLineStrDwo = false
is_zdebug DebugStr = false
is_zdebug DebugStrDwo = false
is_zdebug BuildIdNote = false
is_zdebug DebugInfo = false
is_zdebug ZdebugInfo = true
is_zdebug DebugAbbrev = false
is_zdebug ZdebugAbbrev = true
is_zdebug DebugStrOffsets = false
is_zdebug ZdebugStrOffsets = true
