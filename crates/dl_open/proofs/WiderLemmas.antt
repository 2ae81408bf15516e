-- The same stops, where more errors may come of opening and reading a file.
use Rattle.std.proofs.Common.{ℕ, Bool, true, false, List, Option, Some, inl, inr}
use Rattle.std.specs.declared.io.Error.{Error}
use Rattle.dl_elf.specs.declared.fault.ElfFault.{ElfFault}
use Rattle.dl_elf.specs.declared.fault.ElfFault.TheVariants.{Read, NoMemory, DamagedStream}
use Rattle.dl_file.specs.LineTable.{Content, Inflated, LineTable, Plain}
use Rattle.dl_head.specs.declared.dialect.Dialect.{Dialect}
use Rattle.dl_sections.specs.declared.fault.RunFault.{RunFault}
use Rattle.dl_sections.specs.declared.fault.RunFault.TheVariants as fault
use Rattle.dl_open.specs.Stops.{IsReadFault, StopsAt, Stream}
use Rattle.dl_open.specs.declared.object_part.Part.{Part}
use Rattle.dl_file.specs.declared.line_file.Wanted.{Wanted}
use Rattle.dl_file.specs.declared.line_file.Wanted.TheVariants.{LineAndLineStrings, LineSection}
use Rattle.dl_open.specs.declared.dialect.FileUnits.{FileUnits}
use Rattle.dl_open.specs.declared.fault.FileFault.{FileFault}
use Rattle.dl_open.specs.declared.fault.FileFault.TheVariants.{Open, Elf}
use Rattle.dl_open.specs.declared.named.Sections.{Sections}
use Rattle.dl_open.specs.declared.named.Sections.TheVariants.{Lines, LinesAndTexts}
use Rattle.dl_open.specs.declared.stop.FileStop.{FileStop}
use Rattle.dl_open.specs.Parts.{PartStops, RefusesPlaces, RefusesSection}
use Rattle.dl_open.specs.Tables.{HasTable, IsNamed, KeepingStops, LooksInto, NamingStops, OpeningStops, Refuses, SectionStops, StringsStop, TableStops}
use Rattle.dl_open.specs.Tables.{file_dialect, stream_of, with_strings}

read_wider : (fails wider : Error → Type 0) (stream : Option Stream) (f : ElfFault) → ((e : Error) → fails e → wider e)
    → IsReadFault fails stream f → IsReadFault wider stream f
read_wider fails wider stream (Read error) more is = more error is
read_wider fails wider stream (DamagedStream name at) more is = is
read_wider fails wider stream other more is = absurd is

pub stops_at_wider : (fails wider : Error → Type 0) (path : List ℕ) (stream : Option Stream) (f : RunFault) (stop : FileStop)
    → ((e : Error) → fails e → wider e) → StopsAt fails path stream f stop → StopsAt wider path stream f stop
stops_at_wider fails wider path stream fault.Read stop more (f, is, at) =
    (f, read_wider fails wider stream f more is, at)
stops_at_wider fails wider path stream fault.NoMemory stop more at = at
stops_at_wider fails wider path stream other stop more at = at

naming_wider : (fails wider : Error → Type 0) (path : List ℕ) (dialect : Dialect) (content : Content) (stop : FileStop)
    → ((e : Error) → fails e → wider e) → NamingStops fails path dialect content stop
    → NamingStops wider path dialect content stop
naming_wider fails wider path dialect content stop more (f, stops, at) =
    (f, stops, stops_at_wider fails wider path (stream_of content) f stop more at)

pub keeping_wider : (refuses : ℕ → Type 0) (fails wider : Error → Type 0) (path : List ℕ) (dialect : Dialect) (part : Part) (content : Content)
    (stop : FileStop) → ((e : Error) → fails e → wider e) → KeepingStops refuses fails path dialect part content stop
    → KeepingStops refuses wider path dialect part content stop
keeping_wider refuses fails wider path dialect part content stop more (inl (f, stops, at)) =
    inl (f, stops, stops_at_wider fails wider path (stream_of content) f stop more at)
keeping_wider refuses fails wider path dialect part content stop more (inr refused) = inr refused

section_wider : (refuses : ℕ → Type 0) (fails wider : Error → Type 0) (path : List ℕ) (content : Content) (stop : FileStop)
    → ((e : Error) → fails e → wider e) → SectionStops refuses fails path content stop → SectionStops refuses wider path content stop
section_wider refuses fails wider path content stop more (f, stops, at) =
    (f, stops, stops_at_wider fails wider path (stream_of content) f stop more at)

pub strings_wider : (refuses : ℕ → Type 0) (fails wider : Error → Type 0) (path : List ℕ) (line_str str : Option Content) (stop : FileStop)
    → ((e : Error) → fails e → wider e) → StringsStop refuses fails path line_str str stop
    → StringsStop refuses wider path line_str str stop
strings_wider refuses fails wider path line_str str stop more (inl (content, is, stops)) =
    inl (content, is, section_wider refuses fails wider path content stop more stops)
strings_wider refuses fails wider path line_str str stop more (inr (content, is, stops, fits)) =
    inr (content, is, section_wider refuses fails wider path content stop more stops, fits)

refuses_weaker : (refuses : ℕ → Type 0) (fails wider : Error → Type 0) (f : List ℕ) (wanted : Wanted) (fault : FileFault)
    → ((e : Error) → fails e → wider e) → Refuses refuses fails f wanted fault → Refuses refuses wider f wanted fault
refuses_weaker refuses fails wider f wanted (Open error) more why = more error why
refuses_weaker refuses fails wider f wanted (Elf (Read error)) more why = more error why
refuses_weaker refuses fails wider f wanted (Elf NoMemory) more why = why
refuses_weaker refuses fails wider f wanted (Elf fault) more why = why
refuses_weaker refuses fails wider f wanted fault more why = why

places_weaker : (refuses : ℕ → Type 0) (fails wider : Error → Type 0) (f : List ℕ) (is_object : Bool) (fault : FileFault)
    → ((e : Error) → fails e → wider e) → RefusesPlaces refuses fails f is_object fault → RefusesPlaces refuses wider f is_object fault
places_weaker refuses fails wider f is_object (Elf (Read error)) more why = more error why
places_weaker refuses fails wider f is_object (Elf NoMemory) more why = why
places_weaker refuses fails wider f is_object (Elf fault) more why = why
places_weaker refuses fails wider f is_object fault more why = why

section_weaker : (fails wider : Error → Type 0) (f : List ℕ) (fault : FileFault)
    → ((e : Error) → fails e → wider e) → RefusesSection fails f fault → RefusesSection wider f fault
section_weaker fails wider f (Elf (Read error)) more why = more error why
section_weaker fails wider f (Elf fault) more why = why
section_weaker fails wider f fault more why = why

pub part_stops_weaker : (refuses : ℕ → Type 0) (fails wider : Error → Type 0) (path : List ℕ) (f : List ℕ) (is_object : Bool) (name : Option (List ℕ))
    (stop : FileStop) → ((e : Error) → fails e → wider e) → PartStops refuses fails path f is_object name stop
    → PartStops refuses wider path f is_object name stop
part_stops_weaker refuses fails wider path f is_object name stop more (inl lacks) = inl lacks
part_stops_weaker refuses fails wider path f is_object name stop more (inr (fault, inl why, at)) =
    inr (fault, inl (places_weaker refuses fails wider f is_object fault more why), at)
part_stops_weaker refuses fails wider path f is_object name stop more (inr (fault, inr (inl why), at)) =
    inr (fault, inr (inl (section_weaker fails wider f fault more why)), at)
part_stops_weaker refuses fails wider path f is_object name stop more (inr (fault, inr (inr why), at)) =
    inr (fault, inr (inr why), at)

opening_stops_weaker : (refuses : ℕ → Type 0) (fails wider : Error → Type 0) (path : List ℕ) (f : List ℕ) (wanted : Wanted) (stop : FileStop)
    → ((e : Error) → fails e → wider e) → OpeningStops refuses fails path f wanted stop → OpeningStops refuses wider path f wanted stop
opening_stops_weaker refuses fails wider path f wanted stop more (fault, why, at) =
    (fault, refuses_weaker refuses fails wider f wanted fault more why, at)

named_wider : (fails wider : Error → Type 0) (dialect : Dialect) (content : Content) (names : Bool)
    → ((e : Error) → fails e → wider e) → IsNamed fails dialect content names → IsNamed wider dialect content names
named_wider fails wider dialect (Plain bytes) names more named = named
named_wider fails wider dialect (Inflated name bytes damage) false more named = named
named_wider fails wider dialect (Inflated name bytes damage) true more (inl named) = inl named
named_wider fails wider dialect (Inflated name bytes damage) true more (inr (f, is)) =
    inr (f, read_wider fails wider (Some (name, damage)) f more is)

looks_wider : (read : FileUnits) (fails wider : Error → Type 0) (sections : Sections) (f : List ℕ) (wanted : Wanted)
    → ((e : Error) → fails e → wider e) → LooksInto read fails sections f wanted → LooksInto read wider sections f wanted
looks_wider read fails wider Lines f wanted more looks = looks
looks_wider read fails wider LinesAndTexts f wanted more (t, has, inl none) = (t, has, inl none)
looks_wider read fails wider LinesAndTexts f wanted more (t, has, inr (names, some, named, is)) =
    (t, has, inr (names, some, named_wider fails wider (file_dialect read t) t.line names more named, is))

pub has_table_wider : (read : FileUnits) (fails wider : Error → Type 0) (sections : Sections) (f : List ℕ) (t : LineTable)
    → ((e : Error) → fails e → wider e) → HasTable read fails sections f t → HasTable read wider sections f t
has_table_wider read fails wider sections f t more (wanted, looks, has) =
    (wanted, looks_wider read fails wider sections f wanted more looks, has)

pub table_stops_weaker : (refuses : ℕ → Type 0) (read : FileUnits) (fails wider : Error → Type 0) (path : List ℕ) (sections : Sections) (f : List ℕ) (stop : FileStop)
    → ((e : Error) → fails e → wider e) → TableStops refuses read fails path sections f stop → TableStops refuses read wider path sections f stop
table_stops_weaker refuses read fails wider path Lines f stop more first =
    opening_stops_weaker refuses fails wider path f LineSection stop more first
table_stops_weaker refuses read fails wider path LinesAndTexts f stop more (inl first) =
    inl (opening_stops_weaker refuses fails wider path f LineAndLineStrings stop more first)
table_stops_weaker refuses read fails wider path LinesAndTexts f stop more (inr (t, has, some, inl naming)) =
    inr (t, has, some, inl (naming_wider fails wider path (file_dialect read t) t.line stop more naming))
table_stops_weaker refuses read fails wider path LinesAndTexts f stop more (inr (t, has, some, inr (names, named, opening))) =
    inr (
      t,
      has,
      some,
      inr (names, named_wider fails wider (file_dialect read t) t.line names more named, opening_stops_weaker refuses fails wider path f (with_strings names) stop more opening),
    )
