-- What the program does for the words of `addr` over an index. b: the bytes of the index. bytes: what was read of the input,
-- which has `left` left. start, now: what the output held at first, and holds now. held: what the file of a path holds,
-- where that is known; fails: the errors that opening and reading it may give.
use Rattle.std.specs.Prelude.{◌≡◌, ◌⊎◌, ℕ, Bool, true, false, not, ◌&&◌, if◌then◌else◌, is_none, List, take, nat_eq, Option, Some}
use Rattle.std.specs.Prelude.{option_map, MatchOption, Result, Ok, Err}
use Rattle.std.specs.Borrow.{Bor}
use Rattle.std.specs.Cmp.Lexicographic.{pointwise}
use Rattle.std.specs.Option.{option_map_or}
use Rattle.std.specs.declared.io.Error.{Error}
use Rattle.dl_cmd.specs.Job.{AddrTexts, Text}
use Rattle.dl_dialogue.specs.declared.dialogue.Answered.{Answered}
use Rattle.dl_dialogue.specs.declared.fault.AnswerFault.{AnswerFault}
use Rattle.dl_elf.specs.Source.{ForBytes}
use Rattle.dl_index.specs.IsIndex.{HasFault, IsHeaded, IsIndex}
use Rattle.dl_index.specs.Layout.{build_id_in}
use Rattle.dl_index.specs.Telling.{find_in}
use Rattle.dl_addr.specs.Location.{Location}
use Rattle.dl_index_file.specs.Reading.{ReadFails}
use Rattle.dl_index_file.specs.declared.fault.OpenFault.{OpenFault}
use Rattle.dl_index_file.specs.declared.fault.OpenFault.TheVariants as index
use Rattle.dl_making.specs.Telling.{location_told}
use Rattle.dl_making.specs.declared.making.Table.{Table}
use Rattle.dl_open.specs.BuildIds.{IsBuildId}
use Rattle.dl_open.specs.declared.fault.FileFault.{FileFault}
use Rattle.dl_open.specs.declared.fault.FileFault.TheVariants.{Open}
use Rattle.dl_locating.specs.Answering.{AnswersAsked, AsksOf, located_by}
use Rattle.dl_locating.specs.Indexing.{RefusesNaming}
use Rattle.dl_program.specs.Work.{StopsBefore}
use Rattle.dl_program.specs.declared.command.Command.{Command}
use Rattle.dl_program.specs.declared.command.Command.TheVariants.{IndexUntil, IndexUntilAround}
use Rattle.dl_locating.specs.declared.located.Located.{Located}
use Rattle.dl_program.specs.declared.stop.Stop.{Stop}
use Rattle.dl_program.specs.declared.stop.Stop.TheVariants.{File, Index, NotUnderstood, OtherFile}

-- which sequences count, how units are read, and where they were compiled was chosen when an index was made
abbrev pub suits_index : AddrTexts → Bool
suits_index w = not w.all && (is_none w.comp_dir && (not w.units.version_5 && is_none w.units.address_size))

-- the command that makes the index from which it is answered: after a damaged unit it goes on, unless the words say that it
-- stops
abbrev pub making : AddrTexts → Table → Command
making w table = if w.stop then IndexUntil table else IndexUntilAround table

-- ---- the file of which an index has to be made

-- the file has a build ID, of which an index has the first 32 bytes
abbrev pub has_id : (own : Option (List ℕ)) (id : List ℕ) → Bool
has_id own id = option_map_or (λ o. pointwise nat_eq (take 32 o) id) own false

-- the build ID of the file can't be told
abbrev pub OwnIdRefused : (fails : Error → Type 0) (f : List ℕ) → FileFault → Type 0
OwnIdRefused fails f (Open error) = fails error
OwnIdRefused fails f fault = RefusesNaming fails f fault

-- the index with this build ID at a path is of the file at the other path; or it is of another one, or that can't be told
abbrev pub IsMadeOf : (held : Text → Option (List ℕ)) (fails : Text → Error → Type 0) → (made_of : Text) → (path : Bor Text)
    → (id : List ℕ) → Result (Unit {0}) Stop → Type 0
IsMadeOf held fails made_of path id result = ForBytes (held made_of) (λ f.
    ((own : Option (List ℕ)) × IsBuildId f own
    × (result ≡ (if has_id own id then Ok tt else Err (OtherFile path))))
    ⊎ ((at : Bor Text) × (fault : FileFault) × (at.now ≡ made_of) × OwnIdRefused (fails made_of) f fault
    × (result ≡ Err (File at fault))))

-- where the words name a file
abbrev pub MadeOf : (held : Text → Option (List ℕ)) (fails : Text → Error → Type 0) → AddrTexts → (path : Bor Text)
    → (id : List ℕ) → Result (Unit {0}) Stop → Type 0
MadeOf held fails w path id result =
    MatchOption w.made_of (result ≡ Ok tt) (λ made_of. IsMadeOf held fails made_of path id result)

-- ---- answers

-- what an index tells of an address
abbrev pub location_in : List ℕ → ℕ → Option Location
location_in b address = option_map location_told (find_in b address)

-- why an index isn't opened
abbrev pub IsNotOpened : (fails : Error → Type 0) (b : List ℕ) → OpenFault → Type 0
IsNotOpened fails b (index.Read error) = fails error
IsNotOpened fails b (index.Index fault) = HasFault b fault

-- the words don't suit an index; it can't be opened; it is of another file; or it answers. Where it is damaged behind its
-- header, nothing is said of the lines
abbrev pub LocatesInIndex : (refuses : ℕ → Type 0) → (held : Text → Option (List ℕ)) (fails : Text → Error → Type 0) (reads : Error → Type 0)
    → (path : Bor Text) → AddrTexts → (b bytes : List ℕ) (left start now : Option (List ℕ)) → Result Located Stop → Type 0
LocatesInIndex refuses held fails reads path w b bytes left start now result =
    ((suits_index w ≡ false) × StopsBefore bytes start now result NotUnderstood)
    ⊎ ((fault : OpenFault) × (suits_index w ≡ true) × IsNotOpened reads b fault
    × StopsBefore bytes start now result (Index path fault))
    ⊎ ((stop : Stop) × (suits_index w ≡ true) × IsHeaded b
    × MadeOf held fails w path (build_id_in b) (Err stop) × StopsBefore bytes start now result stop)
    ⊎ ((suits_index w ≡ true) × IsHeaded b × MadeOf held fails w path (build_id_in b) (Ok tt)
    × (answered : Result Answered AnswerFault) × (result ≡ located_by path answered)
    × (IsIndex b → AnswersAsked refuses w (location_in b) (ReadFails (Some b) reads) (AsksOf b) bytes left start now answered))
