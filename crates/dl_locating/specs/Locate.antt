-- What the program does for the words of `addr`. bytes: what was read of the input, which has `left` left. start, now:
-- what the output held at first, and holds now. held: what the file of a path holds, where that is known; fails: the
-- errors that opening and reading it may give. refuses: for how many items memory is refused.
use Rattle.std.specs.Prelude.{◌≡◌, ◌≢◌, ◌⊎◌, ℕ, Bool, true, false, not, ◌&&◌, List, [], ◌∷◌, ◌++◌, length, map}
use Rattle.std.specs.Prelude.{if◌then◌else◌, option_to_list, Option, Some, None, is_none, is_some, Result}
use Rattle.std.specs.List.{list_all}
use Rattle.std.specs.Option.{option_copied, option_map_or}
use Rattle.std.specs.declared.io.Error.{Error}
use Rattle.dl_memory.specs.Refusals.{IsRefused}
use Rattle.dl_cmd.specs.Address.{address_by}
use Rattle.dl_cmd.specs.Job.{AddrTexts, Text, addr}
use Rattle.dl_sections.specs.declared.fault.RunFault.TheVariants as fault
use Rattle.dl_sections.specs.declared.around.Survey.{Survey}
use Rattle.dl_addr.specs.Code.{is_code}
use Rattle.dl_dirs.specs.Compilation.{directory_by}
use Rattle.dl_look.specs.declared.asked.Asked.{Asked}
use Rattle.dl_addr.specs.declared.question.Question.{Question}
use Rattle.dl_addr.specs.declared.style.AnswerForm.{AnswerForm}
use Rattle.dl_addr.specs.declared.style.AnswerForm.TheVariants.{Location, AddressAndLocation, Json}
use Rattle.dl_program.specs.declared.command.Command.{Command}
use Rattle.dl_program.specs.declared.command.Command.TheVariants.{Addr, AddrAround}
use Rattle.dl_locating.specs.declared.located.Located.{Located}
use Rattle.dl_program.specs.declared.stop.Stop.{Stop}
use Rattle.dl_program.specs.declared.stop.Stop.TheVariants.{NotAddress, NotUnderstood, Run}
use Rattle.dl_program.specs.Asked.{section_of}
use Rattle.dl_program.specs.Damages.{unheard}
use Rattle.dl_locating.specs.Located.{located}
use Rattle.dl_program.specs.Units.{is_size}
use Rattle.dl_program.specs.Work.{OnInput, StopsBefore}

-- ---- the words

-- what is subtracted from each address; None where the word of `--base` is no address
abbrev pub base_in : AddrTexts → Option ℕ
base_in w = option_map_or (address_by w.hex) w.base (Some 0)

-- what the words ask for, in order
abbrev pub asked_in_words : AddrTexts → List Asked
asked_in_words w = map (λ text. record { address = address_by w.hex text }) w.addresses

-- each of them is an address
abbrev pub are_addresses : AddrTexts → Bool
are_addresses w = list_all (λ text. is_some (address_by w.hex text)) w.addresses

-- what the line of an address says; a JSON object has the address, whether or not it is asked for
abbrev pub form_in : AddrTexts → AnswerForm
form_in w = if w.json then Json else if w.with_addresses then AddressAndLocation else Location

-- the compilation directory that they say, of each unit
abbrev pub said_directory : AddrTexts → (unit : ℕ) → Option (List ℕ)
said_directory w unit = w.comp_dir

-- these addresses are asked for, where there is code as `live` says, of units that were compiled where `compiled` says
pub record Asks (w : AddrTexts) (these : List Asked) (live : ℕ → Bool) (compiled : ℕ → Option (List ℕ)) (q : Question)
    : Type 0 where
  pub asked : q.asked.now ≡ these
  pub understood : are_addresses w ≡ true
  pub base : base_in w ≡ Some q.base
  pub code : (a : ℕ) → is_code (option_copied q.code) a ≡ live a
  pub directories : (n : ℕ) → directory_by q.directories n ≡ compiled n
  pub form : q.style.form ≡ form_in w
  pub basenames : q.style.basenames ≡ w.basenames
  pub section : option_copied q.style.section ≡ w.section

-- the command that answers it: after a damaged unit it goes on, unless the words say that it stops
abbrev pub asking : AddrTexts → Question → Command
asking w q = if w.stop then Addr q else AddrAround q

-- the first of the words that is no address, that of `--base` before the others
abbrev pub first_other : (hex : Bool) → List Text → Option Text
first_other hex [] = None
first_other hex (word ∷ words) = if is_some (address_by hex word) then first_other hex words else Some word

abbrev pub address_words : AddrTexts → List Text
address_words w = option_to_list w.base ++ w.addresses

-- it names the first of these words that is no address
abbrev pub IsFirstOther : (hex : Bool) → List Text → Stop → Type 0
IsFirstOther hex words (NotAddress word) = first_other hex words ≡ Some word.now
IsFirstOther hex words other = ⊥

-- it does, or memory is refused for these words
abbrev pub AddressesStop : (refuses : ℕ → Type 0) → (hex : Bool) → List Text → Stop → Type 0
AddressesStop refuses hex words (Run fault.NoMemory) = (words ≢ []) × IsRefused refuses (length words)
AddressesStop refuses hex words stop = IsFirstOther hex words stop

-- a word isn't an address, or memory is refused for the addresses
abbrev pub WordsStop : (refuses : ℕ → Type 0) → AddrTexts → Stop → Type 0
WordsStop refuses w (NotAddress word) = first_other w.hex (address_words w) ≡ Some word.now
WordsStop refuses w (Run fault.NoMemory) = (w.addresses ≢ []) × IsRefused refuses (length w.addresses)
WordsStop refuses w other = ⊥

-- ---- the section on the input, which wants an address among the words

-- of a section on the input no section of an object file is named, nor a file of which it is, and nothing said of the units
-- of a file
abbrev pub suits_input : AddrTexts → Bool
suits_input w =
    is_none w.section && (is_none w.made_of
    && (not w.units.version_5 && (is_none w.units.address_size && is_size w.units.older)))

abbrev pub IsNoQuestion : AddrTexts → Type 0
IsNoQuestion w = (suits_input w ≡ false) ⊎ (w.addresses ≡ [])

abbrev pub LocatesInSection : (refuses : ℕ → Type 0) → (held : Text → Option (List ℕ)) (fails : Text → Error → Type 0) → AddrTexts
    → (bytes : List ℕ) (left start now : Option (List ℕ)) → Result Located Stop → Type 0
LocatesInSection refuses held fails w bytes left start now result =
    ((stop : Stop) × (WordsStop refuses w stop ⊎ (IsNoQuestion w × (stop ≡ NotUnderstood)))
    × StopsBefore bytes start now result stop)
    ⊎ ((q : Question) × (answer : Result Survey Stop) × (IsNoQuestion w → ⊥) × Asks w (asked_in_words w) (λ a. true)
    (said_directory w) q
    × OnInput refuses held fails (section_of (addr w)) (asking w q) bytes left start now unheard answer
    × (result ≡ located answer None))

-- ---- the ELF file of a path. f: its bytes

-- beside a file nothing is said of a section on the input
abbrev pub suits_file : AddrTexts → Bool
suits_file w =
    not w.big && (is_none w.line_str && (is_none w.strings && (is_none w.units.older && is_size w.units.address_size)))
