-- What the program does for the words of `addr`.
use Rattle.std.proofs.Common.{◌≡◌, ◌==◌, ◌⊎◌, inl, inr, ℕ, ◌||◌, Bool, true, false, List, [], length, map, Option, Some, None}
use Rattle.std.proofs.Common.{Result}
use Rattle.std.proofs.Common.{Err, refl, sym, ap, ◌∙◌, subst}
use Rattle.std.specs.Option.{option_copied}
use Rattle.std.specs.declared.io.Error.{Error}
use Rattle.std.proofs.KnownBytes.{Keeps-refl}
use Rattle.dl_file.specs.declared.code.Code.{Code}
use Rattle.dl_look.specs.declared.code_ranges.CodeRanges.{CodeRanges}
use Rattle.dl_cmd.specs.Address.{address_by}
use Rattle.dl_cmd.specs.Job.{AddrTexts, Text, addr}
use Rattle.dl_sections.specs.declared.around.Survey.{Survey}
use Rattle.dl_addr.specs.Code.{is_code}
use Rattle.dl_dirs.specs.Compilation.{directory_by}
use Rattle.dl_dirs.specs.declared.compilation.CompilationDirectories.{CompilationDirectories}
use Rattle.dl_look.specs.declared.asked.Asked.{Asked}
use Rattle.dl_addr.specs.declared.question.Question.{Question}
use Rattle.dl_open.specs.Code.{AreLive, live_by}
use Rattle.dl_program.specs.declared.command.Command.{Command}
use Rattle.dl_locating.specs.declared.located.Located.{Located}
use Rattle.dl_program.specs.declared.stop.Stop.{Stop}
use Rattle.dl_program.specs.declared.stop.Stop.TheVariants.{NotUnderstood}
use Rattle.dl_locating.specs.Locate.{Asks, IsNoQuestion, LocatesInSection, WordsStop, asked_in_words, form_in}
use Rattle.dl_program.specs.Asked.{SectionWords, section_of}
use Rattle.dl_locating.specs.Locate.{asking, said_directory, suits_input}
use Rattle.dl_program.specs.Damages.{unheard}
use Rattle.dl_locating.specs.Understood.{IsUnderstood}
use Rattle.dl_locating.specs.declared.addr_words.AskedWords.{AskedWords}
use Rattle.dl_locating.specs.Located.{located}
use Rattle.dl_program.specs.Work.{OnInput}

-- ---- where a file has code

-- by ranges that say where there is code
pub is_code-live : (ranges : Option CodeRanges) (code : Code) → AreLive ranges code → (a : ℕ)
    → is_code ranges a ≡ live_by false code a
is_code-live None code live a = live a
is_code-live (Some ranges) code live a = live a

-- all count where all are asked for
pub all_live : (all : Bool) (code : Code) (a : ℕ) → (all || live_by false code a) ≡ live_by all code a
all_live true code a = refl
all_live false code a = refl

-- ---- what is asked

-- of each address, wherever there is code
pub asks_all : (w : AddrTexts) (u : AskedWords) (these slice : List Asked) (said : CompilationDirectories) (q : Question)
    → IsUnderstood w u
    → q.asked.now ≡ slice → slice ≡ these → q.base ≡ u.base → q.code ≡ None → q.directories ≡ said
    → ((n : ℕ) → directory_by said n ≡ w.comp_dir) → q.style.form ≡ form_in w
    → q.style.basenames ≡ w.basenames → option_copied q.style.section ≡ w.section
    → Asks w these (λ a. true) (said_directory w) q
asks_all w u these slice said q i asked sliced own code directories comp_dir form basenames section = record {
  asked = asked ∙ sliced;
  understood = i.understood;
  base = i.base ∙ ap Some (sym own);
  code = λ a. ap (λ (c : Option _). is_code (option_copied c) a) code;
  directories = λ n. ap (λ (d : CompilationDirectories). directory_by d n) directories ∙ comp_dir n;
  form = form;
  basenames = basenames;
  section = section;
}

-- ---- a section on the input

pub section_stops : (refuses : ℕ → Type 0) (held : Text → Option (List ℕ)) (fails : Text → Error → Type 0) (w : AddrTexts) (left start : Option (List ℕ))
    (result : Result Located Stop) (stop : Stop) → result ≡ Err stop → WordsStop refuses w stop
    ⊎ (IsNoQuestion w × (stop ≡ NotUnderstood))
    → LocatesInSection refuses held fails w [] left start start result
section_stops refuses held fails w left start result stop is why = inl (stop, why, (is, refl, Keeps-refl start))

pub some_asked : (asked : List Asked) → (length asked == 0) ≡ false → asked ≡ [] → ⊥
some_asked asked some none =
    let g : ◌≡◌ {A = Bool} true false = sym (ap (λ (l : List Asked). length l == 0) none) ∙ some in absurd cc

is_question : (w : AddrTexts) (asked : List Asked) → suits_input w ≡ true → asked ≡ asked_in_words w
    → (length asked == 0) ≡ false → IsNoQuestion w → ⊥
is_question w asked suits words some (inl not) = let g : ◌≡◌ {A = Bool} true false = sym suits ∙ not in absurd cc
is_question w asked suits words some (inr none) =
    some_asked asked some
    (words ∙ ap (map (λ text. record { address = address_by w.hex text })) none)

pub section_done : (refuses : ℕ → Type 0) (held : Text → Option (List ℕ)) (fails : Text → Error → Type 0) (w : AddrTexts) (asked : List Asked) (q : Question)
    (bytes : List ℕ) (left start now : Option (List ℕ)) (section : SectionWords) (command : Command)
    (answer : Result Survey Stop) (result : Result Located Stop)
    → suits_input w ≡ true → asked ≡ asked_in_words w → (length asked == 0) ≡ false
    → Asks w asked (λ a. true) (said_directory w) q → section ≡ section_of (addr w) → command ≡ asking w q
    → OnInput refuses held fails section command bytes left start now unheard answer → result ≡ located answer None
    → LocatesInSection refuses held fails w bytes left start now result
section_done refuses held fails w asked q bytes left start now section command answer result suits words some asks said commanded does
    is =
    inr (
      q,
      answer,
      is_question w asked suits words some,
      subst (λ (these : List Asked). Asks w these (λ a. true) (said_directory w) q) words asks,
      subst (λ (s : SectionWords). OnInput refuses held fails s (asking w q) bytes left start now unheard answer) said
          (subst (λ (c : Command). OnInput refuses held fails section c bytes left start now unheard answer) commanded does),
      is,
    )
