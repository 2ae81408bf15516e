-- What the program does for the words of `addr`. bytes: what was read of the input, which has `left` left. start, now: what
-- the output held at first, and holds now. held: what the file of a path holds, where that is known; fails: the errors
-- that opening and reading it may give.
use Rattle.std.specs.Prelude.{◌≡◌, ◌⊎◌, ℕ, Bool, true, false, List, Option, Result, Err, MatchOption, codes}
use Rattle.std.specs.Borrow.{Bor}
use Rattle.std.specs.Str.{bytes_eq}
use Rattle.std.specs.declared.io.Error.{Error}
use Rattle.dl_cmd.specs.Job.{AddrTexts, Text}
use Rattle.dl_elf.specs.Source.{ForBytes}
use Rattle.dl_index.specs.IsIndex.{HasMagic}
use Rattle.dl_open.specs.declared.fault.FileFault.{FileFault}
use Rattle.dl_locating.specs.Compiled.{IsNotOpen}
use Rattle.dl_locating.specs.Locate.{LocatesInSection, WordsStop, suits_file}
use Rattle.dl_locating.specs.OverElfFile.{LocatesInElfFile, Unanswered}
use Rattle.dl_locating.specs.OverIndex.{LocatesInIndex}
use Rattle.dl_program.specs.Work.{StopsBefore}
use Rattle.dl_locating.specs.declared.located.Located.{Located}
use Rattle.dl_program.specs.declared.stop.Stop.{Stop}
use Rattle.dl_program.specs.declared.stop.Stop.TheVariants.{File, NotUnderstood}

-- over the file of a path: a word is wrong; the file can't be opened, and no address has an answer; it begins as an index
-- does, and is looked into as one; or as an ELF file
abbrev pub LocatesInFile : (refuses : ℕ → Type 0) → (held : Text → Option (List ℕ)) (fails : Text → Error → Type 0) → (path : Bor Text) → AddrTexts
    → (bytes : List ℕ) (left start now : Option (List ℕ)) → Result Located Stop → Type 0
LocatesInFile refuses held fails path w bytes left start now result = ForBytes (held path.now) (λ f.
    ((stop : Stop) × (WordsStop refuses w stop ⊎ ((suits_file w ≡ false) × (stop ≡ NotUnderstood)))
    × StopsBefore bytes start now result stop)
    ⊎ ((fault : FileFault) × (suits_file w ≡ true) × IsNotOpen (fails path.now) fault
    × (result ≡ Err (File path fault)) × Unanswered refuses w bytes left start now)
    ⊎ ((suits_file w ≡ true) × HasMagic f
    × LocatesInIndex refuses held fails (fails path.now) path w f bytes left start now result)
    ⊎ ((suits_file w ≡ true) × (¬ (HasMagic f))
    × LocatesInElfFile refuses (fails path.now) path w f bytes left start now result))

-- by the words; a path `-` stands for a section on the input

abbrev pub LocatesWhere : (refuses : ℕ → Type 0) → (is_input : Bool) → (held : Text → Option (List ℕ)) (fails : Text → Error → Type 0) → Bor Text
    → AddrTexts → (bytes : List ℕ) (left start now : Option (List ℕ)) → Result Located Stop → Type 0
LocatesWhere refuses true held fails path w bytes left start now result = LocatesInSection refuses held fails w bytes left start now result
LocatesWhere refuses false held fails path w bytes left start now result =
    LocatesInFile refuses held fails path w bytes left start now result

abbrev pub LocatesFor : (refuses : ℕ → Type 0) → (held : Text → Option (List ℕ)) (fails : Text → Error → Type 0) → AddrTexts
    → (bytes : List ℕ) (left start now : Option (List ℕ)) → Result Located Stop → Type 0
LocatesFor refuses held fails w bytes left start now result =
    MatchOption w.file (StopsBefore bytes start now result NotUnderstood)
    (λ text. (path : Bor Text) × (path.now ≡ text)
    × LocatesWhere refuses (bytes_eq text (codes "-")) held fails path w bytes left start now result)
