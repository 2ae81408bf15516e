-- What the steps of a look-up find. No promise rests on this file.
use Rattle.std.specs.Prelude.{◌≡◌, ℕ, ◌-◌, ◌<◌, ◌≤◌, ◌⊎◌, List, Option, IfSome, MatchOption}
use Rattle.std.specs.Option.{option_map}
use Rattle.std.specs.IoError.{error_kind}
use Rattle.std.specs.declared.io.ErrorKind.TheVariants.{UnexpectedEof}
use Rattle.dl_elf.specs.declared.file.Range.{Range}
use Rattle.dl_index.specs.Layout.{base_in, count_in, start_in, line_in, column_in, discriminator_in, is_stmt_in}
use Rattle.dl_index.specs.LookUp.{FindsLast}
use Rattle.dl_index.specs.Telling.{text_in, texts_of, told_in}
use Rattle.dl_index_file.specs.Shown.{text_shown, texts_shown, shown, Lies, TextsLie}
use Rattle.dl_index_file.specs.declared.fault.TextFault.{TextFault}
use Rattle.dl_index_file.specs.declared.fault.TextFault.TheVariants.{Read, NoMemory}
use Rattle.dl_index_file.specs.declared.index.FileFound.{FileFound}
use Rattle.dl_index_file.specs.declared.index.TextPlaces.{TextPlaces}
use Rattle.dl_index_file.specs.declared.index.StretchNumbers.{StretchNumbers}

-- the last stretch that doesn't begin above an address; none below the base, or where there is none
abbrev pub IsLastStart : List ℕ → ℕ → Option ℕ → Type 0
IsLastStart b a last =
    MatchOption last ((count_in b ≡ 0) ⊎ (a < base_in b))
    (λ k. (base_in b ≤ a) × FindsLast (start_in b) (count_in b) (a - base_in b) k)

pub record StretchTells (b : List ℕ) (k : ℕ) (found : Option FileFound) : Type 0 where
  pub told : option_map (shown b) found ≡ told_in b k
  pub lie : IfSome found (λ f. TextsLie b f.texts)

pub record TextIs (b : List ℕ) (n : ℕ) (text : Option (Option Range)) : Type 0 where
  pub told : option_map (text_shown b) text ≡ text_in b n
  pub lie : IfSome text (Lies b)

pub record TextsAre (b : List ℕ) (f : ℕ) (texts : Option TextPlaces) : Type 0 where
  pub told : option_map (texts_shown b) texts ≡ texts_of b f
  pub lie : IfSome texts (TextsLie b)

pub record HasNumbers (b : List ℕ) (k : ℕ) (n : StretchNumbers) : Type 0 where
  pub line : n.line ≡ line_in b k
  pub column : n.column ≡ column_in b k
  pub discriminator : n.discriminator ≡ discriminator_in b k
  pub is_stmt : n.is_stmt ≡ is_stmt_in b k

-- a read failed, since the file has ended
abbrev pub EndsBefore : TextFault → Type 0
EndsBefore (Read error) = error_kind error ≡ UnexpectedEof
EndsBefore NoMemory = ⊥
