-- What is kept of directories. No promise rests on how this is said.
use Rattle.std.specs.Prelude.{◌≡◌, Bool, true, false, ℕ, ◌+◌, ◌<◌, ◌≤◌, List, ◌++◌, length, drop, take, slice_get, Option, Some, option_map}
use Rattle.std.specs.BTreeMap.{get}
use Rattle.std.specs.Option.{option_and_then, option_map_or}
use Rattle.std.specs.Ordering.{nat_cmp}
use Rattle.dl_num.specs.declared.fixed.Order.{Order}
use Rattle.dl_info.specs.Entries.{EntryData, TextData, here, str, line_str, index}
use Rattle.dl_dirs.specs.declared.extent.Extent.{Extent}
use Rattle.dl_dirs.specs.declared.places.Kept.{Kept}
use Rattle.dl_dirs.specs.declared.places.Place.{Place}
use Rattle.dl_dirs.specs.declared.places.Place.TheVariants as at
use Rattle.dl_dirs.specs.declared.places.Places.{Places}
use Rattle.dl_dirs.specs.declared.places.Section.{Section}
use Rattle.dl_dirs.specs.declared.places.Section.TheVariants as section
use Rattle.dl_dirs.specs.Texts.{TextsData, text_of}
use Rattle.dl_dirs.specs.Units.{entries, saying}

-- ---- extents

-- the bytes of an extent
abbrev pub bytes_of : List ℕ → Extent → List ℕ
bytes_of b e = take e.len (drop e.start b)

-- bytes are added after those before
abbrev pub Grows : List ℕ → List ℕ → Type 0
Grows old new = (more : List ℕ) × (new ≡ old ++ more)

abbrev pub IsIn : List ℕ → Extent → Type 0
IsIn b e = e.start + e.len ≤ length b

abbrev pub IsExtent : List ℕ → Extent → List ℕ → Type 0
IsExtent b e text = (bytes_of b e ≡ text) × IsIn b e

-- ---- places

abbrev pub place_text : List ℕ → Place → TextData
place_text b (at.Here e) = here (bytes_of b e)
place_text b (at.Str n) = str n
place_text b (at.LineStr n) = line_str n
place_text b (at.Index n) = index n

abbrev pub HasPlace : List ℕ → Place → Type 0
HasPlace b (at.Here e) = IsIn b e
HasPlace b (at.Str n) = Unit {0}
HasPlace b (at.LineStr n) = Unit {0}
HasPlace b (at.Index n) = Unit {0}

abbrev pub IsPlaced : List ℕ → Place → TextData → Type 0
IsPlaced b p text = (place_text b p ≡ text) × HasPlace b p

-- the text, or its offset, stands in the section
abbrev pub is_in : Section → Place → Bool
is_in section.Str (at.Str n) = true
is_in section.Str (at.Index n) = true
is_in section.LineStr (at.LineStr n) = true
is_in section.StrOffsets (at.Index n) = true
is_in s other = false

-- the entry of which this is kept, as far as its directory
abbrev pub kept_entry : List ℕ → Kept → EntryData
kept_entry b k = record {
  format = k.format;
  stmt_list = Some k.offset;
  comp_dir = Some (place_text b k.place);
  str_offsets_base = k.base;
}

-- the text of its directory, where that is known
abbrev pub text_kept : Order → TextsData → List ℕ → Kept → Option (List ℕ)
text_kept order t b k = text_of order t (kept_entry b k) (place_text b k.place)

abbrev pub kept_at : Places → ℕ → Option Kept
kept_at p offset = option_and_then (slice_get p.entries.items) (get nat_cmp p.numbers offset)

-- the text of the directory of the line table at an offset
abbrev pub directory_kept : TextsData → Places → (offset : ℕ) → Option (List ℕ)
directory_kept t p offset = option_and_then (text_kept p.order t p.bytes.items) (kept_at p offset)

-- of these entries is kept which of them says the directory of each line table
pub record Holds (p : Places) (es : List EntryData) : Type 0 where
  pub value : (offset : ℕ) → option_map (kept_entry p.bytes.items) (kept_at p offset) ≡ saying offset es
  pub numbered : (offset i : ℕ) → get nat_cmp p.numbers offset ≡ Some i → i < length p.entries.items
  pub kept : (i : ℕ) (k : Kept) → slice_get p.entries.items i ≡ Some k
      → (get nat_cmp p.numbers k.offset ≡ Some i) × HasPlace p.bytes.items k.place

-- ---- how much is kept

-- how many bytes a text has that stands in its entry
abbrev pub text_size : TextData → ℕ
text_size (here w) = length w
text_size other = 0

-- and that of an entry's directory
abbrev pub said_size : EntryData → ℕ
said_size e = option_map_or text_size e.comp_dir 0

-- no more entries are kept than so many, and no more bytes of texts
pub record Fits (p : Places) (most : ℕ) : Type 0 where
  pub entries : length p.entries.items ≤ most
  pub bytes : length p.bytes.items ≤ most

-- these are the places of the directories that the units of b say
abbrev pub AreOf : Places → Order → (abbreviations : List ℕ) → List ℕ → Type 0
AreOf p order abbreviations b = (p.order ≡ order) × Holds p (entries order abbreviations b)
