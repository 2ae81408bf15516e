-- What is checked of an index, in this order, and which check fails first.
use Rattle.std.specs.Prelude.{◌≡◌, ℕ, ◌+◌, ◌<◌, ◌≤◌, ◌^◌, ◌≢◌, ◌⊎◌, true, List, [], ◌∷◌, ◌++◌, take, drop, length, map, sum, codes}
use Rattle.std.specs.List.{list_all}
use Rattle.dl_num.specs.Fixed.{is_number_size}
use Rattle.dl_crc.specs.Crc32.{crc_32}
use Rattle.dl_index.specs.Layout.{field, version_in, length_in, base_in, count_in, files_in, texts_in, text_bytes_in}
use Rattle.dl_index.specs.Layout.{width_in, build_id_len_in, rounded, sizes, start_in, file_in, text_number_in}
use Rattle.dl_index.specs.Layout.{text_place_in, text_len_in}
use Rattle.dl_index.specs.LookUp.{Rise}
use Rattle.dl_index.specs.declared.fault.IndexFault.{IndexFault}
use Rattle.dl_index.specs.declared.fault.IndexFault.TheVariants.{NotAnIndex, Version, Damaged}
use Rattle.dl_index.specs.declared.fault.IndexPart.{IndexPart}
use Rattle.dl_index.specs.declared.fault.IndexPart.TheVariants.{Length, Place, Sum, Order, File, Text}

abbrev pub HasMagic : List ℕ → Type 0
HasMagic b = take 8 b ≡ codes "dlineidx"

-- the header is there, and of version 1
pub record HasHeader (b : List ℕ) : Type 0 where
  pub magic : HasMagic b
  pub len : 128 ≤ length b
  pub version : version_in b ≡ 1

-- the length is the one that the header says
pub record IsWhole (b : List ℕ) : Type 0 where
  pub header : HasHeader b
  pub len : length_in b ≡ length b

abbrev pub widths : List ℕ → List ℕ
widths b = width_in b 0 ∷ width_in b 1 ∷ width_in b 2 ∷ width_in b 3 ∷ width_in b 4 ∷ []

-- the parts fill the bytes after the header
pub record IsPlaced (b : List ℕ) : Type 0 where
  pub widths : list_all is_number_size (widths b) ≡ true
  pub build_id : build_id_len_in b ≤ 32
  pub end : 128 + sum (map rounded (sizes b)) ≡ length b

-- the header with 0 for its own sum
abbrev pub summed_header : List ℕ → List ℕ
summed_header b = take 76 b ++ (0 ∷ 0 ∷ 0 ∷ 0 ∷ []) ++ take 48 (drop 80 b)

abbrev pub HeaderAgrees : List ℕ → Type 0
HeaderAgrees b = field 76 4 b ≡ crc_32 (summed_header b)

abbrev pub BodyAgrees : List ℕ → Type 0
BodyAgrees b = field 72 4 b ≡ crc_32 (drop 128 b)

-- starts rise from 0 on, and no address is 2^64 or above
pub record IsOrdered (b : List ℕ) : Type 0 where
  pub first : 0 < count_in b → start_in b 0 ≡ 0
  pub rise : Rise (start_in b) (count_in b)
  pub top : (k : ℕ) → k < count_in b → base_in b + start_in b k < 2 ^ 64

-- each stretch has a file that there is, or none
abbrev pub FilesAreThere : List ℕ → Type 0
FilesAreThere b = (k : ℕ) → k < count_in b → file_in b k ≤ files_in b

-- each file has texts that there are, or none
abbrev pub TextsAreThere : List ℕ → Type 0
TextsAreThere b = (f i : ℕ) → f < files_in b → i < 3 → text_number_in b f i ≤ texts_in b

-- each text lies in the bytes of texts
abbrev pub TextsLieWithin : List ℕ → Type 0
TextsLieWithin b = (t : ℕ) → t < texts_in b → text_place_in b t + text_len_in b t ≤ text_bytes_in b

pub record HasTexts (b : List ℕ) : Type 0 where
  pub numbers : TextsAreThere b
  pub within : TextsLieWithin b

-- the parts stand where the header says, whatever its sum is
pub record IsLaidOut (b : List ℕ) : Type 0 where
  pub whole : IsWhole b
  pub placed : IsPlaced b

-- what the header says of the bytes holds
pub record IsHeaded (b : List ℕ) : Type 0 where
  pub whole : IsWhole b
  pub placed : IsPlaced b
  pub sum : HeaderAgrees b

-- well-formed bytes of an index
pub record IsIndex (b : List ℕ) : Type 0 where
  pub headed : IsHeaded b
  pub sum : BodyAgrees b
  pub ordered : IsOrdered b
  pub files : FilesAreThere b
  pub texts : HasTexts b

-- this part is the first one that isn't as it has to be
abbrev pub IsDamaged : List ℕ → IndexPart → Type 0
IsDamaged b Length = HasMagic b × ((length b < 128) ⊎ (HasHeader b × (length_in b ≢ length b)))
IsDamaged b Place = IsWhole b × ¬ (IsPlaced b)
IsDamaged b Sum = IsWhole b × IsPlaced b × ¬ (HeaderAgrees b × BodyAgrees b)
IsDamaged b Order = IsHeaded b × BodyAgrees b × ¬ (IsOrdered b)
IsDamaged b File = IsHeaded b × BodyAgrees b × IsOrdered b × ¬ (FilesAreThere b)
IsDamaged b Text = IsHeaded b × BodyAgrees b × IsOrdered b × FilesAreThere b × ¬ (HasTexts b)

-- the first check that fails
abbrev pub HasFault : List ℕ → IndexFault → Type 0
HasFault b NotAnIndex = ¬ (HasMagic b)
HasFault b (Version n) = HasMagic b × (128 ≤ length b) × (version_in b ≡ n) × (n ≢ 1)
HasFault b (Damaged part) = IsDamaged b part
