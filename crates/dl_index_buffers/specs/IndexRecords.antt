-- The numbers that stand for an index, for what it tells of an address, and for what is wrong with bytes that aren't one. b:
-- the bytes of an index.
use Rattle.std.specs.Prelude.{◌≡◌, ℕ, ◌+◌, ◌%◌, ◌≤◌, ◌==◌, ◌||◌, Bool, cond, if◌then◌else◌, List, ◌++◌, length, take, drop}
use Rattle.std.specs.Prelude.{flat_map, Option, Some, None, is_some, option_map}
use Rattle.std.specs.Borrow.{Bor}
use Rattle.dl_index.specs.Layout.{build_id_in, count_in, flags_in}
use Rattle.dl_index.specs.LayoutOf.{IsLayoutOf}
use Rattle.dl_index.specs.Shown.{text_told}
use Rattle.dl_index.specs.Stretches.{Told}
use Rattle.dl_index.specs.declared.fault.IndexFault.{IndexFault}
use Rattle.dl_index.specs.declared.fault.IndexFault.TheVariants.{NotAnIndex, Version, Damaged}
use Rattle.dl_index.specs.declared.fault.IndexPart.{IndexPart}
use Rattle.dl_index.specs.declared.fault.IndexPart.TheVariants as part
use Rattle.dl_index.specs.declared.index.PathTexts.{PathTexts}
use Rattle.dl_index_buffers.specs.declared.record.IndexFaultRecord.{IndexFaultRecord}
use Rattle.dl_index_buffers.specs.declared.record.IndexRecord.{IndexRecord}
use Rattle.dl_index_buffers.specs.declared.record.LocationRecord.{LocationRecord}

-- ---- an index

pub record IsAbout (b : List ℕ) (r : IndexRecord) : Type 0 where
  pub stretches : r.stretches ≡ count_in b
  pub build_id_len : r.build_id_len ≡ length (build_id_in b)
  pub is_all : r.is_all ≡ cond (flags_in b % 2 == 1) 1 0
  pub layout : IsLayoutOf r.layout b

-- ---- what is told of an address

-- the bytes from a place on are this text
pub record IsSpan (b : List ℕ) (place len : ℕ) (text : List ℕ) : Type 0 where
  pub within : place + len ≤ length b
  pub bytes : take len (drop place b) ≡ text

-- the three texts of a record, one after the other
abbrev pub texts_in : List ℕ → LocationRecord → List ℕ
texts_in b r =
    take r.first_len (drop r.first b) ++ take r.second_len (drop r.second b) ++ take r.third_len (drop r.third b)

-- a record tells this: its texts lie in the bytes, and are the path
pub record Tells (b : List ℕ) (t : Told) (r : LocationRecord) : Type 0 where
  pub unit : r.unit ≡ t.unit
  pub line : r.line ≡ t.line
  pub column : r.column ≡ t.column
  pub discriminator : r.discriminator ≡ t.discriminator
  pub is_stmt : r.is_stmt ≡ cond t.is_stmt 1 0
  pub first : r.first + r.first_len ≤ length b
  pub second : r.second + r.second_len ≤ length b
  pub third : r.third + r.third_len ≤ length b
  pub texts : texts_in b r ≡ flat_map (λ (text : List ℕ). text) t.parts
  pub has_path : r.has_path ≡ cond (length t.parts == 0) 0 1
  pub is_found : r.is_found ≡ 1

-- that tells nothing
abbrev pub nothing : LocationRecord
nothing = record {
  unit = 0;
  line = 0;
  column = 0;
  discriminator = 0;
  first = 0;
  first_len = 0;
  second = 0;
  second_len = 0;
  third = 0;
  third_len = 0;
  is_stmt = 0;
  has_path = 0;
  is_found = 0;
}

-- a record answers what is told, or that nothing is
abbrev pub Answers : List ℕ → Option Told → LocationRecord → Type 0
Answers b None r = r ≡ nothing
Answers b (Some t) r = Tells b t r

-- ---- what is wrong with bytes

abbrev pub part_code : IndexPart → ℕ
part_code part.Length = 3
part_code part.Place = 4
part_code part.Sum = 5
part_code part.Order = 6
part_code part.File = 7
part_code part.Text = 8

abbrev pub fault_record : IndexFault → IndexFaultRecord
fault_record NotAnIndex = record { kind = 1; version = 0 }
fault_record (Version n) = record { kind = 2; version = n }
fault_record (Damaged part) = record { kind = part_code part; version = 0 }

-- ---- the way back from a record

abbrev pub told_part : ℕ → Option IndexPart
told_part code =
    if code == 3 then Some part.Length else if code == 4 then Some part.Place else if code == 5 then Some part.Sum else
    if code == 6 then Some part.Order else if code == 7 then Some part.File else if code == 8 then Some part.Text else None

abbrev pub told_fault : IndexFaultRecord → Option IndexFault
told_fault f =
    if f.kind == 1 then Some NotAnIndex else if f.kind == 2 then Some (Version f.version)
    else option_map Damaged (told_part f.kind)

-- ---- inside the crate

-- the bytes of a text, where there is one
abbrev pub bytes_told : Option (Bor (List ℕ)) → List ℕ
bytes_told text = flat_map (λ (t : List ℕ). t) (text_told text)

abbrev pub has_path : PathTexts → Bool
has_path texts = is_some texts.first || is_some texts.second || is_some texts.third
