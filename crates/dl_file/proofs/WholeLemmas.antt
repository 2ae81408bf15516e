-- All bytes of a section that is inflated.
use Rattle.std.proofs.Common.{◌≡◌, ◌∙◌, ℕ, ◌+◌, ◌≤◌, true, ◌==◌, List, ◌++◌, length, take, drop, Option, Some, None, Result, refl, sym, ap}
use Rattle.std.proofs.Common.{inl, inr, subst, arith, append_assoc, length-drop, length-take}
use Rattle.std.proofs.lemmas.Bool.{cases_Bool, eqb-true, leb-true}
use Rattle.std.specs.Global.{Vec}
use Rattle.std.specs.Io.KnownBytes.{Consumes}
use Rattle.dl_elf.specs.Sections.{lies_within, range_within, section_bytes, section_range}
use Rattle.dl_elf.specs.declared.compression.CompressionHeader.{CompressionHeader}
use Rattle.dl_elf.specs.declared.fault.ElfFault.{ElfFault}
use Rattle.dl_elf.specs.declared.name.SectionName.{SectionName}
use Rattle.dl_elf.specs.declared.section.SectionHeader.{SectionHeader}
use Rattle.dl_file.specs.declared.content_reader.Readable.{Readable}
use Rattle.dl_file.specs.Answering.{IsHad}
use Rattle.dl_file.specs.Inflating.{damage, inflated}
use Rattle.dl_file.specs.LineTable.{Content, Inflated, content_by, content_of, held_bytes}

-- one more piece was read of bytes that are known
pub more_read : (bytes before rest piece : List ℕ) (old new : Option (List ℕ)) → old ≡ Some rest → Consumes old new piece
    → bytes ≡ before ++ rest
    → (after : List ℕ) × (new ≡ Some after) × (bytes ≡ (before ++ piece) ++ after)
more_read bytes before rest piece old None known consumes split =
    absurd (subst (λ (o : Option (List ℕ)). Consumes o None piece) known consumes)
more_read bytes before rest piece old (Some after) known consumes split =
    let next : rest ≡ piece ++ after =
    subst (λ (o : Option (List ℕ)). Consumes o (Some after) piece) known consumes in (
      after,
      refl,
      split ∙ (ap (λ l. before ++ l) next ∙ simp append_assoc),
    )

-- of a section with these bytes
abbrev stream_had : SectionName → CompressionHeader → (size : ℕ) → List ℕ → Content
stream_had name header size b =
    Inflated name (inflated header (drop header.stream_offset b)) (damage header size (drop header.stream_offset b))

pub whole_had : (name told : SectionName) (header : CompressionHeader) (size : ℕ) (b section : List ℕ)
    (result : Result (Vec ℕ) ElfFault) → told ≡ name → b ≡ section
    → IsHad (held_bytes (Inflated told (inflated header (drop header.stream_offset b))
    (damage header size (drop header.stream_offset b)))) result
    → IsHad (held_bytes (Inflated name (inflated header (drop header.stream_offset section))
    (damage header size (drop header.stream_offset section)))) result
whole_had name told header size b section result named same had =
    subst (λ (n : SectionName). IsHad (held_bytes (stream_had n header size section)) result) named
    (subst (λ (l : List ℕ). IsHad (held_bytes (stream_had told header size l)) result) same had)

range_size : (f : List ℕ) (offset size : ℕ) → lies_within offset size f ≡ true → length (take size (drop offset f)) ≡ size
range_size f offset size within = elim (cases_Bool (size == 0)) [
  | inl none ↦ omega (arith, length-take size (drop offset f), eqb-true size 0 none)
  | inr more ↦ omega (
    arith,
    length-take size (drop offset f),
    length-drop offset f,
    leb-true (offset + size) (length f) (rw more at within),
  )
]

-- a section has no more bytes than the file
pub section_few : (f : List ℕ) (s : SectionHeader) → length (section_bytes s f) ≤ length f
section_few f s =
    let range = section_range s in
    omega (arith, length-take range.size (drop range.offset f), length-drop range.offset f)

-- the bytes of a section that lies in the file
pub inflated_had : (f : List ℕ) (r : Readable) (header : CompressionHeader) (section : List ℕ)
    (result : Result (Vec ℕ) ElfFault) → r.stream ≡ Some header
    → range_within (section_range r.section.header) f ≡ true → section ≡ section_bytes r.section.header f
    → IsHad (held_bytes (Inflated r.section.name (inflated header (drop header.stream_offset section))
    (damage header (length section) (drop header.stream_offset section)))) result
    → IsHad (held_bytes (content_of f r)) result
inflated_had f r header section result compressed within is had =
    let s = r.section in
    let range = section_range s.header in
    let size : length (section_bytes s.header f) ≡ range.size = range_size f range.offset range.size within in
    subst (λ (o : Option CompressionHeader). IsHad (held_bytes (content_by f s o)) result) (sym compressed)
    (subst (λ (n : ℕ). IsHad (held_bytes (stream_had s.name header n (section_bytes s.header f))) result) size
    (subst (λ (l : List ℕ). IsHad (held_bytes (stream_had s.name header (length l) l)) result) is had))
