-- The bytes of a section, piece by piece, and what the entries of relocations in them make.
use Rattle.std.proofs.Common.{◌≡◌, ℕ, zero, suc, ◌+◌, ◌-◌, ◌*◌, ◌<◌, ◌≤◌, true, List, ◌++◌, take, drop}
use Rattle.std.proofs.Common.{length, min, option_map, Some, arith, rules, ap, ◌∙◌, refl, sym, inl, inr, length-append, length-drop, length-take}
use Rattle.std.specs.Int.{div_ceil}
use Rattle.std.proofs.lemmas.Bool.{cases_lt}
use Rattle.std.proofs.lemmas.List.{drop-drop, drop-take, length-take-le, take-append-le, take_all}
use Rattle.std.proofs.Math.Nat.{div-le_self, mul_assoc}
use Rattle.std.proofs.Math.Seq.{take-add, take-take}
use Rattle.dl_elf.specs.declared.file.Range.{Range}
use Rattle.dl_elf.specs.declared.section.SectionHeader.{SectionHeader}
use Rattle.dl_elf.specs.Elf.{bytes_at}
use Rattle.dl_elf.specs.Sections.{lies_within, range_within, section_bytes, section_range}
use Rattle.dl_reloc.specs.declared.target.Class.{Class}
use Rattle.dl_reloc.specs.declared.target.Class.TheVariants.{Bits32, Bits64}
use Rattle.dl_reloc.specs.declared.target.AddendPlace.{AddendPlace}
use Rattle.dl_reloc.specs.declared.target.AddendPlace.TheVariants.{Rela, Rel}
use Rattle.dl_reloc.specs.declared.target.Target.{Target}
use Rattle.dl_reloc.proofs.CountLemmas.{values_counted}
use Rattle.dl_reloc.specs.Entries.{AreWholeSymbols, count, entry_size, symbol_size, symbol_values}
use Rattle.dl_reloc.specs.Relocated.{AreWhole}
use Rattle.dl_file.specs.Relocations.{bytes_in, values_in}

-- ---- pieces of bytes

-- `len` bytes from `start` on are a piece of a range, at its end a shorter one
pub piece_of : (offset size start at len : ℕ) (f part rest : List ℕ) → at ≡ offset + start
    → len ≡ min (size - start) 24576 → start ≤ size → length part ≡ len → part ≡ take (length part) (drop at f)
    → take len (part ++ rest) ≡ take 24576 (drop start (bytes_at offset size f))
piece_of offset size start at len f part rest place sized within long is =
    let ys = drop start (drop offset f) in
    let left = size - start in
    let split : size ≡ start + left = omega (arith, within) in
    let moved : drop at f ≡ ys = ap (λ k. drop k f) place ∙ sym (drop-drop start offset f) in
    let tail : drop start (take size (drop offset f)) ≡ take left ys =
    ap (λ k. drop start (take k (drop offset f))) split ∙ drop-take start left (drop offset f) in
    let read : take len (part ++ rest) ≡ take len ys =
    ap (λ k. take k (part ++ rest)) (sym long)
    ∙ (take-append-le (length part) part rest (omega arith)
    ∙ (take_all (length part) part (omega arith) ∙ (is ∙ (ap (λ k. take k (drop at f)) long ∙ ap (take len) moved)))) in
    let most = length-take left ys in
    let whole : take 24576 (take left ys) ≡ take len ys = elim (cases_lt left 24576) [
      | inl less ↦ (let same : len ≡ left = omega (arith, sized, less) in
          take_all 24576 (take left ys) (omega (arith, most, less)) ∙ ap (λ k. take k ys) (sym same))
      | inr more ↦ (let same : len ≡ 24576 = omega (arith, sized, more) in
          take-take 24576 left ys more ∙ ap (λ k. take k ys) (sym same))
    ] in
    read ∙ (sym whole ∙ sym (ap (take 24576) tail))

-- one piece more
next_piece : (i : ℕ) (all : List ℕ)
    → take (i * 24576) all ++ take 24576 (drop (i * 24576) all) ≡ take ((i + 1) * 24576) all
next_piece i all =
    let more : (i + 1) * 24576 ≡ i * 24576 + 24576 = omega arith in
    sym (ap (λ n. take n all) more ∙ take-add (i * 24576) 24576 all)

-- one piece more of a section
pub section_piece : (r : Range) (s : SectionHeader) (f : List ℕ) (i : ℕ) (piece : List ℕ) → r ≡ section_range s
    → piece ≡ take 24576 (drop (i * 24576) (bytes_at r.offset r.size f))
    → take (i * 24576) (section_bytes s f) ++ piece ≡ take ((i + 1) * 24576) (section_bytes s f)
section_piece r s f i piece of is =
    ap (λ p. take (i * 24576) (section_bytes s f) ++ p)
    (is ∙ ap (λ (q : Range). take 24576 (drop (i * 24576) (bytes_at q.offset q.size f))) of)
    ∙ next_piece i (section_bytes s f)

range_long : (offset size : ℕ) (f : List ℕ) → lies_within offset size f ≡ true → length (bytes_at offset size f) ≡ size
range_long offset zero f within = refl
range_long offset (suc size) f within =
    let lies : offset + suc size ≤ length f = search (rules, within) in
    omega (arith, lies, length-take (suc size) (drop offset f), length-drop offset f)

-- the pieces before the last lie in the section
pub pieces_within : (r : Range) (s : SectionHeader) (f : List ℕ) (i : ℕ) → r ≡ section_range s
    → range_within (section_range s) f ≡ true → i < div_ceil r.size 24576 → i * 24576 ≤ length (section_bytes s f)
pieces_within r s f i of within less =
    let range = section_range s in
    let long = range_long range.offset range.size f within in
    let same : r.size ≡ range.size = ap (λ (q : Range). q.size) of in
    omega (arith, long, same, less)

-- the pieces up to the end are all bytes
pieces_whole : (r : Range) (s : SectionHeader) (f : List ℕ) (i : ℕ) → r ≡ section_range s
    → range_within (section_range s) f ≡ true → div_ceil r.size 24576 ≤ i
    → take (i * 24576) (section_bytes s f) ≡ section_bytes s f
pieces_whole r s f i of within past =
    let range = section_range s in
    let long = range_long range.offset range.size f within in
    let same : r.size ≡ range.size = ap (λ (q : Range). q.size) of in
    take_all (i * 24576) (section_bytes s f) (omega (arith, long, same, past))

-- all of them
pub bytes_of_pieces : (r : Range) (s : SectionHeader) (f : List ℕ) (i : ℕ) (bytes : List ℕ) → r ≡ section_range s
    → range_within (section_range s) f ≡ true → div_ceil r.size 24576 ≤ i
    → bytes ≡ take (i * 24576) (section_bytes s f) → Some bytes ≡ bytes_in f s
bytes_of_pieces r s f i bytes of within past is =
    let lies : bytes_in f s ≡ Some (section_bytes s f) = rw within refl in
    ap Some (is ∙ pieces_whole r s f i of within past) ∙ sym lies

-- ---- pieces of entries and symbols

-- a piece has whole entries
entries_of_piece : (class : Class) (form : AddendPlace) → (n : ℕ) × (24576 ≡ n * entry_size class form)
entries_of_piece Bits32 Rel = (3072, refl)
entries_of_piece Bits32 Rela = (2048, refl)
entries_of_piece Bits64 Rel = (1536, refl)
entries_of_piece Bits64 Rela = (1024, refl)

-- and so have several
pub whole_pieces : (t : Target) (form : AddendPlace) (i : ℕ) (all : List ℕ) → i * 24576 ≤ length all
    → AreWhole t form (take (i * 24576) all)
whole_pieces t form i all within =
    let piece = entries_of_piece t.class form in
    let size = entry_size t.class form in (
      i * piece.0,
      length-take-le (i * 24576) all within ∙ (ap (λ k. i * k) piece.1 ∙ sym (mul_assoc i piece.0 size)),
    )

-- symbols likewise
symbols_of_piece : (class : Class) → (n : ℕ) × (24576 ≡ n * symbol_size class)
symbols_of_piece Bits32 = (1536, refl)
symbols_of_piece Bits64 = (1024, refl)

pub whole_symbols : (class : Class) (i : ℕ) (all : List ℕ) → i * 24576 ≤ length all
    → AreWholeSymbols class (take (i * 24576) all)
whole_symbols class i all within =
    let piece = symbols_of_piece class in
    let size = symbol_size class in (
      i * piece.0,
      length-take-le (i * 24576) all within ∙ (ap (λ k. i * k) piece.1 ∙ sym (mul_assoc i piece.0 size)),
    )

-- the values of the symbols in all pieces
pub values_of_section : (r : Range) (s : SectionHeader) (f : List ℕ) (t : Target) (i : ℕ) (values : List ℕ)
    → r ≡ section_range s → range_within (section_range s) f ≡ true → div_ceil r.size 24576 ≤ i
    → values ≡ symbol_values t.class t.order (take (i * 24576) (section_bytes s f))
    → Some values ≡ values_in t f s
values_of_section r s f t i values of within past is =
    let lies : bytes_in f s ≡ Some (section_bytes s f) = rw within refl in
    ap Some (is ∙ ap (symbol_values t.class t.order) (pieces_whole r s f i of within past))
    ∙ sym (ap (option_map (symbol_values t.class t.order)) lies)

-- ---- how many there may be

-- nor have pieces of a section
pub pieces_most : (s : SectionHeader) (f bytes piece : List ℕ) (m n : ℕ) → bytes ≡ take m (section_bytes s f)
    → take m (section_bytes s f) ++ piece ≡ take n (section_bytes s f) → length bytes + length piece ≤ length f
pieces_most s f bytes piece m n are next =
    let all = section_bytes s f in
    let range = section_range s in
    omega (
      arith,
      ap length are,
      ap length next,
      length-append (take m all) piece,
      length-take n all,
      length-take range.size (drop range.offset f),
      length-drop range.offset f,
    )

-- nor are there more symbols in them
pub values_most : (t : Target) (s : SectionHeader) (f values piece : List ℕ) (m n : ℕ)
    → values ≡ symbol_values t.class t.order (take m (section_bytes s f))
    → take m (section_bytes s f) ++ piece ≡ take n (section_bytes s f)
    → length values + count (symbol_size t.class) piece ≤ length f
values_most t s f values piece m n are next =
    let before = take m (section_bytes s f) in
    let size = symbol_size t.class in
    omega (
      arith,
      ap length are,
      values_counted t.class t.order before (count size before),
      div-le_self (length before) size,
      div-le_self (length piece) size,
      pieces_most s f before piece m n refl next,
    )
