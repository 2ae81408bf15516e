-- The name of a section, in the front of the name table's bytes that is read.
use Rattle.std.proofs.Common.{◌≡◌, ℕ, ◌+◌, ◌-◌, ◌<◌, ◌≤◌, true, ◌&&◌, ◌==◌, nat_lt, List, [], ◌∷◌, ◌++◌, length, take}
use Rattle.std.proofs.Common.{drop, min, get_or, slice_index_or, refl, sym, ap, ◌∙◌, arith, lit<, eq-eqb, length-take}
use Rattle.std.proofs.Common.{length-append}
use Rattle.std.proofs.lemmas.List.{take-take, take_more, get_or-take, get_or-append_right, take-append-le, take_all}
use Rattle.std.proofs.lemmas.Bool.{lt-ltb, ltb-true}
use Rattle.std.proofs.lemmas.Slice.Eq.{bytes_eq-Decides}
use Rattle.std.specs.Str.{bytes_eq}
use Rattle.std.proofs.lemmas.Bool.Decides.{Decides-eqb}
use Rattle.dl_num.proofs.LebFrontLemmas.{and_left, and_right}
use Rattle.dl_elf.specs.declared.file.Elf.{Elf}
use Rattle.dl_elf.specs.declared.section.SectionHeader.{SectionHeader}
use Rattle.dl_elf.specs.declared.name.SectionName.{SectionName}
use Rattle.dl_elf.specs.declared.name.SectionName.TheVariants.{DebugLine, ZdebugLine, DebugLineDwo, DebugLineStr}
use Rattle.dl_elf.specs.declared.name.SectionName.TheVariants.{ZdebugLineStr, DebugLineStrDwo, DebugStr, ZdebugStr}
use Rattle.dl_elf.specs.declared.name.SectionName.TheVariants.{DebugStrDwo, BuildIdNote, DebugInfo, ZdebugInfo}
use Rattle.dl_elf.specs.declared.name.SectionName.TheVariants.{DebugAbbrev, ZdebugAbbrev, DebugStrOffsets}
use Rattle.dl_elf.specs.declared.name.SectionName.TheVariants.{ZdebugStrOffsets}
use Rattle.dl_elf.specs.Names.{name_bytes}
use Rattle.dl_elf.specs.Found.{IsNamed, index_of}
use Rattle.dl_elf.specs.Slots.{begins_with_name, name_front, name_at}

-- the longest name has 19 bytes
pub name-short : (name : SectionName) → length (name_bytes name) < 20
name-short DebugLine = lit< tt
name-short ZdebugLine = lit< tt
name-short DebugLineDwo = lit< tt
name-short DebugLineStr = lit< tt
name-short ZdebugLineStr = lit< tt
name-short DebugLineStrDwo = lit< tt
name-short DebugStr = lit< tt
name-short ZdebugStr = lit< tt
name-short DebugStrDwo = lit< tt
name-short BuildIdNote = lit< tt
name-short DebugInfo = lit< tt
name-short ZdebugInfo = lit< tt
name-short DebugAbbrev = lit< tt
name-short ZdebugAbbrev = lit< tt
name-short DebugStrOffsets = lit< tt
name-short ZdebugStrOffsets = lit< tt

pub name_at-index_of : (name : SectionName) → name_at (index_of name) ≡ name
name_at-index_of DebugLine = refl
name_at-index_of ZdebugLine = refl
name_at-index_of DebugLineDwo = refl
name_at-index_of DebugLineStr = refl
name_at-index_of ZdebugLineStr = refl
name_at-index_of DebugLineStrDwo = refl
name_at-index_of DebugStr = refl
name_at-index_of ZdebugStr = refl
name_at-index_of DebugStrDwo = refl
name_at-index_of BuildIdNote = refl
name_at-index_of DebugInfo = refl
name_at-index_of ZdebugInfo = refl
name_at-index_of DebugAbbrev = refl
name_at-index_of ZdebugAbbrev = refl
name_at-index_of DebugStrOffsets = refl
name_at-index_of ZdebugStrOffsets = refl

pub index_of-small : (name : SectionName) → index_of name < 16
index_of-small DebugLine = lit< tt
index_of-small ZdebugLine = lit< tt
index_of-small DebugLineDwo = lit< tt
index_of-small DebugLineStr = lit< tt
index_of-small ZdebugLineStr = lit< tt
index_of-small DebugLineStrDwo = lit< tt
index_of-small DebugStr = lit< tt
index_of-small ZdebugStr = lit< tt
index_of-small DebugStrDwo = lit< tt
index_of-small BuildIdNote = lit< tt
index_of-small DebugInfo = lit< tt
index_of-small ZdebugInfo = lit< tt
index_of-small DebugAbbrev = lit< tt
index_of-small ZdebugAbbrev = lit< tt
index_of-small DebugStrOffsets = lit< tt
index_of-small ZdebugStrOffsets = lit< tt

-- a text that stands at the front of the first room items, and an item after it
after_front : (t b xs : List ℕ) (room x : ℕ) → b ≡ take room xs → length t < length b → take (length t) b ≡ t
    → get_or b (length t) 0 ≡ x
    → (length t < room) × (take (length t + 1) xs ≡ t ++ x ∷ [])
after_front t b xs room x is long front next =
    let few : length b ≤ room = omega (arith, ap length is, length-take room xs) in
    let both : take (length t + 1) b ≡ t ++ x ∷ [] = take_more b (length t) 0 long ∙ rw (front, next) refl in
    let within : take (length t + 1) b ≡ take (length t + 1) xs =
    ap (λ ys. take (length t + 1) ys) is ∙ take-take (length t + 1) room xs (omega (arith, long, few)) in
    (omega (arith, long, few), sym within ∙ both)

front_after : (t b xs : List ℕ) (room x : ℕ) → b ≡ take room xs → length t < room
    → take (length t + 1) xs ≡ t ++ x ∷ []
    → (length t < length b) × (take (length t) b ≡ t) × (get_or b (length t) 0 ≡ x)
front_after t b xs room x is fits all =
    let n : ℕ = length t in
    let here : take (n + 1) b ≡ t ++ x ∷ [] =
    ap (λ ys. take (n + 1) ys) is ∙ (take-take (n + 1) room xs (omega (arith, fits)) ∙ all) in
    let long : n < length b = omega (arith, length-take (n + 1) b, ap length here, length-append t (x ∷ [])) in
    let zero_left : n - n ≡ 0 = omega arith in (
      long,
      sym (take-take n (n + 1) b (omega arith))
          ∙ (ap (λ ys. take n ys) here ∙ (take-append-le n t (x ∷ []) (omega arith) ∙ take_all n t (omega arith))),
      sym (get_or-take (n + 1) b n 0 (omega arith))
          ∙ (ap (λ ys. get_or ys n 0) here
          ∙ (get_or-append_right t (x ∷ []) n n 0 refl (omega arith) ∙ ap (λ k. get_or (x ∷ []) k 0) zero_left)),
    )

-- the name stands at the front, and fits
pub begins-named : (e : Elf) (f : List ℕ) (name : SectionName) (s : SectionHeader) (b : List ℕ)
    → b ≡ name_front e f s 20
    → begins_with_name b name ≡ true → IsNamed e f name s
begins-named e f name s b is begins =
    let t = name_bytes name in
    let at = e.names.offset + s.name_offset in
    let room = min 20 (e.names.size - s.name_offset) in
    let two =
    and_left (nat_lt (length t) (length b) && bytes_eq (take (length t) b) t) (slice_index_or b (length t) 0 == 0)
    begins in
    let long =
    ltb-true (length t) (length b) (and_left (nat_lt (length t) (length b)) (bytes_eq (take (length t) b) t) two) in
    let front =
    (bytes_eq-Decides (take (length t) b) t).0
    (and_right (nat_lt (length t) (length b)) (bytes_eq (take (length t) b) t) two) in
    let next =
    (Decides-eqb (slice_index_or b (length t) 0) 0).0
    (and_right (nat_lt (length t) (length b) && bytes_eq (take (length t) b) t) (slice_index_or b (length t) 0 == 0)
    begins) in
    let told = after_front t b (drop at f) room 0 is long front next in
    let fits : length t < min 20 (e.names.size - s.name_offset) = told.0 in
    record { within = omega (arith, fits); bytes = told.1 }

pub named-begins : (e : Elf) (f : List ℕ) (name : SectionName) (s : SectionHeader) (b : List ℕ)
    → b ≡ name_front e f s 20
    → IsNamed e f name s → begins_with_name b name ≡ true
named-begins e f name s b is named =
    let t = name_bytes name in
    let at = e.names.offset + s.name_offset in
    let room = min 20 (e.names.size - s.name_offset) in
    let small : length (name_bytes name) < 20 = name-short name in
    let within : s.name_offset + length (name_bytes name) < e.names.size = named.within in
    let fits : length (name_bytes name) < min 20 (e.names.size - s.name_offset) = omega (arith, small, within) in
    let told = front_after t b (drop at f) room 0 is fits named.bytes in
    rw (
      lt-ltb (length t) (length b) told.0,
      (bytes_eq-Decides (take (length t) b) t).1 told.1,
      eq-eqb (slice_index_or b (length t) 0) 0 told.2,
    ) refl
