-- What a reader of a compressed section gives.
use Rattle.std.proofs.Common.{◌≡◌, inl, inr, true, ◌==◌, ℕ, ◌+◌, ◌-◌, ◌<◌, ◌≤◌, ◌^◌, min, List, length, take, drop, Option}
use Rattle.std.proofs.Common.{Some, None, option_map, Result, Ok, Err, refl, sym, ap, ◌∙◌, arith}
use Rattle.std.proofs.Common.{length-take}
use Rattle.std.proofs.Common.{nat_lt}
use Rattle.std.proofs.lemmas.Bool.{cases_Bool, eqb-true, leb-true, ltb-false, ltb-true}
use Rattle.std.proofs.lemmas.List.{drop-drop, drop-take}
use Rattle.std.proofs.Math.ListN.{drop_of_length-le}
use Rattle.std.proofs.Math.Logic.{∥∥₁_elim, ∥∥₁_prop}
use Rattle.std.proofs.Props.{props}
use Rattle.std.specs.Io.KnownBytes.{Keeps, ReadConsumes}
use Rattle.std.specs.declared.io.Error.{Error}
use Rattle.dl_elf.specs.declared.compression.CompressionHeader.{CompressionHeader}
use Rattle.dl_elf.specs.declared.file.Range.{Range}
use Rattle.dl_elf.specs.Reader.{RangeFails, known_range}
use Rattle.dl_elf.specs.Sections.{lies_within}
use Rattle.dl_file.specs.Faults.{FailsOnly}
use Rattle.dl_zlib.specs.Zlib.{given}
use Rattle.dl_file.specs.Inflating.{damage, inflated, stream_in}
use Rattle.dl_file.specs.ContentReader.{EndsBy, left_of}
use Rattle.dl_file.specs.InStep.{Follows, NextIs, StandsIn, to_come}
use Rattle.dl_file.specs.declared.read_fault.ReadFault.{ReadFault}
use Rattle.dl_file.specs.declared.read_fault.ReadFault.TheVariants.{Read, DamagedStream}
use Rattle.dl_file.specs.declared.stream_reader.StreamReader.{StreamReader}
use Rattle.dl_file.specs.declared.stream_reader.Told.{Told}

-- ---- where the stream stands

same_rest : (f : List ℕ) (sum at : ℕ) → length f < 2 ^ 64 → at ≡ min sum (2 ^ 64 - 1) → drop at f ≡ drop sum f
same_rest f sum at short is = elim (cases_Bool (nat_lt sum (2 ^ 64))) [
  | inl less ↦ (let small = ltb-true sum (2 ^ 64) less in
      let e : at ≡ sum = omega (arith, is, small) in ap (λ k. drop k f) e)
  | inr more ↦ (let large = ltb-false sum (2 ^ 64) more in
      let past : length f ≤ at = omega (arith, is, large, short) in
      let past_sum : length f ≤ sum = omega (arith, large, short) in
      drop_of_length-le f past ∙ sym (drop_of_length-le f past_sum))
]

-- past the front of a range
pub range_rest : (f : List ℕ) (offset size front at : ℕ) → length f < 2 ^ 64 → at ≡ min (offset + front) (2 ^ 64 - 1)
    → take (size - front) (drop at f) ≡ drop front (take size (drop offset f))
range_rest f offset size front at short is = elim (cases_Bool (nat_lt size front)) [
  | inl less ↦ (let few = ltb-true size front less in
      let none : size - front ≡ 0 = omega (arith, few) in
      let x : List ℕ = drop offset f in
      let past : length (take size x) ≤ front = omega (arith, few, length-take size x) in
      ap (λ k. take k (drop at f)) none ∙ sym (drop_of_length-le (take size x) past))
  | inr more ↦ (let many = ltb-false size front more in
      let e : front + (size - front) ≡ size = omega (arith, many) in
      ap (take (size - front)) (same_rest f (offset + front) at short is ∙ sym (drop-drop front offset f))
      ∙ (sym (drop-take front (size - front) (drop offset f)) ∙ ap (λ k. drop front (take k (drop offset f))) e))
]

-- the stream of a section
stream_known : (header : CompressionHeader) (known : Option (List ℕ)) (f : List ℕ) (range : Range) (at size : ℕ)
    → known ≡ Some f → length f < 2 ^ 64 → at ≡ min (range.offset + header.stream_offset) (2 ^ 64 - 1)
    → size ≡ range.size - header.stream_offset → known_range known at size ≡ Some (stream_in header range f)
stream_known header known f range at size is short place left =
    ap (λ k. known_range k at size) is ∙ ap Some (ap (λ k. take k (drop at f)) left
    ∙ range_rest f range.offset range.size header.stream_offset at short place)

pub begun_bytes : (header : CompressionHeader) (known : Option (List ℕ)) (f : List ℕ) (range : Range)
    (at size left : ℕ) → known ≡ Some f → length f < 2 ^ 64
    → at ≡ min (range.offset + header.stream_offset) (2 ^ 64 - 1) → size ≡ range.size - header.stream_offset
    → left ≡ header.size
    → left_of header (known_range known at size) left ≡ Some (inflated header (stream_in header range f))
begun_bytes header known f range at size left is short place few all =
    let none : header.size - left ≡ 0 = omega (arith, all) in
    ap (λ k. left_of header k left) (stream_known header known f range at size is short place few)
    ∙ ap (λ n. Some (drop n (inflated header (stream_in header range f)))) none

pub begun_damage : (header : CompressionHeader) (known : Option (List ℕ)) (f : List ℕ) (range : Range) (at size : ℕ)
    → known ≡ Some f → length f < 2 ^ 64 → at ≡ min (range.offset + header.stream_offset) (2 ^ 64 - 1)
    → size ≡ range.size - header.stream_offset
    → option_map (damage header range.size) (known_range known at size)
    ≡ Some (damage header range.size (stream_in header range f))
begun_damage header known f range at size is short place few =
    ap (option_map (damage header range.size)) (stream_known header known f range at size is short place few)

-- no more bytes are known of a range than it has
pub range_few : (known : Option (List ℕ)) (at size : ℕ) (b : List ℕ) → known_range known at size ≡ Some b
    → length b ≤ size
range_few None at size b is = absurd (cc is)
range_few (Some f) at size b is =
    let same : take size (drop at f) ≡ b = cc is in
    omega (arith, ap length same, length-take size (drop at f))

-- ---- what a read gives

pub next_known : {S : Type 0} (all_bytes : S → Option (List ℕ)) (source : S) (place : Range) (told : Told)
    (old new : StreamReader S) (result : Result ℕ ReadFault) (buffer : List ℕ)
    → ∥ Follows all_bytes source place told old ∥₁
    → ((b : List ℕ) → StandsIn all_bytes told old b
    → StandsIn all_bytes told new b × NextIs told b old.left new.left result buffer)
    → ∥ ((b : List ℕ) → known_range (all_bytes source) place.offset place.size ≡ Some b
    → NextIs told b old.left new.left result buffer) ∥₁
next_known all_bytes source place told old new result buffer follows next =
    ∥∥₁_elim follows ∥∥₁_prop (λ s. ∣ (λ b is. (next b (s b is)).1) ∣₁)

pub follows_on : {S : Type 0} (all_bytes : S → Option (List ℕ)) (source : S) (place : Range) (told : Told)
    (old new : StreamReader S) (result : Result ℕ ReadFault) (buffer : List ℕ)
    → ∥ Follows all_bytes source place told old ∥₁
    → ((b : List ℕ) → StandsIn all_bytes told old b
    → StandsIn all_bytes told new b × NextIs told b old.left new.left result buffer)
    → ∥ Follows all_bytes source place told new ∥₁
follows_on all_bytes source place told old new result buffer follows next =
    ∥∥₁_elim follows ∥∥₁_prop (λ s. ∣ (λ b is. (next b (s b is)).0) ∣₁)

gives_some : (told : Told) (b : List ℕ) (old new n : ℕ) (buffer : List ℕ) → ∥ NextIs told b old new (Ok n) buffer ∥₁
    → ReadConsumes {E = Error} (left_of told.header (Some b) old) (left_of told.header (Some b) new) (Ok n) buffer
gives_some told b old new n buffer next = (
  ∥∥₁_elim next (hlevel props) (λ x. x.0),
  λ none room. ∥∥₁_elim next (hlevel props) (λ x. (let end : new ≡ 0 = (x.1 none room).1 in
      let all = inflated told.header b in
      let past : length all ≤ told.header.size - new =
      omega (arith, length-take told.header.size (given b), end) in
      drop_of_length-le all past)),
)

pub gives_known : (told : Told) (known : Option (List ℕ)) (old new n : ℕ) (buffer : List ℕ)
    → ∥ ((b : List ℕ) → known ≡ Some b → NextIs told b old new (Ok n) buffer) ∥₁
    → ReadConsumes {E = Error} (left_of told.header known old) (left_of told.header known new) (Ok n) buffer
gives_known told None old new n buffer next = (tt, λ none room. tt)
gives_known told (Some b) old new n buffer next =
    gives_some told b old new n buffer (∥∥₁_elim next ∥∥₁_prop (λ x. ∣ x b refl ∣₁))

pub keeps_known : (told : Told) (known : Option (List ℕ)) (old new : ℕ) (why : ReadFault) (buffer : List ℕ)
    → ∥ ((b : List ℕ) → known ≡ Some b → NextIs told b old new (Err why) buffer) ∥₁
    → Keeps (left_of told.header known old) (left_of told.header known new)
keeps_known told None old new why buffer next = tt
keeps_known told (Some b) old new why buffer next =
    ∥∥₁_elim next (hlevel props) (λ x. ap (to_come told b) (x b refl).0)

-- a read ends or fails as the damage says
pub ends_known : (told : Told) (known left : Option (List ℕ)) (old new n : ℕ) (buffer : List ℕ)
    → ∥ ((b : List ℕ) → known ≡ Some b → NextIs told b old new (Ok n) buffer) ∥₁
    → EndsBy (option_map (damage told.header told.section_size) known) left None (Ok n) buffer
ends_known told None left old new n buffer next = λ none room. tt
ends_known told (Some b) left old new n buffer next = λ none room.
    ∥∥₁_elim next (hlevel props) (λ x. ((x b refl).1 none room).0)

pub fails_known : (told : Told) (known : Option (List ℕ)) (old new : ℕ) (why : ReadFault) (error : Error)
    (buffer : List ℕ)
    → ∥ ((b : List ℕ) → known ≡ Some b → NextIs told b old new (Err why) buffer) ∥₁
    → EndsBy (option_map (damage told.header told.section_size) known) (left_of told.header known new) (Some why)
    (Err error) buffer
fails_known told None old new why error buffer next = (tt, tt)
fails_known told (Some b) old new (Read error') error buffer next = (tt, tt)
fails_known told (Some b) old new (DamagedStream at) error buffer next = (
  ∥∥₁_elim next (hlevel props) (λ x. (x b refl).1.0),
  ∥∥₁_elim next (hlevel props) (λ x. (x b refl).1.1),
)

-- ---- with which errors the reads of a range fail

-- a range that lies in the file doesn't end early
pub not_early : (f : List ℕ) (offset size : ℕ) → lies_within offset size f ≡ true → 0 < size
    → ¬ (length f < offset + size)
not_early f offset size within some early = elim (cases_Bool (size == 0)) [
  | inl none ↦ absurd (omega (arith, some, eqb-true size 0 none))
  | inr more ↦ absurd (omega (arith, early, leb-true (offset + size) (length f) (rw more at within)))
]

-- nor does the stream in it
pub stream_not_early : (f : List ℕ) (offset size front at left : ℕ) → lies_within offset size f ≡ true → length f < 2 ^ 64
    → at ≡ min (offset + front) (2 ^ 64 - 1) → left ≡ size - front → 0 < left → ¬ (length f < at + left)
stream_not_early f offset size front at left within short place few some early =
    not_early f offset size within (omega (arith, few, some)) (omega (arith, early, place, few, some))

pub range_only : {S : Type 0} (all_bytes : S → Option (List ℕ)) (fails_with : S → Error → Type 0) (source : S) (f : List ℕ)
    (offset size : ℕ) → all_bytes source ≡ Some f → length f < 2 ^ 64 → (0 < size → ¬ (length f < offset + size))
    → FailsOnly (RangeFails all_bytes fails_with source offset size) (fails_with source)
range_only all_bytes fails_with source f offset size is short lies error (inl given) = given
range_only all_bytes fails_with source f offset size is short lies error (inr early) =
    absurd (lies early.1 (early.2 f is short))
