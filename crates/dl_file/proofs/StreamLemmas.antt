-- Bytes of a stream: what was fed, given, and what it came to.
use Rattle.std.proofs.Common.{◌≡◌, ◌⊎◌, inl, inr, ℕ, ◌+◌, ◌-◌, ◌*◌, ◌/◌, ◌<◌, ◌≤◌, ◌^◌, ◌==◌, ◌||◌, nat_lt, Bool}
use Rattle.std.proofs.Common.{true, false}
use Rattle.std.proofs.Common.{List, [], ◌++◌, length, take, drop, Some, None, Ok, Err, refl, sym, ap, ◌∙◌}
use Rattle.std.proofs.Common.{Result, IfErr, min, subst, zero, suc, ◌∷◌, length-drop, arith, append_assoc}
use Rattle.std.proofs.Common.{length-append, length-take}
use Rattle.std.proofs.lemmas.Bool.{eq-eqb, eqb-true, ltb-true, ltb-false, le-ltb, lt-ltb, cases_Bool}
use Rattle.std.proofs.Math.Bool.{or-true, or-false}
use Rattle.std.proofs.lemmas.List.{append-nil, drop-take, drop-drop, take-append-drop, take-append-le, take-take}
use Rattle.std.proofs.lemmas.List.{take_rest, length-take-le, drop-append-le}
use Rattle.std.proofs.Math.ListN.{drop_of_length-le}
use Rattle.std.proofs.Math.Seq.{drop-append-add}
use Rattle.dl_zlib.specs.Bits.{Stop, Short, Wrong, bits_of}
use Rattle.dl_zlib.specs.Zlib.{given, output_of, unzlib}
use Rattle.dl_zlib.specs.Feeding.{BeginsTo, EndsWith, IsCutShort, IsDamagedAt, IsDamagedFrom}
use Rattle.dl_elf.specs.declared.compression.CompressionHeader.{CompressionHeader}
use Rattle.dl_file.specs.Inflating.{damage}
use Rattle.dl_file.specs.InStep.{ComesTo, GivesNext, PieceIs, StopsBy}
use Rattle.dl_file.specs.declared.read_fault.ReadFault.{ReadFault}
use Rattle.dl_file.specs.declared.read_fault.ReadFault.TheVariants.{Read, DamagedStream}
use Rattle.dl_file.specs.declared.stream_reader.Told.{Told}
use Rattle.dl_file.specs.declared.stream_reader.Progress.{Progress}
use Rattle.dl_file.specs.declared.stream_reader.Progress.TheVariants.{Onward, Ended}

-- ---- what was taken

past_size : (size gone given waiting left : ℕ) → (left ≡ 0) ⊎ (waiting ≤ given) → given < waiting
    → left ≡ size - (gone + given) → size < gone + waiting
past_size size gone given waiting left (inl none) less is = omega arith
past_size size gone given waiting left (inr all) less is = absurd (omega arith)

pub taken_over : (size gone given waiting left : ℕ) (over : Bool) → (left ≡ 0) ⊎ (waiting ≤ given) → given ≤ waiting
    → left ≡ size - (gone + given) → over ≡ nat_lt size (gone + given)
    → (over || nat_lt given waiting) ≡ nat_lt size (gone + waiting)
taken_over size gone given waiting left over all within is of = elim (cases_Bool (nat_lt given waiting)) [
  | inl more ↦ (let less : given < waiting = ltb-true given waiting more in
      let past : size < gone + waiting = past_size size gone given waiting left all less is in
      rw (more, lt-ltb size (gone + waiting) past) (or-true over))
  | inr none ↦ (let same : given ≡ waiting = omega (arith, ltb-false given waiting none) in
      rw none (or-false over ∙ (of ∙ ap (λ n. nat_lt size (gone + n)) same)))
]

pub taken_left : (size gone given waiting left : ℕ) → (left ≡ 0) ⊎ (waiting ≤ given) → given ≤ waiting
    → left ≡ size - (gone + given) → left ≡ size - (gone + waiting)
taken_left size gone given waiting left (inl none) within is = omega arith
taken_left size gone given waiting left (inr all) within is = omega arith

-- ---- what was fed

pub more_fed : (b bytes piece rest : List ℕ) (fed used filled : ℕ) → fed + used ≤ filled
    → b ≡ bytes ++ (take (filled - fed) (drop fed piece) ++ rest)
    → b ≡ (bytes ++ take used (take (filled - fed) (drop fed piece)))
    ++ (take (filled - (fed + used)) (drop (fed + used) piece) ++ rest)
more_fed b bytes piece rest fed used filled within is =
    let all = take (filled - fed) (drop fed piece) in
    let n : filled - fed ≡ used + (filled - (fed + used)) = omega arith in
    let after : drop used all ≡ take (filled - (fed + used)) (drop (fed + used) piece) =
    ap (λ k. drop used (take k (drop fed piece))) n
    ∙ (drop-take used (filled - (fed + used)) (drop fed piece)
    ∙ ap (take (filled - (fed + used))) (drop-drop used fed piece)) in
    let two : all ≡ take used all ++ take (filled - (fed + used)) (drop (fed + used) piece) =
    sym (take-append-drop used all) ∙ ap (λ xs. take used all ++ xs) after in
    is ∙ (ap (λ xs. bytes ++ (xs ++ rest)) two ∙ simp append_assoc)

-- ---- what is given

-- n bytes of the output that waits
pub next_given : (out gone waiting after : List ℕ) (given n size left : ℕ) → out ≡ (gone ++ waiting) ++ after
    → given + n ≤ length waiting → left ≡ size - (length gone + given) → n ≤ left
    → drop (size - left) (take size out) ≡ take n (drop given waiting) ++ drop (size - (left - n)) (take size out)
next_given out gone waiting after given zero size left is within of few =
    let e : left ≡ left - 0 = omega arith in ap (λ k. drop (size - k) (take size out)) e
next_given out gone waiting after given (suc m) size left is within of few =
    let n : ℕ = suc m in
    let t : ℕ = length gone + given in
    let all : List ℕ = take size out in
    let here : size - left ≡ t = omega (arith, of, few) in
    let there : size - (left - n) ≡ t + n = omega (arith, of, few) in
    let room : n ≤ size - t = omega (arith, of, few) in
    let out_size : t + (size - t) ≡ size = omega (arith, of, few) in
    let dropped : drop t all ≡ take (size - t) (drop t out) =
    ap (λ k. drop t (take k out)) (sym out_size) ∙ drop-take t (size - t) out in
    let two : drop t all ≡ take n (drop t all) ++ drop (t + n) all =
    sym (take-append-drop n (drop t all)) ∙ ap (λ xs. take n (drop t all) ++ xs) (drop-drop n t all) in
    let front : take n (drop t all) ≡ take n (drop t out) =
    ap (take n) dropped ∙ take-take n (size - t) (drop t out) room in
    let whole : t ≤ length (gone ++ waiting) = omega (arith, length-append gone waiting, within) in
    let rest : drop t out ≡ drop given waiting ++ after =
    ap (drop t) is ∙ (drop-append-le t (gone ++ waiting) after whole
    ∙ ap (λ xs. xs ++ after) (drop-append-add gone waiting given)) in
    let few_given : n ≤ length (drop given waiting) = omega (arith, length-drop given waiting, within) in
    let given_front : take n (drop t out) ≡ take n (drop given waiting) =
    ap (take n) rest ∙ take-append-le n (drop given waiting) after few_given in
    rw (here, there) (two ∙ ap (λ xs. xs ++ drop (t + n) all) (front ∙ given_front))

-- n bytes are given of the output that waits
pub gives_next : (told : Told) (b bytes rest gone waiting piece : List ℕ) (at n left : ℕ) → b ≡ bytes ++ rest
    → BeginsTo bytes (gone ++ waiting) → left ≡ told.header.size - (length gone + at)
    → at + n ≤ length waiting → n ≤ left → piece ≡ take n (drop at waiting)
    → GivesNext told b left (left - n) piece
gives_next told b bytes rest gone waiting piece at n left is begins of within few same =
    let begun = begins rest in
    rw same (next_given (given b) gone waiting begun.0 at n told.header.size left (ap given is ∙ begun.1) within of few)

pub piece_given : (w copied tail waiting : List ℕ) (given n : ℕ) → copied ≡ take n w
    → w ≡ take (length waiting - given) (drop given waiting) → n ≤ length w
    → take n (copied ++ tail) ≡ take n (drop given waiting)
piece_given w copied tail waiting given n copies is few =
    let size : length copied ≡ n = ap length copies ∙ length-take-le n w few in
    let room : n ≤ length copied = omega (arith, size) in
    take-append-le n copied tail room ∙ (ap (take n) copies ∙ (take-take n n w (omega arith)
    ∙ ap (take n) (is ∙ take_rest waiting given)))

pub given_over : (size gone given n left : ℕ) (over : Bool) → over ≡ nat_lt size (gone + given)
    → left ≡ size - (gone + given) → n ≤ left → over ≡ nat_lt size (gone + (given + n))
given_over size gone given zero left over is of few =
    let e : gone + given ≡ gone + (given + 0) = omega arith in is ∙ ap (nat_lt size) e
given_over size gone given (suc n) left over is of few =
    let within : gone + given ≤ size = omega (arith, of, few) in
    let all : gone + (given + suc n) ≤ size = omega (arith, of, few) in
    is ∙ (le-ltb size (gone + given) within ∙ sym (le-ltb size (gone + (given + suc n)) all))

pub all_given : (waiting given w room left n : ℕ) → w + given ≡ waiting → n ≡ min (min w room) left → n ≡ 0 → 0 < room
    → (left - n ≡ 0) ⊎ (waiting ≤ given + n)
all_given waiting given w room zero n is least none some = inl (omega arith)
all_given waiting given w room (suc left) n is least none some = inr (omega (arith, is, least, none, some))

-- ---- what it came to

pub nothing_waits : (xs ys : List ℕ) (empty : Bool) → xs ≡ ys → empty ≡ (length xs == 0) → empty ≡ true → ys ≡ []
nothing_waits [] ys empty same is holds = sym same
nothing_waits (x ∷ xs) ys empty same is holds =
    let none : length (x ∷ xs) ≡ 0 = eqb-true (length (x ∷ xs)) 0 (sym is ∙ holds) in absurd (omega (arith, none))

-- all output was given
all_before : (size left : ℕ) (out gone : List ℕ) → out ≡ gone ++ [] → left ≡ size - (length gone + 0)
    → drop (size - left) (take size out) ≡ []
all_before size left out gone is of =
    let past : length (take size out) ≤ size - left = omega (
      arith,
      of,
      length-take size out,
      ap length (is ∙ append-nil gone),
    ) in
    drop_of_length-le (take size out) past

pub ended_whole : (header : CompressionHeader) (section_size : ℕ) (b bytes rest gone : List ℕ) → b ≡ bytes ++ rest
    → EndsWith bytes (gone ++ []) → length gone ≡ header.size → damage header section_size b ≡ None
ended_whole header section_size b bytes rest gone is ends whole =
    let at = ends.1 rest in
    let same : unzlib (bits_of b) ≡ Ok (gone ++ [], at.0) = ap (λ xs. unzlib (bits_of xs)) is ∙ at.1 in
    let size : length (gone ++ []) ≡ header.size = ap length (append-nil gone) ∙ whole in
    rw same (rw (eq-eqb (length (gone ++ [])) header.size size) refl)

-- the output of a stream that ends
ended_given : (b bytes rest gone : List ℕ) → b ≡ bytes ++ rest → EndsWith bytes (gone ++ []) → given b ≡ gone ++ []
ended_given b bytes rest gone is ends = ap given is ∙ ap output_of (ends.1 rest).1

pub ended_other : (header : CompressionHeader) (section_size : ℕ) (b bytes rest gone : List ℕ) → b ≡ bytes ++ rest
    → EndsWith bytes (gone ++ []) → (length gone ≡ header.size → ⊥)
    → damage header section_size b ≡ Some header.size_offset
ended_other header section_size b bytes rest gone is ends other =
    let at = ends.1 rest in
    let same : unzlib (bits_of b) ≡ Ok (gone ++ [], at.0) = ap (λ xs. unzlib (bits_of xs)) is ∙ at.1 in
    elim (cases_Bool (length (gone ++ []) == header.size)) [
      | inl whole ↦ absurd (other (ap length (sym (append-nil gone))
          ∙ eqb-true (length (gone ++ [])) header.size whole))
      | inr less ↦ rw same (rw less refl)
    ]

pub cut_short : (header : CompressionHeader) (section_size : ℕ) (b out : List ℕ) → IsCutShort b out
    → damage header section_size b ≡ Some section_size
cut_short header section_size b out cut = rw cut refl

damaged_here : (header : CompressionHeader) (section_size : ℕ) (b out : List ℕ) (at told left : ℕ)
    → unzlib (bits_of b) ≡ Err (Wrong left, out) → (length b < 2 ^ 64 → at ≡ (8 * length b - left - 1) / 8)
    → length b ≤ section_size - header.stream_offset → section_size < 2 ^ 64
    → (header.stream_offset + at < 2 ^ 64 → told ≡ header.stream_offset + at)
    → damage header section_size b ≡ Some told
damaged_here header section_size [] out at told left wrong place few sized adds =
    let stop : ◌≡◌ {A = Stop} Short (Wrong left) =
    ap (λ r. elim r as (λ _. Stop) [ Ok found ↦ Short | Err stopped ↦ stopped.0 ]) wrong in absurd (cc)
damaged_here header section_size (x ∷ xs) out at told left wrong place few sized adds =
    let len : ℕ = length (x ∷ xs) in
    let short : len < 2 ^ 64 = omega (arith, few, sized) in
    let is : at ≡ (8 * len - left - 1) / 8 = place short in
    let small : (8 * len - left - 1) / 8 < len = omega arith in
    let fits : header.stream_offset + at < 2 ^ 64 = omega (arith, few, sized, is, small) in
    rw wrong (ap Some (sym (adds fits ∙ ap (λ n. header.stream_offset + n) is)))

pub damaged_at : (told : Told) (b bytes rest gone : List ℕ) (at left place : ℕ)
    → b ≡ bytes ++ rest → IsDamagedFrom bytes (gone ++ []) at → left ≡ told.header.size - (length gone + 0)
    → length b ≤ told.section_size - told.header.stream_offset → told.section_size < 2 ^ 64
    → (told.header.stream_offset + at < 2 ^ 64 → place ≡ told.header.stream_offset + at)
    → StopsBy told b left (DamagedStream place)
damaged_at told b bytes rest gone at left place is damaged of few sized adds =
    let d : IsDamagedAt b (gone ++ []) at = subst (λ xs. IsDamagedAt xs (gone ++ []) at) (sym is) (damaged rest) in (
      damaged_here told.header told.section_size b (gone ++ []) at place d.0 d.1 d.2 few sized adds,
      all_before told.header.size left (given b) gone (ap output_of d.1) of,
    )

-- ---- a part of the stream

-- where no more came of a piece
pub piece_damage : (told : Told) (b bytes gone : List ℕ) (left : ℕ) (why : ReadFault) → IsCutShort bytes (gone ++ [])
    → left ≡ told.header.size - (length gone + 0) → PieceIs told b bytes (Err why) → StopsBy told b left why
piece_damage told b bytes gone left (Read error) cut of piece = (tt, tt)
piece_damage told b bytes gone left (DamagedStream at) cut of (place, all) =
    let whole : IsCutShort b (gone ++ []) = subst (λ xs. IsCutShort xs (gone ++ [])) (sym all) cut in (
      cut_short told.header told.section_size b (gone ++ []) whole ∙ ap Some (sym place),
      all_before told.header.size left (given b) gone (ap output_of whole) of,
    )

-- at the end
pub end_comes : (told : Told) (b bytes rest gone : List ℕ) (left : ℕ) (over : Bool) (result : Result Progress ReadFault)
    → b ≡ bytes ++ rest → EndsWith bytes (gone ++ []) → left ≡ told.header.size - (length gone + 0)
    → over ≡ nat_lt told.header.size (length gone + 0)
    → (result ≡ Ok Ended → (left ≡ 0) × (over ≡ false))
    → IfErr result (λ fault. (fault ≡ DamagedStream told.header.size_offset) × ((1 ≤ left) ⊎ (over ≡ true)))
    → ComesTo told b left result
end_comes told b bytes rest gone left over (Ok Onward) is ends of over_is whole other = tt
end_comes told b bytes rest gone left over (Ok Ended) is ends of over_is whole other =
    let w = whole refl in
    let none : left ≡ 0 = w.0 in
    let few : length gone + 0 ≤ told.header.size =
    ltb-false told.header.size (length gone + 0) (sym over_is ∙ w.1) in
    ended_whole told.header told.section_size b bytes rest gone is ends (omega (arith, none, few, of))
end_comes told b bytes rest gone left over (Err why) is ends of over_is whole (fault, unequal) =
    let other : length gone ≡ told.header.size → ⊥ = elim unequal [
      | inl some ↦ (λ size. omega (arith, some, of, size))
      | inr past ↦ (let more : told.header.size < length gone + 0 =
          ltb-true told.header.size (length gone + 0) (sym over_is ∙ past) in
          λ size. omega (arith, more, size))
    ] in
    subst (StopsBy told b left) (sym fault) (
      ended_other told.header told.section_size b bytes rest gone is ends other,
      all_before told.header.size left (given b) gone (ended_given b bytes rest gone is ends) of,
    )
