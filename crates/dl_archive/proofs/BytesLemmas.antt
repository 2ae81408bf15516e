-- What a read of the archive gives of a member.
use Rattle.std.proofs.Common.{◌≡◌, ◌≤◌, ◌<◌, ◌+◌, ◌-◌, ℕ, List, ◌++◌, length, take, drop, Option, Some, None, Result, Ok, Err}
use Rattle.std.proofs.Common.{sym, ap, ◌∙◌, arith, option_map, length-drop, length-take}
use Rattle.std.proofs.lemmas.List.{drop-drop, drop-take, take-append-le, take-take}
use Rattle.std.specs.Io.{ReadsAtMost}
use Rattle.dl_elf.specs.declared.file.Range.{Range}
use Rattle.dl_elf.specs.Source.{ReadsFrom}
use Rattle.dl_archive.specs.Bytes.{bytes_in}

-- what follows in a member
rest_in : (r : Range) (offset n : ℕ) (f : List ℕ) → n ≤ r.size - offset → 0 < r.size - offset
    → take n (drop offset (bytes_in r f)) ≡ take n (drop (r.offset + offset) f)
rest_in r offset n f within some =
    let split : r.size ≡ offset + (r.size - offset) = omega (arith, some) in
    ap (λ m. take n (drop offset (take m (drop r.offset f)))) split
    ∙ ap (take n) (drop-take offset (r.size - offset) (drop r.offset f))
    ∙ take-take n (r.size - offset) (drop offset (drop r.offset f)) within
    ∙ ap (take n) (drop-drop offset r.offset f)

few_in : (r : Range) (offset : ℕ) (f : List ℕ) → length f ≤ r.offset + offset → length (bytes_in r f) ≤ offset
few_in r offset f end = omega (arith, end, length-take r.size (drop r.offset f), length-drop r.offset f)

pub member_read : {E : Type 0} (known : Option (List ℕ)) (r : Range) (offset : ℕ) (result : Result ℕ E) (buffer rest : List ℕ)
    → ReadsAtMost result buffer → 0 < length buffer → length buffer ≤ r.size - offset
    → ReadsFrom known (r.offset + offset) result buffer
    → ReadsFrom (option_map (bytes_in r) known) offset result (buffer ++ rest)
member_read None r offset result buffer rest most some fits is = tt
member_read (Some f) r offset (Err e) buffer rest most some fits is = tt
member_read (Some f) r offset (Ok n) buffer rest most some fits is = (
  take-append-le n buffer rest most.0 ∙ is.0
      ∙ sym (rest_in r offset n f (omega (arith, most.0, fits)) (omega (arith, some, fits))),
  λ none more. few_in r offset f (is.1 none some),
)
