-- Ranges of known bytes: what is read of one, and what is left of it.
use Rattle.std.proofs.Common.{◌≡◌, ℕ, ◌+◌, ◌-◌, ◌<◌, ◌≤◌, List, ◌++◌, length, take, drop, Option, Some, None, refl, sym}
use Rattle.std.proofs.Common.{ap, ◌∙◌, arith, IfSome}
use Rattle.std.proofs.lemmas.List.{take-append-le, drop-drop, length-take-le}
use Rattle.std.proofs.Math.Seq.{take-add, take-append-add}
use borrow.Rule.Slice.PartMut.{put_mid, post_of}
use Rattle.std.specs.Io.KnownBytes.{Consumes}
use Rattle.dl_elf.specs.Reader.{known_range}
use Rattle.dl_elf.specs.Source.{ForBytes}

-- a read of n bytes of a range, into the front of a buffer
pub range_consumed : (known : Option (List ℕ)) (offset left n : ℕ) (buffer rest : List ℕ) → n ≤ left → n ≤ length buffer
    → IfSome known (λ f. (take n buffer ≡ take n (drop offset f)) × (n ≡ 0 → 0 < length buffer → length f ≤ offset))
    → Consumes (known_range known offset left) (known_range known (offset + n) (left - n)) (take n (buffer ++ rest))
range_consumed None offset left n buffer rest h w e = tt
range_consumed (Some f) offset left n buffer rest h w e =
    let split : n + (left - n) ≡ left = omega arith in
    let two : take left (drop offset f) ≡ take n (drop offset f) ++ take (left - n) (drop n (drop offset f)) =
    ap (λ k. take k (drop offset f)) (sym split) ∙ take-add n (left - n) (drop offset f) in
    let front : take n (buffer ++ rest) ≡ take n (drop offset f) = take-append-le n buffer rest w ∙ e.0 in
    rw (front, two, drop-drop n offset f) refl

-- n more bytes are put after the first ones of a buffer
pub fill_more : (offset filled n : ℕ) (f buffer part : List ℕ) → filled ≤ length buffer → n ≤ length part
    → take filled buffer ≡ take filled (drop offset f) → take n part ≡ take n (drop (offset + filled) f)
    → take (filled + n) (put_mid filled (length buffer - filled) buffer part) ≡ take (filled + n) (drop offset f)
fill_more offset filled n f buffer part l w e e' =
    let tail : List ℕ = post_of filled (length buffer - filled) buffer in
    let put : take (filled + n) (take filled buffer ++ (part ++ tail)) ≡ take filled buffer
    ++ take n (part ++ tail) =
    ap (λ k. take (k + n) (take filled buffer ++ (part ++ tail))) (sym (length-take-le filled buffer l))
    ∙ take-append-add (take filled buffer) (part ++ tail) n in
    let bytes : take (filled + n) (drop offset f) ≡ take filled (drop offset f) ++ take n (drop (offset + filled) f) =
    take-add filled n (drop offset f)
    ∙ ap (λ ys. take filled (drop offset f) ++ take n ys) (drop-drop filled offset f) in
    put ∙ rw (take-append-le n part tail w, e, e') (sym bytes)

pub fill_more_known : (known : Option (List ℕ)) (offset at filled n : ℕ) (buffer part : List ℕ) → filled ≤ length buffer
    → n ≤ length part → at ≡ offset + filled
    → ForBytes known (λ f. take filled buffer ≡ take filled (drop offset f))
    → IfSome known (λ f. (take n part ≡ take n (drop at f)) × (n ≡ 0 → 0 < length part → length f ≤ at))
    → ForBytes known (λ f. take (filled + n) (put_mid filled (length buffer - filled) buffer part)
    ≡ take (filled + n) (drop offset f))
fill_more_known known offset at filled n buffer part l w a e e' = λ f is short.
    let told = rw is at e' in
    fill_more offset filled n f buffer part l w (e f is short) (told.0 ∙ ap (λ k. take n (drop k f)) a)

-- a file that ends before the rest of a section ends before the section
pub ends_before : (known : Option (List ℕ)) (offset left n next : ℕ) → n ≤ left → next ≡ offset + n
    → ForBytes known (λ f. length f < next + (left - n)) → ForBytes known (λ f. length f < offset + left)
ends_before known offset left n next within is early f known_is small =
    omega (arith, within, is, early f known_is small)
