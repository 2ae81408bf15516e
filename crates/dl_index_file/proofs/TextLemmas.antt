-- Bytes of a file that are put behind others, piece by piece.
use Rattle.std.proofs.Common.{◌≡◌, inl, inr, ℕ, ◌+◌, ◌<◌, ◌^◌, List, ◌++◌, take, drop, length, length-take, append_assoc, sym, ap, ◌∙◌}
use Rattle.std.proofs.Common.{arith, Option, Some}
use Rattle.std.specs.declared.io.Error.{Error}
use Rattle.std.proofs.lemmas.List.{drop-drop, take-take}
use Rattle.std.proofs.Math.Seq.{take-add}
use Rattle.dl_elf.specs.declared.file.Range.{Range}
use Rattle.dl_index_file.specs.Reading.{ReadIsLost, TextFails}
use Rattle.dl_index_file.specs.declared.fault.TextFault.{TextFault}
use Rattle.dl_index_file.specs.declared.fault.TextFault.TheVariants.{Read, NoMemory}

-- what was there first still is
pub still_there : (first now next : List ℕ) → take (length first) now ≡ first → take (length now) next ≡ now
    → take (length first) next ≡ first
still_there first now next old more =
    let len = length-take (length first) now in
    let same = ap length old in
    sym (take-take (length first) (length now) next (omega arith)) ∙ ap (take (length first)) more ∙ old

-- one more piece
pub one_more : (b first now next : List ℕ) (offset done at len : ℕ) → now ≡ first ++ take done (drop offset b)
    → at ≡ offset + done → next ≡ now ++ take len (drop at b) → next ≡ first ++ take (done + len) (drop offset b)
one_more b first now next offset done at len old place new =
    let two : take (done + len) (drop offset b) ≡ take done (drop offset b) ++ take len (drop (offset + done) b) =
    take-add done len (drop offset b) ∙ ap (λ x. take done (drop offset b) ++ take len x) (drop-drop done offset b) in
    new ∙ ap (λ x. x ++ take len (drop at b)) old
    ∙ ap (λ k. first ++ take done (drop offset b) ++ take len (drop k b)) place
    ∙ append_assoc first (take done (drop offset b)) (take len (drop (offset + done) b))
    ∙ ap (λ x. first ++ x) (sym two)

-- what keeps all bytes of a file from being read
pub whole_lost : (known : Option (List ℕ)) (Fails : Error → Type 0) (refuses : ℕ → Type 0) (b : List ℕ) (before : ℕ) (text : Range)
    (fault : TextFault) → known ≡ Some b → length b < 2 ^ 64 → before ≡ 0 → text.offset ≡ 0 → text.size ≡ length b
    → TextFails known Fails refuses before text fault → ReadIsLost Fails refuses (length b)
whole_lost known Fails refuses b before text (Read error) is below none first size (inl fails) = inl (error, fails)
whole_lost known Fails refuses b before text (Read error) is below none first size (inr (kind, ends)) =
    absurd (let short = ends b is below in omega (arith, short, first, size))
whole_lost known Fails refuses b before text NoMemory is below none first size (n, few, stands, refused) =
    inr (n, omega (arith, few, none, size), refused)
