-- Parts with 0 behind them, cut by their lengths.
use Rattle.std.proofs.Common.{◌≡◌, ℕ, ◌+◌, ◌-◌, List, [], ◌∷◌, ◌++◌, length, take, drop, map, replicate}
use Rattle.std.proofs.Common.{refl, sym, ap, ap₂, ◌∙◌, arith, length-append, append_assoc}
use Rattle.std.specs.Prelude.{sum}
use Rattle.std.specs.List.{flat_map, fold}
use Rattle.std.proofs.lemmas.List.{length-replicate}
use Rattle.std.proofs.Math.Seq.{drop-append_seam, take-append_seam}
use Rattle.dl_index.specs.Layout.{rounded, cut_of}
use Rattle.dl_pack.specs.Columns.{padded}

padded_len : (part : List ℕ) → length (padded part) ≡ rounded (length part)
padded_len part =
    let rest : ℕ = rounded (length part) - length part in
    length-append part (replicate rest 0) ∙ ap (λ n. length part + n) (length-replicate rest 0) ∙ omega arith

cut_first : (part rest : List ℕ) → take (length part) (padded part ++ rest) ≡ part
cut_first part rest =
    ap (take (length part)) (append_assoc part (replicate (rounded (length part) - length part) 0) rest)
    ∙ take-append_seam part (replicate (rounded (length part) - length part) 0 ++ rest)

cut_rest : (part rest : List ℕ) → drop (rounded (length part)) (padded part ++ rest) ≡ rest
cut_rest part rest =
    ap (λ n. drop n (padded part ++ rest)) (sym (padded_len part)) ∙ drop-append_seam (padded part) rest

-- parts are cut where they were put
pub cut_parts : (parts : List (List ℕ)) → cut_of (map length parts) (flat_map padded parts) ≡ parts
cut_parts [] = refl
cut_parts (part ∷ parts) =
    ap₂ (λ first rest. first ∷ rest) (cut_first part (flat_map padded parts))
    (ap (cut_of (map length parts)) (cut_rest part (flat_map padded parts)) ∙ cut_parts parts)

sum_from : (a : ℕ) (numbers : List ℕ) → fold (λ x y. x + y) a numbers ≡ a + sum numbers
sum_from a [] = omega arith
sum_from a (n ∷ numbers) = sum_from (a + n) numbers ∙ omega (arith, sum_from (0 + n) numbers)

-- how long they are together
pub parts_len : (parts : List (List ℕ)) → sum (map rounded (map length parts)) ≡ length (flat_map padded parts)
parts_len [] = refl
parts_len (part ∷ parts) =
    let head : ℕ = rounded (length part) in
    sum_from (0 + head) (map rounded (map length parts))
    ∙ omega (arith, parts_len parts, padded_len part, length-append (padded part) (flat_map padded parts))
