-- Texts one after the other, and the table of their places and lengths.
use Rattle.std.proofs.Common.{◌≡◌, ℕ, zero, suc, ◌+◌, ◌*◌, ◌<◌, ◌≤◌, ◌^◌, List, [], ◌∷◌, ◌++◌, length, take, drop, get_or}
use Rattle.std.proofs.Common.{refl, ap, ◌∙◌, arith, length-append}
use Rattle.std.specs.List.{concat}
use Rattle.std.proofs.Math.Seq.{drop-nil, drop-append-add, take-append_seam}
use Rattle.dl_num.specs.Fixed.{little, little_bytes}
use Rattle.dl_num.specs.declared.fixed.Order.TheVariants.{Little}
use Rattle.dl_num.proofs.FixedLaws.{fixed_reads_back}
use Rattle.dl_index.specs.Layout.{field}
use Rattle.dl_pack.specs.Tables.{text_entries, total_len}
use Rattle.dl_pack.proofs.ItemLemmas.{drop_at, drop_sum}

pub texts_len : (texts : List (List ℕ)) → length (concat texts) ≡ total_len texts
texts_len [] = refl
texts_len (text ∷ texts) = length-append text (concat texts) ∙ ap (λ n. length text + n) (texts_len texts)

pub entries_len : (place : ℕ) (texts : List (List ℕ)) → length (text_entries place texts) ≡ length texts * 16
entries_len place [] = omega arith
entries_len place (text ∷ texts) =
    let entry : List ℕ = little_bytes 8 place ++ little_bytes 8 (length text) in
    length-append entry (text_entries (place + length text) texts) ∙ omega (arith, entries_len (place + length text) texts)

-- where text t begins
abbrev pub place_of : List (List ℕ) → ℕ → ℕ
place_of texts t = total_len (take t texts)

-- text t lies in the bytes of all
pub text_within : (texts : List (List ℕ)) (t : ℕ) → t < length texts
    → place_of texts t + length (get_or texts t []) ≤ total_len texts
text_within [] t lt = absurd (omega arith)
text_within (text ∷ texts) zero lt = omega arith
text_within (text ∷ texts) (suc t) lt = omega (arith, text_within texts t (omega arith))

pub text_at : (texts : List (List ℕ)) (t : ℕ) → t < length texts
    → take (length (get_or texts t [])) (drop (place_of texts t) (concat texts)) ≡ get_or texts t []
text_at [] t lt = absurd (omega arith)
text_at (text ∷ texts) zero lt = take-append_seam text (concat texts)
text_at (text ∷ texts) (suc t) lt =
    ap (take (length (get_or texts t []))) (drop-append-add text (concat texts) (place_of texts t))
    ∙ text_at texts t (omega arith)

entries_drop : (t place : ℕ) (texts : List (List ℕ))
    → drop (t * 16) (text_entries place texts) ≡ text_entries (place + place_of texts t) (drop t texts)
entries_drop zero place texts =
    let e : place ≡ place + place_of texts 0 = omega arith in ap (λ p. text_entries p texts) e
entries_drop (suc t) place [] = drop-nil (suc t * 16)
entries_drop (suc t) place (text ∷ texts) =
    let entry : List ℕ = little_bytes 8 place ++ little_bytes 8 (length text) in
    let e : suc t * 16 ≡ length entry + t * 16 = omega arith in
    let s : place + length text + place_of texts t ≡ place + (length text + place_of texts t) = omega arith in
    ap (λ n. drop n (text_entries place (text ∷ texts))) e
    ∙ drop-append-add entry (text_entries (place + length text) texts) (t * 16)
    ∙ entries_drop t (place + length text) texts ∙ ap (λ p. text_entries p (drop t texts)) s

entries_from : (texts : List (List ℕ)) (t : ℕ) → t < length texts
    → drop (t * 16) (text_entries 0 texts) ≡ text_entries (0 + place_of texts t) (get_or texts t [] ∷ drop (suc t) texts)
entries_from texts t lt =
    entries_drop t 0 texts ∙ ap (text_entries (0 + place_of texts t)) (drop_at texts t [] lt)

pub place_read : (texts : List (List ℕ)) (t : ℕ) → t < length texts → place_of texts t < 2 ^ 64
    → field (t * 16) 8 (text_entries 0 texts) ≡ place_of texts t
place_read texts t lt small =
    let z : 0 + place_of texts t ≡ place_of texts t = omega arith in
    ap (λ b. little (take 8 b)) (entries_from texts t lt)
    ∙ fixed_reads_back Little 8 (0 + place_of texts t) (omega arith) ∙ z

pub len_read : (texts : List (List ℕ)) (t : ℕ) → t < length texts → length (get_or texts t []) < 2 ^ 64
    → field (t * 16 + 8) 8 (text_entries 0 texts) ≡ length (get_or texts t [])
len_read texts t lt small =
    ap (λ b. little (take 8 b)) (drop_sum (t * 16) 8 (text_entries 0 texts) ∙ ap (drop 8) (entries_from texts t lt))
    ∙ fixed_reads_back Little 8 (length (get_or texts t [])) small
