-- The tables of files and of texts, one entry more.
use Rattle.std.proofs.Common.{◌≡◌, ℕ, ◌+◌, ◌-◌, ◌<◌, ◌^◌, min, List, [], ◌∷◌, ◌++◌, length, get_or, take}
use Rattle.std.proofs.Common.{arith, sym, ap, ap₂, ◌∙◌, append_assoc}
use Rattle.std.specs.List.{flat_map, concat}
use Rattle.std.proofs.lemmas.List.{take_more, map-append, append-nil, flat_map_more}
use Rattle.std.proofs.lemmas.List.Folds.{concat-append}
use Rattle.dl_num.specs.Fixed.{little_bytes}
use Rattle.dl_pack.specs.Tables.{text_entries, texts_at, total_len}

pub entries_push : (place : ℕ) (texts : List (List ℕ)) (text : List ℕ)
    → text_entries place (texts ++ text ∷ [])
    ≡ text_entries place texts ++ (little_bytes 8 (place + total_len texts) ++ little_bytes 8 (length text))
entries_push place [] text =
    let z : place ≡ place + 0 = omega arith in
    ap (λ p. little_bytes 8 p ++ little_bytes 8 (length text)) z
entries_push place (first ∷ texts) text =
    let e : place + length first + total_len texts ≡ place + (length first + total_len texts) = omega arith in
    ap (λ rest. (little_bytes 8 place ++ little_bytes 8 (length first)) ++ rest)
    (entries_push (place + length first) texts text
    ∙ ap (λ p. text_entries (place + length first) texts ++ (little_bytes 8 p ++ little_bytes 8 (length text))) e)

pub put_two : (o0 o1 o2 a b : List ℕ) → o1 ≡ o0 ++ a → o2 ≡ o1 ++ b → o2 ≡ o0 ++ (a ++ b)
put_two o0 o1 o2 a b e1 e2 = e2 ∙ ap (λ o. o ++ b) e1 ∙ append_assoc o0 a b

pub put_three : (o0 o1 o2 o3 a b c : List ℕ) → o1 ≡ o0 ++ a → o2 ≡ o1 ++ b → o3 ≡ o2 ++ c → o3 ≡ o0 ++ (a ++ (b ++ c))
put_three o0 o1 o2 o3 a b c e1 e2 e3 = put_two o0 o1 o3 a (b ++ c) e1 (put_two o1 o2 o3 b c e2 e3)

pub put_four : (o0 o1 o2 o3 o4 a b c d : List ℕ) → o1 ≡ o0 ++ a → o2 ≡ o1 ++ b → o3 ≡ o2 ++ c → o4 ≡ o3 ++ d
    → o4 ≡ o0 ++ (a ++ (b ++ (c ++ d)))
put_four o0 o1 o2 o3 o4 a b c d e1 e2 e3 e4 =
    put_two o0 o1 o4 a (b ++ (c ++ d)) e1 (put_three o1 o2 o3 o4 b c d e2 e3 e4)

pub put_five : (o0 o1 o2 o3 o4 o5 a b c d e : List ℕ) → o1 ≡ o0 ++ a → o2 ≡ o1 ++ b → o3 ≡ o2 ++ c → o4 ≡ o3 ++ d
    → o5 ≡ o4 ++ e → o5 ≡ o0 ++ (a ++ (b ++ (c ++ (d ++ e))))
put_five o0 o1 o2 o3 o4 o5 a b c d e e1 e2 e3 e4 e5 =
    put_two o0 o1 o5 a (b ++ (c ++ (d ++ e))) e1
    (put_two o1 o2 o5 b (c ++ (d ++ e)) e2 (put_two o2 o3 o5 c (d ++ e) e3 (put_two o3 o4 o5 d e e4 e5)))

pub flat_more : (f : ℕ → List ℕ) (items order : List ℕ) (i d : ℕ) (start before after bytes : List ℕ) → items ≡ order
    → i < length items → before ≡ start ++ flat_map f (take i order) → bytes ≡ f (get_or items i d)
    → after ≡ before ++ bytes → after ≡ start ++ flat_map f (take (i + 1) order)
flat_more f items order i d start before after bytes same lt was at is =
    is ∙ ap₂ (λ x y. x ++ y) (was ∙ ap (λ order. start ++ flat_map f (take i order)) (sym same)) at
    ∙ flat_map_more f start (take i items) (get_or items i d)
    ∙ ap (λ xs. start ++ flat_map f xs) (sym (take_more items i d lt)) ∙ ap (λ order. start ++ flat_map f (take (i + 1) order)) same

texts_more : (texts : List (List ℕ)) (items order : List ℕ) (i d : ℕ) → items ≡ order → i < length items
    → texts_at texts (take (i + 1) order) ≡ texts_at texts (take i order) ++ get_or texts (get_or items i d) [] ∷ []
texts_more texts items order i d same lt =
    ap (λ order. texts_at texts (take (i + 1) order)) (sym same) ∙ ap (texts_at texts) (take_more items i d lt)
    ∙ map-append (λ place. get_or texts place []) (take i items) (get_or items i d ∷ [])
    ∙ ap (λ order. texts_at texts (take i order) ++ get_or texts (get_or items i d) [] ∷ []) same

total_push : (texts : List (List ℕ)) (text : List ℕ) → total_len (texts ++ text ∷ []) ≡ total_len texts + length text
total_push [] text = omega arith
total_push (first ∷ texts) text =
    let e : length first + (total_len texts + length text) ≡ length first + total_len texts + length text = omega arith in
    ap (λ n. length first + n) (total_push texts text) ∙ e

abbrev most : ℕ
most = 0xffffffffffffffff

total_more : (texts : List (List ℕ)) (items order : List ℕ) (i d : ℕ) → items ≡ order → i < length items
    → total_len (texts_at texts (take (i + 1) order))
    ≡ total_len (texts_at texts (take i order)) + length (get_or texts (get_or items i d) [])
total_more texts items order i d same lt =
    ap total_len (texts_more texts items order i d same lt)
    ∙ total_push (texts_at texts (take i order)) (get_or texts (get_or items i d) [])

pub entries_more : (texts : List (List ℕ)) (items order : List ℕ) (i d : ℕ) (start o0 o1 o2 text : List ℕ) (place len : ℕ)
    → items ≡ order → i < length items → text ≡ get_or texts (get_or items i d) [] → len ≡ length text
    → total_len (texts_at texts (take (i + 1) order)) < 2 ^ 64 → place ≡ min (total_len (texts_at texts (take i order))) most
    → (total_len (texts_at texts (take i order)) < 2 ^ 64
    → o0 ≡ start ++ text_entries 0 (texts_at texts (take i order))) → o1 ≡ o0 ++ little_bytes 8 place
    → o2 ≡ o1 ++ little_bytes 8 len → o2 ≡ start ++ text_entries 0 (texts_at texts (take (i + 1) order))
entries_more texts items order i d start o0 o1 o2 text place len same lt at size few sum_is was put1 put2 =
    let so_far : List (List ℕ) = texts_at texts (take i order) in
    let more = total_more texts items order i d same lt in
    let z : place ≡ 0 + total_len so_far = omega (arith, sum_is, more, few) in
    put_two o0 o1 o2 (little_bytes 8 place) (little_bytes 8 len) put1 put2
    ∙ ap (λ o. o ++ (little_bytes 8 place ++ little_bytes 8 len)) (was (omega (arith, more, few)))
    ∙ append_assoc start (text_entries 0 so_far) (little_bytes 8 place ++ little_bytes 8 len)
    ∙ ap₂ (λ p n. start ++ (text_entries 0 so_far ++ (little_bytes 8 p ++ little_bytes 8 n))) z size
    ∙ ap (λ bytes. start ++ bytes) (sym (entries_push 0 so_far text))
    ∙ ap (λ t. start ++ text_entries 0 (so_far ++ t ∷ [])) at
    ∙ ap (λ ts. start ++ text_entries 0 ts) (sym (texts_more texts items order i d same lt))

pub place_more : (texts : List (List ℕ)) (items order : List ℕ) (i d : ℕ) (text : List ℕ) (place len next : ℕ)
    → items ≡ order → i < length items → text ≡ get_or texts (get_or items i d) [] → len ≡ length text
    → place ≡ min (total_len (texts_at texts (take i order))) most → next ≡ min (place + len) most
    → next ≡ min (total_len (texts_at texts (take (i + 1) order))) most
place_more texts items order i d text place len next same lt at size sum_is is =
    omega (arith, is, sum_is, size ∙ ap length at, total_more texts items order i d same lt)

pub bytes_more : (texts : List (List ℕ)) (items order : List ℕ) (i d : ℕ) (start before after text : List ℕ) → items ≡ order
    → i < length items → text ≡ get_or texts (get_or items i d) []
    → before ≡ start ++ concat (texts_at texts (take i order)) → after ≡ before ++ text
    → after ≡ start ++ concat (texts_at texts (take (i + 1) order))
bytes_more texts items order i d start before after text same lt at was is =
    let so_far : List (List ℕ) = texts_at texts (take i order) in
    is ∙ ap₂ (λ x y. x ++ y) was at ∙ append_assoc start (concat so_far) (get_or texts (get_or items i d) [])
    ∙ ap (λ xs. start ++ xs) (ap (λ xs. concat so_far ++ xs) (sym (append-nil (get_or texts (get_or items i d) []))) ∙ sym (concat-append so_far (get_or texts (get_or items i d) [] ∷ [])))
    ∙ ap (λ ts. start ++ concat ts) (sym (texts_more texts items order i d same lt))
