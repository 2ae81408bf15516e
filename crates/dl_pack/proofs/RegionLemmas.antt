-- Parts of an index while they are written: one number more.
use Rattle.std.proofs.Common.{◌≡◌, ℕ, zero, suc, ◌+◌, ◌-◌, ◌≤◌, List, [], ◌∷◌, ◌++◌, length, take, drop, map, replicate}
use Rattle.std.proofs.Common.{arith, sym, ap, ap₂, ◌∙◌, append_assoc, length-append}
use Rattle.std.specs.List.{concat}
use Rattle.std.proofs.Math.Seq.{take-append_seam, drop-append_seam}
use Rattle.std.proofs.lemmas.Grind.{flat_map-append}
use Rattle.std.proofs.lemmas.List.{append-nil, map-append, length-replicate}
use Rattle.std.proofs.lemmas.List.Folds.{concat-append}
use Rattle.dl_num.specs.Fixed.{little_bytes}
use Rattle.dl_stretch.specs.declared.stretch.Stretch.{Stretch}
use Rattle.dl_pack.specs.Columns.{column_bytes}
use Rattle.dl_pack.specs.Written.{region}
use Rattle.dl_pack.proofs.ItemLemmas.{drop_sum}

abbrev pub zeros : ℕ → List ℕ
zeros n = replicate {A = ℕ} n 0

pub zeros_split : (a b : ℕ) → zeros (a + b) ≡ zeros a ++ zeros b
zeros_split zero b = let e : 0 + b ≡ b = omega arith in ap (λ n. zeros n) e
zeros_split (suc a) b =
    let e : suc a + b ≡ suc (a + b) = omega arith in
    ap (λ n. zeros n) e ∙ ap (λ l. 0 ∷ l) (zeros_split a b)

pub region_len : (room : ℕ) (part : List ℕ) → length part ≤ room → length (region room part) ≡ room
region_len room part le =
    length-append part (zeros (room - length part))
    ∙ omega (arith, length-replicate {A = ℕ} (room - length part) 0, le)

-- bytes of which a part stands between others
pub parts_len : (before after : List (List ℕ)) (part : List ℕ)
    → length (concat (before ++ part ∷ after)) ≡ length (concat before) + (length part + length (concat after))
parts_len before after part =
    ap length (concat-append before (part ∷ after)) ∙ length-append (concat before) (part ++ concat after)
    ∙ ap (λ n. length (concat before) + n) (length-append part (concat after))

assoc : (b p n z a : List ℕ) → (b ++ p) ++ (n ++ (z ++ a)) ≡ b ++ (((p ++ n) ++ z) ++ a)
assoc b p n z a = simp (append_assoc)

module _ (before after : List (List ℕ)) (part number : List ℕ) (room place size : ℕ) (bytes : List ℕ)
    (is : bytes ≡ concat (before ++ region room part ∷ after)) (at : place ≡ length (concat before) + length part)
    (len : length number ≡ size) (less : length part + size ≤ room) where
  abbrev rest : ℕ
  rest = room - (length part + size)

  abbrev tail : List ℕ
  tail = zeros rest ++ concat after

  abbrev front : List ℕ
  front = concat before ++ part

  zeros_are : zeros (room - length part) ≡ zeros size ++ zeros rest
  zeros_are =
      let e : room - length part ≡ size + rest = omega (arith, less) in
      ap (λ n. zeros n) e ∙ zeros_split size rest

  split : bytes ≡ front ++ (zeros size ++ tail)
  split =
      is ∙ concat-append before (region room part ∷ after)
      ∙ ap (λ z. concat before ++ ((part ++ z) ++ concat after)) zeros_are ∙ simp (append_assoc)

  front_len : length front ≡ place
  front_len = length-append (concat before) part ∙ sym at

  pub there : (place + size) ≤ length bytes
  there =
      omega (
        arith,
        ap length split,
        length-append front (zeros size ++ tail),
        length-append (zeros size) tail,
        length-replicate {A = ℕ} size 0,
        front_len,
      )

  pub put_in : take place bytes ++ (number ++ drop (place + size) bytes)
      ≡ concat (before ++ region room (part ++ number) ∷ after)
  put_in =
      let first : take place bytes ≡ front = ap₂ take (sym front_len) split ∙ take-append_seam front (zeros size ++ tail) in
      let last : drop (place + size) bytes ≡ tail =
      drop_sum place size bytes
      ∙ ap (drop size) (ap₂ drop (sym front_len) split ∙ drop-append_seam front (zeros size ++ tail))
      ∙ ap (λ n. drop n (zeros size ++ tail)) (sym (length-replicate {A = ℕ} size 0)) ∙ drop-append_seam (zeros size) tail in
      let e : rest ≡ room - length (part ++ number) = omega (arith, length-append part number, len) in
      ap₂ (λ f l. f ++ (number ++ l)) first last
      ∙ ap (λ n. front ++ (number ++ (zeros n ++ concat after))) e
      ∙ assoc (concat before) part number (zeros (room - length (part ++ number))) (concat after)
      ∙ sym (concat-append before (region room (part ++ number) ∷ after))

-- the bytes of a column, one number more
pub column_more : (g : Stretch → ℕ) (size : ℕ) (list : List Stretch) (x : Stretch)
    → column_bytes size (map g (list ++ x ∷ [])) ≡ column_bytes size (map g list) ++ little_bytes size (g x)
column_more g size list x =
    ap (column_bytes size) (map-append g list (x ∷ []))
    ∙ flat_map-append (little_bytes size) (map g list) (g x ∷ [])
    ∙ ap (λ more. column_bytes size (map g list) ++ more) (append-nil (little_bytes size (g x)))

-- ---- before any number is written

region_none : (room : ℕ) → region room [] ≡ zeros room
region_none room = let e : room - 0 ≡ room = omega arith in ap zeros e

pub zeros_laid : (front bits : List ℕ) (a b c d e m end : ℕ) → bits ≡ zeros m → end ≡ a + (b + (c + (d + (e + m))))
    → front ++ zeros end
    ≡ concat (front ∷ region a [] ∷ region b [] ∷ region c [] ∷ region d [] ∷ region e [] ∷ bits ∷ [])
zeros_laid front bits a b c d e m end is at =
    ap (λ l. front ++ l) (ap zeros at ∙ zeros_split a (b + (c + (d + (e + m))))
    ∙ ap₂ (λ p q. p ++ q) (sym (region_none a)) (zeros_split b (c + (d + (e + m)))
    ∙ ap₂ (λ p q. p ++ q) (sym (region_none b)) (zeros_split c (d + (e + m))
    ∙ ap₂ (λ p q. p ++ q) (sym (region_none c)) (zeros_split d (e + m)
    ∙ ap₂ (λ p q. p ++ q) (sym (region_none d)) (zeros_split e m
    ∙ ap₂ (λ p q. p ++ q) (sym (region_none e)) (sym is ∙ sym (append-nil bits)))))))
