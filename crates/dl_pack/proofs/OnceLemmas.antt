-- Items that stand once: texts, and so the files that are made of them.
use Rattle.std.proofs.Common.{◌≡◌, ℕ, zero, suc, ◌<◌, ◌≤◌, Bool, true, false, List, [], ◌∷◌, ◌++◌, length, map}
use Rattle.std.proofs.Common.{Some, None, Result, Ok, Err, inl, inr, arith, refl, sym, ap, ap₂, ◌∙◌, subst, Decides}
use Rattle.std.specs.Prelude.{slice_get, get_or, drop, unwrap_or, if◌then◌else◌, IfOk, OnErr}
use Rattle.std.specs.List.{All, IsDistinct, flat_map, list_any}
use Rattle.std.specs.Option.{option_map, option_to_list}
use Rattle.std.proofs.lemmas.Bool.{cases_order}
use Rattle.std.proofs.lemmas.List.Elements.{All-append, All-cons, All-head, All-nil, All-tail, All-get_or, All-weaker}
use Rattle.std.proofs.lemmas.List.{append-nil, map-append}
use Rattle.std.proofs.lemmas.Map.Keys.{apart_from_distinct}
use Rattle.std.proofs.lemmas.Option.{slice_get_within, get_or_from_slice_get, slice_get-map, slice_get-get_or}
use Rattle.indexmap.specs.IndexSet.{insert_key}
use Rattle.dl_pack.specs.declared.names.FileTexts.{FileTexts}
use Rattle.dl_pack.specs.Named.{Named, Once, Grows, named, text_of, parts_of}
use Rattle.dl_pack.specs.Within.{HasTexts, Packed}

-- ---- what distinct keys stand for stands once

true_false : true ≡ false → ⊥
true_false e = cc

some_same : {A : Type 0} (a b : A) → Some a ≡ Some b → a ≡ b
some_same a b is = ap (λ o. unwrap_or o a) is

none_some : {A : Type 0} (a : A) → None ≡ Some a → ⊥
none_some a is = cc

-- what a key at a place stands for
map_at : {A B : Type 0} (f : A → B) (ks : List A) (i : ℕ) (x : B) → slice_get (map f ks) i ≡ Some x
    → (a : A) × (slice_get ks i ≡ Some a) × (f a ≡ x)
map_at f [] i x is = absurd (none_some x is)
map_at f (k ∷ ks) zero x is = (k, refl, some_same (f k) x is)
map_at f (k ∷ ks) (suc i) x is = map_at f ks i x is

module _ {A B : Type 0} (f : A → B) (e : A → A → Bool) (same : (a b : A) → f a ≡ f b → e a b ≡ true) where
  one_before : (ks : List A) → IsDistinct e ks → (i j : ℕ) (a b : A) → i < j → slice_get ks i ≡ Some a
      → slice_get ks j ≡ Some b → f a ≡ f b → ⊥
  one_before ks distinct i j a b lt at_i at_j is =
      let apart : e (get_or ks i a) (get_or ks j a) ≡ false =
      apart_from_distinct e ks i j a distinct lt (slice_get_within ks j b at_j) in
      true_false (sym (same a b is)
      ∙ (sym (ap₂ e (get_or_from_slice_get ks i a a at_i) (get_or_from_slice_get ks j b a at_j)) ∙ apart))

  pub once_mapped : (ks : List A) → IsDistinct e ks → Once (map f ks)
  once_mapped ks distinct i j x at_i at_j =
      let a = map_at f ks i x at_i in
      let b = map_at f ks j x at_j in
      elim (cases_order i j) [
        | inl is ↦ is
        | inr (inl lt) ↦ absurd (one_before ks distinct i j a.0 b.0 lt a.1 b.1 (a.2 ∙ sym b.2))
        | inr (inr lt) ↦ absurd (one_before ks distinct j i b.0 a.0 lt b.1 a.1 (b.2 ∙ sym a.2))
      ]

at_place : {A : Type 0} (P : A → Type 0) (xs : List A) (i : ℕ) (x : A) → slice_get xs i ≡ Some x → All P xs → P x
at_place P xs i x is all =
    subst P (get_or_from_slice_get xs i x x is) (All-get_or P xs i x (slice_get_within xs i x is) all)

-- ---- numbers of texts, of which those that stand for none come last

-- after 0 none but 0 comes
abbrev ZerosLast : List ℕ → Type 0
ZerosLast numbers = (i : ℕ) → get_or numbers i 0 ≡ 0 → get_or numbers (suc i) 0 ≡ 0

last_tail : (n : ℕ) (ns : List ℕ) → ZerosLast (n ∷ ns) → ZerosLast ns
last_tail n ns last i is = last (suc i) is

zeros : (ns : List ℕ) → ZerosLast (0 ∷ ns) → All (λ n. n ≡ 0) ns
zeros [] last = All-nil (λ n. n ≡ 0)
zeros (n ∷ ns) last =
    let is : n ≡ 0 = last 0 refl in
    All-cons (λ n. n ≡ 0) n ns is (zeros ns (subst (λ m. ZerosLast (m ∷ ns)) is (last_tail 0 (n ∷ ns) last)))

text_there : (texts : List (List ℕ)) (n : ℕ) → suc n ≤ length texts → text_of texts (suc n) ≡ get_or texts n [] ∷ []
text_there texts n le = ap option_to_list (slice_get-get_or texts n [] (omega arith))

no_text : (texts : List (List ℕ)) (numbers : List ℕ) → All (λ n. n ≡ 0) numbers → flat_map (text_of texts) numbers ≡ []
no_text texts [] none = refl
no_text texts (n ∷ numbers) none =
    ap₂ (λ m rest. text_of texts m ++ rest) (All-head (λ n. n ≡ 0) n numbers none)
    (no_text texts numbers (All-tail (λ n. n ≡ 0) n numbers none))

all_zero : (ns ms : List ℕ) → All (λ n. n ≡ 0) ns → All (λ n. n ≡ 0) ms → length ns ≡ length ms → ns ≡ ms
all_zero [] [] zeros others len = refl
all_zero [] (m ∷ ms) zeros others len = absurd (omega arith)
all_zero (n ∷ ns) [] zeros others len = absurd (omega arith)
all_zero (n ∷ ns) (m ∷ ms) zeros others len =
    ap₂ (λ k rest. k ∷ rest) (All-head (λ n. n ≡ 0) n ns zeros ∙ sym (All-head (λ n. n ≡ 0) m ms others))
    (all_zero ns ms (All-tail (λ n. n ≡ 0) n ns zeros) (All-tail (λ n. n ≡ 0) m ms others) (omega arith))

some_text : (texts : List (List ℕ)) (n : ℕ) (more : List (List ℕ)) → suc n ≤ length texts
    → [] ≡ text_of texts (suc n) ++ more → ⊥
some_text texts n more le is = omega (arith, ap length (is ∙ ap (λ t. t ++ more) (text_there texts n le)))

-- lists of texts that are the same begin with the same, and so go on
first_text : (t u : List ℕ) (ts us : List (List ℕ)) → t ∷ ts ≡ u ∷ us → t ≡ u
first_text t u ts us is = ap (λ l. get_or l 0 []) is

other_texts : (t u : List ℕ) (ts us : List (List ℕ)) → t ∷ ts ≡ u ∷ us → ts ≡ us
other_texts t u ts us is = ap (drop 1) is

module _ (texts : List (List ℕ)) (once : Once texts) where
  same_number : (n m : ℕ) → n < length texts → m < length texts → get_or texts n [] ≡ get_or texts m [] → n ≡ m
  same_number n m lt less is =
      once n m (get_or texts n []) (slice_get-get_or texts n [] lt) (slice_get-get_or texts m [] less ∙ ap Some (sym is))

  same_numbers : (ns ms : List ℕ) → ZerosLast ns → ZerosLast ms → All (λ n. n ≤ length texts) ns
      → All (λ n. n ≤ length texts) ms → length ns ≡ length ms
      → flat_map (text_of texts) ns ≡ flat_map (text_of texts) ms → ns ≡ ms
  same_numbers [] [] last others within bound len is = refl
  same_numbers [] (m ∷ ms) last others within bound len is = absurd (omega arith)
  same_numbers (n ∷ ns) [] last others within bound len is = absurd (omega arith)
  same_numbers (zero ∷ ns) (zero ∷ ms) last others within bound len is =
      ap (λ rest. 0 ∷ rest) (all_zero ns ms (zeros ns last) (zeros ms others) (omega arith))
  same_numbers (zero ∷ ns) (suc m ∷ ms) last others within bound len is =
      absurd (some_text texts m (flat_map (text_of texts) ms) (All-head (λ n. n ≤ length texts) (suc m) ms bound)
      (sym (no_text texts ns (zeros ns last)) ∙ is))
  same_numbers (suc n ∷ ns) (zero ∷ ms) last others within bound len is =
      absurd (some_text texts n (flat_map (text_of texts) ns) (All-head (λ n. n ≤ length texts) (suc n) ns within)
      (sym (no_text texts ms (zeros ms others)) ∙ sym is))
  same_numbers (suc n ∷ ns) (suc m ∷ ms) last others within bound len is =
      let lt : suc n ≤ length texts = All-head (λ n. n ≤ length texts) (suc n) ns within in
      let less : suc m ≤ length texts = All-head (λ n. n ≤ length texts) (suc m) ms bound in
      let both : get_or texts n [] ∷ flat_map (text_of texts) ns ≡ get_or texts m [] ∷ flat_map (text_of texts) ms =
      ap (λ t. t ++ flat_map (text_of texts) ns) (sym (text_there texts n lt)) ∙ is
      ∙ ap (λ t. t ++ flat_map (text_of texts) ms) (text_there texts m less) in
      ap₂ (λ k rest. suc k ∷ rest)
      (same_number n m (omega arith) (omega arith) (first_text _ _ _ _ both))
      (same_numbers ns ms (last_tail (suc n) ns last) (last_tail (suc m) ms others) (All-tail (λ n. n ≤ length texts) (suc n) ns within)
      (All-tail (λ n. n ≤ length texts) (suc m) ms bound) (omega arith) (other_texts _ _ _ _ both))

  parts_flat : (numbers : List ℕ) → length numbers ≡ 3 → parts_of texts numbers ≡ flat_map (text_of texts) numbers
  parts_flat [] len = absurd (omega arith)
  parts_flat (a ∷ []) len = absurd (omega arith)
  parts_flat (a ∷ b ∷ []) len = absurd (omega arith)
  parts_flat (a ∷ b ∷ c ∷ []) len =
      ap (λ z. text_of texts a ++ (text_of texts b ++ z)) (sym (append-nil (text_of texts c)))
  parts_flat (a ∷ b ∷ c ∷ d ∷ numbers) len = absurd (omega arith)

  -- files that stand for the same are the same
  same_file : (f g : FileTexts) → Packed f.texts → Packed g.texts → HasTexts (length texts) f → HasTexts (length texts) g
      → named texts f ≡ named texts g → f ≡ g
  same_file f g packed other within bound is =
      ap₂ (λ u ns. record { unit = u; texts = ns }) (ap (λ (n : Named). n.unit) is)
      (same_numbers f.texts g.texts packed.last other.last within bound (packed.three ∙ sym other.three)
      (sym (parts_flat f.texts packed.three) ∙ ap (λ (n : Named). n.parts) is ∙ parts_flat g.texts other.three))

  -- files that are distinct stand for what stands once
  pub once_named : (e : FileTexts → FileTexts → Bool) → ((f g : FileTexts) → Decides (e f g) (f ≡ g))
      → (files : List FileTexts) → IsDistinct e files → All (λ f. Packed f.texts) files → All (HasTexts (length texts)) files
      → Once (map (named texts) files)
  once_named e decides files distinct packed within i j x at_i at_j =
      let f = map_at (named texts) files i x at_i in
      let g = map_at (named texts) files j x at_j in
      let is : f.0 ≡ g.0 = same_file f.0 g.0 (at_place (λ (h : FileTexts). Packed h.texts) files i f.0 f.1 packed)
      (at_place (λ (h : FileTexts). Packed h.texts) files j g.0 g.1 packed)
      (at_place (HasTexts (length texts)) files i f.0 f.1 within) (at_place (HasTexts (length texts)) files j g.0 g.1 within) (f.2 ∙ sym g.2) in
      once_mapped (λ (h : FileTexts). h) e (λ a b is. (decides a b).1 is) files distinct i j f.0
      (slice_get-map (λ (h : FileTexts). h) files i ∙ ap (option_map (λ (h : FileTexts). h)) f.1)
      (slice_get-map (λ (h : FileTexts). h) files j ∙ ap (option_map (λ (h : FileTexts). h)) (g.1 ∙ ap Some (sym is)))

-- ---- a set with one more key

-- keys with one more, or as they were
kept_or_put : {A : Type 0} (b : Bool) (old new : List A) (k : A) → new ≡ (if b then old else old ++ k ∷ [])
    → (more : List A) × (new ≡ old ++ more) × All (λ x. x ≡ k) more
kept_or_put true old new k is = ([], is ∙ sym (append-nil old), All-nil (λ x. x ≡ k))
kept_or_put false old new k is = (k ∷ [], is, All-cons (λ x. x ≡ k) k [] refl (All-nil (λ x. x ≡ k)))

pub keys_after : {A B E : Type 0} (e : A → A → Bool) (old new : List A) (k : A) (r : Result B E)
    → IfOk r (λ _. new ≡ insert_key e old k) → OnErr r (new ≡ old)
    → (more : List A) × (new ≡ old ++ more) × All (λ x. x ≡ k) more
keys_after e old new k (Ok r) put same = kept_or_put (list_any (e k) old) old new k put
keys_after e old new k (Err r) put same = kept_or_put true old new k same

-- what holds of the keys and of the one more
pub all_after : {A : Type 0} (P : A → Type 0) (old new : List A) (k : A)
    → ((more : List A) × (new ≡ old ++ more) × All (λ x. x ≡ k) more) → All P old → P k → All P new
all_after P old new k after all one =
    subst (All P) (sym after.1)
    (All-append P old after.0 all (All-weaker (λ x. x ≡ k) P (λ x is. subst P (sym is) one) after.0 after.2))

pub grows_mapped : {A B : Type 0} (f : A → B) (old new : List A) (k : A)
    → ((more : List A) × (new ≡ old ++ more) × All (λ x. x ≡ k) more) → Grows (map f old) (map f new)
grows_mapped f old new k after = (map f after.0, ap (map f) after.1 ∙ map-append f old after.0)

pub number_mapped : {A B : Type 0} (f : A → B) (e : A → A → Bool) → ((a b : A) → Decides (e a b) (a ≡ b))
    → (keys : List A) (k : A) (i : ℕ) → ((x : A) × (slice_get keys i ≡ Some x) × (e k x ≡ true))
    → slice_get (map f keys) i ≡ Some (f k)
number_mapped f e decides keys k i stored =
    slice_get-map f keys i ∙ ap (option_map f) (stored.1 ∙ ap Some (sym ((decides k stored.0).0 stored.2)))

pub three_within : (n count a b c : ℕ) → n ≡ count → a ≤ n → b ≤ n → c ≤ n → All (λ m. m ≤ count) (a ∷ b ∷ c ∷ [])
three_within n count a b c is le_a le_b le_c =
    All-cons (λ m. m ≤ count) a (b ∷ c ∷ []) (omega arith) (All-cons (λ m. m ≤ count) b (c ∷ []) (omega arith)
    (All-cons (λ m. m ≤ count) c [] (omega arith) (All-nil (λ m. m ≤ count))))
