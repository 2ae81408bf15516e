-- The bits of stretches in their bytes, one more.
use Rattle.std.proofs.Common.{◌≡◌, ℕ, zero, suc, ◌+◌, ◌-◌, ◌*◌, ◌/◌, ◌%◌, ◌<◌, ◌≤◌, ◌^◌, List, [], ◌∷◌, ◌++◌, length, map, set, replicate}
use Rattle.std.proofs.Common.{arith, refl, sym, ap, ap₂, ◌∙◌, Option, Some, None, true, false, inl, inr, append_assoc, get_or, min, length-append}
use Rattle.std.proofs.lemmas.List.Folds.{concat-append}
use Rattle.std.specs.Prelude.{if◌then◌else◌}
use Rattle.std.specs.List.{range_with_len, concat}
use Rattle.std.proofs.lemmas.List.{map-append, append-nil, replicate_more, length-map}
use Rattle.std.proofs.lemmas.Bool.{cases_lt, cases_eq}
use Rattle.dl_stretch.specs.declared.told.Told.{Told}
use Rattle.dl_stretch.specs.declared.stretch.Stretch.{Stretch}
use Rattle.dl_pack.specs.Columns.{told_bit, bit_at, byte_at, statement_bytes, padded}
use Rattle.dl_index.specs.Layout.{rounded}
use Rattle.dl_pack.specs.Written.{bits_in, bits_room}
use Rattle.dl_pack.proofs.BitLemmas.{below_8}
use Rattle.dl_pack.proofs.ColumnLemmas.{range_push}

-- ---- one bit more

pub small_bit : (o : Option Told) → told_bit o ≤ 1
small_bit None = omega arith
small_bit (Some t) = elim t.is_stmt as (λ b. (if b then 1 else 0) ≤ 1) [ true ↦ omega arith | false ↦ omega arith ]

bit_small : (list : List Stretch) (i : ℕ) → bit_at list i ≤ 1
bit_small [] i = omega arith
bit_small (x ∷ list) zero = small_bit x.told
bit_small (x ∷ list) (suc i) = bit_small list i

bit_none : (list : List Stretch) (i : ℕ) → length list ≤ i → bit_at list i ≡ 0
bit_none [] i le = refl
bit_none (x ∷ list) zero le = absurd (omega arith)
bit_none (x ∷ list) (suc i) le = bit_none list i (omega arith)

bit_here : (list : List Stretch) (x : Stretch) → bit_at (list ++ x ∷ []) (length list) ≡ told_bit x.told
bit_here [] x = refl
bit_here (y ∷ list) x = bit_here list x

bit_other : (list : List Stretch) (x : Stretch) (i : ℕ) → (i ≡ length list → ⊥)
    → bit_at (list ++ x ∷ []) i ≡ bit_at list i
bit_other [] x zero ne = absurd (ne refl)
bit_other [] x (suc i) ne = refl
bit_other (y ∷ list) x zero ne = refl
bit_other (y ∷ list) x (suc i) ne = bit_other list x i (λ e. ne (ap suc e))

abbrev pub byte_of : (ℕ → ℕ) → ℕ → ℕ
byte_of bit i =
    bit i + 2 * bit (i + 1) + 4 * bit (i + 2) + 8 * bit (i + 3) + 16 * bit (i + 4) + 32 * bit (i + 5) + 64 * bit (i + 6)
    + 128 * bit (i + 7)

-- bits that are the same but for the one at n, which is none before
module _ (f g : ℕ → ℕ) (n b : ℕ) (same : (i : ℕ) → (i ≡ n → ⊥) → g i ≡ f i) (here : g n ≡ b)
    (none : (i : ℕ) → n ≤ i → f i ≡ 0) (small : (i : ℕ) → f i ≤ 1) where
  other_byte : (i : ℕ) → (n < i) → byte_of g i ≡ byte_of f i
  other_byte i less =
      omega (
        arith,
        same i (λ e. omega arith),
        same (i + 1) (λ e. omega arith),
        same (i + 2) (λ e. omega arith),
        same (i + 3) (λ e. omega arith),
        same (i + 4) (λ e. omega arith),
        same (i + 5) (λ e. omega arith),
        same (i + 6) (λ e. omega arith),
        same (i + 7) (λ e. omega arith),
      )

  earlier_byte : (i : ℕ) → (i + 7 < n) → byte_of g i ≡ byte_of f i
  earlier_byte i less =
      omega (
        arith,
        same i (λ e. omega arith),
        same (i + 1) (λ e. omega arith),
        same (i + 2) (λ e. omega arith),
        same (i + 3) (λ e. omega arith),
        same (i + 4) (λ e. omega arith),
        same (i + 5) (λ e. omega arith),
        same (i + 6) (λ e. omega arith),
        same (i + 7) (λ e. omega arith),
      )

  abbrev Put : ℕ → Type 0
  Put r = (i : ℕ) → n ≡ i + r → (byte_of g i ≡ byte_of f i + 2 ^ r * b) × (byte_of f i + 2 ^ r ≤ 255)

  at : (i : ℕ) → n ≡ i → g i ≡ b
  at i e = ap g (sym e) ∙ here

  put_0 : Put 0
  put_0 i e =
      let h0 : g i ≡ b = at i (omega arith) in
      let z0 = none i (omega arith) in
      let h1 = same (i + 1) (λ q. omega arith) in
      let z1 = none (i + 1) (omega arith) in
      let h2 = same (i + 2) (λ q. omega arith) in
      let z2 = none (i + 2) (omega arith) in
      let h3 = same (i + 3) (λ q. omega arith) in
      let z3 = none (i + 3) (omega arith) in
      let h4 = same (i + 4) (λ q. omega arith) in
      let z4 = none (i + 4) (omega arith) in
      let h5 = same (i + 5) (λ q. omega arith) in
      let z5 = none (i + 5) (omega arith) in
      let h6 = same (i + 6) (λ q. omega arith) in
      let z6 = none (i + 6) (omega arith) in
      let h7 = same (i + 7) (λ q. omega arith) in
      let z7 = none (i + 7) (omega arith) in
      (omega (arith, h0, h1, h2, h3, h4, h5, h6, h7, z0), omega (arith, z0, z1, z2, z3, z4, z5, z6, z7))

  put_1 : Put 1
  put_1 i e =
      let h0 = same i (λ q. omega arith) in
      let z0 = small i in
      let h1 : g (i + 1) ≡ b = at (i + 1) (omega arith) in
      let z1 = none (i + 1) (omega arith) in
      let h2 = same (i + 2) (λ q. omega arith) in
      let z2 = none (i + 2) (omega arith) in
      let h3 = same (i + 3) (λ q. omega arith) in
      let z3 = none (i + 3) (omega arith) in
      let h4 = same (i + 4) (λ q. omega arith) in
      let z4 = none (i + 4) (omega arith) in
      let h5 = same (i + 5) (λ q. omega arith) in
      let z5 = none (i + 5) (omega arith) in
      let h6 = same (i + 6) (λ q. omega arith) in
      let z6 = none (i + 6) (omega arith) in
      let h7 = same (i + 7) (λ q. omega arith) in
      let z7 = none (i + 7) (omega arith) in
      (omega (arith, h0, h1, h2, h3, h4, h5, h6, h7, z1), omega (arith, z0, z1, z2, z3, z4, z5, z6, z7))

  put_2 : Put 2
  put_2 i e =
      let h0 = same i (λ q. omega arith) in
      let z0 = small i in
      let h1 = same (i + 1) (λ q. omega arith) in
      let z1 = small (i + 1) in
      let h2 : g (i + 2) ≡ b = at (i + 2) (omega arith) in
      let z2 = none (i + 2) (omega arith) in
      let h3 = same (i + 3) (λ q. omega arith) in
      let z3 = none (i + 3) (omega arith) in
      let h4 = same (i + 4) (λ q. omega arith) in
      let z4 = none (i + 4) (omega arith) in
      let h5 = same (i + 5) (λ q. omega arith) in
      let z5 = none (i + 5) (omega arith) in
      let h6 = same (i + 6) (λ q. omega arith) in
      let z6 = none (i + 6) (omega arith) in
      let h7 = same (i + 7) (λ q. omega arith) in
      let z7 = none (i + 7) (omega arith) in
      (omega (arith, h0, h1, h2, h3, h4, h5, h6, h7, z2), omega (arith, z0, z1, z2, z3, z4, z5, z6, z7))

  put_3 : Put 3
  put_3 i e =
      let h0 = same i (λ q. omega arith) in
      let z0 = small i in
      let h1 = same (i + 1) (λ q. omega arith) in
      let z1 = small (i + 1) in
      let h2 = same (i + 2) (λ q. omega arith) in
      let z2 = small (i + 2) in
      let h3 : g (i + 3) ≡ b = at (i + 3) (omega arith) in
      let z3 = none (i + 3) (omega arith) in
      let h4 = same (i + 4) (λ q. omega arith) in
      let z4 = none (i + 4) (omega arith) in
      let h5 = same (i + 5) (λ q. omega arith) in
      let z5 = none (i + 5) (omega arith) in
      let h6 = same (i + 6) (λ q. omega arith) in
      let z6 = none (i + 6) (omega arith) in
      let h7 = same (i + 7) (λ q. omega arith) in
      let z7 = none (i + 7) (omega arith) in
      (omega (arith, h0, h1, h2, h3, h4, h5, h6, h7, z3), omega (arith, z0, z1, z2, z3, z4, z5, z6, z7))

  put_4 : Put 4
  put_4 i e =
      let h0 = same i (λ q. omega arith) in
      let z0 = small i in
      let h1 = same (i + 1) (λ q. omega arith) in
      let z1 = small (i + 1) in
      let h2 = same (i + 2) (λ q. omega arith) in
      let z2 = small (i + 2) in
      let h3 = same (i + 3) (λ q. omega arith) in
      let z3 = small (i + 3) in
      let h4 : g (i + 4) ≡ b = at (i + 4) (omega arith) in
      let z4 = none (i + 4) (omega arith) in
      let h5 = same (i + 5) (λ q. omega arith) in
      let z5 = none (i + 5) (omega arith) in
      let h6 = same (i + 6) (λ q. omega arith) in
      let z6 = none (i + 6) (omega arith) in
      let h7 = same (i + 7) (λ q. omega arith) in
      let z7 = none (i + 7) (omega arith) in
      (omega (arith, h0, h1, h2, h3, h4, h5, h6, h7, z4), omega (arith, z0, z1, z2, z3, z4, z5, z6, z7))

  put_5 : Put 5
  put_5 i e =
      let h0 = same i (λ q. omega arith) in
      let z0 = small i in
      let h1 = same (i + 1) (λ q. omega arith) in
      let z1 = small (i + 1) in
      let h2 = same (i + 2) (λ q. omega arith) in
      let z2 = small (i + 2) in
      let h3 = same (i + 3) (λ q. omega arith) in
      let z3 = small (i + 3) in
      let h4 = same (i + 4) (λ q. omega arith) in
      let z4 = small (i + 4) in
      let h5 : g (i + 5) ≡ b = at (i + 5) (omega arith) in
      let z5 = none (i + 5) (omega arith) in
      let h6 = same (i + 6) (λ q. omega arith) in
      let z6 = none (i + 6) (omega arith) in
      let h7 = same (i + 7) (λ q. omega arith) in
      let z7 = none (i + 7) (omega arith) in
      (omega (arith, h0, h1, h2, h3, h4, h5, h6, h7, z5), omega (arith, z0, z1, z2, z3, z4, z5, z6, z7))

  put_6 : Put 6
  put_6 i e =
      let h0 = same i (λ q. omega arith) in
      let z0 = small i in
      let h1 = same (i + 1) (λ q. omega arith) in
      let z1 = small (i + 1) in
      let h2 = same (i + 2) (λ q. omega arith) in
      let z2 = small (i + 2) in
      let h3 = same (i + 3) (λ q. omega arith) in
      let z3 = small (i + 3) in
      let h4 = same (i + 4) (λ q. omega arith) in
      let z4 = small (i + 4) in
      let h5 = same (i + 5) (λ q. omega arith) in
      let z5 = small (i + 5) in
      let h6 : g (i + 6) ≡ b = at (i + 6) (omega arith) in
      let z6 = none (i + 6) (omega arith) in
      let h7 = same (i + 7) (λ q. omega arith) in
      let z7 = none (i + 7) (omega arith) in
      (omega (arith, h0, h1, h2, h3, h4, h5, h6, h7, z6), omega (arith, z0, z1, z2, z3, z4, z5, z6, z7))

  put_7 : Put 7
  put_7 i e =
      let h0 = same i (λ q. omega arith) in
      let z0 = small i in
      let h1 = same (i + 1) (λ q. omega arith) in
      let z1 = small (i + 1) in
      let h2 = same (i + 2) (λ q. omega arith) in
      let z2 = small (i + 2) in
      let h3 = same (i + 3) (λ q. omega arith) in
      let z3 = small (i + 3) in
      let h4 = same (i + 4) (λ q. omega arith) in
      let z4 = small (i + 4) in
      let h5 = same (i + 5) (λ q. omega arith) in
      let z5 = small (i + 5) in
      let h6 = same (i + 6) (λ q. omega arith) in
      let z6 = small (i + 6) in
      let h7 : g (i + 7) ≡ b = at (i + 7) (omega arith) in
      let z7 = none (i + 7) (omega arith) in
      (omega (arith, h0, h1, h2, h3, h4, h5, h6, h7, z7), omega (arith, z0, z1, z2, z3, z4, z5, z6, z7))

  pub byte_put : (r : ℕ) → r < 8 → Put r
  byte_put r lt = below_8 Put put_0 put_1 put_2 put_3 put_4 put_5 put_6 put_7 r lt

-- ---- one byte more, among all

mapped : (f g : ℕ → ℕ) (a m : ℕ) → ((i : ℕ) → f (a + i) ≡ g (a + i)) → map f (range_with_len a m) ≡ map g (range_with_len a m)
mapped f g a zero same = refl
mapped f g a (suc m) same =
    let z : a + 0 ≡ a = omega arith in
    ap₂ (λ x l. x ∷ l) (ap f (sym z) ∙ same 0 ∙ ap g z) (mapped f g (a + 1) m (λ i. (
    let e : a + 1 + i ≡ a + suc i = omega arith in
    ap f e ∙ same (suc i) ∙ ap g (sym e))))

pub set_mapped : (f g : ℕ → ℕ) (a m j v : ℕ) → j < m → v ≡ g (a + j)
    → ((i : ℕ) → (i ≡ j → ⊥) → f (a + i) ≡ g (a + i))
    → set (map f (range_with_len a m)) j v ≡ map g (range_with_len a m)
set_mapped f g a zero j v lt is same = absurd (omega arith)
set_mapped f g a (suc m) zero v lt is same =
    let z : a + 0 ≡ a = omega arith in
    ap₂ (λ x l. x ∷ l) (is ∙ ap g z) (mapped f g (a + 1) m (λ i. (
    let e : a + 1 + i ≡ a + suc i = omega arith in
    ap f e ∙ same (suc i) (λ q. omega arith) ∙ ap g (sym e))))
set_mapped f g a (suc m) (suc j) v lt is same =
    let z : a + 0 ≡ a = omega arith in
    let n : a + suc j ≡ a + 1 + j = omega arith in
    ap₂ (λ x l. x ∷ l) (ap f (sym z) ∙ same 0 (λ q. omega arith) ∙ ap g z)
    (set_mapped f g (a + 1) m j v (omega arith) (is ∙ ap g n) (λ i ne. (
    let e : a + 1 + i ≡ a + suc i = omega arith in
    ap f e ∙ same (suc i) (λ q. ne (omega arith)) ∙ ap g (sym e))))

module _ (list : List Stretch) (x : Stretch) (room : ℕ) (less : length list < room * 8) where
  abbrev k : ℕ
  k = length list

  abbrev more : List Stretch
  more = list ++ x ∷ []

  same_bit : (i : ℕ) → (i ≡ k → ⊥) → bit_at more i ≡ bit_at list i
  same_bit i ne = bit_other list x i ne

  none_bit : (i : ℕ) → k ≤ i → bit_at list i ≡ 0
  none_bit i le = bit_none list i le

  other_bytes : (j : ℕ) → (j ≡ k / 8 → ⊥) → byte_at list j ≡ byte_at more j
  other_bytes j ne = elim (cases_lt k (j * 8)) [
    | inl under ↦ sym (other_byte (bit_at list) (bit_at more) k (told_bit x.told) same_bit (bit_here list x) none_bit (bit_small list)
        (j * 8) under)
    | inr over ↦ sym (earlier_byte (bit_at list) (bit_at more) k (told_bit x.told) same_bit (bit_here list x) none_bit (bit_small list)
        (j * 8) (omega arith))
  ]

  pub this_byte : (byte_at more (k / 8) ≡ byte_at list (k / 8) + 2 ^ (k % 8) * told_bit x.told)
      × (byte_at list (k / 8) + 2 ^ (k % 8) ≤ 255)
  this_byte =
      byte_put (bit_at list) (bit_at more) k (told_bit x.told) same_bit (bit_here list x) none_bit (bit_small list) (k % 8)
      (omega arith) (k / 8 * 8) (omega arith)

  -- a bit that is set
  pub bits_set : (v : ℕ) → v ≡ byte_at more (k / 8) → set (bits_in room list) (k / 8) v ≡ bits_in room more
  bits_set v is =
      set_mapped (byte_at list) (byte_at more) 0 room (k / 8) v (omega arith) (is ∙ ap (byte_at more) (omega arith)) (λ i ne. (
      let z : 0 + i ≡ i = omega arith in
      ap (byte_at list) z ∙ other_bytes i ne ∙ ap (byte_at more) (sym z)))

  -- one that isn't
  pub bits_same : told_bit x.told ≡ 0 → bits_in room list ≡ bits_in room more
  bits_same none =
      mapped (byte_at list) (byte_at more) 0 room (λ i. (
      let z : 0 + i ≡ i = omega arith in
      ap (byte_at list) z ∙ elim (cases_eq i (k / 8)) [
        | inl e ↦ (let t = this_byte.0 in
            let m : byte_at list (k / 8) ≡ byte_at more (k / 8) =
            sym (t ∙ ap (λ b. byte_at list (k / 8) + 2 ^ (k % 8) * b) none ∙ omega arith) in
            ap (byte_at list) e ∙ m ∙ ap (byte_at more) (sym e))
        | inr ne ↦ other_bytes i ne
      ] ∙ ap (byte_at more) (sym z)))

-- ---- all bits

bytes_none : (list : List Stretch) (j : ℕ) → length list ≤ j * 8 → byte_at list j ≡ 0
bytes_none list j le =
    omega (
      arith,
      bit_none list (j * 8) le,
      bit_none list (j * 8 + 1) (omega arith),
      bit_none list (j * 8 + 2) (omega arith),
      bit_none list (j * 8 + 3) (omega arith),
      bit_none list (j * 8 + 4) (omega arith),
      bit_none list (j * 8 + 5) (omega arith),
      bit_none list (j * 8 + 6) (omega arith),
      bit_none list (j * 8 + 7) (omega arith),
    )

zeros_after : (list : List Stretch) (n z : ℕ) → length list ≤ n * 8
    → bits_in (n + z) list ≡ bits_in n list ++ replicate z 0
zeros_after list n zero le =
    let e : n + 0 ≡ n = omega arith in ap (λ m. bits_in m list) e ∙ sym (append-nil (bits_in n list))
zeros_after list n (suc z) le =
    let e : n + suc z ≡ n + z + 1 = omega arith in
    let s : z + 1 ≡ suc z = omega arith in
    ap (λ m. bits_in m list) e ∙ ap (map (byte_at list)) (range_push 0 (n + z))
    ∙ map-append (byte_at list) (range_with_len 0 (n + z)) ((0 + (n + z)) ∷ [])
    ∙ ap₂ (λ l b. l ++ b ∷ []) (zeros_after list n z le) (bytes_none list (0 + (n + z)) (omega arith))
    ∙ append_assoc (bits_in n list) (replicate z 0) (0 ∷ [])
    ∙ ap (λ l. bits_in n list ++ l) (replicate_more z 0 ∙ ap (λ m. replicate m 0) s)

pub range_len : (a n : ℕ) → length (range_with_len a n) ≡ n
range_len a zero = refl
range_len a (suc n) = ap suc (range_len (a + 1) n)

pub bits_padded : (list : List Stretch) → bits_in (bits_room (length list)) list ≡ padded (statement_bytes list)
bits_padded list =
    let n : ℕ = (length list + 7) / 8 in
    let len : length (statement_bytes list) ≡ n = length-map (range_with_len 0 n) (byte_at list) ∙ range_len 0 n in
    let e : rounded n ≡ n + (rounded n - n) = omega arith in
    ap (λ m. bits_in m list) e ∙ zeros_after list n (rounded n - n) (omega arith)
    ∙ ap (λ m. statement_bytes list ++ replicate (rounded m - m) 0) (sym len)

pub bits_none : (room : ℕ) → bits_in room [] ≡ replicate room 0
bits_none room = let e : 0 + room ≡ room = omega arith in ap (λ m. bits_in m []) (sym e) ∙ zeros_after [] 0 room (omega arith)

-- ---- a byte among others

pub set_after : (a c : List ℕ) (j v : ℕ) → set (a ++ c) (length a + j) v ≡ a ++ set c j v
set_after [] c j v = let e : 0 + j ≡ j = omega arith in ap (λ n. set c n v) e
set_after (x ∷ a) c j v =
    let e : suc (length a) + j ≡ suc (length a + j) = omega arith in
    ap (λ n. set (x ∷ (a ++ c)) n v) e ∙ ap (λ l. x ∷ l) (set_after a c j v)

get_after : (a c : List ℕ) (j d : ℕ) → get_or (a ++ c) (length a + j) d ≡ get_or c j d
get_after [] c j d = let e : 0 + j ≡ j = omega arith in ap (λ n. get_or c n d) e
get_after (x ∷ a) c j d =
    let e : suc (length a) + j ≡ suc (length a + j) = omega arith in
    ap (λ n. get_or (x ∷ (a ++ c)) n d) e ∙ get_after a c j d

get_mapped : (f : ℕ → ℕ) (a m j d : ℕ) → j < m → get_or (map f (range_with_len a m)) j d ≡ f (a + j)
get_mapped f a zero j d lt = absurd (omega arith)
get_mapped f a (suc m) zero d lt = let e : a + 0 ≡ a = omega arith in ap f (sym e)
get_mapped f a (suc m) (suc j) d lt =
    let e : a + 1 + j ≡ a + suc j = omega arith in get_mapped f (a + 1) m j d (omega arith) ∙ ap f e

module _ (before : List (List ℕ)) (list : List Stretch) (room place : ℕ) (bytes : List ℕ)
    (is : bytes ≡ concat (before ++ bits_in room list ∷ [])) (at : place ≡ length (concat before) + length list / 8)
    (less : length list < room * 8) where
  apart : bytes ≡ concat before ++ bits_in room list
  apart = is ∙ concat-append before (bits_in room list ∷ []) ∙ ap (λ l. concat before ++ l) (append-nil (bits_in room list))

  pub bits_len : length bytes ≡ length (concat before) + room
  bits_len =
      ap length apart ∙ length-append (concat before) (bits_in room list)
      ∙ ap (λ n. length (concat before) + n) (length-map (range_with_len 0 room) (byte_at list) ∙ range_len 0 room)

  pub byte_there : (d : ℕ) → get_or bytes place d ≡ byte_at list (length list / 8)
  byte_there d =
      ap₂ (λ l n. get_or l n d) apart at ∙ get_after (concat before) (bits_in room list) (length list / 8) d
      ∙ get_mapped (byte_at list) 0 room (length list / 8) d (omega arith)
      ∙ (let e : 0 + length list / 8 ≡ length list / 8 = omega arith in ap (byte_at list) e)

  -- the bit of one more
  pub bit_put : (x : Stretch) (old weight v : ℕ) → (told_bit x.told ≡ 0 → ⊥) → old ≡ byte_at list (length list / 8)
      → weight ≡ 2 ^ (length list % 8) → v ≡ min (old + weight) 255
      → set bytes place v ≡ concat (before ++ bits_in room (list ++ x ∷ []) ∷ [])
  bit_put x old weight v some was w sum =
      let one : told_bit x.told ≡ 1 = (let s = small_bit x.told in omega (arith, s, some)) in
      let t = this_byte list x room less in
      let t0 = t.0 ∙ ap (λ b. byte_at list (length list / 8) + 2 ^ (length list % 8) * b) one in
      let t1 = t.1 in
      let value : v ≡ byte_at (list ++ x ∷ []) (length list / 8) = omega (arith, sum, was, w, t0, t1) in
      ap₂ (λ l n. set l n v) apart at ∙ set_after (concat before) (bits_in room list) (length list / 8) v
      ∙ ap (λ l. concat before ++ l) (bits_set list x room less v value ∙ sym (append-nil (bits_in room (list ++ x ∷ []))))
      ∙ sym (concat-append before (bits_in room (list ++ x ∷ []) ∷ []))

  pub bit_left : (x : Stretch) → told_bit x.told ≡ 0 → bytes ≡ concat (before ++ bits_in room (list ++ x ∷ []) ∷ [])
  bit_left x none = is ∙ ap (λ b. concat (before ++ b ∷ [])) (bits_same list x room less none)
