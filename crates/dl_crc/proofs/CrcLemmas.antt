-- Shifts of the register: bits above the eight least come through as they are.
use Rattle.std.proofs.Common.{◌≡◌, ℕ, zero, suc, ◌+◌, ◌*◌, ◌/◌, ◌%◌, ◌^◌, ◌<◌, ◌==◌, if◌then◌else◌, ◌-◌, List, [], ◌∷◌, ◌++◌, length, length-drop, take, drop, get_or, bit_xor, refl, sym, ap, ap₂, ◌∙◌, arith}
use Rattle.std.specs.Int.Bits.{xor_zero_r}
use Rattle.std.proofs.Math.Nat.{pow-suc}
use Rattle.std.proofs.Math.Seq.{drop-cons, take-add}
use Rattle.std.proofs.lemmas.List.{drop_all}
use Rattle.std.specs.List.{concat}
use Rattle.std.specs.Simd.{first_chunks}
use Rattle.std.proofs.lemmas.Nat.{xor_comm, xor_shr, xor_mod, xor_block}
use Rattle.std.proofs.lemmas.Nat.Bits.{bit_at_xor, same_from_bits}
use Rattle.dl_crc.specs.Crc32.{shifted, shifts, with_byte, with_bytes, turned_over, updated, crc_32}

pub xor_assoc : (a b c : ℕ) → bit_xor (bit_xor a b) c ≡ bit_xor a (bit_xor b c)
xor_assoc a b c =
    same_from_bits _ _ (λ i.
    rw (bit_at_xor (bit_xor a b) c i, bit_at_xor a b i, bit_at_xor a (bit_xor b c) i, bit_at_xor b c i) (omega arith))

half_of_xor : (h l k : ℕ) → bit_xor (h * 2 ^ suc k) l / 2 ≡ bit_xor (h * 2 ^ k) (l / 2)
half_of_xor h l k =
    let half : h * 2 ^ suc k / 2 ≡ h * 2 ^ k = rw (pow-suc 2 k) (omega arith) in
    xor_shr (h * 2 ^ suc k) l 1 ∙ ap (λ n. bit_xor n (l / 2)) half

least_of_xor : (h l k : ℕ) → bit_xor (h * 2 ^ suc k) l % 2 ≡ l % 2
least_of_xor h l k =
    let even : h * 2 ^ suc k % 2 ≡ 0 = rw (pow-suc 2 k) (omega arith) in
    xor_mod (h * 2 ^ suc k) l 1 ∙ ap (λ n. bit_xor n (l % 2)) even

shifted-above : (h l k : ℕ) → shifted (bit_xor (h * 2 ^ suc k) l) ≡ bit_xor (h * 2 ^ k) (shifted l)
shifted-above h l k =
    rw (half_of_xor h l k, least_of_xor h l k)
    (xor_assoc (h * 2 ^ k) (l / 2) (if l % 2 == 1 then 0xedb88320 else 0))

pub shifts-above : (k h l : ℕ) → shifts k (bit_xor (h * 2 ^ k) l) ≡ bit_xor h (shifts k l)
shifts-above zero h l = ap (λ n. bit_xor n l) (omega arith)
shifts-above (suc k) h l = ap (shifts k) (shifted-above h l k) ∙ shifts-above k h (shifted l)

split : (c : ℕ) → c ≡ bit_xor (c / 256 * 2 ^ 8) (c % 256)
split c =
    let zero_plus : 0 + c % 256 ≡ c % 256 = omega arith in
    let plus_zero : c / 256 * 2 ^ 8 + 0 ≡ c / 256 * 2 ^ 8 = omega arith in
    let block : bit_xor (c / 256 * 2 ^ 8 + 0) (0 + c % 256) ≡ bit_xor (c / 256) 0 * 2 ^ 8 + c % 256 =
    xor_block 8 (c / 256) 0 0 (c % 256) (omega arith) (omega arith) in
    let whole : c ≡ bit_xor (c / 256) 0 * 2 ^ 8 + c % 256 = rw (xor_zero_r (c / 256)) (omega arith) in
    whole ∙ sym block ∙ ap₂ bit_xor plus_zero zero_plus

-- eight shifts by the table
pub eight_shifts : (c : ℕ) → shifts 8 c ≡ bit_xor (shifts 8 (c % 256)) (c / 256)
eight_shifts c =
    ap (shifts 8) (split c) ∙ shifts-above 8 (c / 256) (c % 256) ∙ xor_comm (c / 256) (shifts 8 (c % 256))

-- a byte changes the eight least bits alone
pub byte_below : (c byte : ℕ) → byte < 256 → bit_xor c byte / 256 ≡ c / 256
byte_below c byte below =
    let none : byte / 256 ≡ 0 = omega arith in
    xor_shr c byte 8 ∙ ap (bit_xor (c / 256)) none ∙ xor_zero_r (c / 256)

pub with_byte-is : (c byte : ℕ) → byte < 256
    → with_byte c byte ≡ bit_xor (shifts 8 (bit_xor c byte % 256)) (c / 256)
unfolding with_byte
with_byte-is c byte below =
    eight_shifts (bit_xor c byte) ∙ ap (bit_xor (shifts 8 (bit_xor c byte % 256))) (byte_below c byte below)

-- ---- several bytes at once: shifts of a sum are the sum of the shifts

halves : (a b c d : ℕ) → bit_xor (bit_xor a b) (bit_xor c d) ≡ bit_xor (bit_xor a c) (bit_xor b d)
halves a b c d =
    xor_assoc a b (bit_xor c d) ∙ ap (bit_xor a) (sym (xor_assoc b c d) ∙ ap (λ n. bit_xor n d) (xor_comm b c)
    ∙ xor_assoc c b d)
    ∙ sym (xor_assoc a c (bit_xor b d))

abbrev added : ℕ → ℕ
added least = if least == 1 then 0xedb88320 else 0

added-xor : (p q : ℕ) → p < 2 → q < 2 → added (bit_xor p q) ≡ bit_xor (added p) (added q)
added-xor zero zero l m = refl
added-xor zero (suc zero) l m = refl
added-xor (suc zero) zero l m = refl
added-xor (suc zero) (suc zero) l m = refl
added-xor (suc (suc p)) q l m = absurd (omega arith)
added-xor zero (suc (suc q)) l m = absurd (omega arith)
added-xor (suc zero) (suc (suc q)) l m = absurd (omega arith)

shifted-xor : (a b : ℕ) → shifted (bit_xor a b) ≡ bit_xor (shifted a) (shifted b)
shifted-xor a b =
    ap₂ (λ n p. bit_xor n (added p)) (xor_shr a b 1) (xor_mod a b 1)
    ∙ ap (bit_xor (bit_xor (a / 2) (b / 2))) (added-xor (a % 2) (b % 2) (omega arith) (omega arith))
    ∙ halves (a / 2) (b / 2) (added (a % 2)) (added (b % 2))

shifts-xor : (k a b : ℕ) → shifts k (bit_xor a b) ≡ bit_xor (shifts k a) (shifts k b)
shifts-xor zero a b = refl
shifts-xor (suc k) a b = ap (shifts k) (shifted-xor a b) ∙ shifts-xor k (shifted a) (shifted b)

shifts-add : (j k c : ℕ) → shifts k (shifts j c) ≡ shifts (j + k) c
shifts-add zero k c = let e : k ≡ 0 + k = omega arith in ap (λ n. shifts n c) e
shifts-add (suc j) k c =
    let e : suc (j + k) ≡ suc j + k = omega arith in shifts-add j k (shifted c) ∙ ap (λ n. shifts n c) e

with_bytes-xor : (a b : ℕ) (bs : List ℕ)
    → with_bytes (bit_xor a b) bs ≡ bit_xor (shifts (8 * length bs) a) (with_bytes b bs)
unfolding with_byte
with_bytes-xor a b [] = refl
with_bytes-xor a b (x ∷ bs) =
    let e : 8 + 8 * length bs ≡ 8 * length (x ∷ bs) = omega arith in
    ap (λ n. with_bytes (shifts 8 n) bs) (xor_assoc a b x) ∙ ap (λ n. with_bytes n bs) (shifts-xor 8 a (bit_xor b x))
    ∙ with_bytes-xor (shifts 8 a) (with_byte b x) bs
    ∙ ap (λ n. bit_xor n (with_bytes (with_byte b x) bs)) (shifts-add 8 (8 * length bs) a ∙ ap (λ n. shifts n a) e)

-- a byte that others come after, of bytes that stand in a list; n: how many bits it and these have
next_byte : (c i n : ℕ) (bs : List ℕ) → i < length bs → n ≡ 8 * (length bs - i) → ((i : ℕ) → get_or bs i 0 < 256)
    → with_bytes c (drop i bs)
    ≡ bit_xor (shifts n (bit_xor c (get_or bs i 0) % 256)) (with_bytes (c / 256) (drop (suc i) bs))
next_byte c i n bs less is bytes =
    let x = get_or bs i 0 in
    let rest = drop (suc i) bs in
    let len = length-drop (suc i) bs in
    let e : 8 + 8 * length rest ≡ n = omega arith in
    ap (with_bytes c) (drop-cons bs i 0 less) ∙ ap (λ n. with_bytes n rest) (with_byte-is c x (bytes i))
    ∙ with_bytes-xor (shifts 8 (bit_xor c x % 256)) (c / 256) rest
    ∙ ap (λ n. bit_xor n (with_bytes (c / 256) rest))
    (shifts-add 8 (8 * length rest) (bit_xor c x % 256) ∙ ap (λ n. shifts n (bit_xor c x % 256)) e)

pub with_bytes-append : (c : ℕ) (a b : List ℕ) → with_bytes c (a ++ b) ≡ with_bytes (with_bytes c a) b
with_bytes-append c [] b = refl
with_bytes-append c (x ∷ a) b = with_bytes-append (with_byte c x) a b

three_in_turn : (a b c n : ℕ) → bit_xor (bit_xor (bit_xor a b) c) n ≡ bit_xor a (bit_xor b (bit_xor c n))
three_in_turn a b c n = xor_assoc (bit_xor a b) c n ∙ xor_assoc a b (bit_xor c n)

-- four sums and four others, or all eight in turn
in_turn : (a b c d e f g h : ℕ)
    → bit_xor (bit_xor (bit_xor (bit_xor a b) c) d) (bit_xor (bit_xor (bit_xor e f) g) h)
    ≡ bit_xor a (bit_xor b (bit_xor c (bit_xor d (bit_xor e (bit_xor f (bit_xor g h))))))
in_turn a b c d e f g h =
    xor_assoc (bit_xor (bit_xor a b) c) d (bit_xor (bit_xor (bit_xor e f) g) h)
    ∙ three_in_turn a b c (bit_xor d (bit_xor (bit_xor (bit_xor e f) g) h))
    ∙ ap (λ n. bit_xor a (bit_xor b (bit_xor c (bit_xor d n)))) (three_in_turn e f g h)

-- eight bytes, of which the first four are added to the register's own
module _ (c : ℕ) (bs : List ℕ) (len : length bs ≡ 8) (small : c < 2 ^ 32) (bytes : (i : ℕ) → get_or bs i 0 < 256) where
  abbrev row : (n c i : ℕ) → ℕ
  row n c i = shifts n (bit_xor c (get_or bs i 0) % 256)

  -- the register's own bytes are through after four
  own : (n i : ℕ) → row n 0 i ≡ shifts n (get_or bs i 0)
  own n i =
      let below = bytes i in
      ap (λ b. shifts n (b % 256)) (xor_comm 0 (get_or bs i 0) ∙ xor_zero_r (get_or bs i 0)) ∙ ap (shifts n) (omega arith)

  last_four : with_bytes 0 (drop 4 bs)
      ≡ bit_xor (shifts 32 (get_or bs 4 0))
      (bit_xor (shifts 24 (get_or bs 5 0)) (bit_xor (shifts 16 (get_or bs 6 0)) (shifts 8 (get_or bs 7 0))))
  last_four =
      next_byte 0 4 32 bs (omega arith) (omega arith) bytes
      ∙ ap₂ bit_xor (own 32 4) (next_byte 0 5 24 bs (omega arith) (omega arith) bytes
      ∙ ap₂ bit_xor (own 24 5) (next_byte 0 6 16 bs (omega arith) (omega arith) bytes
      ∙ ap₂ bit_xor (own 16 6) (next_byte 0 7 8 bs (omega arith) (omega arith) bytes
      ∙ ap₂ bit_xor (own 8 7) (ap (with_bytes 0) (drop_all 8 bs (omega arith))) ∙ xor_zero_r (shifts 8 (get_or bs 7 0)))))

  whole : with_bytes c bs
      ≡ bit_xor (row 64 c 0) (bit_xor (row 56 (c / 256) 1) (bit_xor (row 48 (c / 65536) 2) (bit_xor (row 40 (c / 16777216) 3)
      (bit_xor (shifts 32 (get_or bs 4 0))
      (bit_xor (shifts 24 (get_or bs 5 0)) (bit_xor (shifts 16 (get_or bs 6 0)) (shifts 8 (get_or bs 7 0))))))))
  whole =
      let two : c / 256 / 256 ≡ c / 65536 = omega arith in
      let three : c / 65536 / 256 ≡ c / 16777216 = omega arith in
      let four : c / 16777216 / 256 ≡ 0 = omega arith in
      next_byte c 0 64 bs (omega arith) (omega arith) bytes
      ∙ ap (bit_xor (row 64 c 0)) (next_byte (c / 256) 1 56 bs (omega arith) (omega arith) bytes
      ∙ ap (bit_xor (row 56 (c / 256) 1)) (ap (λ r. with_bytes r (drop 2 bs)) two
      ∙ next_byte (c / 65536) 2 48 bs (omega arith) (omega arith) bytes
      ∙ ap (bit_xor (row 48 (c / 65536) 2)) (ap (λ r. with_bytes r (drop 3 bs)) three
      ∙ next_byte (c / 16777216) 3 40 bs (omega arith) (omega arith) bytes
      ∙ ap (bit_xor (row 40 (c / 16777216) 3)) (ap (λ r. with_bytes r (drop 4 bs)) four ∙ last_four))))

  pub eight_bytes : bit_xor
      (bit_xor (bit_xor (bit_xor (shifts 64 (bit_xor c (get_or bs 0 0) % 256)) (shifts 56 (bit_xor (c / 256) (get_or bs 1 0) % 256)))
      (shifts 48 (bit_xor (c / 65536) (get_or bs 2 0) % 256))) (shifts 40 (bit_xor (c / 16777216) (get_or bs 3 0) % 256)))
      (bit_xor (bit_xor (bit_xor (shifts 32 (get_or bs 4 0)) (shifts 24 (get_or bs 5 0))) (shifts 16 (get_or bs 6 0)))
      (shifts 8 (get_or bs 7 0)))
      ≡ with_bytes c bs
  eight_bytes =
      in_turn (row 64 c 0) (row 56 (c / 256) 1) (row 48 (c / 65536) 2) (row 40 (c / 16777216) 3) (shifts 32 (get_or bs 4 0))
      (shifts 24 (get_or bs 5 0)) (shifts 16 (get_or bs 6 0)) (shifts 8 (get_or bs 7 0))
      ∙ sym whole

-- chunks of n, one after the other
pub chunks_joined : (n k : ℕ) (xs : List ℕ) → concat (first_chunks n k xs) ≡ take (k * n) xs
chunks_joined n zero xs = let e : 0 ≡ 0 * n = omega arith in ap (λ m. take m xs) e
chunks_joined n (suc k) xs =
    let e : n + k * n ≡ suc k * n = omega arith in
    ap (λ l. take n xs ++ l) (chunks_joined n k (drop n xs)) ∙ sym (take-add n (k * n) xs) ∙ ap (λ m. take m xs) e

pub turned_over-twice : (c : ℕ) → turned_over (turned_over c) ≡ c
turned_over-twice c = xor_assoc c 0xffffffff 0xffffffff ∙ xor_zero_r c

pub pieces_are_whole : (a b : List ℕ) → updated (crc_32 a) b ≡ crc_32 (a ++ b)
pieces_are_whole a b =
    ap (λ c. turned_over (with_bytes c b)) (turned_over-twice (with_bytes (turned_over 0) a))
    ∙ ap turned_over (sym (with_bytes-append (turned_over 0) a b))
