-- The laws of numbers of fixed size.
use Rattle.std.proofs.Common.{◌≡◌, ℕ, zero, suc, ◌+◌, ◌*◌, ◌/◌, ◌%◌, ◌^◌, ◌<◌, List, [], ◌∷◌, ◌++◌, length, reverse}
use Rattle.std.proofs.Common.{refl, sym, ap, ◌∙◌, arith}
use Rattle.std.proofs.Math.Nat.{pow-suc}
use Rattle.std.proofs.lemmas.List.{length-reverse, reverse-reverse, reverse-append}
use Rattle.dl_num.specs.declared.fixed.Order.TheVariants.{Little, Big}
use Rattle.dl_num.specs.Fixed.{little, big, little_bytes}
use Rattle.dl_num.specs.Laws.{AllBytes, FixedReadsBack, FixedHasItsSize, BytesReadBack, FixedIsBelow}

length-little_bytes : (k n : ℕ) → length (little_bytes k n) ≡ k
length-little_bytes zero n = refl
length-little_bytes (suc k) n = ap suc (length-little_bytes k (n / 256))

quotient_lt : (n p : ℕ) → n < 256 * p → n / 256 < p
quotient_lt n p h = omega arith

little-little_bytes : (k n : ℕ) → n < 256 ^ k → little (little_bytes k n) ≡ n
little-little_bytes zero n h = omega arith
little-little_bytes (suc k) n h =
    let lt : n < 256 * 256 ^ k = omega (arith, pow-suc 256 k) in
    rw (little-little_bytes k (n / 256) (quotient_lt n (256 ^ k) lt)) (omega arith)

moved : (x p q b : ℕ) → q ≡ p * 256 → x * q + b ≡ x * p * 256 + b
moved x p q b e = rw e (omega arith)

pow-pushed : (w : List ℕ) (b : ℕ) → 256 ^ length (w ++ b ∷ []) ≡ 256 ^ length w * 256
pow-pushed [] b = refl
pow-pushed (a ∷ w) b = grind (arith, pow-pushed w b)

gathered : (x p s b : ℕ) → x * (p * 256) + (s * 256 + b) ≡ (x * p + s) * 256 + b
gathered x p s b = omega arith

big-push : (w : List ℕ) (b : ℕ) → big (w ++ b ∷ []) ≡ big w * 256 + b
big-push [] b = omega arith
big-push (a ∷ w) b = rw (big-push w b, pow-pushed w b) (gathered a (256 ^ length w) (big w) b)

-- the first byte comes last
pub big-reverse : (w : List ℕ) → big (reverse w) ≡ little w
big-reverse [] = refl
big-reverse (b ∷ w) =
    let e : reverse (b ∷ w) ≡ reverse w ++ b ∷ [] = reverse-append (b ∷ []) w in
    rw (e, big-push, big-reverse w) (omega arith)

pub fixed_reads_back : FixedReadsBack
fixed_reads_back Little k n h = little-little_bytes k n h
fixed_reads_back Big k n h = big-reverse (little_bytes k n) ∙ little-little_bytes k n h

pub fixed_has_its_size : FixedHasItsSize
fixed_has_its_size Little k n = length-little_bytes k n
fixed_has_its_size Big k n = length-reverse (little_bytes k n) ∙ length-little_bytes k n

little_bytes-little : (w : List ℕ) → AllBytes w → little_bytes (length w) (little w) ≡ w
little_bytes-little [] h = refl
little_bytes-little (b ∷ w) h =
    let lt : b < 256 = h.0 in
    let low : (b + 256 * little w) % 256 ≡ b = omega arith in
    let high : (b + 256 * little w) / 256 ≡ little w = omega arith in
    rw (low, high, little_bytes-little w h.1) refl

AllBytes-append : (v w : List ℕ) → AllBytes v → AllBytes w → AllBytes (v ++ w)
AllBytes-append [] w h k = k
AllBytes-append (b ∷ v) w h k = (h.0, AllBytes-append v w h.1 k)

AllBytes-reverse : (w : List ℕ) → AllBytes w → AllBytes (reverse w)
AllBytes-reverse [] h = tt
AllBytes-reverse (b ∷ w) h =
    let e : reverse (b ∷ w) ≡ reverse w ++ b ∷ [] = reverse-append (b ∷ []) w in
    rw e (AllBytes-append (reverse w) (b ∷ []) (AllBytes-reverse w h.1) (h.0, tt))

big_is : (w : List ℕ) → big w ≡ little (reverse w)
big_is w = ap big (sym (reverse-reverse w)) ∙ big-reverse (reverse w)

pub bytes_read_back : BytesReadBack
bytes_read_back Little w h = little_bytes-little w h
bytes_read_back Big w h =
    rw (big_is w, ← length-reverse w, little_bytes-little (reverse w) (AllBytes-reverse w h)) (reverse-reverse w)

little_lt : (w : List ℕ) → AllBytes w → little w < 256 ^ length w
little_lt [] h = omega arith
little_lt (b ∷ w) h = let lt : b < 256 = h.0 in let ih = little_lt w h.1 in rw pow-suc (omega arith)

pub fixed_is_below : FixedIsBelow
fixed_is_below Little w h = little_lt w h
fixed_is_below Big w h = rw (big_is w, ← length-reverse w) (little_lt (reverse w) (AllBytes-reverse w h))
