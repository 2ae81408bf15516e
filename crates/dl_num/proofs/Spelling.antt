-- A spelling byte by byte: what is written so far, and what is left.
use Rattle.std.proofs.Common.{◌≡◌, ℕ, ◌+◌, ◌*◌, ◌/◌, ◌^◌, ◌%◌, ◌-◌, ◌<◌, ◌≤◌, List, [], ◌∷◌, ◌++◌, length, refl, sym}
use Rattle.std.proofs.Common.{ap, ◌∙◌, arith, length-append, pos, negsuc, Bool, true, false, inl, inr}
use Rattle.std.proofs.Math.Nat.{pow-le-pow_right}
use Rattle.std.proofs.lemmas.Nat.{div-add-mod', mul-le}
use Rattle.std.proofs.lemmas.Bool.{cases_lt}
use Rattle.dl_num.specs.Leb.{groups, AllContinue, IsLeb, signed_groups, IsShortestUleb, IsShortestSleb}
use Rattle.dl_num.specs.LebReader.{turned_groups}
use Rattle.dl_num.specs.Magnitude.{signed_value, byte_of}
use Rattle.dl_num.proofs.GroupLemmas.{pow-length, groups-push, turned-push, AllContinue-push, groups_lt, groups-turned}
use Rattle.dl_num.proofs.GroupLemmas.{is_signed, is_unsigned}

-- the bytes hold part of the magnitude n, with the rest still to write. No more bytes were written than k * n asks for
pub record IsPart (k n sum : ℕ) (items : List ℕ) (rest : ℕ) : Type 0 where
  pub continue : AllContinue items
  pub total : sum + rest * 128 ^ length items ≡ n
  pub large : 0 < length items → 128 ^ length items ≤ k * n

pub part_starts : (k n : ℕ) → IsPart k n 0 [] n
part_starts k n = record { continue = tt; total = omega arith; large = λ h. absurd (omega arith) }

moved : (g q r K n : ℕ) → g + (q * 128 + r) * K ≡ n → g + r * K + q * (128 * K) ≡ n
moved g q r K n h = omega arith

grown : (k t g rest K n : ℕ) → k * t ≡ 128 → t ≤ rest → g + rest * K ≡ n → 128 * K ≤ k * n
grown k t g rest K n e le h =
    let a : t * K ≤ rest * K = mul-le t K rest K le (omega arith) in
    let b : k * (t * K) ≤ k * n = mul-le k (t * K) k n (omega arith) (omega arith) in
    let c : k * (t * K) ≡ k * t * K = omega arith in
    let d : k * t * K ≡ 128 * K = ap (λ (x : ℕ). x * K) e in
    omega arith

pub part_grows : {k n sum rest : ℕ} {items : List ℕ} (t b sum' : ℕ) → k * t ≡ 128 → t ≤ rest → 128 ≤ b
    → sum' ≡ sum + rest % 128 * 128 ^ length items → IsPart k n sum items rest
    → IsPart k n sum' (items ++ b ∷ []) (rest / 128)
part_grows {k} {n} {sum} {rest} {items} t b sum' e le more s part = record {
  continue = AllContinue-push items b part.continue more;
  total = rw (
    s,
    pow-length items b,
  )
      (moved sum (rest / 128) (rest % 128) (128 ^ length items) n (rw (div-add-mod' rest 128) part.total));
  large = λ _. rw pow-length (grown k t sum rest (128 ^ length items) n e le part.total);
}

-- there is room for one byte more
pub part_fits : {k n sum rest : ℕ} (items : List ℕ) → k * n < 2 ^ 64 → IsPart k n sum items rest → length items < 10
part_fits {k} {n} items small part = elim (cases_lt (length items) 10) [
  | inl lt ↦ lt
  | inr le ↦ let p : 128 ^ 10 ≤ 128 ^ length items =
      pow-le-pow_right (omega arith) le in let l = part.large (omega arith) in absurd (omega arith)
]

shorter : (k n : ℕ) (items : List ℕ) (b : ℕ) (v : List ℕ) (f : List ℕ) (last : ℕ)
    → (0 < length items → 128 ^ length items ≤ k * n) → v ≡ f ++ last ∷ [] → k * n < 128 ^ length v
    → length (items ++ b ∷ []) ≤ length v
shorter k n items b v f last large e small = elim (cases_lt (length items) (length v)) [
  | inl lt ↦ omega (arith, length-append items (b ∷ []))
  | inr le ↦
      let p : 128 ^ length v ≤ 128 ^ length items = pow-le-pow_right (omega arith) le in
      let one : 0 < length v = omega (arith, ap length e, length-append f (last ∷ [])) in
      let l = large (omega arith) in absurd (omega arith)
]

-- ---- unsigned

pub uleb_shortest : {n rest : ℕ} (items : List ℕ) → rest < 128 → IsPart 1 n (groups items) items rest
    → IsShortestUleb (items ++ rest ∷ []) n
uleb_shortest {n} {rest} items lt part = record {
  spells = (
    items,
    rest,
    record {
      bytes = refl;
      continue = part.continue;
      ends =
          lt;
    },
    (let m : rest % 128 ≡ rest = omega arith in rw (groups-push, m) (sym part.total)),
  );
  shortest = λ v is. shorter 1 n items rest v is.0 is.1 part.large is.2.bytes (omega (arith, groups_lt v, is.3));
}

-- ---- signed

abbrev pub sum_of : Bool → List ℕ → ℕ
sum_of false items = groups items
sum_of true items = turned_groups items

pub sum_of-push : (negative : Bool) (items : List ℕ) (group b : ℕ) → group < 128 → b % 128 ≡ byte_of negative group
    → sum_of negative (items ++ b ∷ []) ≡ sum_of negative items + group * 128 ^ length items
sum_of-push false items group b lt e = rw (groups-push, e) refl
sum_of-push true items group b lt e = let d : 127 - (127 - group) ≡ group = omega arith in rw (turned-push, e, d) refl

half : (g last K : ℕ) → g < K → last < 64 → 2 * (g + last * K) < 128 * K
half g last K lt small = let m : last * K ≤ 63 * K = mul-le last K 63 K (omega arith) (omega arith) in omega arith

half_groups : (f : List ℕ) (last : ℕ) → last < 64 → 2 * groups (f ++ last ∷ []) < 128 ^ length (f ++ last ∷ [])
half_groups f last lt =
    let m : last % 128 ≡ last =
    omega arith in rw (groups-push, pow-length, m) (half (groups f) last (128 ^ length f) (groups_lt f) lt)

half_turned : (f : List ℕ) (last : ℕ) → 64 ≤ last → last < 128
    → 2 * turned_groups (f ++ last ∷ []) < 128 ^ length (f ++ last ∷ [])
half_turned f last le lt =
    let m : last % 128 ≡ last =
    omega arith in
    rw (
      turned-push,
      pow-length,
      m,
    ) (half (turned_groups f) (127 - last) (128 ^ length f) (omega (arith, groups-turned f)) (omega arith))

-- twice the magnitude is below a power by the length
magnitude : (negative : Bool) (n : ℕ) (v f : List ℕ) (last : ℕ) → IsLeb v f last
    → signed_value negative n ≡ signed_groups v last → 2 * n < 128 ^ length v
magnitude false n v f last is e = elim (cases_lt last 64) [
  | inl lt ↦ let g : pos n ≡ pos (groups v) =
      e ∙ is_unsigned v last lt in let h =
      half_groups f last lt in
      rw is.bytes
      (let j : n ≡ groups (f ++ last ∷ []) = (let k : n ≡ groups v = cc in k ∙ ap groups is.bytes) in omega arith)
  | inr le ↦ let g : pos n ≡ negsuc (turned_groups v) = e ∙ is_signed v last le in absurd cc
]
magnitude true n v f last is e = elim (cases_lt last 64) [
  | inl lt ↦ let g : negsuc n ≡ pos (groups v) = e ∙ is_unsigned v last lt in absurd cc
  | inr le ↦ let g : negsuc n ≡ negsuc (turned_groups v) =
      e ∙ is_signed v last le in let h =
      half_turned f last le is.ends in
      rw is.bytes
      (let j : n ≡ turned_groups (f ++ last
      ∷ []) = (let k : n ≡ turned_groups v = cc in k ∙ ap turned_groups is.bytes) in omega arith)
]

value_is : (negative : Bool) (n rest b : ℕ) (items : List ℕ) → rest < 64 → b ≡ byte_of negative rest
    → sum_of negative items + rest * 128 ^ length items ≡ n
    → signed_value negative n ≡ signed_groups (items ++ b ∷ []) b
value_is false n rest b items lt e total =
    let s = sum_of-push false items rest b (omega arith) (omega arith) in
    sym (is_unsigned (items ++ b ∷ []) b (omega arith) ∙ ap pos (s ∙ total))
value_is true n rest b items lt e total =
    let s = sum_of-push true items rest b (omega arith) (omega arith) in
    sym (is_signed (items ++ b ∷ []) b (omega arith) ∙ ap negsuc (s ∙ total))

byte_lt : (negative : Bool) (rest : ℕ) → rest < 64 → byte_of negative rest < 128
byte_lt false rest lt = omega arith
byte_lt true rest lt = omega arith

pub sleb_shortest : {n rest : ℕ} (negative : Bool) (items : List ℕ) (b : ℕ) → rest < 64 → b ≡ byte_of negative rest
    → IsPart 2 n (sum_of negative items) items rest → IsShortestSleb (items ++ b ∷ []) (signed_value negative n)
sleb_shortest {n} {rest} negative items b lt e part = record {
  spells = (
    items,
    b,
    record { bytes = refl; continue = part.continue; ends = rw e (byte_lt negative rest lt) },
    value_is negative n rest b items lt e part.total,
  );
  shortest = λ v is. shorter 2 n items b v is.0 is.1 part.large is.2.bytes (magnitude negative n v is.0 is.1 is.2 is.3);
}
