-- The computed shortest spelling is one.
use Rattle.std.proofs.Common.{◌≡◌, ℕ, ◌^◌, length, length-append, pos, negsuc, zero, suc, ◌+◌, ◌/◌, ◌%◌, ◌<◌, ◌≤◌, Bool}
use Rattle.std.proofs.Common.{true, false, List, [], ◌∷◌, ◌++◌, refl, sym, ◌∙◌, subst, arith, inl, inr, append_assoc}
use Rattle.std.proofs.lemmas.Bool.{cases_lt, lt-ltb, le-ltb}
use Rattle.dl_num.specs.Leb.{groups, IsShortestUleb, IsShortestSleb}
use Rattle.dl_num.specs.Shortest.{group_bytes, shortest_uleb}
use Rattle.dl_num.specs.Magnitude.{byte_of, signed_value}
use Rattle.dl_num.specs.Laws.{ComputedIsShortest, ComputedSlebIsShortest}
use Rattle.dl_num.proofs.GroupLemmas.{groups-push}
use Rattle.dl_num.proofs.Spelling.{IsPart, part_starts, part_grows, part_fits, uleb_shortest, sleb_shortest, sum_of}
use Rattle.dl_num.proofs.Spelling.{sum_of-push}

abbrev bytes_on : ℕ → Bool → ℕ → ℕ → Bool → List ℕ
bytes_on end negative count n b =
    elim b [
      | true ↦ byte_of negative n ∷ []
      | false ↦ (128 + byte_of negative (n % 128))
          ∷ group_bytes end negative count (n / 128)
    ]

-- the bytes of the rest complete a spelling that was begun
shortest_after : (n count rest : ℕ) (items : List ℕ) → rest ≤ count → IsPart 1 n (groups items) items rest
    → IsShortestUleb (items ++ group_bytes 128 false count rest) n
shortest_after n zero rest items le part = uleb_shortest items (omega arith) part
shortest_after n (suc count) rest items le part = elim (cases_lt rest 128) [
  | inl lt ↦ subst (λ (b : Bool). IsShortestUleb (items ++ bytes_on 128 false count rest b) n)
      (sym (lt-ltb rest 128 lt)) (uleb_shortest items lt part)
  | inr ge ↦
      let b = 128 + rest % 128 in
      let grown =
      part_grows 128 b (groups (items ++ b ∷ [])) refl ge (omega arith)
      (let m : b % 128 ≡ rest % 128 = omega arith in rw (groups-push, m) refl) part in
      let later = shortest_after n count (rest / 128) (items ++ b ∷ []) (omega arith) grown in
      subst (λ (b : Bool). IsShortestUleb (items ++ bytes_on 128 false count rest b) n) (sym (le-ltb rest 128 ge))
      (subst (λ (l : List ℕ). IsShortestUleb l n)
      (append_assoc items (b ∷ []) (group_bytes 128 false count (rest / 128))) later)
]

pub computed_is_shortest : ComputedIsShortest
computed_is_shortest n = shortest_after n n n [] (omega arith) (part_starts 1 n)

short_after : (n count rest : ℕ) (items : List ℕ) → n < 2 ^ 64 → rest ≤ count → IsPart 1 n (groups items) items rest
    → length (items ++ group_bytes 128 false count rest) ≤ 10
short_after n zero rest items small le part =
    let room = part_fits items (omega arith) part in omega (arith, length-append items (rest ∷ []))
short_after n (suc count) rest items small le part = elim (cases_lt rest 128) [
  | inl lt ↦ let room =
      part_fits items (omega arith) part in
      subst (λ (b : Bool). length (items ++ bytes_on 128 false count rest b) ≤ 10) (sym (lt-ltb rest 128 lt))
      (omega (arith, length-append items (rest ∷ [])))
  | inr ge ↦
      let b = 128 + rest % 128 in
      let grown =
      part_grows 128 b (groups (items ++ b ∷ [])) refl ge (omega arith)
      (let m : b % 128 ≡ rest % 128 = omega arith in rw (groups-push, m) refl) part in
      let later = short_after n count (rest / 128) (items ++ b ∷ []) small (omega arith) grown in
      subst (λ (b : Bool). length (items ++ bytes_on 128 false count rest b) ≤ 10) (sym (le-ltb rest 128 ge))
      (subst (λ (l : List ℕ). length l ≤ 10) (append_assoc items (b ∷ []) (group_bytes 128 false count (rest / 128)))
      later)
]

-- a number of 64 bits has at most ten bytes
pub length-shortest_uleb : (n : ℕ) → n < 2 ^ 64 → length (shortest_uleb n) ≤ 10
length-shortest_uleb n small = short_after n n n [] small (omega arith) (part_starts 1 n)

byte_of_lt : (negative : Bool) (group : ℕ) → group < 128 → byte_of negative group < 128
byte_of_lt false group lt = lt
byte_of_lt true group lt = omega arith

-- the same of a signed number
signed_after : (negative : Bool) (n count rest : ℕ) (items : List ℕ) → rest ≤ count
    → IsPart 2 n (sum_of negative items) items rest
    → IsShortestSleb (items ++ group_bytes 64 negative count rest) (signed_value negative n)
signed_after negative n zero rest items le part =
    sleb_shortest negative items (byte_of negative rest) (omega arith) refl part
signed_after negative n (suc count) rest items le part = elim (cases_lt rest 64) [
  | inl lt ↦ subst (λ (b : Bool). IsShortestSleb (items ++ bytes_on 64 negative count rest b) (signed_value negative n))
      (sym (lt-ltb rest 64 lt)) (sleb_shortest negative items (byte_of negative rest) lt refl part)
  | inr ge ↦
      let group = rest % 128 in
      let b = 128 + byte_of negative group in
      let small = byte_of_lt negative group (omega arith) in
      let m : b % 128 ≡ byte_of negative group = omega arith in
      let grown =
      part_grows 64 b (sum_of negative (items ++ b ∷ [])) refl ge (omega arith)
      (sum_of-push negative items group b (omega arith) m) part in
      let later = signed_after negative n count (rest / 128) (items ++ b ∷ []) (omega arith) grown in
      subst (λ (b : Bool). IsShortestSleb (items ++ bytes_on 64 negative count rest b) (signed_value negative n))
      (sym (le-ltb rest 64 ge))
      (subst (λ (l : List ℕ). IsShortestSleb l (signed_value negative n))
      (append_assoc items (b ∷ []) (group_bytes 64 negative count (rest / 128))) later)
]

pub computed_sleb_is_shortest : ComputedSlebIsShortest
computed_sleb_is_shortest (pos n) = signed_after false n n n [] (omega arith) (part_starts 2 n)
computed_sleb_is_shortest (negsuc n) = signed_after true n n n [] (omega arith) (part_starts 2 n)

-- the bytes of the rest complete the whole
abbrev pub Completes : ℕ → Bool → List ℕ → ℕ → List ℕ → Type 0
Completes end negative items rest whole =
    (count : ℕ) × (rest ≤ count) × (items ++ group_bytes end negative count rest ≡ whole)

-- a group more, and the bytes of what is left
pub group_more : (end : ℕ) (negative : Bool) (items whole : List ℕ) (rest b : ℕ) → 1 ≤ end → end ≤ rest
    → b ≡ 128 + byte_of negative (rest % 128) → Completes end negative items rest whole
    → Completes end negative (items ++ b ∷ []) (rest / 128) whole
group_more end negative items whole rest b some ge is (count, le, h) = more count le h where
  more : (count : ℕ) → rest ≤ count → items ++ group_bytes end negative count rest ≡ whole
      → Completes end negative (items ++ b ∷ []) (rest / 128) whole
  more zero le h = absurd (omega arith)
  more (suc count) le h =
      let grouped =
      subst (λ (t : Bool). items ++ bytes_on end negative count rest t ≡ whole) (le-ltb rest end ge) h in (
        count,
        omega arith,
        rw is (append_assoc items ((128 + byte_of negative (rest % 128)) ∷ [])
            (group_bytes end negative count (rest / 128)) ∙ grouped),
      )

-- the last group
pub group_last : (end : ℕ) (negative : Bool) (items whole : List ℕ) (rest b : ℕ) → rest < end
    → b ≡ byte_of negative rest → Completes end negative items rest whole → items ++ b ∷ [] ≡ whole
group_last end negative items whole rest b lt is (count, le, h) = last count h where
  last : (count : ℕ) → items ++ group_bytes end negative count rest ≡ whole → items ++ b ∷ [] ≡ whole
  last zero h = rw is h
  last (suc count) h =
      rw is (subst (λ (t : Bool). items ++ bytes_on end negative count rest t ≡ whole) (lt-ltb rest end lt) h)
