-- Starts, halved until one is left.
use Rattle.std.proofs.Common.{◌≡◌, ℕ, zero, suc, ◌+◌, ◌-◌, ◌*◌, ◌/◌, ◌^◌, ◌<◌, ◌≤◌, arith, nat_le, if◌then◌else◌, sym, ap, subst, ◌∙◌, ⊎_elim}
use Rattle.std.proofs.lemmas.Bool.Decides.{leb_tells}
use Rattle.std.proofs.lemmas.Bool.{cases_eq}
use Rattle.std.proofs.Math.Nat.{pow-suc, pow-zero}
use Rattle.std.proofs.Common.{List}
use Rattle.dl_index.specs.declared.width.Width.{Width}
use Rattle.dl_index.specs.declared.four.Four.{Four}
use Rattle.dl_index.specs.Columns.{number_at, size_of}
use Rattle.dl_index.specs.FindFour.{FindFour}
use Rattle.dl_index.specs.LookUp.{Rise, IsLastUpto, FindsLast}

-- the last start that isn't above x is one of those from low on, `left` of them
pub record Among (start now : ℕ → ℕ) (count count' x low left probes : ℕ) : Type 0 where
  pub same : now ≡ start
  pub counts : count' ≡ count
  pub some : 0 < left
  pub within : low + left ≤ count
  pub upto : start 0 ≤ x → start low ≤ x
  pub next : Rise start count → low + left < count → x < start (low + left)
  pub steps : (digits : ℕ) → count ≤ 2 ^ digits → (j : ℕ) × (probes + j ≤ digits) × (left ≤ 2 ^ j)
  pub few : probes + left ≤ count

halved : (left j : ℕ) → 1 < left → left ≤ 2 ^ j → (left - left / 2 ≤ 2 ^ (j - 1)) × (0 < j)
halved left zero two fits = absurd (omega (arith, pow-zero 2))
halved left (suc j) two fits =
    let e : suc j - 1 ≡ j = omega arith in
    (subst (λ i. left - left / 2 ≤ 2 ^ i) (sym e) (omega (arith, pow-suc 2 j)), omega arith)

module _ (start now : ℕ → ℕ) (count count' x low left probes : ℕ) (a : Among start now count count' x low left probes)
    (two : 1 < left) (now' : ℕ → ℕ) (count'' : ℕ) (same : now' ≡ now) (counts : count'' ≡ count') where
  abbrev half : ℕ
  half = left / 2

  more : (digits : ℕ) → count ≤ 2 ^ digits → (j : ℕ) × (probes + 1 + j ≤ digits) × (left - half ≤ 2 ^ j)
  more digits h =
      let s = a.steps digits h in
      let m = halved left s.0 two s.2 in
      (s.0 - 1, (let q = s.1 in let z = m.1 in omega arith), m.0)

  goes_up : start (low + half) ≤ x → Among start now' count count'' x (low + half) (left - half) (probes + 1)
  goes_up upto =
      let within = a.within in
      let few = a.few in
      let e : low + half + (left - half) ≡ low + left = omega arith in
      record {
        same = same ∙ a.same;
        counts = counts ∙ a.counts;
        some = omega arith;
        within = omega arith;
        upto = λ first. upto;
        next = λ rise less. subst (λ i. x < start i) (sym e) (a.next rise (omega arith));
        steps = more;
        few = omega arith;
      }

  goes_down : x < start (low + half) → Among start now' count count'' x low (left - half) (probes + 1)
  goes_down above =
      let within = a.within in
      let few = a.few in
      record {
        same = same ∙ a.same;
        counts = counts ∙ a.counts;
        some = omega arith;
        within = omega arith;
        upto = a.upto;
        next = λ rise less.
            ⊎_elim
            (λ here. subst (λ i. x < start i) here above)
            (λ ne. (let r = rise (low + half) (low + (left - half)) (omega arith) less in omega arith))
            (cases_eq (low + half) (low + (left - half)));
        steps = more;
        few = omega arith;
      }

  pub goes_on : (n step : ℕ) → n ≡ start (low + half) → step ≡ (if nat_le n x then 0 else half)
      → Among start now' count count'' x (low + half - step) (left - half) (probes + 1)
  goes_on n step value is =
      ⊎_elim
      (λ upto.
      (let none : step ≡ 0 = is ∙ ap (λ t. if t then 0 else half) upto.0 in
      let there : low + half ≡ low + half - step = omega arith in
      subst
      (λ m. Among start now' count count'' x m (left - half) (probes + 1))
      there
      (goes_up (subst (λ m. m ≤ x) value upto.1))))
      (λ above.
      (let all : step ≡ half = is ∙ ap (λ t. if t then 0 else half) above.0 in
      let here : low ≡ low + half - step = omega arith in
      subst
      (λ m. Among start now' count count'' x m (left - half) (probes + 1))
      here
      (goes_down (subst (λ m. x < m) value above.1))))
      (leb_tells n x)

pub ends : {start now : ℕ → ℕ} {count count' x low left probes : ℕ} → Among start now count count' x low left probes
    → left ≤ 1 → FindsLast start count x low
ends {start} {x = x} {low = low} {left = left} a one =
    let some = a.some in
    let within = a.within in
    let e : low + left ≡ suc low = omega arith in
    record {
      within = omega arith;
      last = λ rise first.
          record {
            within = omega arith;
            upto = a.upto first;
            next = λ less. subst (λ i. x < start i) e (a.next rise (omega arith));
          };
    }

-- four searches, after as many steps each
pub record FourAmong (start now : ℕ → ℕ) (count count' : ℕ) (x : Four ℕ) (first second third fourth left probes : ℕ) : Type 0 where
  pub steps : ℕ
  pub probed : probes ≡ 4 * steps
  pub of_first : Among start now count count' x.first first left steps
  pub of_second : Among start now count count' x.second second left steps
  pub of_third : Among start now count count' x.third third left steps
  pub of_fourth : Among start now count count' x.fourth fourth left steps

-- a search in a column whose width is known is one in the column
pub by_width : (bytes : List ℕ) (len x r : ℕ) (v w : Width) → v ≡ w
    → (Rise (number_at (size_of w) bytes) len → number_at (size_of w) bytes 0 ≤ x
    → IsLastUpto (number_at (size_of w) bytes) len x r)
    → Rise (number_at (size_of v) bytes) len → number_at (size_of v) bytes 0 ≤ x
    → IsLastUpto (number_at (size_of v) bytes) len x r
by_width bytes len x r v w e found =
    subst
    (λ (u : Width). Rise (number_at (size_of u) bytes) len → number_at (size_of u) bytes 0 ≤ x
    → IsLastUpto (number_at (size_of u) bytes) len x r)
    (sym e) found

pub four_by_width : (bytes : List ℕ) (len : ℕ) (x k : Four ℕ) (v w : Width) → v ≡ w
    → FindFour (number_at (size_of w) bytes) len x k → FindFour (number_at (size_of v) bytes) len x k
four_by_width bytes len x k v w e found =
    subst (λ (u : Width). FindFour (number_at (size_of u) bytes) len x k) (sym e) found
