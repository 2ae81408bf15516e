-- Starts that a look-up keeps, among which the last one is that isn't above a number.
use Rattle.std.proofs.Common.{◌≡◌, ℕ, ◌+◌, ◌-◌, ◌*◌, ◌<◌, ◌≤◌, List, take, drop, sym, ap, ap₂, ◌∙◌, arith, subst}
use Rattle.dl_num.specs.Fixed.{little}
use Rattle.dl_elf.specs.Elf.{bytes_at}
use Rattle.dl_index.specs.Columns.{number_at, size_of}
use Rattle.dl_index.specs.Layout.{count_in, start_in, width_in}
use Rattle.dl_index.specs.LookUp.{Rise, IsLastUpto, FindsLast}
use Rattle.dl_index.specs.declared.header.Header.{Header}
use Rattle.dl_index_file.specs.declared.parts.Places.{Places}
use Rattle.dl_index_file.specs.Finding.{HoldsStarts}
use Rattle.dl_index_file.specs.Kept.{StandsIn}
use Rattle.dl_index_file.specs.Narrowed.{Narrowed}
use Rattle.dl_index_file.proofs.NarrowLemmas.{narrows}
use Rattle.dl_index_file.proofs.RangeLemmas.{piece, within_column, number_of_piece}

module _ {h : Header} {p : Places} {front b : List ℕ} (st : StandsIn h p front b) where
  pub starts_are : number_at (size_of h.widths.starts) (bytes_at p.starts.offset p.starts.size b) ≡ start_in b
  starts_are = ap₂ number_at st.reads.widths.starts (sym st.parts.starts)

  pub narrowed_in : (x low left : ℕ)
      → Narrowed (number_at (size_of h.widths.starts) (bytes_at p.starts.offset p.starts.size b)) h.count x low left
      → Narrowed (start_in b) (count_in b) x low left
  narrowed_in x low left n =
      subst (λ c. Narrowed (start_in b) c x low left) st.reads.count
      (subst (λ f. Narrowed f h.count x low left) starts_are n)

  -- few starts that were read into the front of a piece; s: the width of each
  pub few_held : (starts : List ℕ) (first count s : ℕ) → s ≡ size_of h.widths.starts → first + count ≤ h.count
      → p.starts.size ≡ h.count * size_of h.widths.starts
      → take (count * s) starts ≡ take (count * s) (drop (p.starts.offset + first * s) b)
      → HoldsStarts b starts first count
  few_held starts first count s width within size are j less =
      let e : 0 + j * s ≡ j * s = omega arith in
      let front : number_at s (take (count * s) starts) j ≡ number_at s starts j =
      ap little (piece starts 0 (count * s) (j * s) s (within_column s j count less) ∙ ap (λ n. take s (drop n starts)) e) in
      ap (λ m. number_at m starts j) (sym (width ∙ st.reads.widths.starts)) ∙ sym front ∙ ap (λ x. number_at s x j) are
      ∙ number_of_piece b p.starts.offset s h.count first count j within less
      ∙ ap (λ n. number_at s (take n (drop p.starts.offset b)) (first + j)) (ap (λ m. h.count * m) width ∙ sym size)
      ∙ ap (λ m. number_at m (bytes_at p.starts.offset p.starts.size b) (first + j)) width ∙ ap (λ f. f (first + j)) starts_are

module _ (b starts : List ℕ) (first count s x : ℕ) (width : s ≡ width_in b 0) (holds : HoldsStarts b starts first count)
    (some : 0 < count) where
  held : (j : ℕ) → j < count → number_at s starts j ≡ start_in b (first + j)
  held j less = ap (λ m. number_at m starts j) width ∙ holds j less

  upto : number_at s starts 0 ≤ x → start_in b first ≤ x
  upto below =
      let e : first + 0 ≡ first = omega arith in
      subst (λ i. start_in b i ≤ x) e (subst (λ n. n ≤ x) (held 0 some) below)

  pub narrowed_at_end : number_at s starts 0 ≤ x → first + count ≡ count_in b
      → Narrowed (start_in b) (count_in b) x first count
  narrowed_at_end below end = record { upto = λ zero. upto below; next = λ rise less. absurd (omega arith) }

  pub narrowed_within : number_at s starts 0 ≤ x → x < number_at s starts (count - 1)
      → Narrowed (start_in b) (count_in b) x first count
  narrowed_within below above = record {
    upto = λ zero. upto below;
    next = λ rise less.
        (let last = held (count - 1) (omega arith) in
        let r = rise (first + (count - 1)) (first + count) (omega arith) less in
        omega arith);
  }

  pub last_of_held : (k : ℕ) → first + count ≤ count_in b → Narrowed (start_in b) (count_in b) x first count → k < count
      → (Rise (number_at s starts) count → number_at s starts 0 ≤ x → IsLastUpto (number_at s starts) count x k)
      → FindsLast (start_in b) (count_in b) x (first + k)
  last_of_held k within n less last =
      narrows (start_in b) (count_in b) x first count within some n (number_at s starts) k held
      (record { within = less; last = last })
