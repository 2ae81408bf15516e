-- A rising sequence, halved between two rows that surround a place.
use Rattle.std.proofs.Common.{◌≡◌, ℕ, zero, suc, ◌+◌, ◌-◌, ◌/◌, ◌^◌, ◌<◌, ◌≤◌, true, false, List, [], ◌∷◌, length, take}
use Rattle.std.proofs.Common.{drop, get_or, Some, arith, refl, sym, ap, subst, ◌∙◌, length-take, length-drop}
use Rattle.std.proofs.lemmas.List.{get_or-take, get_or-drop}
use Rattle.std.proofs.Math.Nat.{pow-suc, pow-zero}
use Rattle.dl_rows.specs.declared.row.Row.{Row}
use Rattle.dl_look.specs.declared.place.Place.{Place}
use Rattle.dl_look.specs.Answer.{place_of, is_below, is_at_most, is_rising, first_place, last_place, last_upto}
use Rattle.dl_look.proofs.PlaceOrder.{above-below}
use Rattle.dl_look.proofs.LastUpto.{no_row, place_at, last_upto-between}

first_at : (s : List Row) → 0 < length s → first_place s ≡ place_at s 0
first_at [] h = absurd (omega arith)
first_at (r ∷ s) h = refl

last_at_length : (r : Row) (s : List Row) → last_place (r ∷ s) ≡ place_at (r ∷ s) (length s)
last_at_length r [] = refl
last_at_length r (t ∷ s) = last_at_length t s

last_at : (s : List Row) (n : ℕ) → suc n ≡ length s → last_place s ≡ place_at s n
last_at [] n h = absurd (omega arith)
last_at (r ∷ s) n h = let e : length s ≡ n = omega arith in last_at_length r s ∙ ap (place_at (r ∷ s)) e

-- a sequence that covers a place has two rows or more
two_rows : (s : List Row) (x : Place) → is_at_most (first_place s) x ≡ true → is_at_most (last_place s) x ≡ false
    → 1 < length s
two_rows [] x a b = cc
two_rows (r ∷ []) x a b = cc
two_rows (r ∷ t ∷ s) x a b = omega arith

-- the rows of a part
part_row : (rows : List Row) (start len j : ℕ) → j < len
    → get_or (take len (drop start rows)) j no_row ≡ get_or rows (start + j) no_row
part_row rows start len j lt = get_or-take len (drop start rows) j no_row lt ∙ get_or-drop start rows j no_row

part_length : (rows : List Row) (start len : ℕ) → start + len ≤ length rows → length (take len (drop start rows)) ≡ len
part_length rows start len h = omega (arith, length-take len (drop start rows), length-drop start rows)

-- half a gap of two or more has one binary digit less
halved : (gap less j : ℕ) → 1 < gap → gap ≤ 2 ^ j → less ≤ gap - gap / 2 → less ≤ 2 ^ (j - 1) × (0 < j)
halved gap less zero two fits half = absurd (omega (arith, pow-zero 2))
halved gap less (suc j) two fits half =
    let e : suc j - 1 ≡ j = omega arith in
    (subst (λ i. less ≤ 2 ^ i) (sym e) (omega (arith, pow-suc 2 j)), omega arith)

-- between two probes: the row at low isn't above x, the row at high is
pub record Around (rows now : List Row) (start len : ℕ) (x : Place) (low high before probes : ℕ) : Type 0 where
  pub same : now ≡ rows
  pub from : start ≤ low
  pub apart : low < high
  pub to : high < start + len
  pub upto : is_at_most (place_at rows low) x ≡ true
  pub above : is_at_most (place_at rows high) x ≡ false
  pub steps : (digits : ℕ) → len < 2 ^ digits → (j : ℕ) × (probes + j ≤ before + digits) × (high - low ≤ 2 ^ j)
  pub few : probes + (high - low) ≤ before + len

module _ (rows : List Row) (start len : ℕ) (x : Place) (within : start + len ≤ length rows) where
  abbrev part : List Row
  part = take len (drop start rows)

  pub starts : (before : ℕ) → is_at_most (first_place part) x ≡ true → is_below x (last_place part) ≡ true
      → Around rows rows start len x start (start + len - 1) before before
  starts before low high =
      let n = part_length rows start len within in
      let over = above-below x (last_place part) high in
      let two = two_rows part x low over in
      record {
        same = refl;
        from = omega arith;
        apart = omega arith;
        to = omega arith;
        upto =
            let e = first_at part (omega arith) ∙ ap place_of (part_row rows start len 0 (omega arith)) in
            let i : start + 0 ≡ start = omega arith in
            subst (λ p. is_at_most p x ≡ true) (e ∙ ap (place_at rows) i) low;
        above =
            let e = last_at part (len - 1) (omega arith)
            ∙ ap place_of (part_row rows start len (len - 1) (omega arith)) in
            let i : start + (len - 1) ≡ start + len - 1 = omega arith in
            subst (λ p. is_at_most p x ≡ false) (e ∙ ap (place_at rows) i) over;
        steps = λ digits h. (digits, omega arith, omega arith);
        few = omega arith;
      }

  pub ends : (now : List Row) (low high before probes : ℕ) → Around rows now start len x low high before probes
      → high - low ≤ 1 → is_rising part ≡ true → Some (get_or rows low no_row) ≡ last_upto x part
  ends now low high before probes a gap rising =
      let from = a.from in
      let to = a.to in
      let apart = a.apart in
      let j : start + (low - start) ≡ low = omega arith in
      let k : start + suc (low - start) ≡ high = omega arith in
      let row = part_row rows start len (low - start) (omega arith) ∙ ap (λ i. get_or rows i no_row) j in
      let next = part_row rows start len (suc (low - start)) (omega arith) ∙ ap (λ i. get_or rows i no_row) k in
      let upto = subst (λ r. is_at_most (place_of r) x ≡ true) (sym row) a.upto in
      let above = subst (λ r. is_at_most (place_of r) x ≡ false) (sym next) a.above in
      ap Some (sym row)
      ∙ sym (last_upto-between x (low - start) part rising (omega (arith, part_length rows start len within)) upto
      above)

  module _ (now : List Row) (low high before probes : ℕ) (a : Around rows now start len x low high before probes)
      (gap : 1 < high - low) (now' : List Row) (same : now' ≡ now) where
    abbrev middle : ℕ
    middle = low + (high - low) / 2

    steps_more : (less : ℕ) → less ≤ high - low - (high - low) / 2 → (digits : ℕ) → len < 2 ^ digits
        → (j : ℕ) × (probes + 1 + j ≤ before + digits) × (less ≤ 2 ^ j)
    steps_more less half digits h =
        let s = a.steps digits h in
        let m = halved (high - low) less s.0 gap s.2 half in
        (s.0 - 1, (let q = s.1 in let z = m.1 in omega arith), m.0)

    pub goes_up : is_at_most (place_at rows middle) x ≡ true
        → Around rows now' start len x middle high before (probes + 1)
    goes_up upto =
        let from = a.from in
        let to = a.to in
        let apart = a.apart in
        let few = a.few in
        record {
          same = same ∙ a.same;
          from = omega arith;
          apart = omega arith;
          to = to;
          upto = upto;
          above = a.above;
          steps = steps_more (high - middle) (omega arith);
          few = omega arith;
        }

    pub goes_down : is_at_most (place_at rows middle) x ≡ false
        → Around rows now' start len x low middle before (probes + 1)
    goes_down above =
        let from = a.from in
        let to = a.to in
        let apart = a.apart in
        let few = a.few in
        record {
          same = same ∙ a.same;
          from = from;
          apart = omega arith;
          to = omega arith;
          upto = a.upto;
          above = above;
          steps = steps_more (middle - low) (omega arith);
          few = omega arith;
        }
