-- The laws of refusals: one at most, and none of a header or a foreign unit.
use Rattle.std.proofs.Common.{◌≡◌, ℕ, ◌-◌, inl, inr, List, [], ◌∷◌, ◌++◌, length, Option, Some, None, refl, sym, ap}
use Rattle.std.proofs.Common.{subst, ◌∙◌, arith, length-append, append_assoc, append-nil}
use Rattle.dl_num.specs.declared.fixed.Order.{Order}
use Rattle.dl_field.specs.Layout.{path_or_end, Layout, initial_length_then, number_then, form_then, value_then}
use Rattle.dl_field.specs.Layout.{foreign_version, last_entry, Item, following_all, field_spelt}
use Rattle.dl_head.specs.declared.dialect.Dialect.{Dialect}
use Rattle.dl_num.proofs.FrontLemmas.{front_before}
use Rattle.dl_table.specs.declared.fault.FaultKind.{FaultKind}
use Rattle.dl_table.specs.Value.{Judgement}
use Rattle.dl_head.specs.HeaderLayout.{header_layout}
use Rattle.dl_head.specs.Header.{Cut, cut, header_end, foreign_made}
use Rattle.dl_head.specs.Refusal.{or_else, bad_kind, field_overrun, header_overrun, cut_decided, header_decided}
use Rattle.dl_head.specs.Refusal.{NothingBefore, HeaderRefused, Refusal, first_decided, refusal_of, header_refusal_in}
use Rattle.dl_head.specs.Laws.{OneHeaderRefusal, RefusalIsComputed}
use Rattle.dl_field.proofs.FieldLemmas.{none_some}
use Rattle.dl_head.proofs.CutLemmas.{cut_of, cut_sound, Sound}
use Rattle.dl_head.proofs.FrontLemmas.{GoesOn, fronts}

-- ---- what a cut decides

-- by what stands next
abbrev pub decided_on : Order → ℕ → List Item → List ℕ → Layout → Option FaultKind
decided_on order n items rest next = or_else (bad_kind (field_spelt order next rest)) (header_overrun n items next)

overrun_none : (n : ℕ) (items : List Item) (next : Layout) → field_overrun n items (header_end items) ≡ None
    → header_overrun n items next ≡ None
overrun_none n items (initial_length_then next) e = e
overrun_none n items (number_then field next) e = e
overrun_none n items (form_then next) e = e
overrun_none n items (value_then format f next) e = e
overrun_none n items (path_or_end format pairs entries next) e = e
overrun_none n items (foreign_version v) e = refl
overrun_none n items (last_entry h) e = refl

-- an incomplete field decides nothing where no end is reached
pub quiet : (dialect : Dialect) (b : List ℕ) (items : List Item) (rest : List ℕ) → cut dialect b ≡ cut_of items rest
    → field_spelt dialect.order (following_all (header_layout dialect) items) rest ≡ None
    → field_overrun (length b) items (header_end items) ≡ None → header_decided dialect b ≡ None
quiet dialect b items rest e none over =
    ap (λ (c : Cut). cut_decided dialect (length b) c) e
    ∙ ap (λ (o : Judgement Item). or_else (bad_kind o)
    (header_overrun (length b) items (following_all (header_layout dialect) items))) none
    ∙ overrun_none (length b) items (following_all (header_layout dialect) items) over

pub foreign_last : (layout : Layout) (v : ℕ) → foreign_made layout ≡ Some v → layout ≡ foreign_version v
foreign_last (foreign_version u) v e = let f : u ≡ v = cc in ap (λ (n : ℕ). foreign_version n) f
foreign_last (path_or_end f p t n) v e = absurd (none_some refl e)
foreign_last (last_entry g) v e = absurd (none_some refl e)
foreign_last (initial_length_then n) v e = absurd (none_some refl e)
foreign_last (number_then f n) v e = absurd (none_some refl e)
foreign_last (form_then n) v e = absurd (none_some refl e)
foreign_last (value_then f g n) v e = absurd (none_some refl e)

-- ---- one refusal

-- what is refused goes on to nothing that is refused
not_longer : (dialect : Dialect) (b c : List ℕ) (at at2 : ℕ) (kind kind2 : FaultKind) → HeaderRefused dialect b at kind
    → HeaderRefused dialect c at2 kind2 → GoesOn b c → ⊥
not_longer dialect b c at at2 kind kind2 r s g = none_some (s.shortest b g.0 g.1 g.2) r.decided

kind_same : (k j : FaultKind) → ◌≡◌ {A = Option FaultKind} (Some k) (Some j) → k ≡ j
kind_same k j e = cc

same_refusal : (dialect : Dialect) (b : List ℕ) (at at2 : ℕ) (kind kind2 : FaultKind) → HeaderRefused dialect b at kind
    → HeaderRefused dialect b at2 kind2 → (at ≡ at2) × (kind ≡ kind2)
same_refusal dialect b at at2 kind kind2 r s =
    (omega (arith, r.place, s.place), kind_same kind kind2 (sym r.decided ∙ s.decided))

pub one_header_refusal : OneHeaderRefusal
one_header_refusal dialect b c v u at at2 kind kind2 e r s = elim (fronts b c v u e) [
  | inl same ↦
      let t = same_refusal dialect c at at2 kind kind2
      (subst (λ (l : List ℕ). HeaderRefused dialect l at kind) same r) s in
      (same, t.0, t.1)
  | inr (inl g) ↦ absurd (not_longer dialect b c at at2 kind kind2 r s g)
  | inr (inr g) ↦ absurd (not_longer dialect c b at2 at kind2 kind s r g)
]

-- ---- the refusal that is computed

-- b is the first front that decides anything, and the rest follows it
record First (decided : List ℕ → Option FaultKind) (b front : List ℕ) (kind : FaultKind) : Type 0 where
  rest : List ℕ
  whole : b ≡ front ++ rest
  decides : decided front ≡ Some kind
  shortest : NothingBefore decided front

some_pair : (f g : List ℕ) (j k : FaultKind) → ◌≡◌ {A = Option (List ℕ × FaultKind)} (Some (f, j)) (Some (g, k))
    → (f ≡ g) × (j ≡ k)
some_pair f g j k e =
    let p : ◌≡◌ {A = List ℕ × FaultKind} (f, j) (g, k) = cc in (λ i. (p i).0, λ i. (p i).1)

nothing_more : (decided : List ℕ → Option FaultKind) (begun : List ℕ) (x : ℕ) → NothingBefore decided begun
    → decided begun ≡ None → NothingBefore decided (begun ++ x ∷ [])
nothing_more decided begun x before none front y back e = on (front_before begun front x y back e) e where
  on : (r : (z : List ℕ) × (begun ≡ front ++ z)) → begun ++ x ∷ [] ≡ front ++ y ∷ back → decided front ≡ None
  on (([]), same) e = ap decided (sym (append-nil front) ∙ sym same) ∙ none
  on ((a ∷ z), same) e = before front a z same

abbrev found_on : List ℕ → Option FaultKind → Option (List ℕ × FaultKind) → Option (List ℕ × FaultKind)
found_on begun o later = elim o [ Some kind ↦ Some (begun, kind) | None ↦ later ]

first_on : (decided : List ℕ → Option FaultKind) (begun b front : List ℕ) (kind : FaultKind)
    (later : Option (List ℕ × FaultKind)) → NothingBefore decided begun
    → (decided begun ≡ None → later ≡ Some (front, kind) → First decided (begun ++ b) front kind)
    → (o : Option FaultKind) → decided begun ≡ o → found_on begun o later ≡ Some (front, kind)
    → First decided (begun ++ b) front kind
first_on decided begun b front kind later before next (Some k) d e =
    let same = some_pair begun front k kind e in
    subst (λ (l : List ℕ). First decided (begun ++ b) l kind) same.0
    (record { rest = b; whole = refl; decides = d ∙ ap (λ (j : FaultKind). Some j) same.1; shortest = before })
first_on decided begun b front kind later before next None d e = next d e

first_sound : (decided : List ℕ → Option FaultKind) (begun b front : List ℕ) (kind : FaultKind)
    → NothingBefore decided begun
    → first_decided decided begun b ≡ Some (front, kind) → First decided (begun ++ b) front kind
first_sound decided begun [] front kind before e =
    let never : Option (List ℕ × FaultKind) = None in
    first_on decided begun [] front kind never before (λ d none. absurd (none_some {a = (front, kind)} refl none))
    (decided begun) refl e
first_sound decided begun (x ∷ b) front kind before e =
    first_on decided begun (x ∷ b) front kind (first_decided decided (begun ++ x ∷ []) b) before
    (λ d more. subst (λ (l : List ℕ). First decided l front kind) (append_assoc begun (x ∷ []) b)
    (first_sound decided (begun ++ x ∷ []) b front kind (nothing_more decided begun x before d) more))
    (decided begun) refl e

first_found : (decided : List ℕ → Option FaultKind) (begun y v : List ℕ) (kind : FaultKind)
    → decided (begun ++ y) ≡ Some kind → NothingBefore decided (begun ++ y)
    → first_decided decided begun (y ++ v) ≡ Some (begun ++ y, kind)
first_found decided begun [] [] kind d shortest =
    let decides : decided begun ≡ Some kind = ap decided (sym (append-nil begun)) ∙ d in
    rw (decides, append-nil begun) refl
first_found decided begun [] (x ∷ v) kind d shortest =
    let decides : decided begun ≡ Some kind = ap decided (sym (append-nil begun)) ∙ d in
    rw (decides, append-nil begun) refl
first_found decided begun (x ∷ y) v kind d shortest =
    let same : (begun ++ x ∷ []) ++ y ≡ begun ++ x ∷ y = append_assoc begun (x ∷ []) y in
    rw (shortest begun x y refl) (first_found decided (begun ++ x ∷ []) y v kind (ap decided same ∙ d)
    (subst (λ (l : List ℕ). NothingBefore decided l) (sym same) shortest)
    ∙ ap (λ (l : List ℕ). found_on l (Some kind) None) same)

abbrev refusal_is : List ℕ → ℕ → FaultKind → Refusal
refusal_is front at kind = record { front = front; at = at; kind = kind }

-- the parts of the refusal that comes of what was found
record Parts (dialect : Dialect) (o : Option (List ℕ × FaultKind)) (front : List ℕ) (at : ℕ) (kind : FaultKind) : Type 0
  where
    found : o ≡ Some (front, kind)
    place : at ≡ length front - length (cut dialect front).rest

parts : (dialect : Dialect) (o : Option (List ℕ × FaultKind)) (front : List ℕ) (at : ℕ) (kind : FaultKind)
    → refusal_of dialect o ≡ Some (refusal_is front at kind) → Parts dialect o front at kind
parts dialect None front at kind e = absurd (none_some {a = refusal_is front at kind} refl e)
parts dialect (Some (f, k)) front at kind e =
    let p : refusal_is f (length f - length (cut dialect f).rest) k ≡ refusal_is front at kind = cc in
    let q : f ≡ front = λ i. (p i).front in
    let a : length f - length (cut dialect f).rest ≡ at = λ i. (p i).at in
    record {
      found = λ i. Some ((p i).front, (p i).kind);
      place = sym a ∙ ap (λ (l : List ℕ). length l - length (cut dialect l).rest) q;
    }

nothing_empty : (decided : List ℕ → Option FaultKind) → NothingBefore decided []
nothing_empty decided [] x back e = absurd cc
nothing_empty decided (y ∷ front) x back e = absurd cc

pub refusal_is_computed : RefusalIsComputed
refusal_is_computed dialect b front at kind = (to, from) where
  to : header_refusal_in dialect b ≡ Some (refusal_is front at kind)
      → HeaderRefused dialect front at kind × ((v : List ℕ) × (b ≡ front ++ v))
  to e =
      let p = parts dialect (first_decided (header_decided dialect) [] b) front at kind e in
      let f = first_sound (header_decided dialect) [] b front kind (nothing_empty (header_decided dialect)) p.found in
      let s : Sound dialect.order (header_layout dialect) front (cut dialect front) =
      cut_sound dialect.order (header_layout dialect) [] front in (
        record {
          place = omega (arith, p.place, ap length s.whole, length-append s.front (cut dialect front).rest);
          decided = f.decides;
          shortest = f.shortest;
        },
        (f.rest, f.whole),
      )

  from : HeaderRefused dialect front at kind × ((v : List ℕ) × (b ≡ front ++ v))
      → header_refusal_in dialect b ≡ Some (refusal_is front at kind)
  from r =
      rw (r.1.1, first_found (header_decided dialect) [] front r.1.0 kind r.0.decided r.0.shortest)
      (ap (λ (n : ℕ). let o : Option Refusal = Some (refusal_is front n kind) in o) (omega (arith, r.0.place)))
