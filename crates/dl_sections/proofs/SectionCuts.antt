-- The one way in which bytes are cut into units, and the one way in which a section ends.
use Rattle.dl_sections.proofs.Names.{if◌then◌else◌, ◌++◌, ◌+◌, ◌∙◌, ◌∷◌, ◌≡◌, ◌≢◌, [], AllByRecursion, ap, append-nil}
use Rattle.dl_sections.proofs.Names.{append_assoc, append_cancel_left, concat, Dialect, EndsAs, Err, FaultKind}
use Rattle.dl_sections.proofs.Names.{HasUnits, inl, inr, IsOfBytes, IsUnit, le-ltb, length, length_of_unit, List, lt-ltb}
use Rattle.dl_sections.proofs.Names.{nat_lt, NoUnitBegins, Ok, one_refusal, OneCut, OneEnd, Option, refl, Refused, Result}
use Rattle.dl_sections.proofs.Names.{RunFault, some_same, Sound, Summary, summary_of, sym, take, take_all, Truncated}
use Rattle.dl_sections.proofs.Names.{unit_len, unit_len_on, ℕ}
use Rattle.dl_sections.proofs.Names.fault
use Rattle.dl_sections.proofs.Fronts.{same_fronts}
use Rattle.dl_sections.proofs.SectionLemmas.{none_begins, none_refused}

-- ---- one cut

-- of the fronts of a list at most one is a unit
pub one_front : (dialect : Dialect) (u v x y : List ℕ) → IsUnit dialect u → IsUnit dialect v → u ++ x ≡ v ++ y
    → (u ≡ v) × (x ≡ y)
one_front dialect u v x y one two e =
    same_fronts u v x y (some_same _ _ (sym (unit_len_on dialect u x _ (length_of_unit dialect u one))
    ∙ ap (unit_len dialect) e ∙ unit_len_on dialect v y _ (length_of_unit dialect v two))) e

-- bytes that are cut into units twice: the units are the same, or those of one cut go on where the others end
pub data Meet (dialect : Dialect) (units units2 : List (List ℕ)) (w w2 : List ℕ) : Type 0 where
  same : units ≡ units2 → w ≡ w2 → Meet dialect units units2 w w2
  shorter : (v : List ℕ) (vs : List (List ℕ)) → units2 ≡ units ++ v ∷ vs → w ≡ v ++ (concat vs ++ w2)
      → IsUnit dialect v → Meet dialect units units2 w w2
  longer : (v : List ℕ) (vs : List (List ℕ)) → units ≡ units2 ++ v ∷ vs → w2 ≡ v ++ (concat vs ++ w)
      → IsUnit dialect v → Meet dialect units units2 w w2

meet_all : (dialect : Dialect) (units units2 : List (List ℕ)) (w w2 : List ℕ) → AllByRecursion (IsUnit dialect) units
    → AllByRecursion (IsUnit dialect) units2 → concat units ++ w ≡ concat units2 ++ w2 → Meet dialect units units2 w w2
meet_all dialect [] [] w w2 all all2 e = same refl e
meet_all dialect [] (v ∷ vs) w w2 all all2 e = shorter v vs refl (cc (append_assoc v (concat vs) w2)) all2.0
meet_all dialect (u ∷ us) [] w w2 all all2 e = longer u us refl (cc (append_assoc u (concat us) w)) all.0
meet_all dialect (u ∷ us) (v ∷ vs) w w2 all all2 e =
    let front = one_front dialect u v (concat us ++ w) (concat vs ++ w2) all.0 all2.0 (simp append_assoc at e) in
    elim (meet_all dialect us vs w w2 all.1 all2.1 front.1) [
      | same a b ↦ same (cc front.0) b
      | shorter x xs a b unit ↦ shorter x xs (cc front.0) b unit
      | longer x xs a b unit ↦ longer x xs (cc front.0) b unit
    ]

pub meet : {dialect : Dialect} {s : List ℕ} {units units2 : List (List ℕ)} {w w2 : List ℕ}
    → HasUnits dialect s units w → HasUnits dialect s units2 w2 → Meet dialect units units2 w w2
meet {dialect} {s} {units} {units2} {w} {w2} has has2 =
    meet_all dialect units units2 w w2 has.each has2.each (sym has.whole ∙ has2.whole)

pub one_cut : OneCut
one_cut dialect s units units2 rest rest2 has none has2 none2 = elim (meet has has2) [
  | same a b ↦ (a, b)
  | shorter v vs a b unit ↦ absurd (none v (concat vs ++ rest2) b unit)
  | longer v vs a b unit ↦ absurd (none2 v (concat vs ++ rest) b unit)
]

-- ---- one end

-- what is answered where all bytes are units and b
abbrev pub last_answer : Dialect → (size : ℕ) → List (List ℕ) → (b : List ℕ) → Result Summary RunFault
last_answer dialect size units [] = Ok (summary_of dialect units)
last_answer dialect size units (x ∷ b) = Err (fault.Damage size Truncated)

abbrev pub over_answer : Dialect → (limit : ℕ) (bytes : List ℕ) → List (List ℕ) → (b : List ℕ) → Result Summary RunFault
over_answer dialect limit bytes units b =
    if nat_lt limit (length bytes) then Err fault.SectionTooLong else last_answer dialect (length bytes) units b

-- how a section ends: b is refused, or the bytes are over; and what is answered where its bytes settle that
pub data How (dialect : Dialect) (limit : ℕ) (bytes : List ℕ) (units : List (List ℕ)) (b back : List ℕ)
    (result : Result Summary RunFault) : Type 0 where
  refused : (at : ℕ) (kind : FaultKind) → Refused dialect b at kind
      → (IsOfBytes result → result ≡ Err (fault.Damage (length (concat units) + at) kind))
      → How dialect limit bytes units b back result
  over : back ≡ [] → Sound dialect b → (IsOfBytes result → result ≡ over_answer dialect limit bytes units b)
      → How dialect limit bytes units b back result

pub record Ended (dialect : Dialect) (limit : ℕ) (bytes : List ℕ) (units : List (List ℕ)) (b back : List ℕ)
    (result : Result Summary RunFault) : Type 0 where
  pub has : HasUnits dialect (take limit bytes) units (b ++ back)
  pub none : NoUnitBegins dialect (b ++ back)
  pub how : How dialect limit bytes units b back result

cut_short : (dialect : Dialect) (size : ℕ) (units : List (List ℕ)) (b : List ℕ) → b ≢ []
    → last_answer dialect size units b ≡ Err (fault.Damage size Truncated)
cut_short dialect size units [] some = absurd (some refl)
cut_short dialect size units (x ∷ b) some = refl

pub of_bytes : {result : Result Summary RunFault} → IsOfBytes result → result ≢ Err fault.NoMemory
of_bytes of e = rw e at of

module _ (dialect : Dialect) (limit : ℕ) (bytes : List ℕ) (left : Option (List ℕ)) (units : List (List ℕ))
    (b back : List ℕ) where
  pub ended : (result : Result Summary RunFault) → result ≢ Err fault.NoMemory
      → EndsAs dialect limit bytes left units b back result → Ended dialect limit bytes units b back result
  ended (Ok summary) not (has, empty, nothing, fits, end, is) = rw (empty, nothing) (record {
    has = rw (take_all limit bytes fits) has;
    none = none_begins dialect;
    how = over refl (none_refused dialect) (λ of. rw (le-ltb limit (length bytes) fits, is) refl);
  })
  ended (Err (fault.Damage offset kind)) not (has, none, inl (at, place, r)) =
      record { has = has; none = none; how = refused at kind r (λ of. rw place refl) }
  ended (Err (fault.Damage offset kind)) not (has, none, inr (nothing, some, sound, fits, end, place, is)) = record {
    has = has;
    none = none;
    how = over nothing sound (λ of. rw (le-ltb limit (length bytes) fits, place, is)
        (sym (cut_short dialect (length bytes) units b some)));
  }
  ended (Err fault.Read) not (has, nothing, none, sound, fits) = rw nothing (record {
    has = rw (take_all limit bytes fits, append-nil b) has;
    none = rw (append-nil b) none;
    how = over refl sound (λ of. absurd of);
  })
  ended (Err fault.SectionTooLong) not (has, nothing, none, sound, long) = rw nothing (record {
    has = rw (append-nil b) has;
    none = rw (append-nil b) none;
    how = over refl sound (λ of. rw (lt-ltb limit (length bytes) long) refl);
  })
  ended (Err fault.NoMemory) not ends = absurd (not refl)
  ended (Err f) not ends = absurd ends

-- two ends of the same units
same_end : (dialect : Dialect) (limit : ℕ) (bytes : List ℕ) (units : List (List ℕ)) (b b2 back back2 : List ℕ)
    (result result2 : Result Summary RunFault) → How dialect limit bytes units b back result
    → How dialect limit bytes units b2 back2 result2 → IsOfBytes result → IsOfBytes result2 → b ++ back ≡ b2 ++ back2
    → (b ≡ b2) × (back ≡ back2) × (result ≡ result2)
same_end dialect limit bytes units b b2 back back2 result result2 (refused at kind r is) (refused at2 kind2 r2 is2) of
    of2 e =
    let one = one_refusal dialect b b2 back back2 at at2 kind kind2 e r r2 in
    (one.0, append_cancel_left b back back2 (cc one.0), cc (one.1, one.2, is of, is2 of2))
same_end dialect limit bytes units b b2 back back2 result result2 (refused at kind r is) (over nothing sound is2) of
    of2 e = absurd (sound b back at kind (cc (append-nil b2)) r)
same_end dialect limit bytes units b b2 back back2 result result2 (over nothing sound is) (refused at kind r is2) of
    of2 e = absurd (sound b2 back2 at kind (cc (append-nil b)) r)
same_end dialect limit bytes units b b2 back back2 result result2 (over nothing sound is) (over nothing2 sound2 is2) of
    of2 e =
    let same : b ≡ b2 = cc (append-nil b, append-nil b2) in
    (same, cc, is of ∙ ap (over_answer dialect limit bytes units) same ∙ sym (is2 of2))

pub one_end : OneEnd
one_end dialect limit bytes left left2 units units2 b b2 back back2 result result2 of of2 ends ends2 =
    let first = ended dialect limit bytes left units b back result (of_bytes of) ends in
    let second = ended dialect limit bytes left2 units2 b2 back2 result2 (of_bytes of2) ends2 in
    let cut = one_cut dialect (take limit bytes) units units2 (b ++ back) (b2 ++ back2) first.has first.none second.has
    second.none in
    let same = same_end dialect limit bytes units b b2 back back2 result result2 first.how (rw (← cut.0) at second.how)
    of of2 cut.1 in
    (cut.0, same.0, same.1, same.2)
