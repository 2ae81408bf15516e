-- What `copy` and `copy_to_5` answer and write of bytes is one thing alone.
use Rattle.dl_sections.proofs.Names.{◌++◌, ◌+◌, ◌∙◌, ◌∷◌, ◌≡◌, [], add-zero, answer, ap, append-nil, append_assoc, Appends}
use Rattle.dl_sections.proofs.Names.{◌⊎◌, AreMade, arith, Bool, concat, CopiesAs, CopyIsFront, CopyTo5IsFront, Dialect, directory_by}
use Rattle.dl_sections.proofs.Names.{EmitFault, EndsAs, Err, foreign_in, foreign_is_not_refused, foreign_known}
use Rattle.dl_sections.proofs.Names.{foreign_no_header, foreign_on, fronts, HasBegun, HasUnits, header_in, header_of}
use Rattle.dl_sections.proofs.Names.{header_on, HeaderData, inl, inr, IsMade, IsOfBytes, IsUnit, length, length-append}
use Rattle.dl_sections.proofs.Names.{List, Made, nil_from_length, None, Ok, OneCopy, OneCopying, OneCopyingTo5, OneCopyTo5}
use Rattle.dl_sections.proofs.Names.{Option, refl, refusal, refused_in_header, Result, RunFault, Some, Summary, sym, take}
use Rattle.dl_sections.proofs.Names.{TellsOut, to_5, TooLong, true, unit_rows, units_as, WantsFor5, WantsForRows, Write, zero-add, ℕ}
use Rattle.dl_sections.proofs.Names.fault
use Rattle.dl_dirs.specs.declared.compilation.CompilationDirectories.{CompilationDirectories}
use Rattle.dl_sections.proofs.CopyingAnswers.{copies}
use Rattle.dl_sections.proofs.EventLemmas.{header_parts}
use Rattle.dl_sections.proofs.Fronts.{none_is_some, value_same}
use Rattle.dl_sections.proofs.OutLemmas.{TellsOut-more}
use Rattle.dl_sections.proofs.PlainCopies.{standard, copies_as}
use Rattle.dl_sections.proofs.SectionCuts.{one_front, same, shorter, longer, meet, How, refused, over, Ended, of_bytes}
use Rattle.dl_sections.proofs.SectionCuts.{ended, one_end}
use Rattle.dl_sections.proofs.SectionLemmas.{has_last, same_rest}

units_as-append : (made : Made) (dialect : Dialect) (n : ℕ) (units others : List (List ℕ))
    → units_as made dialect n (units ++ others)
    ≡ units_as made dialect n units ++ units_as made dialect (n + length (concat units)) others
units_as-append made dialect n [] others = rw add-zero refl
units_as-append made dialect n (u ∷ units) others =
    let on : n + length u + length (concat units) ≡ n + length (concat (u ∷ units)) =
    omega (arith, length-append u (concat units)) in
    rw (units_as-append made dialect (n + length u) units others, on) (simp append_assoc)

-- each of units that are copied has a copy at its place
made_at : (made : Made) (dialect : Dialect) (n : ℕ) (units : List (List ℕ)) (v : List ℕ) (others : List (List ℕ))
    → AreMade made dialect n (units ++ v ∷ others) → IsMade made dialect (n + length (concat units)) v
made_at made dialect n [] v others all = rw add-zero all.0
made_at made dialect n (u ∷ units) v others all =
    let on : n + length u + length (concat units) ≡ n + length (concat (u ∷ units)) =
    omega (arith, length-append u (concat units)) in
    rw on at (made_at made dialect (n + length u) units v others all.1)

-- ---- how copying ends

module _ (made : Made) (dialect : Dialect) (limit : ℕ) (bytes : List ℕ) where
  abbrev s : List ℕ
  s = take limit bytes

  -- after the units the section ends, and not in another version; or that version is begun; or there is a unit whose
  -- copy would be too long
  abbrev AtEnd : List (List ℕ) → Result Summary RunFault → Type 0
  AtEnd units result =
      (left : Option (List ℕ)) × (b : List ℕ) × (back : List ℕ) × IsOfBytes result
      × EndsAs dialect limit bytes left units b back result × (foreign_in dialect b ≡ None)

  abbrev AtVersion : List (List ℕ) → Type 0
  AtVersion units =
      (b : List ℕ) × (back : List ℕ) × (version : ℕ) × HasBegun dialect s units b back
      × (foreign_in dialect b ≡ Some version)

  abbrev AtUnit : List (List ℕ) → Type 0
  AtUnit units =
      (u : List ℕ) × (back : List ℕ) × (h : HeaderData) × (f : EmitFault) × HasUnits dialect s (units ++ u ∷ []) back
      × (header_of dialect u ≡ Some h) × (refusal (made (length (concat units)) h) (unit_rows dialect u) ≡ Some f)

  data Stops (units : List (List ℕ)) (result : Result Summary RunFault) : Type 0 where
    at_end : AtEnd units result → Stops units result
    at_version : AtVersion units → result ≡ Err (fault.ForeignUnit (length (concat units))) → Stops units result
    at_unit : AtUnit units → result ≡ Err (fault.Emit (length (concat units)) TooLong) → Stops units result

  abbrev Copied : (start now : Option (List ℕ)) → Result Summary RunFault → Type 0
  Copied start now result =
      (units : List (List ℕ)) × AreMade made dialect 0 units × Appends start now (units_as made dialect 0 units)
      × Stops units result

  copied_of : (Wants : ℕ → List ℕ → Type 0) (left start now : Option (List ℕ)) (result : Result Summary RunFault)
      → IsOfBytes result → CopiesAs made Wants dialect limit bytes left start now result → Copied start now result
  copied_of Wants left start now (Ok summary) of (units, ends, out) =
      (units, out.0, out.1, at_end (left, [], [], of, ends, refl))
  copied_of Wants left start now (Err (fault.ForeignUnit offset)) of (units, b, back, v, has, place, foreign, out) =
      (units, out.0, out.1, at_version (b, back, v, has, foreign) (rw place refl))
  copied_of Wants left start now (Err (fault.Emit offset f)) of (units, u, back, h, has, place, header, is, long, out) =
      (units, out.0, out.1, at_unit (u, back, h, f, has, header, rw place at is) (rw (place, long) refl))
  copied_of Wants left start now (Err fault.NoMemory) of copies = absurd of
  copied_of Wants left start now (Err (fault.Write n)) of copies = absurd of
  copied_of Wants left start now (Err f) of c = (c.0, c.5.0, c.5.1, at_end (left, c.1, c.2, of, c.3, c.4))

  -- ---- what two of these say of the same bytes

  module _ (units : List (List ℕ)) (result : Result Summary RunFault) where
    its_end : (e : AtEnd units result) → Ended dialect limit bytes units e.1 e.2 result
    its_end e = ended dialect limit bytes e.0 units e.1 e.2 result (of_bytes e.3) e.4

    no_unit : AtEnd units result → (u back : List ℕ) → HasUnits dialect s units (u ++ back) → IsUnit dialect u → ⊥
    no_unit e u back has unit = (its_end e).none u back (same_rest (its_end e).has has) unit

    no_version : AtEnd units result → AtVersion units → ⊥
    no_version e (b, back, version, begun, foreign) = elim (fronts e.1 b e.2 back whole) [
      | inl one ↦ none_is_some (sym e.5 ∙ ap (foreign_in dialect) one ∙ foreign)
      | inr (inl g) ↦ not_longer g.0 g.1 g.2 (its_end e).how
      | inr (inr g) ↦ none_is_some (sym e.5 ∙ ap (foreign_in dialect) g.2
          ∙ foreign_on dialect b (g.0 ∷ g.1) version foreign)
    ] where
      whole : e.1 ++ e.2 ≡ b ++ back
      whole = same_rest (its_end e).has begun.has

      not_longer : (x : ℕ) (y : List ℕ) → b ≡ e.1 ++ x ∷ y → How dialect limit bytes units e.1 e.2 result → ⊥
      not_longer x y is (over nothing sound answer) =
          omega (
            arith,
            ap length whole,
            ap length is,
            ap length nothing,
            length-append e.1 e.2,
            length-append b back,
            length-append e.1 (x ∷ y),
          )
      not_longer x y is (refused at kind r answer) = by (header_in dialect e.1) refl where
        by : (o : Option (HeaderData × List ℕ)) → header_in dialect e.1 ≡ o → ⊥
        by None none =
            let unit = foreign_known dialect b version foreign in
            foreign_is_not_refused dialect b e.1 (x ∷ y) version unit.0 at kind foreign unit.1
            (begun.in_unit unit.0 unit.1) is ((refused_in_header dialect e.1 at kind none).0 r)
        by (Some (h, program)) some =
            none_is_some (sym (foreign_no_header dialect b version foreign) ∙ ap (header_in dialect) is
            ∙ header_on dialect e.1 (x ∷ y) h program some)

  -- what begins with another version doesn't begin with a unit that has a header
  no_header : (units : List (List ℕ)) → AtVersion units → (u back : List ℕ) (h : HeaderData)
      → HasUnits dialect s units (u ++ back) → header_of dialect u ≡ Some h → ⊥
  no_header units (b, rest, version, begun, foreign) u back h has header =
      let parts = header_parts dialect u h header in
      none_is_some (sym (foreign_no_header dialect (b ++ rest) version (foreign_on dialect b rest version foreign))
      ∙ ap (header_in dialect) (same_rest begun.has has) ∙ header_on dialect u back h parts.0 parts.1)

  same_answer : (units : List (List ℕ)) (result result2 : Result Summary RunFault) → Stops units result
      → Stops units result2 → result ≡ result2
  same_answer units a b (at_end e) (at_end e2) =
      (one_end dialect limit bytes e.0 e2.0 units units e.1 e2.1 e.2 e2.2 a b e.3 e2.3 e.4 e2.4).3
  same_answer units a b (at_end e) (at_version v is) = absurd (no_version units a e v)
  same_answer units a b (at_end e) (at_unit u is) =
      absurd (no_unit units a e u.0 u.1 (has_last u.4).0 (has_last u.4).1)
  same_answer units a b (at_version v is) (at_end e) = absurd (no_version units b e v)
  same_answer units a b (at_version v is) (at_version v2 is2) = is ∙ sym is2
  same_answer units a b (at_version v is) (at_unit u is2) =
      absurd (no_header units v u.0 u.1 u.2 (has_last u.4).0 u.5)
  same_answer units a b (at_unit u is) (at_end e) =
      absurd (no_unit units b e u.0 u.1 (has_last u.4).0 (has_last u.4).1)
  same_answer units a b (at_unit u is) (at_version v is2) =
      absurd (no_header units v u.0 u.1 u.2 (has_last u.4).0 u.5)
  same_answer units a b (at_unit u is) (at_unit u2 is2) = is ∙ sym is2

  -- ---- the same units

  -- no unit comes next that has a copy
  no_copy : (units : List (List ℕ)) (result : Result Summary RunFault) → Stops units result → (u back : List ℕ)
      → HasUnits dialect s units (u ++ back) → IsUnit dialect u → IsMade made dialect (length (concat units)) u → ⊥
  no_copy units result (at_end e) u back has unit copied = no_unit units result e u back has unit
  no_copy units result (at_version v is) u back has unit copied = no_header units v u back copied.0 has copied.1
  no_copy units result (at_unit v is) u back has unit copied =
      let last = has_last v.4 in
      let same = (one_front dialect v.0 u v.1 back last.1 unit (same_rest last.0 has)).0 in
      let headers : v.2 ≡ copied.0 = value_same v.2 copied.0 (sym v.5 ∙ ap (header_of dialect) same ∙ copied.1) in
      none_is_some (sym copied.2 ∙ rw (headers, same) at v.6)

  has_of : (units : List (List ℕ)) (result : Result Summary RunFault) → Stops units result
      → (w : List ℕ) × HasUnits dialect s units w
  has_of units result (at_end e) = (e.1 ++ e.2, (its_end units result e).has)
  has_of units result (at_version v is) = (v.0 ++ v.1, v.3.has)
  has_of units result (at_unit u is) = (u.0 ++ u.1, (has_last u.4).0)

  -- of units that are copied the first are those that are copied as far as can be
  fewer_copies : (units units2 : List (List ℕ)) (w : List ℕ) (result2 : Result Summary RunFault)
      → HasUnits dialect s units w → AreMade made dialect 0 units → Stops units2 result2
      → (others : List (List ℕ)) × (units2 ≡ units ++ others)
  fewer_copies units units2 w result2 has copied how2 =
      let has2 = has_of units2 result2 how2 in
      elim (meet has has2.1) [
        | same us e ↦ ([], cc (append-nil units))
        | shorter v vs us e unit ↦ (v ∷ vs, us)
        | longer v vs us e unit ↦ absurd (no_copy units2 result2 how2 v (concat vs ++ w) (rw e at has2.1) unit
            (rw zero-add at (made_at made dialect 0 units2 v vs (rw us at copied))))
      ]

  same_units : (result result2 : Result Summary RunFault) (units units2 : List (List ℕ)) → AreMade made dialect 0 units
      → AreMade made dialect 0 units2 → Stops units result → Stops units2 result2 → units ≡ units2
  same_units result result2 units units2 copied copied2 how how2 =
      let has = has_of units result how in
      let has2 = has_of units2 result2 how2 in
      let fewer = fewer_copies units units2 has.0 result2 has.1 copied how2 in
      let more = fewer_copies units2 units has2.0 result has2.1 copied2 how in
      let lengths = length-append units fewer.0 in
      let nothing : fewer.0 ≡ [] =
      nil_from_length fewer.0
      (omega (arith, ap length fewer.1, ap length more.1, lengths, length-append units2 more.0)) in
      cc (fewer.1, nothing, append-nil units)

-- where what becomes of headers is known
module _ (made : Made) (Wants Wants2 : ℕ → List ℕ → Type 0) (dialect : Dialect) (limit : ℕ) (bytes : List ℕ)
    (left left2 start start2 now now2 : Option (List ℕ)) where
  one_answer : (result result2 : Result Summary RunFault) → IsOfBytes result → IsOfBytes result2
      → CopiesAs made Wants dialect limit bytes left start now result
      → CopiesAs made Wants2 dialect limit bytes left2 start2 now2 result2 → result ≡ result2
  one_answer result result2 of of2 copies copies2 =
      let c = copied_of made dialect limit bytes Wants left start now result of copies in
      let c2 = copied_of made dialect limit bytes Wants2 left2 start2 now2 result2 of2 copies2 in
      let same = same_units made dialect limit bytes result result2 c.0 c2.0 c.1 c2.1 c.3 c2.3 in
      same_answer made dialect limit bytes c.0 result result2 c.3 (rw (← same) at c2.3)

  one_text : (result result2 : Result Summary RunFault) → IsOfBytes result → IsOfBytes result2
      → CopiesAs made Wants dialect limit bytes left start now result
      → CopiesAs made Wants2 dialect limit bytes left2 start2 now2 result2
      → (text : List ℕ) × Appends start now text × Appends start2 now2 text
  one_text result result2 of of2 copies copies2 =
      let c = copied_of made dialect limit bytes Wants left start now result of copies in
      let c2 = copied_of made dialect limit bytes Wants2 left2 start2 now2 result2 of2 copies2 in
      let same = same_units made dialect limit bytes result result2 c.0 c2.0 c.1 c2.1 c.3 c2.3 in
      (units_as made dialect 0 c.0, c.2, rw same c2.2)

  text_is_front : (out : ℕ) (result2 : Result Summary RunFault) → IsOfBytes result2
      → CopiesAs made Wants dialect limit bytes left start now (Err (fault.Write out))
      → CopiesAs made Wants2 dialect limit bytes left2 start2 now2 result2
      → (text : List ℕ) × TellsOut start now text (fault.Write out) × Appends start2 now2 text
  text_is_front out result2 of2 (units, back, has, copied, tells) copies2 =
      let c2 = copied_of made dialect limit bytes Wants2 left2 start2 now2 result2 of2 copies2 in
      let fewer = fewer_copies made dialect limit bytes units c2.0 back result2 has copied c2.3 in
      let text = ap (units_as made dialect 0) fewer.1 ∙ units_as-append made dialect 0 units fewer.0 in (
        units_as made dialect 0 c2.0,
        rw text (TellsOut-more start now (units_as made dialect 0 units)
            (units_as made dialect (0 + length (concat units)) fewer.0) (fault.Write out) tells),
        c2.2,
      )

-- memory was refused
abbrev Refused : (ℕ → Bool) → ℕ → Type 0
Refused test k = test k ≡ true

abbrev ForRows : (ℕ → Bool) → Dialect → (bytes : List ℕ) (offset : ℕ) → List ℕ → Type 0
ForRows test dialect bytes offset b = WantsForRows (Refused test) dialect bytes b

abbrev For5 : (ℕ → Bool) → CompilationDirectories → Dialect → (bytes : List ℕ) (offset : ℕ) → List ℕ → Type 0
For5 test directories dialect bytes offset b =
    ForRows test dialect bytes offset b ⊎ WantsFor5 (Refused test) (directory_by directories) dialect offset b

pub one_copying : OneCopying
one_copying r r2 dialect limit bytes left left2 start start2 now now2 result result2 of of2 copies copies2 =
    one_answer standard (ForRows r dialect bytes) (ForRows r2 dialect bytes) dialect limit bytes left left2 start start2
    now now2 result result2 of of2 (copies_as dialect (Refused r) limit bytes left start now result copies)
    (copies_as dialect (Refused r2) limit bytes left2 start2 now2 result2 copies2)

pub one_copy : OneCopy
one_copy r r2 dialect limit bytes left left2 start start2 now now2 result result2 of of2 copies copies2 =
    one_text standard (ForRows r dialect bytes) (ForRows r2 dialect bytes) dialect limit bytes left left2 start start2
    now now2 result result2 of of2 (copies_as dialect (Refused r) limit bytes left start now result copies)
    (copies_as dialect (Refused r2) limit bytes left2 start2 now2 result2 copies2)

pub copy_is_front : CopyIsFront
copy_is_front r r2 dialect limit bytes left left2 start start2 now now2 out result2 of2 copies copies2 =
    text_is_front standard (ForRows r dialect bytes) (ForRows r2 dialect bytes) dialect limit bytes left left2 start
    start2 now now2 out result2 of2 (copies_as dialect (Refused r) limit bytes left start now (Err (fault.Write out)) copies)
    (copies_as dialect (Refused r2) limit bytes left2 start2 now2 result2 copies2)

pub one_copying_to_5 : OneCopyingTo5
one_copying_to_5 r r2 directories dialect limit bytes =
    one_answer (to_5 (directory_by directories)) (For5 r directories dialect bytes) (For5 r2 directories dialect bytes)
    dialect limit bytes

pub one_copy_to_5 : OneCopyTo5
one_copy_to_5 r r2 directories dialect limit bytes =
    one_text (to_5 (directory_by directories)) (For5 r directories dialect bytes) (For5 r2 directories dialect bytes)
    dialect limit bytes

pub copy_to_5_is_front : CopyTo5IsFront
copy_to_5_is_front r r2 directories dialect limit bytes =
    text_is_front (to_5 (directory_by directories)) (For5 r directories dialect bytes)
    (For5 r2 directories dialect bytes) dialect limit bytes
