-- A section of which more bytes come: what is told of its front is told of it first, and what is written of it too.
use Rattle.dl_sections.proofs.Names.{◌++◌, ◌+◌, ◌-◌, ◌∙◌, ◌∷◌, ◌≡◌, ◌≤◌, [], ap, append-nil, append_assoc, arith, cases_lt}
use Rattle.dl_sections.proofs.Names.{concat, cut, cut_sound, Dialect, drop, DumpIsFront, Dwarf32, Dwarf64, end_visits}
use Rattle.dl_sections.proofs.Names.{field_is_judged, flat_map-append, Format, fronts, HasBegun, header_layout}
use Rattle.dl_sections.proofs.Names.{initial_size, inl, inr, IsInitialLength, IsUnit, Item, length, length-append}
use Rattle.dl_sections.proofs.Names.{length-drop, length-take, length_is, length_is_computed, length_of_unit, List}
use Rattle.dl_sections.proofs.Names.{MoreIsTold, NoUnitBegins, one_refusal, Order, Result, RunFault, section_text}
use Rattle.dl_sections.proofs.Names.{section_visits, Some, some_same, SpellsFields, Summary, sym, take, take-append-add}
use Rattle.dl_sections.proofs.Names.{take-append-drop, take-append-le, take_all, unit_end, unit_len, unit_len_on}
use Rattle.dl_sections.proofs.Names.{unit_unless_refused, units_visits, Visit, visit_text, visits, visits_text, WithinUnit}
use Rattle.dl_sections.proofs.Names.{Write, ℕ}
use Rattle.dl_sections.proofs.Names.fault
use Rattle.dl_head.proofs.CutLemmas.{Sound as CutSound}
use Rattle.dl_sections.proofs.Fronts.{none_is_some}
use Rattle.dl_sections.proofs.OneAnswers.{dumped}
use Rattle.dl_sections.proofs.OutLemmas.{TellsOut-more}
use Rattle.dl_sections.proofs.SectionCuts.{Meet, same, shorter, longer, meet, How, refused, over, Ended, of_bytes, ended}
use Rattle.dl_sections.proofs.SectionLemmas.{units_visits-append}
use Rattle.dl_sections.specs.Section.{NoneBefore}
use Rattle.dl_sections.proofs.VisitsGrowth.{more_visits}

-- ---- no further than a unit

initial_length : (order : Order) (format : Format) (n : ℕ) (w : List ℕ) → IsInitialLength order format n w
    → length w ≡ initial_size format
initial_length order Dwarf32 n w s = s.0.0
initial_length order Dwarf64 n w s = omega (arith, ap length s.2, length-append s.0 s.1, s.3.0, s.4.0)

-- the length of a unit stands in its own bytes
unit_len_front : (dialect : Dialect) (b : List ℕ) (n : ℕ) → unit_len dialect b ≡ Some n → n ≤ length b
    → unit_len dialect (take n b) ≡ Some (length (take n b))
unit_len_front dialect b n e le =
    let s : CutSound dialect.order (header_layout dialect) b (cut dialect b) =
    cut_sound dialect.order (header_layout dialect) [] b in
    on (cut dialect b).items s.front (cut dialect b).rest s.whole s.spelt e
  where
    on : (items : List Item) (w rest : List ℕ) → b ≡ w ++ rest
        → SpellsFields dialect.order (header_layout dialect) items w
        → unit_end items ≡ Some n → unit_len dialect (take n b) ≡ Some (length (take n b))
    on (length_is format m ∷ items) w rest whole s e =
        let is = (field_is_judged dialect.order (header_layout dialect) (length_is format m) s.0).1 s.3 in
        let formats : is.0 ≡ format = cc (is.2) in
        let lengths : is.1 ≡ m = cc (is.2) in
        let size = initial_length dialect.order is.0 is.1 s.0 is.3 in
        let n_is : n ≡ length s.0 + is.1 =
        omega (arith, some_same _ _ e, ap initial_size formats, lengths, size) in
        let b_is : b ≡ s.0 ++ (s.1 ++ rest) = cc (s.2, append_assoc s.0 s.1 rest) in
        (length_is_computed dialect (take n b)).0 (record {
          format = is.0;
          unit_length = is.1;
          front = s.0;
          rest = take is.1 (s.1 ++ rest);
          whole = rw (n_is, b_is) (take-append-add s.0 (s.1 ++ rest) is.1);
          spells = is.3;
          size = omega (
            arith,
            length-take is.1 (s.1 ++ rest),
            n_is,
            le,
            ap length b_is,
            length-append s.0 (s.1 ++ rest),
          );
        })
    on items w rest whole s e = absurd (none_is_some e)

within_unit : (dialect : Dialect) (b back : List ℕ) → NoUnitBegins dialect (b ++ back) → NoneBefore dialect b
    → WithinUnit dialect b
within_unit dialect b back none before n e = elim (cases_lt n (length b)) [
  | inr le ↦ le
  | inl lt ↦
      let parts : b ≡ take n b ++ drop n b = sym (take-append-drop n b) in
      let len = unit_len_front dialect b n e (omega (arith, lt)) in
      let is = (unit_unless_refused dialect (take n b) len).1 (λ front more at kind f refused.
      before front (more ++ drop n b) at kind (cc (f, parts, append_assoc front more (drop n b)))
      (omega (arith, lt, length-drop n b, length-append more (drop n b))) refused) in
      absurd (none (take n b) (drop n b ++ back) (cc (parts, append_assoc (take n b) (drop n b) back)) is)
]

-- so it is where a section ends
ended_before : {dialect : Dialect} {limit : ℕ} {bytes : List ℕ} {units : List (List ℕ)} {b back : List ℕ}
    {result : Result Summary RunFault} → Ended dialect limit bytes units b back result → NoneBefore dialect b
ended_before {dialect} {limit} {bytes} {units} {b} {back} {result} s = by s.how where
  by : How dialect limit bytes units b back result → NoneBefore dialect b
  by (refused at kind r is) front more at2 kind2 e some r2 =
      let one = one_refusal dialect front b more [] at2 at kind2 kind (cc (append-nil b)) r2 r in
      omega (arith, some, ap length one.0, ap length e, length-append front more)
  by (over nothing sound is) front more at kind e some r = sound front more at kind e r

ended_within : {dialect : Dialect} {limit : ℕ} {bytes : List ℕ} {units : List (List ℕ)} {b back : List ℕ}
    {result : Result Summary RunFault} → Ended dialect limit bytes units b back result → WithinUnit dialect b
ended_within {dialect} {b = b} {back = back} s = within_unit dialect b back s.none (ended_before s)

-- ---- what is told

-- b goes no further than a unit at the front of the same list
begun_unit : (dialect : Dialect) (b m u back : List ℕ) → WithinUnit dialect b → IsUnit dialect u
    → b ++ m ≡ u ++ back → (x : List ℕ) × (u ≡ b ++ x)
begun_unit dialect b m u back within is e = elim (fronts b u m back e) [
  | inl one ↦ ([], cc (append-nil b))
  | inr (inl g) ↦ (g.0 ∷ g.1, g.2)
  | inr (inr g) ↦
      let len = rw (← g.2) at (unit_len_on dialect u (g.0 ∷ g.1) (length u) (length_of_unit dialect u is)) in
      absurd (omega (arith, within (length u) len, ap length g.2, length-append u (g.0 ∷ g.1)))
]

-- what is told where more units come, the first of which begins with b
told_on : (dialect : Dialect) (units vs : List (List ℕ)) (b x b2 : List ℕ)
    → (others : List Visit)
    × (section_visits dialect (units ++ (b ++ x) ∷ vs) b2 ≡ section_visits dialect units b ++ others)
told_on dialect units vs b x b2 =
    let n = length (concat units) in
    let more = more_visits dialect n b x in (
      (more.0 ++ (end_visits dialect (b ++ x) ++ units_visits dialect (n + length (b ++ x)) vs))
          ++ visits dialect (length (concat (units ++ (b ++ x) ∷ vs))) b2,
      rw (units_visits-append dialect 0 units ((b ++ x) ∷ vs) n (omega arith), more.1) (simp append_assoc),
    )

-- what was begun is told first of a section that ends in the same bytes
begun_grows : {dialect : Dialect} {limit : ℕ} {bytes : List ℕ} {units units2 : List (List ℕ)} {b b2 back back2 : List ℕ}
    {result : Result Summary RunFault} → HasBegun dialect (take limit bytes) units b back
    → Ended dialect limit bytes units2 b2 back2 result
    → (others : List Visit) × (section_visits dialect units2 b2 ≡ section_visits dialect units b ++ others)
begun_grows {dialect} {limit} {bytes} {units} {units2} {b} {b2} {back} {back2} {result} s s2 =
    by (meet s.has s2.has) where
      Grows : Type 0
      Grows = (others : List Visit) × (section_visits dialect units2 b2 ≡ section_visits dialect units b ++ others)

      longer_by : (x : ℕ) (v : List ℕ) → b ≡ b2 ++ x ∷ v → units ≡ units2 → b ++ back ≡ b2 ++ back2
          → How dialect limit bytes units2 b2 back2 result → Grows
      longer_by x v goes us e (refused at kind r is) = absurd (s.none_before b2 (x ∷ v) at kind goes (omega arith) r)
      longer_by x v goes us e (over nothing sound is) =
          absurd (omega (
            arith,
            ap length e,
            ap length nothing,
            ap length goes,
            length-append b back,
            length-append b2 back2,
            length-append b2 (x ∷ v),
          ))

      by : Meet dialect units units2 (b ++ back) (b2 ++ back2) → Grows
      by (same us e) = elim (fronts b b2 back back2 e) [
        | inl is ↦ ([], rw (us, is) (simp append-nil))
        | inr (inl g) ↦
            let more = more_visits dialect (length (concat units2)) b (g.0 ∷ g.1) in
            (more.0, rw (us, g.2, more.1) (simp append_assoc))
        | inr (inr g) ↦ longer_by g.0 g.1 g.2 us e s2.how
      ]
      by (shorter v vs us e unit) =
          let x = begun_unit dialect b back v (concat vs ++ (b2 ++ back2)) s.in_unit unit e in
          rw (us, x.1) (told_on dialect units vs b x.0 b2)
      by (longer v vs us e unit) = absurd (s2.none v (concat vs ++ (b ++ back)) e unit)

take_more : (limit : ℕ) (bytes more : List ℕ) → (m : List ℕ) × (take limit (bytes ++ more) ≡ take limit bytes ++ m)
take_more limit bytes more = elim (cases_lt limit (length bytes)) [
  | inl lt ↦ ([], rw append-nil (take-append-le limit bytes more (omega (arith, lt))))
  | inr le ↦
      let n_is : limit ≡ length bytes + (limit - length bytes) = omega (arith, le) in (
        take (limit - length bytes) more,
        rw (take_all limit bytes le) (ap (λ (n : ℕ). take n (bytes ++ more)) n_is
            ∙ take-append-add bytes more (limit - length bytes)),
      )
]

pub more_is_told : MoreIsTold
more_is_told dialect limit bytes more left left2 units units2 b b2 back back2 result result2 not not2 ends ends2 =
    let m = take_more limit bytes more in
    let s = ended dialect limit bytes left units b back result not ends in
    begun_grows {back = back ++ m.0} (record {
      has = record { whole = rw (m.1, s.has.whole) (simp append_assoc); each = s.has.each };
      in_unit = ended_within s;
      none_before = ended_before s;
    }) (ended dialect limit (bytes ++ more) left2 units2 b2 back2 result2 not2 ends2)

-- ---- what is written

pub dump_is_front : DumpIsFront
dump_is_front dialect style limit bytes left left2 start start2 now now2 out result2 of2 (
  units,
  b,
  back,
  begun,
  tells,
) dumps2 =
    let d2 = dumped dialect style limit bytes left2 start2 now2 result2 of2 dumps2 in
    let more = begun_grows begun (ended dialect limit bytes left2 d2.0 d2.1 d2.2 result2 (of_bytes of2) d2.3) in
    let text : section_text dialect style d2.0 d2.1 ≡ section_text dialect style units b
    ++ visits_text style more.0 =
    rw more.1 (flat_map-append (visit_text style) (section_visits dialect units b) more.0) in (
      section_text dialect style d2.0 d2.1,
      rw text (TellsOut-more start now (section_text dialect style units b) (visits_text style more.0)
          (fault.Write out) tells),
      d2.4,
    )
