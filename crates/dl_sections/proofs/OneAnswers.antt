-- What `check`, `dump`, `passed_over` and `find` answer of bytes is one thing alone.
use Rattle.dl_sections.proofs.Names.{◌++◌, ◌∙◌, ◌∷◌, ◌≡◌, [], answer, ap, Appends, AreTold, arith, Checks, concat, Dialect}
use Rattle.dl_sections.proofs.Names.{Dumps, DumpStyle, EndsAs, Err, Finds, header_of, HeaderData, IsFound, IsGreatest, IsLeast}
use Rattle.dl_sections.proofs.Names.{IsOfBytes, length, List, None, NoneAnswers, Ok, OneChecking, OneDump, OneDumping}
use Rattle.dl_sections.proofs.Names.{OneFinding, OneFound, OnePassingOver, Option, other_versions, PassedOver, PassesOver}
use Rattle.dl_sections.proofs.Names.{Place, refl, Result, Row, RunFault, section_text, Some, Strings, Summary}
use Rattle.dl_sections.proofs.Names.{summary_of, sym, take, told, unit_rows, Write, ℕ}
use Rattle.dl_sections.proofs.Names.fault
use Rattle.dl_sections.proofs.DumpingLemmas.{dumps}
use Rattle.dl_sections.proofs.Fronts.{none_is_some, value_same, all_middle}
use Rattle.dl_sections.proofs.SectionCuts.{one_front, same, shorter, longer, meet, of_bytes, ended, one_end}
use Rattle.dl_sections.proofs.SectionLemmas.{has_last}

-- ---- `check`

abbrev SectionEnds : Dialect → ℕ → List ℕ → Option (List ℕ) → Result Summary RunFault → Type 0
SectionEnds dialect limit bytes left result =
    (units : List (List ℕ)) × (b : List ℕ) × (back : List ℕ) × EndsAs dialect limit bytes left units b back result

checked : (dialect : Dialect) (limit : ℕ) (bytes : List ℕ) (left start now : Option (List ℕ))
    (result : Result Summary RunFault) → IsOfBytes result → Checks dialect limit bytes left start now result
    → SectionEnds dialect limit bytes left result
checked dialect limit bytes left start now (Ok summary) of (units, ends, out) = (units, [], [], ends)
checked dialect limit bytes left start now (Err (fault.Write out)) of checks = absurd of
checked dialect limit bytes left start now (Err f) of (units, b, back, ends, kept) = (units, b, back, ends)

pub one_checking : OneChecking
one_checking dialect limit bytes left left2 start start2 now now2 result result2 of of2 checks checks2 =
    let s = checked dialect limit bytes left start now result of checks in
    let s2 = checked dialect limit bytes left2 start2 now2 result2 of2 checks2 in
    (one_end dialect limit bytes left left2 s.0 s2.0 s.1 s2.1 s.2 s2.2 result result2 of of2 s.3 s2.3).3

-- ---- `dump`

-- the section ends so, and the text is out
pub dumped : (dialect : Dialect) (style : DumpStyle) (limit : ℕ) (bytes : List ℕ) (left start now : Option (List ℕ))
    (result : Result Summary RunFault) → IsOfBytes result → Dumps dialect style limit bytes left start now result
    → (units : List (List ℕ)) × (b : List ℕ) × (back : List ℕ) × EndsAs dialect limit bytes left units b back result
    × Appends start now (section_text dialect style units b)
dumped dialect style limit bytes left start now (Err (fault.Write n)) of dumps = absurd of
dumped dialect style limit bytes left start now result of dumps = dumps

pub one_dumping : OneDumping
one_dumping dialect style style2 limit bytes left left2 start start2 now now2 result result2 of of2 dumps dumps2 =
    let d = dumped dialect style limit bytes left start now result of dumps in
    let d2 = dumped dialect style2 limit bytes left2 start2 now2 result2 of2 dumps2 in
    (one_end dialect limit bytes left left2 d.0 d2.0 d.1 d2.1 d.2 d2.2 result result2 of of2 d.3 d2.3).3

pub one_dump : OneDump
one_dump dialect style limit bytes left left2 start start2 now now2 result result2 of of2 dumps dumps2 =
    let d = dumped dialect style limit bytes left start now result of dumps in
    let d2 = dumped dialect style limit bytes left2 start2 now2 result2 of2 dumps2 in
    let same = one_end dialect limit bytes left left2 d.0 d2.0 d.1 d2.1 d.2 d2.2 result result2 of of2 d.3 d2.3 in
    (section_text dialect style d.0 d.1, d.4, rw (same.0, same.1) d2.4)

-- ---- `passed_over`

module _ (versions : List ℕ) where
  one_least : (m n : ℕ) → IsLeast m versions → IsLeast n versions → m ≡ n
  one_least m n (has_m, least_m) (has_n, least_n) =
      let below = least_m has_n.0 n has_n.1 in
      let above = least_n has_m.0 m has_m.1 in
      omega (arith, below, above, has_n.2, has_m.2)

  one_greatest : (m n : ℕ) → IsGreatest m versions → IsGreatest n versions → m ≡ n
  one_greatest m n (has_m, greatest_m) (has_n, greatest_n) =
      let above = greatest_m has_n.0 n has_n.1 in
      let below = greatest_n has_m.0 m has_m.1 in
      omega (arith, below, above, has_n.2, has_m.2)

  none_least : (n : ℕ) → versions ≡ [] → IsLeast n versions → ⊥
  none_least n none (has, least) = let short = ap length none in let lt = has.1 in omega (arith, short, lt)

  one_told : (p q : Option PassedOver) → AreTold versions p → AreTold versions q → p ≡ q
  one_told None None a b = refl
  one_told None (Some q) a b = absurd (none_least q.least a b.1)
  one_told (Some p) None a b = absurd (none_least p.least b a.1)
  one_told (Some p) (Some q) a b =
      let units : p.units ≡ q.units = a.0 ∙ sym b.0 in
      let least = one_least p.least q.least a.1 b.1 in
      let greatest = one_greatest p.greatest q.greatest a.2 b.2 in
      λ i. Some (record { units = units i; least = least i; greatest = greatest i })

pub one_passing_over : OnePassingOver
one_passing_over dialect limit bytes left left2 result result2 of of2 passes passes2 =
    by result result2 of of2 passes passes2 where
      fails : (f : RunFault) → IsOfBytes {A = Option PassedOver} (Err f) → IsOfBytes {A = Summary} (Err f)
      fails fault.NoMemory of = of
      fails fault.Read of = of
      fails (fault.Write out) of = of
      fails f of = tt

      by : (result result2 : Result (Option PassedOver) RunFault) → IsOfBytes result → IsOfBytes result2
          → PassesOver dialect limit bytes left result → PassesOver dialect limit bytes left2 result2
          → result ≡ result2
      by (Ok p) (Ok q) of of2 (units, summary, is, told) (units2, summary2, is2, told2) =
          let one = one_end dialect limit bytes left left2 units units2 [] [] [] [] (Ok summary) (Ok summary2) tt tt is
          is2 in
          ap (λ (o : Option PassedOver). Ok o) (one_told (other_versions dialect units) p q told (rw one.0 told2))
      by (Ok p) (Err f) of of2 (units, summary, is, told) (units2, b2, back2, is2) =
          let one = (one_end dialect limit bytes left left2 units units2 [] b2 [] back2 (Ok summary) (Err f) tt
          (fails f of2) is is2).3 in cc
      by (Err f) (Ok q) of of2 (units, b, back, is) (units2, summary2, is2, told2) =
          let one = (one_end dialect limit bytes left left2 units units2 b [] back [] (Err f) (Ok summary2) (fails f of)
          tt is is2).3 in cc
      by (Err f) (Err g) of of2 (units, b, back, is) (units2, b2, back2, is2) =
          let one = (one_end dialect limit bytes left left2 units units2 b b2 back back2 (Err f) (Err g) (fails f of)
          (fails g of2) is is2).3 in cc

-- ---- `find`

pub one_found : OneFound
one_found dialect x bytes units units2 u u2 back back2 h h2 r r2 f f2 =
    let (has, is) = has_last f.has in
    let (has2, is2) = has_last f2.has in
    elim (meet has has2) [
      | same us e ↦
          let one = one_front dialect u u2 back back2 is is2 e in (
            us,
            one.0,
            one.1,
            value_same h h2 (sym f.header ∙ ap (header_of dialect) one.0 ∙ f2.header),
            value_same r r2 (sym f.row ∙ ap (λ (l : List ℕ). answer (unit_rows dialect l) x) one.0 ∙ f2.row),
          )
      | shorter v vs us e unit ↦
          let one = (one_front dialect u v back (concat vs ++ (u2 ++ back2)) is unit e).0 in
          let none = all_middle (λ w. answer (unit_rows dialect w) x ≡ None) units v vs (rw us at f2.none_before) in
          absurd (none_is_some (sym none ∙ rw one at f.row))
      | longer v vs us e unit ↦
          let one = (one_front dialect u2 v back2 (concat vs ++ (u ++ back)) is2 unit e).0 in
          let none = all_middle (λ w. answer (unit_rows dialect w) x ≡ None) units2 v vs (rw us at f.none_before) in
          absurd (none_is_some (sym none ∙ rw one at f2.row))
    ]

-- what `find` answers where no unit has an answer
abbrev none_has : Result Summary RunFault → Result Summary RunFault
none_has (Ok summary) = Err fault.NotFound
none_has (Err f) = Err f

module _ (dialect : Dialect) (x : Place) (limit : ℕ) (bytes : List ℕ) where
  -- one answers, or the section ends so and none does
  abbrev Shown : Type 0
  Shown =
      (units : List (List ℕ)) × (u : List ℕ) × (back : List ℕ) × (h : HeaderData) × (r : Row)
      × IsFound dialect x (take limit bytes) units u back h r

  abbrev Silent : Type 0
  Silent =
      (left : Option (List ℕ)) × (units : List (List ℕ)) × (b : List ℕ) × (back : List ℕ)
      × (end : Result Summary RunFault) × IsOfBytes end × EndsAs dialect limit bytes left units b back end
      × NoneAnswers dialect x units

  data Finding (result : Result Summary RunFault) : Type 0 where
    is_found : (f : Shown) → result ≡ Ok (summary_of dialect (f.0 ++ f.1 ∷ [])) → Finding result
    is_none : (e : Silent) → result ≡ none_has e.4 → Finding result

  finding : (strings : Strings) (left start now : Option (List ℕ)) (result : Result Summary RunFault)
      → IsOfBytes result → Finds dialect strings x limit bytes left start now result → Finding result
  finding strings left start now (Ok summary) of (units, u, back, h, r, found, is, out) =
      is_found (units, u, back, h, r, found) (rw is refl)
  finding strings left start now (Err (fault.Write out)) of finds = absurd of
  finding strings left start now (Err fault.NotFound) of finds =
      is_none (left, finds.0, [], [], Ok finds.1, tt, finds.2, finds.3) refl
  finding strings left start now (Err f) of (units, b, back, ends, none, kept) =
      is_none (left, units, b, back, Err f, of, ends, none) refl

  -- where one is found, not all units up to the end have no answer
  apart : Shown → Silent → ⊥
  apart (units, u, back, h, r, f) (left, units2, b, back2, end, of, ends, none) =
      let s = ended dialect limit bytes left units2 b back2 end (of_bytes of) ends in
      let (has, is) = has_last f.has in
      elim (meet has s.has) [
        | same us e ↦ s.none u back (sym e) is
        | shorter v vs us e unit ↦
            let one = (one_front dialect u v back (concat vs ++ (b ++ back2)) is unit e).0 in
            let none_v = all_middle (λ w. answer (unit_rows dialect w) x ≡ None) units v vs (rw us at none) in
            none_is_some (sym none_v ∙ rw one at f.row)
        | longer v vs us e unit ↦ s.none v (concat vs ++ (u ++ back)) e unit
      ]

  one_of : {result result2 : Result Summary RunFault} → Finding result → Finding result2 → result ≡ result2
  one_of (is_found f is) (is_found g is2) =
      let one = one_found dialect x (take limit bytes) f.0 g.0 f.1 g.1 f.2 g.2 f.3 g.3 f.4 g.4 f.5 g.5 in
      is ∙ rw (one.0, one.1) (sym is2)
  one_of (is_found f is) (is_none e is2) = absurd (apart f e)
  one_of (is_none e is) (is_found f is2) = absurd (apart f e)
  one_of (is_none d is) (is_none e is2) =
      is ∙ ap none_has (one_end dialect limit bytes d.0 e.0 d.1 e.1 d.2 e.2 d.3 e.3 d.4 e.4 d.5 e.5 d.6 e.6).3 ∙ sym is2

pub one_finding : OneFinding
one_finding dialect strings strings2 x limit bytes left left2 start start2 now now2 result result2 of of2 finds finds2 =
    one_of dialect x limit bytes (finding dialect x limit bytes strings left start now result of finds)
    (finding dialect x limit bytes strings2 left2 start2 now2 result2 of2 finds2)
