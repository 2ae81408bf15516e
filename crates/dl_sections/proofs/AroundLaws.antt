-- Sections without damage, the first fault of those with damage, and the one way in which a section is blocks.
use Rattle.dl_sections.proofs.Names.{◌++◌, ◌+◌, ◌∙◌, ◌∷◌, ◌≡◌, ◌≢◌, ◌<◌, ◌≤◌, ⊤, [], AllByRecursion, ap, append-nil}
use Rattle.dl_sections.proofs.Names.{append_assoc, append_cancel_left, arith, concat, Dialect, EndsAs, Err, FaultKind}
use Rattle.dl_sections.proofs.Names.{HasUnits, inl, inr, IsOfBytes, IsUnit, length, length-append, length_of_unit, List}
use Rattle.dl_sections.proofs.Names.{None, NoUnitBegins, Ok, one_refusal, Option, refl, Refused, Result, RunFault, Some}
use Rattle.dl_sections.proofs.Names.{some_same, Sound, Summary, summary_of, sym, take, take_all, Truncated}
use Rattle.dl_sections.proofs.Names.{unit_is_not_refused, unit_len, unit_len_on, ℕ}
use Rattle.dl_sections.proofs.Names.fault
use Rattle.dl_sections.specs.declared.around.Damage.{Damage}
use Rattle.dl_sections.specs.declared.around.DamagedUnits.{DamagedUnits}
use Rattle.dl_sections.specs.declared.around.Survey.{Survey}
use Rattle.dl_sections.specs.Around.{Block, whole, damaged, IsBlock, block_bytes, bytes_of, units_around, faults_in}
use Rattle.dl_sections.specs.Around.{damaged_units, faults_of, Rest, begun, cut_off, broken, rest_bytes, rest_faults, IsRest}
use Rattle.dl_sections.specs.Around.{EndsAround, IsCut, IsLast, IsOpen, survey_of}
use Rattle.dl_sections.specs.AroundLaws.{NothingDamaged, WithoutDamage, FirstFault, StopsAtFirst, OneAround, OneCutAround}
use Rattle.dl_sections.proofs.BlockLemmas.{all_whole, bytes_of_units, no_faults, units_of_units}
use Rattle.dl_sections.proofs.Fronts.{empty_both, none_is_some, same_fronts, value_same}
use Rattle.dl_sections.proofs.SectionCuts.{one_end}
use Rattle.dl_sections.proofs.SectionLemmas.{no_unit_refused, none_begins, none_refused}

-- ---- no damage

pub without_damage : WithoutDamage
without_damage dialect limit bytes left units summary (has, empty, nothing, fits, end, is) = (
  record {
    whole = rw (take_all limit bytes fits, bytes_of_units units) has.whole;
    each = all_whole dialect units has.each;
    rest_is = (none_refused dialect, none_begins dialect);
  },
  (refl, (fits, end)),
  rw (is, units_of_units units, no_faults 0 units) refl,
)

-- one unit more, before the others
has_unit : (dialect : Dialect) (u s w : List ℕ) (units : List (List ℕ)) → IsUnit dialect u → HasUnits dialect s units w
    → HasUnits dialect (u ++ s) (u ∷ units) w
has_unit dialect u s w units is has = record {
  whole = rw (has.whole, append_assoc) refl;
  each = (is, has.each);
}

-- blocks without a fault are units
all_units : (dialect : Dialect) (n : ℕ) (blocks : List Block) (w : List ℕ) → AllByRecursion (IsBlock dialect) blocks
    → faults_in n blocks ≡ [] → HasUnits dialect (bytes_of blocks ++ w) (units_around blocks) w
all_units dialect n [] w all none = record { whole = refl; each = all }
all_units dialect n (whole u ∷ blocks) w all none =
    rw append_assoc (has_unit dialect u (bytes_of blocks ++ w) w (units_around blocks) all.0
    (all_units dialect (n + length u) blocks w all.1 none))
all_units dialect n (damaged front back at kind ∷ blocks) w all none = absurd cc

none_of_none : (faults : List Damage) → damaged_units faults ≡ None → faults ≡ []
none_of_none [] e = refl
none_of_none (d ∷ faults) e = absurd (none_is_some (sym e))

pub nothing_damaged : NothingDamaged
nothing_damaged dialect limit bytes left blocks rest survey (cut, last, is) none =
    rw is (by rest last cut.whole clear.1) where
      clear : (faults_in 0 blocks ≡ []) × (rest_faults (length (bytes_of blocks)) rest ≡ [])
      clear = empty_both (faults_in 0 blocks) (rest_faults (length (bytes_of blocks)) rest)
          (none_of_none (faults_of blocks rest) (sym (ap (λ (s : Survey). s.damaged) is) ∙ none))

      by : (r : Rest) → IsLast dialect limit bytes left r → take limit bytes ≡ bytes_of blocks ++ rest_bytes r
          → rest_faults (length (bytes_of blocks)) r ≡ []
          → EndsAs dialect limit bytes left (units_around blocks) [] [] (Ok (summary_of dialect (units_around blocks)))
      by (begun b) (empty, (fits, end)) e no_fault = (
        (let all : bytes ≡ bytes_of blocks ++ [] = sym (take_all limit bytes fits) ∙ rw empty at e in
            rw all (all_units dialect 0 blocks [] cut.each clear.0)),
        refl,
        refl,
        fits,
        end,
        refl,
      )
      by (cut_off b) last e no_fault = absurd cc
      by (broken front back at kind) last e no_fault = absurd cc

-- ---- the first fault

-- s is units, and then bytes of which b is refused, with this fault where s begins at n
record Stops (dialect : Dialect) (s : List ℕ) (n : ℕ) (first : Damage) : Type 0 where
  units : List (List ℕ)
  b : List ℕ
  back : List ℕ
  at : ℕ
  has : HasUnits dialect s units (b ++ back)
  none : NoUnitBegins dialect (b ++ back)
  place : first.offset ≡ n + length (concat units) + at
  refused : Refused dialect b at first.kind

-- a damaged unit
stops_at_damaged : (dialect : Dialect) (n : ℕ) (front back w : List ℕ) (at : ℕ) (kind : FaultKind)
    → IsBlock dialect (damaged front back at kind)
    → Stops dialect ((front ++ back) ++ w) n (record { offset = n + at; kind = kind })
stops_at_damaged dialect n front back w at kind (refused, len) = record {
  units = [];
  b = front;
  back = back ++ w;
  at = at;
  has = record { whole = append_assoc front back w; each = tt };
  none = no_unit_refused dialect front (back ++ w) at kind within refused;
  place = omega arith;
  refused = refused;
}
  where
    within : (m : ℕ) → unit_len dialect front ≡ Some m → length front ≤ m
    within m e =
        let same : length (front ++ back) ≡ m = some_same _ _ (sym len ∙ e) in
        omega (arith, same, length-append front back)

-- the first of blocks that is damaged
stops_in : (dialect : Dialect) (n : ℕ) (blocks : List Block) (w : List ℕ) (first : Damage) (others : List Damage)
    → AllByRecursion (IsBlock dialect) blocks → faults_in n blocks ≡ first ∷ others
    → Stops dialect (bytes_of blocks ++ w) n first
stops_in dialect n [] w first others all e = absurd cc
stops_in dialect n (whole u ∷ blocks) w first others all e =
    let later = stops_in dialect (n + length u) blocks w first others all.1 e in
    record {
      units = u ∷ later.units;
      b = later.b;
      back = later.back;
      at = later.at;
      has = rw append_assoc (has_unit dialect u (bytes_of blocks ++ w) (later.b ++ later.back) later.units all.0
          later.has);
      none = later.none;
      place = omega (arith, later.place, length-append u (concat later.units));
      refused = later.refused;
    }
stops_in dialect n (damaged front back at kind ∷ blocks) w first others all e =
    let same : record { offset = n + at; kind = kind } ≡ first = cc in
    rw (← same) (rw append_assoc (stops_at_damaged dialect n front back (bytes_of blocks ++ w) at kind all.0))

first_of : (faults : List Damage) (first : Damage) (others : ℕ)
    → damaged_units faults ≡ Some (record { first = first; others = others }) → (l : List Damage) × (faults ≡ first ∷ l)
first_of [] first others e = absurd (none_is_some e)
first_of (d ∷ l) first others e = (
  l,
  ap (λ (x : Damage). x ∷ l) (ap (λ (u : DamagedUnits). u.first) (value_same (record { first = d; others = length l })
      (record { first = first; others = others }) e)),
)

at_same : (dialect : Dialect) (s : List ℕ) (n : ℕ) (d first : Damage) → d ≡ first → Stops dialect s n d
    → Stops dialect s n first
at_same dialect s n d first e stops = rw (← e) stops

module _ (dialect : Dialect) (limit : ℕ) (bytes : List ℕ) (left : Option (List ℕ)) where
  -- the reading stops at this fault
  abbrev StopsAs : Damage → Type 0
  StopsAs first =
      (units : List (List ℕ)) × (b : List ℕ) × (back : List ℕ)
      × EndsAs dialect limit bytes left units b back (Err (fault.Damage first.offset first.kind))

  stops_as : (first : Damage) → Stops dialect (take limit bytes) 0 first → StopsAs first
  stops_as first s = (
    s.units,
    s.b,
    s.back,
    (
      s.has,
      s.none,
      inl (s.at, (let e : first.offset ≡ length (concat s.units) + s.at = omega (arith, s.place) in e), s.refused),
    ),
  )

  -- the rest, after units
  stops_at_rest : (units : List (List ℕ)) (n : ℕ) (rest : Rest) (first : Damage) (l : List Damage)
      → n ≡ length (concat units) → IsRest dialect rest → IsLast dialect limit bytes left rest
      → HasUnits dialect (take limit bytes) units (rest_bytes rest) → rest_faults n rest ≡ first ∷ l → StopsAs first
  stops_at_rest units n (begun b) first l size is last has e = absurd cc
  stops_at_rest units n (cut_off b) first l size (sound, none, some) (fits, end) has e =
      let same : record { offset = n + length b; kind = Truncated } ≡ first = cc in
      let all : bytes ≡ concat units ++ b = sym (take_all limit bytes fits) ∙ has.whole in
      let length_all : n + length b ≡ length bytes =
      omega (arith, size, ap length all, length-append (concat units) b) in
      rw (← same) (
        units,
        b,
        [],
        (rw (append-nil b) has, rw (append-nil b) none, inr (refl, some, sound, fits, end, length_all, refl)),
      )
  stops_at_rest units n (broken front back at kind) first l size (refused, short) last has e =
      let same : record { offset = n + at; kind = kind } ≡ first = cc in
      rw (← same) (
        units,
        front,
        back,
        (
          has,
          no_unit_refused dialect front back at kind
              (λ m len. omega (arith, short m len, length-append front back)) refused,
          inl (at, (let e : n + at ≡ length (concat units) + at = omega (arith, size) in e), refused),
        ),
      )

pub stops_at_first : StopsAtFirst
stops_at_first dialect limit bytes left blocks rest survey first others (cut, last, is) e =
    by (faults_in 0 blocks) refl is_first.0 is_first.1 where
      n : ℕ
      n = length (bytes_of blocks)

      is_first : (l : List Damage) × (faults_of blocks rest ≡ first ∷ l)
      is_first = first_of (faults_of blocks rest) first others (sym (ap (λ (s : Survey). s.damaged) is) ∙ e)

      by : (l : List Damage) → faults_in 0 blocks ≡ l → (k : List Damage) → l ++ rest_faults n rest ≡ first ∷ k
          → StopsAs dialect limit bytes left first
      by [] none k f =
          let units = units_around blocks in
          let has : HasUnits dialect (take limit bytes) units (rest_bytes rest) =
          rw cut.whole (all_units dialect 0 blocks (rest_bytes rest) cut.each none) in
          let same : bytes_of blocks ++ rest_bytes rest ≡ concat units ++ rest_bytes rest = sym cut.whole ∙ has.whole in
          let size : length (bytes_of blocks) ≡ length (concat units) =
          omega (
            arith,
            ap length same,
            length-append (bytes_of blocks) (rest_bytes rest),
            length-append (concat units) (rest_bytes rest),
          ) in
          stops_at_rest dialect limit bytes left units n rest first k size cut.rest_is last has f
      by (d ∷ l) some k f =
          let stops : Stops dialect (take limit bytes) 0 d =
          rw cut.whole (stops_in dialect 0 blocks (rest_bytes rest) d l cut.each some) in
          stops_as dialect limit bytes left first (at_same dialect (take limit bytes) 0 d first (cc) stops)

same_damage : (offset offset2 : ℕ) (kind kind2 : FaultKind) (others : ℕ)
    → ◌≡◌ {A = Result Summary RunFault} (Err (fault.Damage offset kind)) (Err (fault.Damage offset2 kind2))
    → ◌≡◌ {A = Option DamagedUnits}
    (Some (record { first = record { offset = offset2; kind = kind2 }; others = others }))
    (Some (record { first = record { offset = offset; kind = kind }; others = others }))
same_damage offset offset2 kind kind2 others e =
    let same : offset2 ≡ offset = cc in
    let alike : kind2 ≡ kind = cc in
    rw (same, alike) refl

pub first_fault : FirstFault
first_fault dialect limit bytes left left2 units b back offset kind blocks rest survey ends around =
    by survey.damaged refl where
      by : (damaged : Option DamagedUnits) → survey.damaged ≡ damaged
          → (others : ℕ)
          × (survey.damaged ≡ Some (record { first = record { offset = offset; kind = kind }; others = others }))
      by None none =
          let whole = nothing_damaged dialect limit bytes left2 blocks rest survey around none in
          let one = (one_end dialect limit bytes left left2 units (units_around blocks) b [] back []
          (Err (fault.Damage offset kind)) (Ok survey.summary) tt tt ends whole).3 in
          absurd cc
      by (Some d) some =
          let stops = stops_at_first dialect limit bytes left2 blocks rest survey d.first d.others around some in
          let one = (one_end dialect limit bytes left left2 units stops.0 b stops.1 back stops.2
          (Err (fault.Damage offset kind)) (Err (fault.Damage d.first.offset d.first.kind)) tt tt ends stops.3).3 in
          (d.others, some ∙ same_damage offset d.first.offset kind d.first.kind d.others one)

-- ---- one way to be blocks

module _ (dialect : Dialect) where
  len_of_block : (block : Block) → IsBlock dialect block
      → unit_len dialect (block_bytes block) ≡ Some (length (block_bytes block))
  len_of_block (whole u) is = length_of_unit dialect u is
  len_of_block (damaged front back at kind) (refused, len) = unit_len_on dialect front back (length (front ++ back)) len

  -- of the fronts of a list at most one is a block's
  same_bytes : (block block2 : Block) (x y : List ℕ) → IsBlock dialect block → IsBlock dialect block2
      → block_bytes block ++ x ≡ block_bytes block2 ++ y → (block_bytes block ≡ block_bytes block2) × (x ≡ y)
  same_bytes block block2 x y is is2 e =
      same_fronts (block_bytes block) (block_bytes block2) x y
      (some_same _ _ (sym (unit_len_on dialect (block_bytes block) x _ (len_of_block block is))
      ∙ ap (unit_len dialect) e ∙ unit_len_on dialect (block_bytes block2) y _ (len_of_block block2 is2))) e

  -- and bytes are one block's
  one_block : (block block2 : Block) → IsBlock dialect block → IsBlock dialect block2
      → block_bytes block ≡ block_bytes block2 → block ≡ block2
  one_block (whole u) (whole v) is is2 e = ap (λ (l : List ℕ). whole l) e
  one_block (whole u) (damaged front back at kind) is is2 e =
      absurd (unit_is_not_refused dialect u is front back at kind e is2.0)
  one_block (damaged front back at kind) (whole v) is is2 e =
      absurd (unit_is_not_refused dialect v is2 front back at kind (sym e) is.0)
  one_block (damaged front back at kind) (damaged front2 back2 at2 kind2) is is2 e =
      let one = one_refusal dialect front front2 back back2 at at2 kind kind2 e is.0 is2.0 in
      let after : back ≡ back2 = append_cancel_left front back back2 (cc one.0) in
      rw (one.0, after, one.1, one.2) refl

  none_in_sound : (b : List ℕ) (block : Block) (x : List ℕ) → Sound dialect b → NoUnitBegins dialect b
      → IsBlock dialect block → b ≡ block_bytes block ++ x → ⊥
  none_in_sound b (whole u) x sound none is e = none u x e is
  none_in_sound b (damaged front back at kind) x sound none is e =
      sound front (back ++ x) at kind (e ∙ append_assoc front back x) is.0

  none_in_broken : (front back : List ℕ) (at : ℕ) (kind : FaultKind) (block : Block) (x : List ℕ)
      → IsRest dialect (broken front back at kind) → IsBlock dialect block → front ++ back ≡ block_bytes block ++ x → ⊥
  none_in_broken front back at kind (whole u) x (refused, short) is e =
      no_unit_refused dialect front back at kind (λ m len. omega (arith, short m len, length-append front back)) refused
      u x e is
  none_in_broken front back at kind (damaged front2 back2 at2 kind2) x (refused, short) (refused2, len) e =
      let one = one_refusal dialect front front2 back (back2 ++ x) at at2 kind kind2
      (e ∙ append_assoc front2 back2 x) refused refused2 in
      let below = short (length (front2 ++ back2)) (rw one.0 len) in
      omega (arith, below, ap length e, length-append (front2 ++ back2) x)

  -- no block begins a rest
  no_block : (rest : Rest) (block : Block) (x : List ℕ) → IsRest dialect rest → IsBlock dialect block
      → rest_bytes rest ≡ block_bytes block ++ x → ⊥
  no_block (begun b) block x rest_is is e = none_in_sound b block x rest_is.0 rest_is.1 is e
  no_block (cut_off b) block x rest_is is e = none_in_sound b block x rest_is.0 rest_is.1 is e
  no_block (broken front back at kind) block x rest_is is e = none_in_broken front back at kind block x rest_is is e

  one_cut_of : (blocks blocks2 : List Block) (rest rest2 : Rest) → AllByRecursion (IsBlock dialect) blocks
      → AllByRecursion (IsBlock dialect) blocks2 → IsRest dialect rest → IsRest dialect rest2
      → bytes_of blocks ++ rest_bytes rest ≡ bytes_of blocks2 ++ rest_bytes rest2
      → (blocks ≡ blocks2) × (rest_bytes rest ≡ rest_bytes rest2)
  one_cut_of [] [] rest rest2 all all2 is is2 e = (refl, e)
  one_cut_of [] (block ∷ blocks) rest rest2 all all2 is is2 e =
      absurd (no_block rest block (bytes_of blocks ++ rest_bytes rest2) is all2.0
      (e ∙ append_assoc (block_bytes block) (bytes_of blocks) (rest_bytes rest2)))
  one_cut_of (block ∷ blocks) [] rest rest2 all all2 is is2 e =
      absurd (no_block rest2 block (bytes_of blocks ++ rest_bytes rest) is2 all.0
      (sym e ∙ append_assoc (block_bytes block) (bytes_of blocks) (rest_bytes rest)))
  one_cut_of (block ∷ blocks) (block2 ∷ blocks2) rest rest2 all all2 is is2 e =
      let first = same_bytes block block2 (bytes_of blocks ++ rest_bytes rest) (bytes_of blocks2 ++ rest_bytes rest2)
      all.0 all2.0 (sym (append_assoc (block_bytes block) (bytes_of blocks) (rest_bytes rest)) ∙ e
      ∙ append_assoc (block_bytes block2) (bytes_of blocks2) (rest_bytes rest2)) in
      let later = one_cut_of blocks blocks2 rest rest2 all.1 all2.1 is is2 first.1 in
      let one = one_block block block2 all.0 all2.0 first.0 in
      (rw (one, later.0) refl, later.1)

  -- a reading that ends says whether the section ends with the bytes
  abbrev Agree : Rest → Rest → Type 0
  Agree (begun b) (cut_off c) = b ≢ c
  Agree (cut_off b) (begun c) = b ≢ c
  Agree rest rest2 = ⊤

  one_rest : (rest rest2 : Rest) → IsRest dialect rest → IsRest dialect rest2 → Agree rest rest2
      → rest_bytes rest ≡ rest_bytes rest2 → rest ≡ rest2
  one_rest (begun b) (begun c) is is2 agree e = ap (λ (l : List ℕ). begun l) e
  one_rest (begun b) (cut_off c) is is2 agree e = absurd (agree e)
  one_rest (begun b) (broken front back at kind) is is2 agree e = absurd (is.0 front back at kind e is2.0)
  one_rest (cut_off b) (begun c) is is2 agree e = absurd (agree e)
  one_rest (cut_off b) (cut_off c) is is2 agree e = ap (λ (l : List ℕ). cut_off l) e
  one_rest (cut_off b) (broken front back at kind) is is2 agree e = absurd (is.0 front back at kind e is2.0)
  one_rest (broken front back at kind) (begun c) is is2 agree e = absurd (is2.0 front back at kind (sym e) is.0)
  one_rest (broken front back at kind) (cut_off c) is is2 agree e = absurd (is2.0 front back at kind (sym e) is.0)
  one_rest (broken front back at kind) (broken front2 back2 at2 kind2) is is2 agree e =
      let one = one_refusal dialect front front2 back back2 at at2 kind kind2 e is.0 is2.0 in
      let after : back ≡ back2 = append_cancel_left front back back2 (cc one.0) in
      rw (one.0, after, one.1, one.2) refl

pub one_cut_around : OneCutAround
one_cut_around dialect s blocks blocks2 rest rest2 cut cut2 =
    one_cut_of dialect blocks blocks2 rest rest2 cut.each cut2.each cut.rest_is cut2.rest_is
    (sym cut.whole ∙ cut2.whole)

-- how the reading ends, where the bytes settle that: they are over, or they go on past the limit
data Around (dialect : Dialect) (limit : ℕ) (bytes : List ℕ) (left : Option (List ℕ)) (blocks : List Block)
    (rest : Rest) (result : Result Survey RunFault) : Type 0 where
  over : IsLast dialect limit bytes left rest → result ≡ Ok (survey_of dialect blocks rest)
      → Around dialect limit bytes left blocks rest result
  long : IsOpen dialect rest → limit < length bytes → result ≡ Err fault.SectionTooLong
      → Around dialect limit bytes left blocks rest result

module _ (dialect : Dialect) (limit : ℕ) (bytes : List ℕ) where
  around : (left : Option (List ℕ)) (blocks : List Block) (rest : Rest) (result : Result Survey RunFault)
      → IsOfBytes result → EndsAround dialect limit bytes left blocks rest result
      → IsCut dialect (take limit bytes) blocks rest × Around dialect limit bytes left blocks rest result
  around left blocks rest (Ok survey) of (cut, last, is) = (cut, over last (ap (λ (s : Survey). Ok s) is))
  around left blocks rest (Err fault.SectionTooLong) of (cut, more, past) = (cut, long more past refl)
  around left blocks rest (Err fault.NoMemory) of ends = absurd of
  around left blocks rest (Err fault.Read) of ends = absurd of
  around left blocks rest (Err f) of ends = absurd ends

  -- where both say that the bytes are over
  both_over : (left left2 : Option (List ℕ)) (rest rest2 : Rest) → IsRest dialect rest → IsRest dialect rest2
      → IsLast dialect limit bytes left rest → IsLast dialect limit bytes left2 rest2 → Agree dialect rest rest2
  both_over left left2 (begun b) (cut_off c) is is2 last last2 = λ same. is2.2 (sym same ∙ last.0)
  both_over left left2 (cut_off b) (begun c) is is2 last last2 = λ same. is.2 (same ∙ last2.0)
  both_over left left2 rest rest2 is is2 last last2 = tt

  both_long : (rest rest2 : Rest) → IsOpen dialect rest → IsOpen dialect rest2 → Agree dialect rest rest2
  both_long (cut_off b) rest2 more more2 = absurd more
  both_long rest (cut_off c) more more2 = absurd more2
  both_long rest rest2 more more2 = tt

  -- bytes aren't over where there are more, but after a unit without a good length
  not_both : (left : Option (List ℕ)) (rest rest2 : Rest) → IsRest dialect rest → IsRest dialect rest2
      → IsLast dialect limit bytes left rest → IsOpen dialect rest2 → limit < length bytes
      → rest_bytes rest ≡ rest_bytes rest2 → ⊥
  not_both left (begun b) rest2 is is2 last more past e = omega (arith, last.1.0, past)
  not_both left (cut_off b) rest2 is is2 last more past e = omega (arith, last.0, past)
  not_both left (broken front back at kind) rest2 is is2 (inr last) more past e = omega (arith, last.0, past)
  not_both left (broken front back at kind) rest2 is is2 (inl none) more past e =
      let same = one_rest dialect (broken front back at kind) rest2 is is2 tt e in
      let known = rw (← same) at more in
      none_is_some (sym none ∙ known.1)

  one_answer : (left left2 : Option (List ℕ)) (blocks blocks2 : List Block) (rest rest2 : Rest)
      (result result2 : Result Survey RunFault) → IsRest dialect rest → IsRest dialect rest2 → blocks ≡ blocks2
      → rest_bytes rest ≡ rest_bytes rest2 → Around dialect limit bytes left blocks rest result
      → Around dialect limit bytes left2 blocks2 rest2 result2 → (rest ≡ rest2) × (result ≡ result2)
  one_answer left left2 blocks blocks2 rest rest2 result result2 is is2 same e (over last gives) (over last2 gives2) =
      let one = one_rest dialect rest rest2 is is2 (both_over left left2 rest rest2 is is2 last last2) e in
      (one, gives ∙ rw (same, one) (sym gives2))
  one_answer left left2 blocks blocks2 rest rest2 result result2 is is2 same e (over last gives)
      (long more past gives2) =
      absurd (not_both left rest rest2 is is2 last more past e)
  one_answer left left2 blocks blocks2 rest rest2 result result2 is is2 same e (long more past gives)
      (over last gives2) =
      absurd (not_both left2 rest2 rest is2 is last more past (sym e))
  one_answer left left2 blocks blocks2 rest rest2 result result2 is is2 same e (long more past gives)
      (long more2 past2 gives2) =
      (one_rest dialect rest rest2 is is2 (both_long rest rest2 more more2) e, gives ∙ sym gives2)

pub one_around : OneAround
one_around dialect limit bytes left left2 blocks blocks2 rest rest2 result result2 of of2 ends ends2 =
    let (cut, how) = around dialect limit bytes left blocks rest result of ends in
    let (cut2, how2) = around dialect limit bytes left2 blocks2 rest2 result2 of2 ends2 in
    let same = one_cut_around dialect (take limit bytes) blocks blocks2 rest rest2 cut cut2 in
    let one = one_answer dialect limit bytes left left2 blocks blocks2 rest rest2 result result2 cut.rest_is
    cut2.rest_is same.0 same.1 how how2 in
    (same.0, one.0, one.1)
