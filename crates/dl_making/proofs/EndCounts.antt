-- A section that was read tells no more rows and cells than it has bytes.
use Rattle.std.proofs.Common.{◌≡◌, ◌≤◌, ℕ, ◌+◌, List, [], ◌∷◌, ◌++◌, length, length-append, length-take, take, append_assoc}
use Rattle.std.proofs.Common.{Option, Result, Ok, Err, arith, ap, sym, subst, ◌∙◌}
use Rattle.std.specs.List.{concat}
use Rattle.dl_head.specs.declared.dialect.Dialect.{Dialect}
use Rattle.dl_print.specs.declared.summary.Summary.{Summary}
use Rattle.dl_sections.specs.declared.around.Survey.{Survey}
use Rattle.dl_sections.specs.declared.fault.RunFault.{RunFault}
use Rattle.dl_sections.specs.declared.fault.RunFault.TheVariants as fault
use Rattle.dl_sections.specs.Around.{Block, EndsAround, IsCut, IsCutTo, Rest, bytes_of, rest_bytes, visits_around}
use Rattle.dl_sections.specs.Section.{EndsAs, HasUnits, Visit, section_visits}
use Rattle.dl_making.specs.Few.{AreFew}
use Rattle.dl_making.proofs.VisitCounts.{few_around, few_front, few_in_section, few_more}

-- of visits up to one of them
pub few_before : (n : ℕ) (visits before : List Visit) (visit : Visit) (more : List Visit) → visits ≡ before ++ visit ∷ more
    → AreFew n visits → AreFew n (before ++ visit ∷ [])
few_before n visits before visit more whole few =
    few_front n (before ++ visit ∷ []) more
    (subst (AreFew n) (whole ∙ sym (append_assoc before (visit ∷ []) more)) few)

module _ (dialect : Dialect) where
  -- units, and b at most after them
  pub has_few : (x : List ℕ) (units : List (List ℕ)) (b rest : List ℕ) (n : ℕ) → HasUnits dialect x units rest
      → length b ≤ length rest → length x ≤ n → AreFew n (section_visits dialect units b)
  has_few x units b rest n has front within =
      few_more (length (concat units) + length b) n (section_visits dialect units b)
      (omega (arith, ap length has.whole, length-append (concat units) rest, front, within))
      (few_in_section dialect units b)

  cut_few : (x : List ℕ) (blocks : List Block) (rest : Rest) (n : ℕ) → IsCut dialect x blocks rest → length x ≤ n
      → AreFew n (visits_around dialect blocks rest)
  cut_few x blocks rest n cut within =
      few_more (length (bytes_of blocks) + length (rest_bytes rest)) n (visits_around dialect blocks rest)
      (omega (arith, ap length cut.whole, length-append (bytes_of blocks) (rest_bytes rest), within))
      (few_around dialect blocks rest)

  pub cut_to_few : (x : List ℕ) (blocks : List Block) (rest : Rest) (others : List ℕ) → IsCutTo dialect x blocks rest others
      → AreFew (length x) (visits_around dialect blocks rest)
  cut_to_few x blocks rest others cut =
      few_more (length (bytes_of blocks) + length (rest_bytes rest)) (length x) (visits_around dialect blocks rest)
      (omega (
        arith,
        ap length cut.whole,
        length-append (bytes_of blocks) (rest_bytes rest ++ others),
        length-append (rest_bytes rest) others,
      ))
      (few_around dialect blocks rest)

  module _ (limit : ℕ) (bytes : List ℕ) (left : Option (List ℕ)) where
    abbrev taken : ℕ
    taken = length (take limit bytes)

    -- however the reading ended
    pub ended_few : (units : List (List ℕ)) (b back : List ℕ) (ended : Result Summary RunFault)
        → EndsAs dialect limit bytes left units b back ended → AreFew taken (section_visits dialect units b)
    ended_few units b back (Ok summary) ends =
        has_few bytes units b [] taken ends.0 (omega (arith, ap length ends.1))
        (omega (arith, length-take limit bytes, ends.3))
    ended_few units b back (Err (fault.Damage offset kind)) ends =
        has_few (take limit bytes) units b (b ++ back) taken ends.0 (omega (arith, length-append b back)) (omega arith)
    ended_few units b back (Err fault.Read) ends =
        has_few bytes units b b taken ends.0 (omega arith) (omega (arith, length-take limit bytes, ends.4))
    ended_few units b back (Err fault.SectionTooLong) ends =
        has_few (take limit bytes) units b b taken ends.0 (omega arith) (omega arith)
    ended_few units b back (Err fault.NoMemory) ends =
        has_few (take limit bytes) units b (b ++ back) taken ends.0.has (omega (arith, length-append b back)) (omega arith)
    ended_few units b back (Err (fault.Write out)) ends = absurd ends
    ended_few units b back (Err fault.NotFound) ends = absurd ends
    ended_few units b back (Err fault.TwoSums) ends = absurd ends
    ended_few units b back (Err fault.NoUnit) ends = absurd ends
    ended_few units b back (Err (fault.ForeignUnit unit)) ends = absurd ends
    ended_few units b back (Err (fault.Emit unit e)) ends = absurd ends

    pub ended_around_few : (blocks : List Block) (rest : Rest) (ended : Result Survey RunFault)
        → EndsAround dialect limit bytes left blocks rest ended → AreFew taken (visits_around dialect blocks rest)
    ended_around_few blocks rest (Ok survey) ends = cut_few (take limit bytes) blocks rest taken ends.0 (omega arith)
    ended_around_few blocks rest (Err fault.Read) ends =
        cut_few bytes blocks rest taken ends.0 (omega (arith, length-take limit bytes, ends.2))
    ended_around_few blocks rest (Err fault.SectionTooLong) ends =
        cut_few (take limit bytes) blocks rest taken ends.0 (omega arith)
    ended_around_few blocks rest (Err fault.NoMemory) ends = cut_to_few (take limit bytes) blocks rest ends.1 ends.3
    ended_around_few blocks rest (Err (fault.Damage offset kind)) ends = absurd ends
    ended_around_few blocks rest (Err (fault.Write out)) ends = absurd ends
    ended_around_few blocks rest (Err fault.NotFound) ends = absurd ends
    ended_around_few blocks rest (Err fault.TwoSums) ends = absurd ends
    ended_around_few blocks rest (Err fault.NoUnit) ends = absurd ends
    ended_around_few blocks rest (Err (fault.ForeignUnit unit)) ends = absurd ends
    ended_around_few blocks rest (Err (fault.Emit unit e)) ends = absurd ends
