-- What `lint` and `lint_around` answer and write. bytes: what was read from a reader, which has `left` left. start, now: what
-- the writer held at first, and holds now. hears: it was told of these damaged units. s: the string sections. refuses: for how many
-- items memory is refused. DWARF 5, sections 6.2.2 to 6.2.5.
use Rattle.std.specs.Prelude.{⊤, ◌≡◌, ◌⊎◌, ℕ, List, [], ◌∷◌, ◌++◌, Option, Result, Ok, Err, take}
use Rattle.std.specs.Io.KnownBytes.{Appends}
use Rattle.dl_head.specs.declared.dialect.Dialect.{Dialect}
use Rattle.dl_print.specs.ValueText.{Strings}
use Rattle.dl_print.specs.declared.summary.Summary.{Summary}
use Rattle.dl_sections.specs.declared.around.Damage.{Damage}
use Rattle.dl_sections.specs.declared.around.Survey.{Survey}
use Rattle.dl_sections.specs.declared.fault.RunFault.{RunFault}
use Rattle.dl_sections.specs.declared.fault.RunFault.TheVariants as fault
use Rattle.dl_sections.specs.Around.{Block, EndsAround, IsCutTo, Rest, faults_of, visits_around}
use Rattle.dl_sections.specs.DamageTold.{damages_told}
use Rattle.dl_sections.specs.RunOutput.{TellsOut}
use Rattle.dl_sections.specs.Section.{EndsAs, HasBegun, Visit, section_visits}
use Rattle.dl_findings.specs.Counting.{Counts}
use Rattle.dl_findings.specs.FindingTold.{findings_text}
use Rattle.dl_lint.specs.Findings.{all_findings, findings_in}
use Rattle.dl_lint.specs.Wanting.{RefusesAt, RefusesPlaces}
use Rattle.dl_lint.specs.declared.question.LintQuestion.{LintQuestion}
use Rattle.dl_lint.specs.declared.question.Linted.{Linted}
use Rattle.dl_lint.specs.declared.question.LintedAround.{LintedAround}

-- the lines of what is found at visits
abbrev pub text_of : Strings → LintQuestion → List Visit → List ℕ
text_of s q visits = findings_text q.form (findings_in s q visits)

-- and of what is found of the section, which is read to its end
abbrev pub whole_text : Strings → LintQuestion → List Visit → List ℕ
whole_text s q visits = findings_text q.form (all_findings s q visits)

-- ---- want of memory

-- at one of these visits; what is found before it is written, and damaged units before it are told
abbrev pub StopsAtOne : (refuses : ℕ → Type 0) → Strings → LintQuestion → (start now : Option (List ℕ)) → List Visit
    → (hears : List Damage → Type 0) → Type 0
StopsAtOne refuses s q start now visits hears =
    (before : List Visit) × (visit : Visit) × (more : List Visit) × (visits ≡ before ++ visit ∷ more)
    × RefusesAt refuses q (before ++ visit ∷ []) visit × Appends start now (text_of s q before) × hears (damages_told before)

-- at the end of the section
abbrev pub StopsAtEnd : (refuses : ℕ → Type 0) → Strings → LintQuestion → (start now : Option (List ℕ)) → List Visit → Type 0
StopsAtEnd refuses s q start now visits = RefusesPlaces refuses q visits × Appends start now (text_of s q visits)

-- ---- `lint`: the lines of what is found in the units, and in what follows them up to the fault, and how many they are

-- the units are those of a section that is read to its end
abbrev pub AreAll : Dialect → (limit : ℕ) (bytes : List ℕ) (left : Option (List ℕ)) (units : List (List ℕ)) → Type 0
AreAll dialect limit bytes left units = (summary : Summary) × EndsAs dialect limit bytes left units [] [] (Ok summary)

abbrev pub Lints : (refuses : ℕ → Type 0) → Dialect → Strings → LintQuestion → (limit : ℕ) (bytes : List ℕ)
    (left start now : Option (List ℕ)) → Result Linted RunFault → Type 0
Lints refuses dialect s q limit bytes left start now (Ok linted) =
    (units : List (List ℕ)) × EndsAs dialect limit bytes left units [] [] (Ok linted.summary)
    × Counts linted.counts (all_findings s q (section_visits dialect units []))
    × Appends start now (whole_text s q (section_visits dialect units []))
Lints refuses dialect s q limit bytes left start now (Err (fault.Write out)) =
    ((units : List (List ℕ)) × (b : List ℕ) × (back : List ℕ) × HasBegun dialect (take limit bytes) units b back
    × TellsOut start now (text_of s q (section_visits dialect units b)) (fault.Write out))
    ⊎ ((units : List (List ℕ)) × AreAll dialect limit bytes left units
    × TellsOut start now (whole_text s q (section_visits dialect units [])) (fault.Write out))
Lints refuses dialect s q limit bytes left start now (Err fault.NoMemory) =
    ((units : List (List ℕ)) × (b : List ℕ) × (back : List ℕ)
    × ((EndsAs dialect limit bytes left units b back (Err fault.NoMemory)
    × Appends start now (text_of s q (section_visits dialect units b)))
    ⊎ (HasBegun dialect (take limit bytes) units b back
    × StopsAtOne refuses s q start now (section_visits dialect units b) (λ told. ⊤))))
    ⊎ ((units : List (List ℕ)) × AreAll dialect limit bytes left units
    × StopsAtEnd refuses s q start now (section_visits dialect units []))
Lints refuses dialect s q limit bytes left start now (Err f) =
    (units : List (List ℕ)) × (b : List ℕ) × (back : List ℕ) × EndsAs dialect limit bytes left units b back (Err f)
    × Appends start now (text_of s q (section_visits dialect units b))

-- ---- `lint_around`: also in the units that are damaged, up to their faults

-- the units are those of a section that is read to its end, or up to one without a good initial length
abbrev pub AreAllAround : Dialect → (limit : ℕ) (bytes : List ℕ) (left : Option (List ℕ)) (blocks : List Block) → Rest → Type 0
AreAllAround dialect limit bytes left blocks rest =
    (survey : Survey) × EndsAround dialect limit bytes left blocks rest (Ok survey)

abbrev pub LintsAround : (refuses : ℕ → Type 0) → Dialect → Strings → LintQuestion → (limit : ℕ) (bytes : List ℕ)
    (left start now : Option (List ℕ)) → (hears : List Damage → Type 0) → Result LintedAround RunFault → Type 0
LintsAround refuses dialect s q limit bytes left start now hears (Ok linted) =
    (blocks : List Block) × (rest : Rest) × EndsAround dialect limit bytes left blocks rest (Ok linted.survey)
    × Counts linted.counts (all_findings s q (visits_around dialect blocks rest))
    × Appends start now (whole_text s q (visits_around dialect blocks rest)) × hears (faults_of blocks rest)
LintsAround refuses dialect s q limit bytes left start now hears (Err (fault.Write out)) =
    ((blocks : List Block) × (rest : Rest) × (others : List ℕ) × IsCutTo dialect (take limit bytes) blocks rest others
    × TellsOut start now (text_of s q (visits_around dialect blocks rest)) (fault.Write out))
    ⊎ ((blocks : List Block) × (rest : Rest) × AreAllAround dialect limit bytes left blocks rest
    × TellsOut start now (whole_text s q (visits_around dialect blocks rest)) (fault.Write out)
    × hears (faults_of blocks rest))
LintsAround refuses dialect s q limit bytes left start now hears (Err fault.NoMemory) =
    ((blocks : List Block) × (rest : Rest)
    × ((EndsAround dialect limit bytes left blocks rest (Err fault.NoMemory)
    × Appends start now (text_of s q (visits_around dialect blocks rest)) × hears (faults_of blocks rest))
    ⊎ ((others : List ℕ) × IsCutTo dialect (take limit bytes) blocks rest others
    × StopsAtOne refuses s q start now (visits_around dialect blocks rest) hears)))
    ⊎ ((blocks : List Block) × (rest : Rest) × AreAllAround dialect limit bytes left blocks rest
    × StopsAtEnd refuses s q start now (visits_around dialect blocks rest) × hears (faults_of blocks rest))
LintsAround refuses dialect s q limit bytes left start now hears (Err f) =
    (blocks : List Block) × (rest : Rest) × EndsAround dialect limit bytes left blocks rest (Err f)
    × Appends start now (text_of s q (visits_around dialect blocks rest)) × hears (faults_of blocks rest)
