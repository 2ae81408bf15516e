-- What `find_sources` and `find_sources_around` find, which print nothing. bytes: what was read from a reader, which has `left`
-- left. refuses: for how many items memory is refused. DWARF 5, sections 6.2.4 and 6.2.4.1.
use Rattle.std.specs.Prelude.{◌≡◌, ◌≢◌, ◌⊎◌, ℕ, true, false, List, [], Option, Err}
use Rattle.dl_head.specs.declared.dialect.Dialect.{Dialect}
use Rattle.dl_print.specs.declared.summary.Summary.{Summary}
use Rattle.dl_print.specs.ValueText.{Strings}
use Rattle.dl_sections.specs.declared.around.Survey.{Survey}
use Rattle.dl_sections.specs.declared.fault.RunFault.TheVariants as fault
use Rattle.dl_sections.specs.Around.{Block, EndsAround, Rest}
use Rattle.dl_sections.specs.Section.{EndsAs}
use Rattle.dl_sources.specs.declared.finding.FoundSources.{FoundSources}
use Rattle.dl_sources.specs.declared.question.FilesQuestion.{FilesQuestion}
use Rattle.dl_sources.specs.declared.question.SourcesQuestion.{SourcesQuestion}
use Rattle.dl_sources.specs.AroundCommands.{WantsAround, mentions_around}
use Rattle.dl_sources.specs.Commands.{WantsMemory}
use Rattle.dl_sources.specs.SectionTold.{mentions_of}
use Rattle.dl_sources.specs.SourceFiles.{files_held, files_told}

-- the same asked of `sources`, with all that it tells of a path
abbrev pub asked : FilesQuestion → SourcesQuestion
asked q = record { rows = true; md5 = true; json = false; code = q.code; directories = q.directories }

-- memory was refused, and no source file is told
abbrev pub IsNothing : {A : Type 0} → FoundSources A → Type 0
IsNothing found = (found.end ≡ Err fault.NoMemory) × (files_held found.table ≡ [])

-- `find_sources`: where memory is refused, none; else those that the units before the end or the fault name
abbrev pub FindsSources : (refuses : ℕ → Type 0) → Dialect → Strings → FilesQuestion → (limit : ℕ) (bytes : List ℕ)
    (left : Option (List ℕ)) → FoundSources Summary → Type 0
FindsSources refuses dialect s q limit bytes left found =
    (IsNothing found × WantsMemory refuses dialect s (asked q) limit bytes)
    ⊎ ((found.end ≢ Err fault.NoMemory) × ((units : List (List ℕ)) × (b : List ℕ) × (back : List ℕ)
    × EndsAs dialect limit bytes left units b back found.end
    × (files_held found.table ≡ files_told (mentions_of dialect s (asked q) units))))

-- `find_sources_around`: where memory is refused, none; else those that the whole units before the end or the fault name
abbrev pub FindsSourcesAround : (refuses : ℕ → Type 0) → Dialect → Strings → FilesQuestion → (limit : ℕ) (bytes : List ℕ)
    (left : Option (List ℕ)) → FoundSources Survey → Type 0
FindsSourcesAround refuses dialect s q limit bytes left found =
    (IsNothing found × WantsAround refuses dialect s (asked q) limit bytes)
    ⊎ ((found.end ≢ Err fault.NoMemory) × ((blocks : List Block) × (rest : Rest)
    × EndsAround dialect limit bytes left blocks rest found.end
    × (files_held found.table ≡ files_told (mentions_around dialect s (asked q) blocks))))
