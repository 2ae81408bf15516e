-- What `addr` answers and writes. bytes: what was read from a reader, which has `left` left. start, now: what the
-- writer held at first, and holds now. None: it isn't known. refuses: for how many items memory is refused.
use Rattle.std.specs.Prelude.{◌≡◌, ◌⊎◌, ℕ, ◌+◌, ◌*◌, Bool, true, ◌||◌, if◌then◌else◌, List, [], ◌∷◌, ◌++◌, length, take, flat_map}
use Rattle.std.specs.Prelude.{is_none}
use Rattle.std.specs.Prelude.{is_some, slice_get}
use Rattle.std.specs.Prelude.{Option, Some, None, Result, Ok, Err}
use Rattle.std.specs.List.{list_all}
use Rattle.std.specs.Option.{option_and_then, option_copied}
use Rattle.std.specs.Io.KnownBytes.{Appends, Keeps}
use Rattle.dl_head.specs.declared.dialect.Dialect.{Dialect}
use Rattle.dl_memory.specs.Refusals.{IsRefused}
use Rattle.dl_print.specs.Output.{TellsOut}
use Rattle.dl_print.specs.ValueText.{Strings}
use Rattle.dl_sections.specs.declared.fault.RunFault.{RunFault}
use Rattle.dl_sections.specs.declared.fault.RunFault.TheVariants as fault
use Rattle.dl_print.specs.declared.summary.Summary.{Summary}
use Rattle.dl_sections.specs.Section.{EndsAs, HasUnits}
use Rattle.dl_look.specs.declared.asked.Asked.{Asked}
use Rattle.dl_addr.specs.declared.question.WhichFound.{WhichFound}
use Rattle.dl_addr.specs.declared.question.WhichFound.TheVariants as found
use Rattle.dl_addr.specs.declared.question.Question.{Question}
use Rattle.dl_look.specs.Asked.{looked_up, place_of}
use Rattle.dl_addr.specs.Code.{is_code}
use Rattle.dl_dirs.specs.Compilation.{directory_by}
use Rattle.dl_addr.specs.Locations.{Located, located, asked_line}

-- what the units answer for what is asked
abbrev pub answer_in : Dialect → Question → List (List ℕ) → Asked → Option Located
answer_in dialect q units a = option_and_then (located dialect (is_code (option_copied q.code)) units)
    (place_of q.base a)

-- a line for each address, in the order in which they are asked
abbrev pub answer_lines : Dialect → Strings → Question → List (List ℕ) → List ℕ
answer_lines dialect s q units =
    flat_map (λ a. asked_line q.style (directory_by q.directories) s a (answer_in dialect q units a)) q.asked.now

-- whether it has an answer, where it is an address
abbrev pub is_answered : Asked → (is_found : Bool) → Bool
is_answered a is_found = is_none a.address || is_found

-- whether each address has an answer
abbrev pub found_in : Dialect → Question → List (List ℕ) → WhichFound
found_in dialect q units =
    if list_all (λ a. is_answered a (is_some (answer_in dialect q units a))) q.asked.now then found.All
    else found.NotAll

-- u is a unit that is the first to answer for a place that is looked up
pub record AnswersFirst (dialect : Dialect) (q : Question) (units : List (List ℕ)) (u : List ℕ) : Type 0 where
  pub a : Asked
  pub number : ℕ
  pub is_asked : slice_get q.asked.now number ≡ Some a
  pub not_before : located dialect (is_code (option_copied q.code)) units (looked_up q.base a) ≡ None
  pub answers : is_some (located dialect (is_code (option_copied q.code)) (units ++ u ∷ []) (looked_up q.base a)) ≡ true

-- for how many items memory is asked for at most for the answers of u: for three texts of each place that is looked up, or
-- for the bytes of one text, which stand in the header of u
abbrev pub answers_room : Question → (u : List ℕ) → ℕ
answers_room q u = 3 * length q.asked.now + length u

-- how the reading ends: as that of `check`, or memory was refused for the answers of b, the unit after these units
abbrev pub Ends : (refuses : ℕ → Type 0) → Dialect → (limit : ℕ) (bytes : List ℕ) (left : Option (List ℕ)) → Question
    → (units : List (List ℕ)) (b back : List ℕ) → Result Summary RunFault → Type 0
Ends refuses dialect limit bytes left q units b back (Err fault.NoMemory) =
    EndsAs dialect limit bytes left units b back (Err fault.NoMemory)
    ⊎ (HasUnits dialect (take limit bytes) (units ++ b ∷ []) back × AnswersFirst dialect q units b
    × IsRefused refuses (answers_room q b))
Ends refuses dialect limit bytes left q units b back result = EndsAs dialect limit bytes left units b back result

-- `addr`: the lines of what is asked, answered by the units before the end or the fault. Where memory was refused for
-- the places, nothing is read or written.
abbrev pub Locates : (refuses : ℕ → Type 0) → Dialect → Strings → Question → (limit : ℕ) (bytes : List ℕ) (left start now : Option (List ℕ))
    → Result WhichFound RunFault → Type 0
Locates refuses dialect s q limit bytes left start now (Ok all_found) =
    (units : List (List ℕ)) × (summary : Summary) × EndsAs dialect limit bytes left units [] [] (Ok summary)
    × (all_found ≡ found_in dialect q units) × Appends start now (answer_lines dialect s q units)
Locates refuses dialect s q limit bytes left start now (Err (fault.Write out)) =
    (units : List (List ℕ)) × (b : List ℕ) × (back : List ℕ) × (ending : Result Summary RunFault)
    × Ends refuses dialect limit bytes left q units b back ending
    × TellsOut start now (answer_lines dialect s q units) (record { out = out })
Locates refuses dialect s q limit bytes left start now (Err fault.NoMemory) =
    ((bytes ≡ []) × IsRefused refuses (length q.asked.now + 1) × Keeps start now)
    ⊎ ((units : List (List ℕ)) × (b : List ℕ) × (back : List ℕ)
    × Ends refuses dialect limit bytes left q units b back (Err fault.NoMemory)
    × Appends start now (answer_lines dialect s q units))
Locates refuses dialect s q limit bytes left start now (Err f) =
    (units : List (List ℕ)) × (b : List ℕ) × (back : List ℕ) × Ends refuses dialect limit bytes left q units b back (Err f)
    × Appends start now (answer_lines dialect s q units)
