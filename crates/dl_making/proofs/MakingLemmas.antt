-- What the making of an index comes to.
use Rattle.std.proofs.Common.{◌≡◌, ◌≢◌, ◌≤◌, inl, inr, ℕ, take, List, [], ◌∷◌, ◌++◌, length, length-append, Option, Ok, Err}
use Rattle.std.proofs.Common.{arith, ap, ap₂, subst, sym, ◌∙◌}
use Rattle.std.specs.Prelude.{Bool}
use Rattle.std.specs.Option.{option_copied, option_map}
use Rattle.dl_head.specs.declared.dialect.Dialect.{Dialect}
use Rattle.dl_print.specs.ValueText.{Strings, strings_of}
use Rattle.dl_dirs.specs.Compilation.{directory_by}
use Rattle.dl_print.specs.declared.summary.Summary.{Summary}
use Rattle.dl_sections.specs.declared.around.Survey.{Survey}
use Rattle.dl_sections.specs.declared.fault.RunFault.{RunFault}
use Rattle.dl_sections.specs.declared.fault.RunFault.TheVariants as fault
use Rattle.dl_sections.specs.Around.{RanAround, visits_around}
use Rattle.dl_sections.specs.Section.{Visit, section_visits}
use Rattle.dl_sections.specs.Visiting.{Ran}
use Rattle.dl_addr.specs.Code.{is_code}
use Rattle.dl_addr.specs.Locating.{located_after}
use Rattle.dl_addr.specs.Locations.{Located}
use Rattle.dl_addr.proofs.AroundEnds.{located_of_around}
use Rattle.dl_addr.proofs.LocatedLemmas.{located_of_section}
use Rattle.dl_index.specs.Stretches.{Told}
use Rattle.dl_stretch.specs.Runs.{place_at}
use Rattle.dl_making.specs.declared.maker.Maker.{Maker}
use Rattle.dl_making.specs.declared.making.Made.{Made}
use Rattle.dl_making.specs.declared.making.MadeAround.{MadeAround}
use Rattle.dl_making.specs.declared.making.Table.{Table}
use Rattle.dl_making.specs.IsIndexOf.{IsIndexOf}
use Rattle.dl_making.specs.Makes.{Makes, MakesAround, id_kept, told_around, told_in}
use Rattle.dl_making.specs.Few.{AreFew}
use Rattle.dl_making.specs.Making.{Making, RefusesAfter, WantsAfter, WasTold, code_of, making_story, told_after}
use Rattle.dl_making.specs.Room.{DirectoriesWithin, making_room}
use Rattle.dl_making.specs.TellsMany.{TellsMany}
use Rattle.dl_making.specs.Telling.{told_of}
use Rattle.dl_making.specs.Wants.{RefusesIndex, WantsIndex, WantsMemory, WantsMemoryAround}
use Rattle.dl_making.proofs.EndCounts.{cut_to_few, ended_around_few, ended_few, few_before, has_few}

-- of what tells the same
pub same_index : (all : Bool) (build_id : List ℕ) (f g : ℕ → Option Told) (b : List ℕ) → ((a : ℕ) → f a ≡ g a)
    → IsIndexOf all build_id f b → IsIndexOf all build_id g b
same_index all build_id f g b same is = record {
  is_index = is.is_index;
  right = λ a lt. is.right a lt ∙ same a;
  apart = is.apart;
  first = is.first;
  stretches = is.stretches;
  files = is.files;
  texts = is.texts;
  written = is.written;
}

pub same_many : (f g : ℕ → Option Told) → ((a : ℕ) → f a ≡ g a) → TellsMany f → TellsMany g
same_many f g same t = record {
  stretches = t.stretches;
  files = t.files;
  texts = t.texts;
  right = λ a lt. t.right a lt ∙ same a;
  apart = t.apart;
  starts = t.starts;
  once = t.once;
  many = t.many;
}

-- a list with something in it
not_none : (xs before more : List Visit) (x : Visit) → xs ≡ before ++ x ∷ more → xs ≢ []
not_none xs before more x is none =
    absurd (omega (arith, ap length is, ap length none, length-append before (x ∷ more)))

-- a maker that is made with a table
pub record Knows {M : Type 0} (first : Maker M) (table : Table) (s : Strings) : Type 0 where
  pub code : first.code ≡ table.code
  pub directories : first.directories ≡ table.directories
  pub strings : strings_of first.strings.now ≡ s

-- the room of what was told is that of the section
module _ {M : Type 0} (refuses : M → ℕ → Type 0) {first : Maker M} {table : Table} {s : Strings}
    (knows : Knows first table s) {memory : M} (same : first.memory.now ≡ memory) (limit : ℕ) (bytes : List ℕ) where
  refuses_index : (visits : List Visit) → AreFew (length (take limit bytes)) visits → RefusesAfter refuses first visits
      → RefusesIndex (refuses memory) s table limit bytes
  refuses_index visits few (n, refused, within) = (
    n,
    subst (λ m. refuses m n) same refused,
    λ directory d. subst (λ ss. n ≤ making_room ss directory (length (take limit bytes))) knows.strings
        (within directory (length (take limit bytes)) (subst (DirectoriesWithin directory) (sym knows.directories) d) few),
  )

  pub wants_index : (visits : List Visit) (f : ℕ → Option Told) → ((a : ℕ) → told_after first visits a ≡ f a)
      → AreFew (length (take limit bytes)) visits → WantsAfter refuses first visits
      → WantsIndex (refuses memory) s table limit bytes f
  wants_index visits f is few (inl refused) = inl (refuses_index visits few refused)
  wants_index visits f is few (inr many) = inr (same_many (told_after first visits) f is many)

  module _ {dialect : Dialect} (left : Option (List ℕ)) {new : Maker M} {start now : Option (List ℕ)} where
    -- memory is wanted while a section is read
    pub wants : Ran (making_story refuses) dialect limit bytes left first new start now (Err fault.NoMemory)
        → WantsMemory (refuses memory) dialect s table limit bytes
    wants (units, b, back, inl (ends, settled)) = (units, b, back, ends.0, inl ends.2)
    wants (units, b, back, inr (has, sound, stops)) = (
      units,
      b,
      back,
      has,
      inr (
        not_none _ stops.before stops.more stops.visit stops.whole,
        refuses_index (stops.before ++ stops.visit ∷ [])
            (few_before (length (take limit bytes)) _ stops.before stops.visit stops.more stops.whole
            (has_few dialect (take limit bytes) units b (b ++ back) (length (take limit bytes)) has.has
            (omega (arith, length-append b back)) (omega arith)))
            stops.reason.refused,
      ),
    )

    pub wants_around : RanAround (making_story refuses) dialect limit bytes left first new start now (Err fault.NoMemory)
        → WantsMemoryAround (refuses memory) dialect s table limit bytes
    wants_around (blocks, rest, inl ((b, others, is, cut, sound, adds), settled)) =
        (blocks, rest, others, cut, inl (b, is, adds))
    wants_around (blocks, rest, inr (others, cut, sound, stops)) = (
      blocks,
      rest,
      others,
      cut,
      inr (
        not_none _ stops.before stops.more stops.visit stops.whole,
        refuses_index (stops.before ++ stops.visit ∷ [])
            (few_before (length (take limit bytes)) _ stops.before stops.visit stops.more stops.whole
            (cut_to_few dialect (take limit bytes) blocks rest others cut))
            stops.reason.refused,
      ),
    )

module _ {M : Type 0} (dialect : Dialect) (first : Maker M) (table : Table) (s : Strings) (knows : Knows first table s) where
  pub told_same : (visits : List Visit) (a : ℕ) (look_up : (ℕ → Bool) → Option Located)
      → ((live : ℕ → Bool) → located_after live (place_at a) [] first.unit visits ≡ look_up live)
      → told_after first visits a
      ≡ option_map (told_of s (directory_by table.directories)) (look_up (is_code (option_copied table.code)))
  told_same visits a look_up is =
      ap (option_map (told_of (strings_of first.strings.now) (directory_by first.directories))) (is (code_of first)
      ∙ ap (λ code. look_up (is_code (option_copied code))) knows.code)
      ∙ ap₂ (λ ss ds. option_map (told_of ss (directory_by ds)) (look_up (is_code (option_copied table.code))))
      knows.strings knows.directories

  module _ (refuses : M → ℕ → Type 0) (memory : M) (same : first.memory.now ≡ memory) (limit : ℕ) (bytes : List ℕ)
      (left : Option (List ℕ)) (new : Maker M) (start now : Option (List ℕ)) where
    pub makes : (made : Made)
        → Ran (making_story refuses) dialect limit bytes left first new start now (Ok made.summary)
        → ((visits : List Visit) → Making refuses first new start now visits
        → IsIndexOf table.all (id_kept table) (told_after first visits) made.index.items)
        → Makes (refuses memory) dialect s table limit bytes left (Ok made)
    makes made (inl (units, ends, settled)) is_made = (
      units,
      ends,
      same_index table.all (id_kept table) (told_after first (section_visits dialect units []))
          (told_in dialect s table units) made.index.items
          (λ a. told_same (section_visits dialect units []) a
          (λ live. Rattle.dl_addr.specs.Locations.located dialect live units (place_at a))
          (λ live. located_of_section live (place_at a) dialect first.unit units []))
          (is_made (section_visits dialect units []) settled.tells),
    )
    makes made (inr done) is_made = absurd done.4.tells

    pub fails : (f : RunFault) → Ran (making_story refuses) dialect limit bytes left first new start now (Err f)
        → Makes (refuses memory) dialect s table limit bytes left (Err f)
    fails (fault.Write out) (units, b, back, has, writes) = absurd (let below = writes.3.0 in omega arith)
    fails fault.NoMemory ran = inl (wants refuses knows same limit bytes left ran)
    fails (fault.Damage offset kind) (units, b, back, inl (ends, settled)) = (units, b, back, ends)
    fails (fault.Damage offset kind) (units, b, back, inr (has, sound, stops)) = absurd (let e = stops.reason.is in cc)
    fails fault.Read (units, b, back, inl (ends, settled)) = (units, b, back, ends)
    fails fault.Read (units, b, back, inr (has, sound, stops)) = absurd (let e = stops.reason.is in cc)
    fails fault.SectionTooLong (units, b, back, inl (ends, settled)) = (units, b, back, ends)
    fails fault.SectionTooLong (units, b, back, inr (has, sound, stops)) = absurd (let e = stops.reason.is in cc)
    fails fault.NotFound (units, b, back, inl (ends, settled)) = (units, b, back, ends)
    fails fault.TwoSums (units, b, back, inl (ends, settled)) = (units, b, back, ends)
    fails fault.NoUnit (units, b, back, inl (ends, settled)) = (units, b, back, ends)
    fails fault.NotFound (units, b, back, inr (has, sound, stops)) = absurd (let e = stops.reason.is in cc)
    fails fault.TwoSums (units, b, back, inr (has, sound, stops)) = absurd (let e = stops.reason.is in cc)
    fails fault.NoUnit (units, b, back, inr (has, sound, stops)) = absurd (let e = stops.reason.is in cc)
    fails (fault.ForeignUnit unit) (units, b, back, inl (ends, settled)) = (units, b, back, ends)
    fails (fault.ForeignUnit unit) (units, b, back, inr (has, sound, stops)) = absurd (let e = stops.reason.is in cc)
    fails (fault.Emit unit e) (units, b, back, inl (ends, settled)) = (units, b, back, ends)
    fails (fault.Emit unit e) (units, b, back, inr (has, sound, stops)) = absurd (let r = stops.reason.is in cc)

    -- no index is made of what was read to the end
    pub unmade : (summary : Summary)
        → Ran (making_story refuses) dialect limit bytes left first new start now (Ok summary)
        → ((visits : List Visit) → Making refuses first new start now visits → WantsAfter refuses first visits)
        → Makes (refuses memory) dialect s table limit bytes left (Err fault.NoMemory)
    unmade summary (inl (units, ends, settled)) wanted = inr (
      units,
      summary,
      ends,
      wants_index refuses knows same limit bytes (section_visits dialect units []) (told_in dialect s table units)
          (λ a. told_same (section_visits dialect units []) a
          (λ live. Rattle.dl_addr.specs.Locations.located dialect live units (place_at a))
          (λ live. located_of_section live (place_at a) dialect first.unit units []))
          (ended_few dialect limit bytes left units [] [] (Ok summary) ends) (wanted (section_visits dialect units []) settled.tells),
    )
    unmade summary (inr done) wanted = absurd done.4.tells

    pub makes_around : (made : MadeAround)
        → RanAround (making_story refuses) dialect limit bytes left first new start now (Ok made.survey)
        → ((visits : List Visit) → Making refuses first new start now visits
        → IsIndexOf table.all (id_kept table) (told_after first visits) made.index.items)
        → MakesAround (refuses memory) dialect s table limit bytes left (Ok made)
    makes_around made (inl (blocks, rest, ends, settled)) is_made = (
      blocks,
      rest,
      ends,
      same_index table.all (id_kept table) (told_after first (visits_around dialect blocks rest))
          (told_around dialect s table blocks) made.index.items
          (λ a. told_same (visits_around dialect blocks rest) a
          (λ live. Rattle.dl_addr.specs.AroundCommands.located_around dialect live blocks (place_at a))
          (λ live. located_of_around dialect live (place_at a) first.unit blocks rest))
          (is_made (visits_around dialect blocks rest) settled.tells),
    )
    makes_around made (inr done) is_made = absurd done.4.tells

    pub fails_around : (f : RunFault) → RanAround (making_story refuses) dialect limit bytes left first new start now (Err f)
        → MakesAround (refuses memory) dialect s table limit bytes left (Err f)
    fails_around (fault.Write out) (blocks, rest, others, cut, writes) = absurd (let below = writes.3.0 in omega arith)
    fails_around fault.NoMemory ran = inl (wants_around refuses knows same limit bytes left ran)
    fails_around (fault.Damage offset kind) (blocks, rest, inl (ends, settled)) = (blocks, rest, ends)
    fails_around (fault.Damage offset kind) (blocks, rest, inr stops) = absurd (let e = stops.3.reason.is in cc)
    fails_around fault.Read (blocks, rest, inl (ends, settled)) = (blocks, rest, ends)
    fails_around fault.Read (blocks, rest, inr stops) = absurd (let e = stops.3.reason.is in cc)
    fails_around fault.SectionTooLong (blocks, rest, inl (ends, settled)) = (blocks, rest, ends)
    fails_around fault.SectionTooLong (blocks, rest, inr stops) = absurd (let e = stops.3.reason.is in cc)
    fails_around fault.NotFound (blocks, rest, inl (ends, settled)) = (blocks, rest, ends)
    fails_around fault.TwoSums (blocks, rest, inl (ends, settled)) = (blocks, rest, ends)
    fails_around fault.NoUnit (blocks, rest, inl (ends, settled)) = (blocks, rest, ends)
    fails_around fault.NotFound (blocks, rest, inr stops) = absurd (let e = stops.3.reason.is in cc)
    fails_around fault.TwoSums (blocks, rest, inr stops) = absurd (let e = stops.3.reason.is in cc)
    fails_around fault.NoUnit (blocks, rest, inr stops) = absurd (let e = stops.3.reason.is in cc)
    fails_around (fault.ForeignUnit unit) (blocks, rest, inl (ends, settled)) = (blocks, rest, ends)
    fails_around (fault.ForeignUnit unit) (blocks, rest, inr stops) = absurd (let e = stops.3.reason.is in cc)
    fails_around (fault.Emit unit e) (blocks, rest, inl (ends, settled)) = (blocks, rest, ends)
    fails_around (fault.Emit unit e) (blocks, rest, inr stops) = absurd (let r = stops.3.reason.is in cc)

    pub unmade_around : (survey : Survey)
        → RanAround (making_story refuses) dialect limit bytes left first new start now (Ok survey)
        → ((visits : List Visit) → Making refuses first new start now visits → WantsAfter refuses first visits)
        → MakesAround (refuses memory) dialect s table limit bytes left (Err fault.NoMemory)
    unmade_around survey (inl (blocks, rest, ends, settled)) wanted = inr (
      blocks,
      rest,
      survey,
      ends,
      wants_index refuses knows same limit bytes (visits_around dialect blocks rest) (told_around dialect s table blocks)
          (λ a. told_same (visits_around dialect blocks rest) a
          (λ live. Rattle.dl_addr.specs.AroundCommands.located_around dialect live blocks (place_at a))
          (λ live. located_of_around dialect live (place_at a) first.unit blocks rest))
          (ended_around_few dialect limit bytes left blocks rest (Ok survey) ends) (wanted (visits_around dialect blocks rest) settled.tells),
    )
    unmade_around survey (inr done) wanted = absurd done.4.tells

-- where the reading ends the maker was told visits
module _ {M : Type 0} (refuses : M → ℕ → Type 0) (dialect : Dialect) (first : Maker M) (limit : ℕ) (bytes : List ℕ)
    (left : Option (List ℕ)) (new : Maker M) (start now : Option (List ℕ)) where
  pub was_told : (summary : Summary) → Ran (making_story refuses) dialect limit bytes left first new start now (Ok summary)
      → WasTold refuses new
  was_told summary (inl (units, ends, settled)) = (first, start, now, section_visits dialect units [], settled.tells)
  was_told summary (inr done) = absurd done.4.tells

  pub was_told_around : (survey : Survey) → RanAround (making_story refuses) dialect limit bytes left first new start now (Ok survey)
      → WasTold refuses new
  was_told_around survey (inl (blocks, rest, ends, settled)) =
      (first, start, now, visits_around dialect blocks rest, settled.tells)
  was_told_around survey (inr done) = absurd done.4.tells
