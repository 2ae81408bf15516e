-- What the making of an index comes to that ends with a fault.
use Rattle.std.proofs.Common.{◌≡◌, inl, inr, ℕ, true, length, take, List, [], Option, Some, Result, Ok, Err, false}
use Rattle.std.proofs.Common.{MatchResult, IfOk, OnErr, arith, ap, ◌∙◌, refl}
use Rattle.std.specs.Prelude.{is_err}
use Rattle.std.specs.Result.{result_err}
use Rattle.std.specs.Global.{Vec}
use Rattle.dl_head.specs.declared.dialect.Dialect.{Dialect}
use Rattle.dl_memory.specs.declared.memory.NoMemory.{NoMemory}
use Rattle.dl_print.specs.ValueText.{Strings}
use Rattle.dl_print.specs.declared.summary.Summary.{Summary}
use Rattle.dl_sections.specs.declared.around.Survey.{Survey}
use Rattle.dl_sections.specs.declared.fault.RunFault.{RunFault}
use Rattle.dl_sections.specs.declared.fault.RunFault.TheVariants as fault
use Rattle.dl_sections.specs.Around.{Block, EndsAround, Rest, RanAround, visits_around}
use Rattle.dl_sections.specs.Section.{EndsAs, Visit, section_visits}
use Rattle.dl_sections.specs.Visiting.{Ran}
use Rattle.dl_stretch.specs.Runs.{place_at}
use Rattle.dl_addr.specs.AroundCommands.{located_around}
use Rattle.dl_addr.specs.Locations.{located}
use Rattle.dl_addr.proofs.AroundEnds.{located_of_around}
use Rattle.dl_addr.proofs.LocatedLemmas.{located_of_section}
use Rattle.dl_making.specs.declared.maker.Maker.{Maker}
use Rattle.dl_making.specs.declared.making.Table.{Table}
use Rattle.dl_making.specs.IsIndexOf.{IsIndexOf}
use Rattle.dl_making.specs.Makes.{id_kept, told_around, told_in}
use Rattle.dl_making.specs.Few.{AreFew}
use Rattle.dl_making.specs.Making.{Making, WantsAfter, WasTold, making_story, told_after}
use Rattle.dl_making.specs.Until.{IsIndexIf, MakesUntil, MakesUntilAround, is_refused}
use Rattle.dl_making.proofs.EndCounts.{ended_around_few, ended_few}
use Rattle.dl_making.proofs.MakingLemmas.{Knows, same_index, told_same, wants, wants_around, wants_index, was_told, was_told_around}

-- where memory was refused for the reading
pub refused_by : {A : Type 0} (ended : Result A RunFault) (f : Option RunFault) → f ≡ result_err ended
    → ended ≡ Err fault.NoMemory → f ≡ Some fault.NoMemory
refused_by ended f is e = is ∙ ap result_err e

-- the index of what a maker was told, where memory sufficed for the reading
abbrev pub ToldIndex : {M : Type 0} → (refuses : M → ℕ → Type 0) → Table → (new : Maker M) → Result (Vec ℕ) NoMemory → Type 0
ToldIndex {M} refuses table new index =
    MatchResult index (λ i. (first : Maker M) (start held : Option (List ℕ)) (visits : List Visit)
    → Making refuses first new start held visits → IsIndexOf table.all (id_kept table) (told_after first visits) i.items)
    (λ _. (first : Maker M) (start held : Option (List ℕ)) (visits : List Visit)
    → Making refuses first new start held visits → WantsAfter refuses first visits)

pub told_index_is : {M : Type 0} (refuses : M → ℕ → Type 0) (table : Table) (new : Maker M) (r : Result (Vec ℕ) NoMemory)
    → IfOk r (λ i. (first : Maker M) (start held : Option (List ℕ)) (visits : List Visit)
    → Making refuses first new start held visits → IsIndexOf table.all (id_kept table) (told_after first visits) i.items)
    → OnErr r ((first : Maker M) (start held : Option (List ℕ)) (visits : List Visit)
    → Making refuses first new start held visits → WantsAfter refuses first visits)
    → ToldIndex refuses table new r
told_index_is refuses table new (Ok i) told wanted = told
told_index_is refuses table new (Err e) told wanted = wanted

module _ {M : Type 0} (refuses : M → ℕ → Type 0) (dialect : Dialect) (first : Maker M) (table : Table) (s : Strings)
    (knows : Knows first table s) (limit : ℕ) (bytes : List ℕ) (left : Option (List ℕ)) (new : Maker M)
    (start now : Option (List ℕ)) (index : Result (Vec ℕ) NoMemory) where
  abbrev refused_of : ℕ → Type 0
  refused_of = refuses first.memory.now

  of_visits : (visits : List Visit) (f : ℕ → Option _) → ((a : ℕ) → told_after first visits a ≡ f a)
      → AreFew (length (take limit bytes)) visits → Making refuses first new start now visits
      → ToldIndex refuses table new index → IsIndexIf refused_of s table limit bytes f index
  of_visits visits f same few m told = by index told where
    by : (r : Result (Vec ℕ) NoMemory) → ToldIndex refuses table new r → IsIndexIf refused_of s table limit bytes f r
    by (Ok i) is = same_index table.all (id_kept table) (told_after first visits) f i.items same (is first start now visits m)
    by (Err e) wants = wants_index refuses knows refl limit bytes visits f same few (wants first start now visits m)

  of_units : (units : List (List ℕ)) (b back : List ℕ) (ended : Result Summary RunFault)
      → EndsAs dialect limit bytes left units b back ended → Making refuses first new start now (section_visits dialect units b)
      → ToldIndex refuses table new index → IsIndexIf refused_of s table limit bytes (told_in dialect s table units) index
  of_units units b back ended ends =
      of_visits (section_visits dialect units b) (told_in dialect s table units)
      (λ a. told_same dialect first table s knows (section_visits dialect units b) a
      (λ live. located dialect live units (place_at a))
      (λ live. located_of_section live (place_at a) dialect first.unit units b))
      (ended_few dialect limit bytes left units b back ended ends)

  of_blocks : (blocks : List Block) (rest : Rest) (ended : Result Survey RunFault)
      → EndsAround dialect limit bytes left blocks rest ended
      → Making refuses first new start now (visits_around dialect blocks rest)
      → ToldIndex refuses table new index → IsIndexIf refused_of s table limit bytes (told_around dialect s table blocks) index
  of_blocks blocks rest ended ends =
      of_visits (visits_around dialect blocks rest) (told_around dialect s table blocks)
      (λ a. told_same dialect first table s knows (visits_around dialect blocks rest) a
      (λ live. located_around dialect live blocks (place_at a))
      (λ live. located_of_around dialect live (place_at a) first.unit blocks rest))
      (ended_around_few dialect limit bytes left blocks rest ended ends)

  pub until : (ended : Result Summary RunFault) → (ended ≡ Err fault.NoMemory → is_err index ≡ true)
      → (is_refused (result_err ended) ≡ false → ToldIndex refuses table new index)
      → Ran (making_story refuses) dialect limit bytes left first new start now ended
      → MakesUntil refused_of dialect s table limit bytes left ended index
  until (Ok summary) refused told (inl (units, ends, settled)) =
      (units, [], [], ends, of_units units [] [] (Ok summary) ends settled.tells (told refl))
  until (Ok summary) refused told (inr done) = absurd done.4.tells
  until (Err (fault.Write out)) refused told (units, b, back, has, writes) = absurd (let below = writes.3.0 in omega arith)
  until (Err fault.NoMemory) refused told ran = (refused refl, wants refuses knows refl limit bytes left ran)
  until (Err (fault.Damage offset kind)) refused told (units, b, back, inl (ends, settled)) =
      (units, b, back, ends, of_units units b back (Err (fault.Damage offset kind)) ends settled.tells (told refl))
  until (Err (fault.Damage offset kind)) refused told (units, b, back, inr (has, sound, stops)) =
      absurd (let e = stops.reason.is in cc)
  until (Err fault.Read) refused told (units, b, back, inl (ends, settled)) =
      (units, b, back, ends, of_units units b back (Err fault.Read) ends settled.tells (told refl))
  until (Err fault.Read) refused told (units, b, back, inr (has, sound, stops)) = absurd (let e = stops.reason.is in cc)
  until (Err fault.SectionTooLong) refused told (units, b, back, inl (ends, settled)) =
      (units, b, back, ends, of_units units b back (Err fault.SectionTooLong) ends settled.tells (told refl))
  until (Err fault.SectionTooLong) refused told (units, b, back, inr (has, sound, stops)) =
      absurd (let e = stops.reason.is in cc)
  until (Err fault.NotFound) refused told (units, b, back, inl (ends, settled)) = absurd ends
  until (Err fault.TwoSums) refused told (units, b, back, inl (ends, settled)) = absurd ends
  until (Err fault.NoUnit) refused told (units, b, back, inl (ends, settled)) = absurd ends
  until (Err fault.NotFound) refused told (units, b, back, inr (has, sound, stops)) = absurd (let e = stops.reason.is in cc)
  until (Err fault.TwoSums) refused told (units, b, back, inr (has, sound, stops)) = absurd (let e = stops.reason.is in cc)
  until (Err fault.NoUnit) refused told (units, b, back, inr (has, sound, stops)) = absurd (let e = stops.reason.is in cc)
  until (Err (fault.ForeignUnit unit)) refused told (units, b, back, inl (ends, settled)) = absurd ends
  until (Err (fault.ForeignUnit unit)) refused told (units, b, back, inr (has, sound, stops)) =
      absurd (let e = stops.reason.is in cc)
  until (Err (fault.Emit unit e)) refused told (units, b, back, inl (ends, settled)) = absurd ends
  until (Err (fault.Emit unit e)) refused told (units, b, back, inr (has, sound, stops)) =
      absurd (let r = stops.reason.is in cc)

  pub until_around : (ended : Result Survey RunFault) → (ended ≡ Err fault.NoMemory → is_err index ≡ true)
      → (is_refused (result_err ended) ≡ false → ToldIndex refuses table new index)
      → RanAround (making_story refuses) dialect limit bytes left first new start now ended
      → MakesUntilAround refused_of dialect s table limit bytes left ended index
  until_around (Ok survey) refused told (inl (blocks, rest, ends, settled)) =
      (blocks, rest, ends, of_blocks blocks rest (Ok survey) ends settled.tells (told refl))
  until_around (Ok survey) refused told (inr done) = absurd done.4.tells
  until_around (Err (fault.Write out)) refused told (blocks, rest, others, cut, writes) =
      absurd (let below = writes.3.0 in omega arith)
  until_around (Err fault.NoMemory) refused told ran = (refused refl, wants_around refuses knows refl limit bytes left ran)
  until_around (Err (fault.Damage offset kind)) refused told (blocks, rest, inl (ends, settled)) = absurd ends
  until_around (Err (fault.Damage offset kind)) refused told (blocks, rest, inr stops) = absurd (let e = stops.3.reason.is in cc)
  until_around (Err fault.Read) refused told (blocks, rest, inl (ends, settled)) =
      (blocks, rest, ends, of_blocks blocks rest (Err fault.Read) ends settled.tells (told refl))
  until_around (Err fault.Read) refused told (blocks, rest, inr stops) = absurd (let e = stops.3.reason.is in cc)
  until_around (Err fault.SectionTooLong) refused told (blocks, rest, inl (ends, settled)) =
      (blocks, rest, ends, of_blocks blocks rest (Err fault.SectionTooLong) ends settled.tells (told refl))
  until_around (Err fault.SectionTooLong) refused told (blocks, rest, inr stops) = absurd (let e = stops.3.reason.is in cc)
  until_around (Err fault.NotFound) refused told (blocks, rest, inl (ends, settled)) = absurd ends
  until_around (Err fault.TwoSums) refused told (blocks, rest, inl (ends, settled)) = absurd ends
  until_around (Err fault.NoUnit) refused told (blocks, rest, inl (ends, settled)) = absurd ends
  until_around (Err fault.NotFound) refused told (blocks, rest, inr stops) = absurd (let e = stops.3.reason.is in cc)
  until_around (Err fault.TwoSums) refused told (blocks, rest, inr stops) = absurd (let e = stops.3.reason.is in cc)
  until_around (Err fault.NoUnit) refused told (blocks, rest, inr stops) = absurd (let e = stops.3.reason.is in cc)
  until_around (Err (fault.ForeignUnit unit)) refused told (blocks, rest, inl (ends, settled)) = absurd ends
  until_around (Err (fault.ForeignUnit unit)) refused told (blocks, rest, inr stops) = absurd (let e = stops.3.reason.is in cc)
  until_around (Err (fault.Emit unit e)) refused told (blocks, rest, inl (ends, settled)) = absurd ends
  until_around (Err (fault.Emit unit e)) refused told (blocks, rest, inr stops) = absurd (let r = stops.3.reason.is in cc)

-- where memory sufficed for the reading, the maker was told visits
module _ {M : Type 0} (refuses : M → ℕ → Type 0) (dialect : Dialect) (first : Maker M) (limit : ℕ) (bytes : List ℕ)
    (left : Option (List ℕ)) (new : Maker M) (start now : Option (List ℕ)) where
  pub told_until : (ended : Result Summary RunFault) → is_refused (result_err ended) ≡ false
      → Ran (making_story refuses) dialect limit bytes left first new start now ended → WasTold refuses new
  told_until (Ok summary) some ran = was_told refuses dialect first limit bytes left new start now summary ran
  told_until (Err (fault.Write out)) some (units, b, back, has, writes) = absurd (let below = writes.3.0 in omega arith)
  told_until (Err fault.NoMemory) some ran = absurd (let e : true ≡ false = some in cc)
  told_until (Err (fault.Damage offset kind)) some (units, b, back, inl (ends, settled)) =
      (first, start, now, section_visits dialect units b, settled.tells)
  told_until (Err (fault.Damage offset kind)) some (units, b, back, inr (has, sound, stops)) =
      absurd (let e = stops.reason.is in cc)
  told_until (Err fault.Read) some (units, b, back, inl (ends, settled)) =
      (first, start, now, section_visits dialect units b, settled.tells)
  told_until (Err fault.Read) some (units, b, back, inr (has, sound, stops)) = absurd (let e = stops.reason.is in cc)
  told_until (Err fault.SectionTooLong) some (units, b, back, inl (ends, settled)) =
      (first, start, now, section_visits dialect units b, settled.tells)
  told_until (Err fault.SectionTooLong) some (units, b, back, inr (has, sound, stops)) =
      absurd (let e = stops.reason.is in cc)
  told_until (Err fault.NotFound) some (units, b, back, inl (ends, settled)) = absurd ends
  told_until (Err fault.TwoSums) some (units, b, back, inl (ends, settled)) = absurd ends
  told_until (Err fault.NoUnit) some (units, b, back, inl (ends, settled)) = absurd ends
  told_until (Err fault.NotFound) some (units, b, back, inr (has, sound, stops)) = absurd (let e = stops.reason.is in cc)
  told_until (Err fault.TwoSums) some (units, b, back, inr (has, sound, stops)) = absurd (let e = stops.reason.is in cc)
  told_until (Err fault.NoUnit) some (units, b, back, inr (has, sound, stops)) = absurd (let e = stops.reason.is in cc)
  told_until (Err (fault.ForeignUnit unit)) some (units, b, back, inl (ends, settled)) = absurd ends
  told_until (Err (fault.ForeignUnit unit)) some (units, b, back, inr (has, sound, stops)) =
      absurd (let e = stops.reason.is in cc)
  told_until (Err (fault.Emit unit e)) some (units, b, back, inl (ends, settled)) = absurd ends
  told_until (Err (fault.Emit unit e)) some (units, b, back, inr (has, sound, stops)) =
      absurd (let r = stops.reason.is in cc)

  pub told_until_around : (ended : Result Survey RunFault) → is_refused (result_err ended) ≡ false
      → RanAround (making_story refuses) dialect limit bytes left first new start now ended → WasTold refuses new
  told_until_around (Ok survey) some ran = was_told_around refuses dialect first limit bytes left new start now survey ran
  told_until_around (Err (fault.Write out)) some (blocks, rest, others, cut, writes) =
      absurd (let below = writes.3.0 in omega arith)
  told_until_around (Err fault.NoMemory) some ran = absurd (let e : true ≡ false = some in cc)
  told_until_around (Err (fault.Damage offset kind)) some (blocks, rest, inl (ends, settled)) = absurd ends
  told_until_around (Err (fault.Damage offset kind)) some (blocks, rest, inr stops) =
      absurd (let e = stops.3.reason.is in cc)
  told_until_around (Err fault.Read) some (blocks, rest, inl (ends, settled)) =
      (first, start, now, visits_around dialect blocks rest, settled.tells)
  told_until_around (Err fault.Read) some (blocks, rest, inr stops) = absurd (let e = stops.3.reason.is in cc)
  told_until_around (Err fault.SectionTooLong) some (blocks, rest, inl (ends, settled)) =
      (first, start, now, visits_around dialect blocks rest, settled.tells)
  told_until_around (Err fault.SectionTooLong) some (blocks, rest, inr stops) = absurd (let e = stops.3.reason.is in cc)
  told_until_around (Err fault.NotFound) some (blocks, rest, inl (ends, settled)) = absurd ends
  told_until_around (Err fault.TwoSums) some (blocks, rest, inl (ends, settled)) = absurd ends
  told_until_around (Err fault.NoUnit) some (blocks, rest, inl (ends, settled)) = absurd ends
  told_until_around (Err fault.NotFound) some (blocks, rest, inr stops) = absurd (let e = stops.3.reason.is in cc)
  told_until_around (Err fault.TwoSums) some (blocks, rest, inr stops) = absurd (let e = stops.3.reason.is in cc)
  told_until_around (Err fault.NoUnit) some (blocks, rest, inr stops) = absurd (let e = stops.3.reason.is in cc)
  told_until_around (Err (fault.ForeignUnit unit)) some (blocks, rest, inl (ends, settled)) = absurd ends
  told_until_around (Err (fault.ForeignUnit unit)) some (blocks, rest, inr stops) = absurd (let e = stops.3.reason.is in cc)
  told_until_around (Err (fault.Emit unit e)) some (blocks, rest, inl (ends, settled)) = absurd ends
  told_until_around (Err (fault.Emit unit e)) some (blocks, rest, inr stops) = absurd (let r = stops.3.reason.is in cc)
