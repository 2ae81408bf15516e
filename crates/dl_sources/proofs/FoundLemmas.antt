-- The source files that are found and not printed.
use Rattle.std.proofs.Common.{◌≡◌, inl, inr, ℕ, Bool, true, false, List, [], ◌∷◌, map}
use Rattle.std.proofs.Common.{Option, Some, Result, Err, refl, sym, ap, ap₂, subst, ◌∙◌, true≢false}
use Rattle.std.specs.Prelude.{◌||◌}
use Rattle.std.specs.BTreeMap.{IsOrdered}
use Rattle.std.specs.Cmp.Lexicographic.{on_texts, slice_cmp}
use Rattle.std.specs.Global.{Vec}
use Rattle.std.specs.List.{All, AllByRecursion}
use Rattle.std.specs.List.Sorted.{IsStrictlySortedBy}
use Rattle.std.specs.Map.{keys_of}
use Rattle.std.specs.Ordering.{nat_cmp}
use Rattle.std.specs.declared.cmp.Ordering.TheVariants.{Less}
use Rattle.std.proofs.lemmas.List.Elements.{All-head, All-tail}
use Rattle.std.proofs.lemmas.Map.Views.{All-found}
use Rattle.dl_head.specs.declared.dialect.Dialect.{Dialect}
use Rattle.dl_print.specs.declared.summary.Summary.{Summary}
use Rattle.dl_print.specs.ValueText.{Strings}
use Rattle.dl_sections.specs.declared.around.Survey.{Survey}
use Rattle.dl_sections.specs.declared.fault.RunFault.{RunFault}
use Rattle.dl_sections.specs.declared.fault.RunFault.TheVariants as fault
use Rattle.dl_sections.specs.Around.{EndsAround, RanAround}
use Rattle.dl_sections.specs.Section.{EndsAs}
use Rattle.dl_sections.specs.Visiting.{Ran}
use Rattle.dl_sources.specs.declared.finding.FoundSources.{FoundSources}
use Rattle.dl_sources.specs.declared.lister.Lister.{Lister}
use Rattle.dl_sources.specs.declared.question.FilesQuestion.{FilesQuestion}
use Rattle.dl_sources.specs.declared.table.PathTotals.{PathTotals}
use Rattle.dl_sources.specs.declared.table.SourceTable.{SourceTable}
use Rattle.dl_sources.specs.AroundCommands.{mentions_around}
use Rattle.dl_sources.specs.Ended.{is_want}
use Rattle.dl_sources.specs.FoundSources.{FindsSources, FindsSourcesAround, IsNothing, asked}
use Rattle.dl_sources.specs.Holding.{Holds, looked, paths_in}
use Rattle.dl_sources.specs.Listing.{listing_story}
use Rattle.dl_sources.specs.SectionTold.{mentions_of}
use Rattle.dl_sources.specs.SourceFiles.{SourceFile, file_seen, file_told, files_held, files_told}
use Rattle.dl_sources.specs.Sources.{Mention, Totals}
use Rattle.dl_sources.proofs.AroundLemmas as around
use Rattle.dl_sources.proofs.CommandLemmas as whole
use Rattle.dl_sources.proofs.CommandLemmas.{Knows, first_false, second_false}
use Rattle.dl_sources.proofs.OrderLemmas.{texts_in_order}
use Rattle.dl_sources.proofs.TableLemmas.{found_is, order, paths_by_keys}

-- ---- a table

above_keys : (k : Vec ℕ) (keys : List (Vec ℕ))
    → AllByRecursion (λ (y : List ℕ). slice_cmp nat_cmp k.items y ≡ Less) (map (λ (x : Vec ℕ). x.items) keys)
    → AllByRecursion (λ (y : Vec ℕ). order k y ≡ Less) keys
above_keys k [] above = tt
above_keys k (x ∷ keys) above = (above.0, above_keys k keys above.1)

-- keys stand in order where their texts do
keys_sorted : (keys : List (Vec ℕ)) → IsStrictlySortedBy (slice_cmp nat_cmp) (map (λ (x : Vec ℕ). x.items) keys)
    → IsStrictlySortedBy order keys
unfolding IsStrictlySortedBy
keys_sorted [] sorted = tt
keys_sorted (k ∷ keys) sorted = (above_keys k keys sorted.0, keys_sorted keys sorted.1)

module _ (t : SourceTable) (mentions : List Mention) (held : Holds t mentions) where
  abbrev Entry : Type 0
  Entry = Vec ℕ × PathTotals

  ordered : IsOrdered order t.paths
  ordered =
      keys_sorted (keys_of t.paths.entries)
      (subst (IsStrictlySortedBy (slice_cmp nat_cmp)) (sym held.paths ∙ paths_by_keys t.paths.entries)
      (texts_in_order (map (λ (m : Mention). m.path) mentions)).0)

  -- what is found at the path of an entry
  abbrev IsFound : Entry → Type 0
  IsFound e = looked e.0.items t.paths.entries ≡ Some e.1

  file_is : (e : Entry) → IsFound e → file_seen e ≡ file_told mentions e.0.items
  file_is e found =
      ap (λ (x : Totals). record { path = e.0.items; totals = x })
      (sym (found_is e.0.items t.paths.entries e.1 found) ∙ held.each e.0.items)

  files_same : (es : List Entry) → All IsFound es → map file_seen es ≡ map (file_told mentions) (paths_in es)
  files_same [] all = refl
  files_same (e ∷ es) all =
      ap₂ (λ (f : SourceFile) (fs : List SourceFile). f ∷ fs) (file_is e (All-head IsFound e es all))
      (files_same es (All-tail IsFound e es all))

  -- it holds the files that are told
  pub files_is : files_held t ≡ files_told mentions
  files_is =
      files_same t.paths.entries (All-found (on_texts (λ (v : Vec ℕ). v.items)) t.paths ordered)
      ∙ ap (map (file_told mentions)) held.paths

-- ---- how the reading ended

module _ {A : Type 0} (found : FoundSources A) (ended : Result A RunFault) (refused : Bool) (table : SourceTable)
    (wants : (refused || is_want ended) ≡ true → IsNothing found)
    (finds : (refused || is_want ended) ≡ false → (found.end ≡ ended) × (found.table ≡ table)) where
  pub read_before : found.end ≡ Err fault.Read → ended ≡ Err fault.Read
  read_before e = by (refused || is_want ended) refl where
    by : (b : Bool) → (refused || is_want ended) ≡ b → ended ≡ Err fault.Read
    by true is = absurd (let other = sym (wants is).0 ∙ e in cc)
    by false is = sym (finds is).0 ∙ e

  pub ends_with : (P : Result A RunFault → Type 0) → P (Err fault.NoMemory) → P ended → P found.end
  ends_with P none p = by (refused || is_want ended) refl where
    by : (b : Bool) → (refused || is_want ended) ≡ b → P found.end
    by true is = subst P (sym (wants is).0) none
    by false is = subst P (sym (finds is).0) p

  pub not_refused : (refused || is_want ended) ≡ false → found.end ≡ Err fault.NoMemory → ⊥
  not_refused is e =
      true≢false (sym (ap is_want (sym (finds is).0 ∙ e)) ∙ second_false refused (is_want ended) is)

-- ---- the whole

module _ {M : Type 0} (refuses : M → ℕ → Type 0) (dialect : Dialect) (first : Lister M) (q : FilesQuestion) (s : Strings)
    (knows : Knows first (asked q) s) (memory : M) (same : first.memory.now ≡ memory) (limit : ℕ) (bytes : List ℕ)
    (left : Option (List ℕ)) (new : Lister M) (start mid : Option (List ℕ)) where
  pub are_found : (found : FoundSources Summary) (ended : Result Summary RunFault)
      → ((new.is_refused || is_want ended) ≡ true → IsNothing found)
      → ((new.is_refused || is_want ended) ≡ false → (found.end ≡ ended) × (found.table ≡ new.table))
      → Ran (listing_story refuses) dialect limit bytes left first new start mid ended
      → FindsSources (refuses memory) dialect s q limit bytes left found
  are_found found ended wants finds ran = by (new.is_refused || is_want ended) refl where
    by : (b : Bool) → (new.is_refused || is_want ended) ≡ b → FindsSources (refuses memory) dialect s q limit bytes left found
    by true is = inl (
      wants is,
      (whole.wanted refuses dialect first (asked q) s knows memory same limit bytes left new start mid ended is ran).0,
    )
    by false is =
        let none = second_false new.is_refused (is_want ended) is in
        let r = whole.reads refuses dialect first (asked q) s knows memory same limit bytes left new start mid ended none ran in
        inr (
          not_refused found ended new.is_refused new.table wants finds is,
          (
            r.units,
            r.b,
            r.back,
            subst (EndsAs dialect limit bytes left r.units r.b r.back) (sym (finds is).0) r.ends,
            ap files_held (finds is).1
                ∙ files_is new.table (mentions_of dialect s (asked q) r.units)
                (whole.holds refuses dialect first (asked q) s knows memory same limit bytes left new start mid
                (first_false new.is_refused (is_want ended) is) ended r),
          ),
        )

  pub are_found_around : (found : FoundSources Survey) (ended : Result Survey RunFault)
      → ((new.is_refused || is_want ended) ≡ true → IsNothing found)
      → ((new.is_refused || is_want ended) ≡ false → (found.end ≡ ended) × (found.table ≡ new.table))
      → RanAround (listing_story refuses) dialect limit bytes left first new start mid ended
      → FindsSourcesAround (refuses memory) dialect s q limit bytes left found
  are_found_around found ended wants finds ran = by (new.is_refused || is_want ended) refl where
    by : (b : Bool) → (new.is_refused || is_want ended) ≡ b
        → FindsSourcesAround (refuses memory) dialect s q limit bytes left found
    by true is = inl (
      wants is,
      (around.wanted_around refuses dialect first (asked q) s knows memory same limit bytes left new start mid ended is ran).0,
    )
    by false is =
        let none = second_false new.is_refused (is_want ended) is in
        let r = around.reads refuses dialect first (asked q) s knows memory same limit bytes left new start mid ended none ran in
        inr (
          not_refused found ended new.is_refused new.table wants finds is,
          (
            r.blocks,
            r.rest,
            subst (EndsAround dialect limit bytes left r.blocks r.rest) (sym (finds is).0) r.ends,
            ap files_held (finds is).1
                ∙ files_is new.table (mentions_around dialect s (asked q) r.blocks)
                (around.holds refuses dialect first (asked q) s knows memory same limit bytes left new start mid
                (first_false new.is_refused (is_want ended) is) ended r),
          ),
        )
