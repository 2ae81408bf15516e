-- Where what becomes of a header doesn't depend on the place of its unit, as in `copy`, copies are told by units alone.
use Rattle.dl_memory.specs.Refusals.{IsRefused}
use Rattle.dl_emit.specs.declared.program.TheConstants.{ROW}
use Rattle.dl_sections.specs.declared.copying.Becomes.TheVariants as becomes
use Rattle.dl_sections.proofs.Names.{◌*◌, ◌+◌, ◌∷◌, ◌≡◌, [], AreCopied, AreMade, concat, copied_units, Copies, CopiesAs, CopiesBy}
use Rattle.dl_sections.proofs.Names.{Dialect, Err, inl, inr, IsCopied, length, List, Made, Ok, Option, refl, Result, RunFault}
use Rattle.dl_sections.proofs.Names.{subst, Summary, sym, units_as, WantsForRows, with_standard_opcodes, ℕ}
use Rattle.dl_sections.proofs.Names.fault
use Rattle.dl_sections.proofs.CopyingSections.{WantsBy}

abbrev pub standard : Made
standard offset h = with_standard_opcodes h

module _ (dialect : Dialect) where
  same_text : (offset : ℕ) (units : List (List ℕ)) → units_as standard dialect offset units ≡ copied_units dialect units
  same_text offset [] = refl
  same_text offset (u ∷ units) = rw (same_text (offset + length u) units) refl

  same_units : (offset : ℕ) (units : List (List ℕ)) → AreMade standard dialect offset units ≡ AreCopied dialect units
  same_units offset [] = refl
  same_units offset (u ∷ units) = λ i. IsCopied dialect u × same_units (offset + length u) units i

  module _ (refuses : ℕ → Type 0) (limit : ℕ) (bytes : List ℕ) (left start now : Option (List ℕ)) where
    one_thing : (result : Result Summary RunFault)
        → CopiesAs standard (λ offset b. WantsForRows refuses dialect bytes b) dialect limit bytes left start now result
        ≡ Copies refuses dialect limit bytes left start now result
    one_thing result = λ i.
        CopiesBy (λ units. same_units 0 units i) (λ units. same_text 0 units i) standard
        (λ offset b. WantsForRows refuses dialect bytes b) dialect limit bytes left start now result

    -- memory was refused, for no more bytes than this
    abbrev Few : Type 0
    Few = IsRefused refuses (ROW * length bytes)

    -- no tables are made anew
    of_rows : (offset : ℕ) (b : List ℕ) → WantsBy Few refuses becomes.Itself dialect offset b
        → WantsForRows refuses dialect bytes b
    of_rows offset b (inl wants) = wants
    of_rows offset b (inr (is, h, header, renews)) = absurd renews

    by_rows : (result : Result Summary RunFault)
        → CopiesAs standard (WantsBy Few refuses becomes.Itself dialect) dialect limit bytes left start now result
        → CopiesAs standard (λ offset b. WantsForRows refuses dialect bytes b) dialect limit bytes left start now result
    by_rows (Err fault.NoMemory) (units, b, back, begun, sound, own, inl cell, copied) =
        (units, b, back, begun, sound, own, inl cell, copied)
    by_rows (Err fault.NoMemory) (units, b, back, begun, sound, own, inr wants, copied) =
        (units, b, back, begun, sound, own, inr (of_rows (length (concat units)) b wants), copied)
    by_rows (Err (fault.Write out)) is = is
    by_rows (Err (fault.ForeignUnit offset)) is = is
    by_rows (Err (fault.Emit offset f)) is = is
    by_rows (Err f) is = is
    by_rows (Ok summary) is = is

    pub copies_plainly : (result : Result Summary RunFault)
        → CopiesAs standard (WantsBy Few refuses becomes.Itself dialect) dialect limit bytes left start now result
        → Copies refuses dialect limit bytes left start now result
    copies_plainly result is = subst (λ (T : Type 0). T) (one_thing result) (by_rows result is)

    pub copies_as : (result : Result Summary RunFault) → Copies refuses dialect limit bytes left start now result
        → CopiesAs standard (λ offset b. WantsForRows refuses dialect bytes b) dialect limit bytes left start now result
    copies_as result = subst (λ (T : Type 0). T) (sym (one_thing result))
