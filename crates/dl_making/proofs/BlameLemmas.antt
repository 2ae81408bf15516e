-- Which reads are blamed, and which writes.
use Rattle.std.proofs.Common.{◌≡◌, None, [], List, ℕ, Option, Result, Ok, Err, inl, inr, subst, sym, ◌∙◌}
use Rattle.std.specs.Prelude.{OnOk}
use Rattle.std.proofs.KnownBytes.{Appends-nil}
use Rattle.std.specs.Global.{Vec}
use Rattle.dl_sections.specs.declared.fault.RunFault.{RunFault}
use Rattle.dl_sections.specs.declared.fault.RunFault.TheVariants as fault
use Rattle.dl_sections.specs.Blaming.{BlamesWriter, NeverBlames}
use Rattle.dl_sections.specs.Ending.{WhereWhole}
use Rattle.dl_head.specs.declared.dialect.Dialect.{Dialect}
use Rattle.dl_print.specs.declared.summary.Summary.{Summary}
use Rattle.dl_print.specs.ValueText.{Strings}
use Rattle.dl_sections.specs.declared.around.Survey.{Survey}
use Rattle.dl_making.specs.declared.making.Table.{Table}
use Rattle.dl_making.specs.Until.{MakesUntil, MakesUntilAround}
use Rattle.dl_memory.specs.declared.memory.NoMemory.{NoMemory}
use Rattle.dl_making.specs.WritesUntil.{WritesMade}
use Rattle.dl_making.specs.declared.maker.Maker.{Maker}
use Rattle.dl_making.specs.Making.{Making, making_story}

-- memory is wanted, and no read failed
pub never_read : {M : Type 0} (refuses : M → ℕ → Type 0) (first : Maker M) → Making refuses first first None None []
    → NeverBlames (making_story refuses) first None
never_read refuses first tells = record {
  tells = tells;
  out = Appends-nil None;
  never = λ visits e. (let is = e.is in absurd cc);
}

-- a failed read that is told is the one that ended the making
pub made_read : {A : Type 0} (ended : Result A RunFault) (index : Result (Vec ℕ) NoMemory) (start now : Option (List ℕ))
    (result : Result A RunFault) → WritesMade ended index start now result → result ≡ Err fault.Read
    → ended ≡ Err fault.Read
made_read ended (Ok index) start now result (inl written) e = sym written.0 ∙ e
made_read ended (Ok index) start now result (inr (lost, is, tells)) e = absurd cc
made_read ended (Err refused) start now result made e = let is = made.0 in absurd cc

-- success that is told is that of the making
pub made_over : (P : Type 0) (ended : Result Summary RunFault) (index : Result (Vec ℕ) NoMemory) (start now : Option (List ℕ))
    (result : Result Summary RunFault) → WritesMade ended index start now result → OnOk ended P → OnOk result P
made_over P ended (Ok index) start now result (inl written) over =
    subst (λ (r : Result Summary RunFault). OnOk r P) (sym written.0) over
made_over P ended (Ok index) start now result (inr (lost, is, tells)) over =
    subst (λ (r : Result Summary RunFault). OnOk r P) (sym is) tt
made_over P ended (Err refused) start now result made over =
    subst (λ (r : Result Summary RunFault). OnOk r P) (sym made.0) tt

pub made_where : (P : Type 0) (ended : Result Survey RunFault) (index : Result (Vec ℕ) NoMemory) (start now : Option (List ℕ))
    (result : Result Survey RunFault) → WritesMade ended index start now result → WhereWhole P ended → WhereWhole P result
made_where P ended (Ok index) start now result (inl written) over = subst (WhereWhole P) (sym written.0) over
made_where P ended (Ok index) start now result (inr (lost, is, tells)) over = subst (WhereWhole P) (sym is) tt
made_where P ended (Err refused) start now result made over = subst (WhereWhole P) (sym made.0) tt

module _ (fails : Type 0) (refuses : ℕ → Type 0) (dialect : Dialect) (s : Strings) (table : Table) (limit : ℕ) (bytes : List ℕ)
    (left : Option (List ℕ)) where
  -- no write failed while one was made
  pub never_until : (ended : Result Summary RunFault) (index : Result (Vec ℕ) NoMemory)
      → MakesUntil refuses dialect s table limit bytes left ended index → BlamesWriter fails ended
  never_until (Ok summary) index makes = tt
  never_until (Err (fault.Write out)) index (units, b, back, ends, is) = absurd ends
  never_until (Err fault.NoMemory) index makes = tt
  never_until (Err (fault.Damage offset kind)) index makes = tt
  never_until (Err fault.Read) index makes = tt
  never_until (Err fault.SectionTooLong) index makes = tt
  never_until (Err fault.NotFound) index makes = tt
  never_until (Err fault.TwoSums) index makes = tt
  never_until (Err fault.NoUnit) index makes = tt
  never_until (Err (fault.ForeignUnit unit)) index makes = tt
  never_until (Err (fault.Emit unit e)) index makes = tt

  pub never_until_around : (ended : Result Survey RunFault) (index : Result (Vec ℕ) NoMemory)
      → MakesUntilAround refuses dialect s table limit bytes left ended index → BlamesWriter fails ended
  never_until_around (Ok survey) index makes = tt
  never_until_around (Err (fault.Write out)) index (blocks, rest, ends, is) = absurd ends
  never_until_around (Err fault.NoMemory) index makes = tt
  never_until_around (Err (fault.Damage offset kind)) index makes = tt
  never_until_around (Err fault.Read) index makes = tt
  never_until_around (Err fault.SectionTooLong) index makes = tt
  never_until_around (Err fault.NotFound) index makes = tt
  never_until_around (Err fault.TwoSums) index makes = tt
  never_until_around (Err fault.NoUnit) index makes = tt
  never_until_around (Err (fault.ForeignUnit unit)) index makes = tt
  never_until_around (Err (fault.Emit unit e)) index makes = tt
