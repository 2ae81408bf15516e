-- What the writing of an index comes to.
use Rattle.std.proofs.Common.{◌≡◌, ℕ, List, [], Option, Some, None, Result, Ok, Err, refl}
use Rattle.std.specs.Prelude.{MatchResult, OnOk}
use Rattle.std.specs.Io.KnownBytes.{Appends, Keeps}
use Rattle.dl_head.specs.declared.dialect.Dialect.{Dialect}
use Rattle.dl_print.specs.declared.fault.WriteFault.{WriteFault}
use Rattle.dl_print.specs.declared.output.Printer.{Printer}
use Rattle.dl_print.specs.Output.{HasPrinted, TellsOut}
use Rattle.dl_print.specs.ValueText.{Strings}
use Rattle.dl_print.proofs.Outs.{HasPrinted-out}
use Rattle.dl_sections.specs.declared.fault.RunFault.{RunFault}
use Rattle.dl_sections.specs.declared.fault.RunFault.TheVariants as fault
use Rattle.dl_sections.specs.Blaming.{IsBlamed}
use Rattle.dl_making.specs.declared.making.Made.{Made}
use Rattle.dl_making.specs.declared.making.MadeAround.{MadeAround}
use Rattle.dl_making.specs.declared.making.Table.{Table}
use Rattle.dl_making.specs.Makes.{Makes, MakesAround}
use Rattle.dl_making.specs.Writes.{Writes, WritesAround}

-- all that was printed is out
pub flushed : {A : Type 0} (start now : Option (List ℕ)) (text : List ℕ) (p : Printer) (r : Result A WriteFault)
    → MatchResult r (λ _. HasPrinted start now text p) (λ f. TellsOut start now text f) → OnOk r (p.pending ≡ [])
    → MatchResult r (λ _. Appends start now text) (TellsOut start now text)
flushed start now text p (Ok x) printed empty = HasPrinted-out start now text p printed empty
flushed start now text p (Err f) lost empty = lost

-- what isn't written to stays as it is
pub keeps_same : (held : Option (List ℕ)) → Keeps held held
keeps_same None = tt
keeps_same (Some text) = refl

module _ (refuses : ℕ → Type 0) (dialect : Dialect) (s : Strings) (table : Table) (limit : ℕ) (bytes : List ℕ) (left start now : Option (List ℕ))
  where
    -- none could be made
    pub not_made : (f : RunFault) → Makes refuses dialect s table limit bytes left (Err f) → Keeps start now
        → Writes refuses dialect s table limit bytes left start now (Err f)
    not_made (fault.Write out) (units, b, back, ends) keeps = absurd ends
    not_made fault.NoMemory makes keeps = (makes, keeps)
    not_made (fault.Damage offset kind) makes keeps = (makes, keeps)
    not_made fault.Read makes keeps = (makes, keeps)
    not_made fault.SectionTooLong makes keeps = (makes, keeps)
    not_made fault.NotFound makes keeps = (makes, keeps)
    not_made fault.TwoSums makes keeps = (makes, keeps)
    not_made fault.NoUnit makes keeps = (makes, keeps)
    not_made (fault.ForeignUnit unit) makes keeps = (makes, keeps)
    not_made (fault.Emit unit e) makes keeps = (makes, keeps)

    pub written : (made : Made) → Makes refuses dialect s table limit bytes left (Ok made) → Appends start now made.index.items
        → Writes refuses dialect s table limit bytes left start now (Ok made.summary)
    written made makes appends = (made.index.items, (makes.0, makes.1, makes.2), appends)

    pub lost : (made : Made) (f : WriteFault) → Makes refuses dialect s table limit bytes left (Ok made)
        → TellsOut start now made.index.items f → Writes refuses dialect s table limit bytes left start now (Err (fault.Write f.out))
    lost made f makes tells = (made.summary, made.index.items, (makes.0, makes.1, makes.2), tells)

    pub written_around : (made : MadeAround) → MakesAround refuses dialect s table limit bytes left (Ok made)
        → Appends start now made.index.items → WritesAround refuses dialect s table limit bytes left start now (Ok made.survey)
    written_around made makes appends = (made.index.items, (makes.0, makes.1, makes.2, makes.3), appends)

    pub lost_around : (made : MadeAround) (f : WriteFault) → MakesAround refuses dialect s table limit bytes left (Ok made)
        → TellsOut start now made.index.items f
        → WritesAround refuses dialect s table limit bytes left start now (Err (fault.Write f.out))
    lost_around made f makes tells = (made.survey, made.index.items, (makes.0, makes.1, makes.2, makes.3), tells)

module _ (fails : Type 0) (refuses : ℕ → Type 0) (dialect : Dialect) (s : Strings) (table : Table) (limit : ℕ) (bytes : List ℕ)
    (left : Option (List ℕ)) where
  -- where none could be made, no write failed
  pub never_written : (f : RunFault) → Makes refuses dialect s table limit bytes left (Err f) → IsBlamed fails f
  never_written (fault.Write out) (units, b, back, ends) = absurd ends
  never_written fault.NoMemory makes = tt
  never_written (fault.Damage offset kind) makes = tt
  never_written fault.Read makes = tt
  never_written fault.SectionTooLong makes = tt
  never_written fault.NotFound makes = tt
  never_written fault.TwoSums makes = tt
  never_written fault.NoUnit makes = tt
  never_written (fault.ForeignUnit unit) makes = tt
  never_written (fault.Emit unit e) makes = tt

  pub never_written_around : (f : RunFault) → MakesAround refuses dialect s table limit bytes left (Err f) → IsBlamed fails f
  never_written_around (fault.Write out) (blocks, rest, ends) = absurd ends
  never_written_around fault.NoMemory makes = tt
  never_written_around (fault.Damage offset kind) makes = tt
  never_written_around fault.Read makes = tt
  never_written_around fault.SectionTooLong makes = tt
  never_written_around fault.NotFound makes = tt
  never_written_around fault.TwoSums makes = tt
  never_written_around fault.NoUnit makes = tt
  never_written_around (fault.ForeignUnit unit) makes = tt
  never_written_around (fault.Emit unit e) makes = tt
