-- What runs hold of the numbers of files, and of is_stmt.
use Rattle.std.proofs.Common.{◌≡◌, ℕ, ◌<◌, ◌^◌, Bool, true, false, List, length, arith, inl, inr}
use Rattle.std.proofs.Common.{sym, ap, ap₂, ◌∙◌}
use Rattle.std.proofs.lemmas.Bool.{cases_lt}
use Rattle.std.proofs.lemmas.Bool.Decides.{nat_tests}
use Rattle.std.proofs.lemmas.List.{get_or_past}
use Rattle.dl_stretch.specs.declared.told.Told.{Told}
use Rattle.dl_stretch.specs.declared.run.Run.{Run}
use Rattle.dl_stretch.specs.Held.{held, packed, file_in, statement_in, told_by, AreHeld}
use Rattle.dl_stretch.specs.Renumbered.{renumbered_run}
use Rattle.dl_stretch.specs.Laws.{HeldAsGiven}
use Rattle.dl_stretch.specs.Runs.{renumbered, number_in}

held_itself : (file : ℕ) → file < 2 ^ 63 → held file ≡ file
held_itself file small = omega (arith, small)

pub file_packed : (file : ℕ) (b : Bool) → file_in (packed file b) ≡ held file
file_packed file true = omega arith
file_packed file false = omega arith

pub statement_packed : (file : ℕ) (b : Bool) → statement_in (packed file b) ≡ b
statement_packed file true = grind (arith, nat_tests)
statement_packed file false = grind (arith, nat_tests)

-- another number that is held
pub told_renumbered : (number : ℕ → ℕ) (r : Run)
    → told_by (renumbered_run number r) ≡ renumbered (λ file. held (number file)) (told_by r)
told_renumbered number r =
    let file = file_in r.file_and_statement in
    let is_stmt = statement_in r.file_and_statement in
    ap₂ (λ (f : ℕ) (b : Bool). let t : Told = record {
      file = f;
      line = r.line;
      column = r.column;
      discriminator = r.discriminator;
      is_stmt = b;
    } in t) (file_packed (number file) is_stmt)
    (statement_packed (number file) is_stmt)

-- the numbers of a list that are held
module _ (numbers : List ℕ) (other : ℕ) (are : AreHeld numbers other) where
  number_small : (file : ℕ) → number_in numbers other file < 2 ^ 63
  number_small file = elim (cases_lt file (length numbers)) [
    | inl lt ↦ are.small file other lt
    | inr le ↦ (let e = get_or_past numbers file other le in omega (arith, e, are.other_small))
  ]

  number_held : (file : ℕ) → number_in numbers other (held file) ≡ number_in numbers other file
  number_held file = elim (cases_lt file (2 ^ 63)) [
    | inl lt ↦ ap (number_in numbers other) (held_itself file lt)
    | inr le ↦ get_or_past numbers (held file) other (omega (arith, le, are.few))
        ∙ sym (get_or_past numbers file other (omega (arith, le, are.few)))
  ]

pub held_as_given : HeldAsGiven
held_as_given numbers other are file =
    held_itself (number_in numbers other (held file)) (number_small numbers other are (held file))
    ∙ number_held numbers other are file
