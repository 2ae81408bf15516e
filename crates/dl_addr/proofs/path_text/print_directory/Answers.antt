use Rattle.std.proofs.Common.{◌≡◌, ℕ, List, Option, [], ◌++◌, refl, sym, ap, subst}
use Rattle.std.specs.Option.{option_copied}
use Rattle.std.specs.Prelude.{unwrap_or}
use Rattle.dl_print.specs.Output.{Prints}
use Rattle.dl_addr.specs.declared.style.AnswerForm.{AnswerForm}
use Rattle.dl_addr.specs.declared.style.AnswerForm.TheVariants.{Location, AddressAndLocation, Json}
use Rattle.dl_path.specs.Paths.{slash_after}
use Rattle.dl_addr.specs.Printing.{inner_text}
use Rattle.dl_path.proofs.FrontLemmas.{json_nothing}
use Rattle.dl_path.proofs.PrintLemmas.{prints_same}
use Rattle.dl_addr.proofs.path_text.print_directory.Goals as goal

no_text : (form : AnswerForm) → [] ≡ inner_text form [] ++ slash_after []
no_text Location = refl
no_text AddressAndLocation = refl
no_text Json = sym (ap (λ (w : List ℕ). w ++ []) json_nothing)

pub returns-in-None-clause-printed : goal.returns-in-None-clause-printed
returns-in-None-clause-printed g c =
    let form = c.args.form in
    let old = g.W.Write.contents c.args.output.now in
    let new = g.W.Write.contents c.put.new.output in
    subst (λ (o : Option (List ℕ)). Prints old new c.args.printer.now c.put.new.self
    (inner_text form (unwrap_or o []) ++ slash_after (unwrap_or o [])) c.put.result)
    (sym (ap option_copied c.in-None.is))
    (prints_same old new c.args.printer.now c.put.new.self [] (inner_text form [] ++ slash_after []) c.put.result
    (no_text form) c.put.ensures.printed)
