use Rattle.std.proofs.Common.{List, inl, inr, refl, subst}
use Rattle.std.proofs.KnownBytes.{Keeps-refl}
use Rattle.dl_look.specs.declared.code_ranges.AddressRange.{AddressRange}
use Rattle.dl_open.specs.declared.stop.FileStop.TheVariants as at
use Rattle.dl_linting.specs.Linting.{Asks, is_told_of_file}
use Rattle.dl_linting.proofs.over_file.on_code.Goals as goal

pub returns-in-Ok-clause-ran : goal.returns-in-Ok-clause-ran
returns-in-Ok-clause-ran g c untold f known short =
    let found = c.in-Ok.ensures f known short in
    inr (found.0, found.1, _, found.3, c.of_file.result, subst (λ (ranges : List AddressRange). Asks c.args.choice (is_told_of_file c.args.choice.rules c.in-Ok.code.live) c.in-Ok.code.live ranges c.of_file.result) found.2 c.of_file.ensures, c.on_file.ensures.ran untold f known short)

pub returns-in-Err-clause-ran : goal.returns-in-Err-clause-ran
returns-in-Err-clause-ran g c untold f known short =
    inl (at.File c.args.path c.in-Err.fault, refl, (refl, c.in-Err.ensures f known short), Keeps-refl _, untold)
