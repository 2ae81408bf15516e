use Rattle.std.proofs.Common.{arith, sym, ap, ◌∙◌}
use Rattle.std.specs.Prelude.{option_map}
use Rattle.std.proofs.lemmas.Option.{IfSome_then}
use Rattle.dl_table.specs.Held.{value_lent}
use Rattle.dl_path.proofs.parts.own_path.Goals as goal

pub returns-clause-within : goal.returns-clause-within
returns-clause-within c most few =
    let is = sym (ap (option_map value_lent) c.in_ok-get.was) ∙ c.get.ensures in
    IfSome_then c.text_of.result c.text_of.ensures.within
    (λ t le. omega (arith, le, few (value_lent c.in_ok-get.field-0) (sym is)))
