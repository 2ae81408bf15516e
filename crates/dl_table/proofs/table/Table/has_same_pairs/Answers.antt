use Rattle.std.proofs.Common.{◌≡◌, Decides, sym, ◌∙◌, rules}
use denote.Enum.Bare.{same_true}
use Rattle.std.proofs.lemmas.Slice.Eq.{slice_eq-Decides}
use Rattle.dl_table.specs.declared.table.Pair.{Pair}
use Rattle.dl_table.specs.contracts.form.Format.{the_type}
use Rattle.dl_table.specs.contracts.table.PairPartialEq.TheImpl.{eq-value}
use Rattle.dl_table.proofs.table.Table.has_same_pairs.Goals as goal

each : (p q : Pair) → Decides (eq-value.it p q) (p ≡ q)
each p q = search rules

pub returns-then-eq : goal.returns-then-eq
returns-then-eq c =
    let compared = slice_eq-Decides each c.pairs.result.now c.pairs-then-eq.result.now c.eq-then-eq.result
    c.eq-then-eq.ensures in
    let pairs = rw (c.pairs.ensures, c.pairs-then-eq.ensures) at compared in
    let format = sym c.format.ensures.value ∙ same_true the_type (search rules) _ _ (sym c.if-eq.ensures)
    ∙ c.format-2.ensures.value in
    (λ r. (format, pairs.0 r), λ h. pairs.1 h.1)
