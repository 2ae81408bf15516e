use Rattle.std.proofs.Common.{◌≡◌, ◌∙◌, Bool, [], ◌∷◌, ap₂, false, sym, true, arith}
use Rattle.std.specs.Prelude.{if◌then◌else◌, nat_lt, not, ◌&&◌}
use Rattle.std.specs.List.{list_any}
use Rattle.std.proofs.lemmas.Bool.Decides.{nat_tests}
use Rattle.dl_sequence_rules.specs.Covering.{touches}
use Rattle.dl_sequence_rules.specs.NoCode.{no_code_of}
use Rattle.dl_sequence_rules.proofs.uncovered.no_code.Goals as goal

pub returns : goal.returns
returns c is =
    let range = c.args.range in
    let some : nat_lt 0 range.size ≡ true = (let ne = c.if-range-eq0.false in grind (arith, nat_tests, ne)) in
    let none : list_any (touches range) c.args.sequences.now ≡ false = sym (c.any_touching.ensures is) ∙ c.if-any_touching.false in
    sym (ap₂ (λ (b d : Bool). if b && not d then no_code_of c.args.offset range ∷ [] else []) some none)
