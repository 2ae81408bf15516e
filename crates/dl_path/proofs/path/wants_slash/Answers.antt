use Rattle.std.proofs.Common.{◌≡◌, ℕ, ◌<◌, Bool, true, false, List, [], ◌∷◌, length, sym, refl, ◌∙◌, arith}
use Rattle.std.specs.Prelude.{if◌then◌else◌, not}
use Rattle.std.proofs.lemmas.Bool.{eqb-false}
use Rattle.dl_path.proofs.PathLemmas.{slash_after-last}
use Rattle.dl_path.proofs.path.wants_slash.Goals as goal

abbrev slash_if : Bool → List ℕ
slash_if is = if is then 0x2f ∷ [] else []

abbrev slash_unless : Bool → List ℕ
slash_unless is = if is then [] else 0x2f ∷ []

turned : (is : Bool) → slash_unless is ≡ slash_if (not is)
turned true = refl
turned false = refl

pub returns : goal.returns
returns c =
    let directory = c.args.directory.now in
    let some : 0 < length directory =
    let not_zero = eqb-false (length directory) 0 (sym c.is_empty.ensures ∙ c.if-is_empty.false) in
    omega (arith, not_zero) in
    slash_after-last directory 0 some ∙ turned _
