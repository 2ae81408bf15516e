use Rattle.std.proofs.Common.{◌∙◌, refl, sym, true≢false}
use Rattle.dl_lint.proofs.FilesLemmas.{files_begin}
use Rattle.dl_lint.proofs.unit_files.UnitFiles.of.Goals as goal

pub returns-then-not-contains-clause-knows : goal.returns-then-not-contains-clause-knows
returns-then-not-contains-clause-knows g c visits lengths =
    files_begin c.args.rules.now _ visits c.args.unit lengths c.args.header.now refl
    (λ kept. absurd (true≢false (sym kept ∙ sym c.contains.ensures ∙ c.if-not-contains.true)))

pub returns-clause-knows : goal.returns-clause-knows
returns-clause-knows g c visits lengths =
    files_begin c.args.rules.now _ visits c.args.unit lengths c.args.header.now refl (λ kept. c.in_ok-named.ensures.named)
