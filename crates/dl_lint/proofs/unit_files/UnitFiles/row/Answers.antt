use Rattle.std.proofs.Common.{◌++◌, ◌∷◌, [], Bool, ap, append-nil, refl, subst, sym}
use Rattle.std.specs.Prelude.{if◌then◌else◌}
use Rattle.dl_rows.specs.Items.{a_row}
use Rattle.dl_sections.specs.Section.{of_item}
use Rattle.dl_table_rules.specs.Keeping.{AreNamed}
use Rattle.dl_lint.specs.TableRules.{files_named}
use Rattle.dl_lint.proofs.FilesLemmas.{files_more}
use Rattle.dl_lint.proofs.unit_files.UnitFiles.row.Goals as goal

pub returns-then-not-row : goal.returns-then-not-row
returns-then-not-row c rules visits h knows =
    let r = c.args.row.now in
    files_more rules visits (of_item (a_row h r)) refl (λ n. refl) (λ k e. e) c.args.self.now
    (record c.args.self.now { named = c.name.new.self }) (r.file ∷ []) refl
    (ap (λ (b : Bool). (if b then [] else r.file ∷ []) ++ []) c.if-not-row.true)
    (λ k named. c.name.ensures k (files_named visits) named) knows

pub returns-else-not-row : goal.returns-else-not-row
returns-else-not-row c rules visits h knows =
    let r = c.args.row.now in
    files_more rules visits (of_item (a_row h r)) refl (λ n. refl) (λ k e. e) c.args.self.now c.args.self.now [] refl
    (ap (λ (b : Bool). (if b then [] else r.file ∷ []) ++ []) c.if-not-row.false)
    (λ k named. subst (AreNamed c.args.self.now.named k) (sym (append-nil (files_named visits))) named) knows
