use Rattle.std.proofs.Common.{map}
use Rattle.dl_rows.specs.Items.{a_byte}
use Rattle.dl_sections.specs.Section.{of_item}
use Rattle.dl_lint.proofs.FindingLemmas.{found_none, none_at_bytes, no_damage}
use Rattle.dl_lint.specs.Linting.{strings_of}
use Rattle.dl_operation_rules.specs.Operations.{seen}
use Rattle.dl_lint.proofs.FilesLemmas.{files_bytes}
use Rattle.dl_lint.proofs.LintingLemmas.{lints_nothing}
use Rattle.dl_lint.proofs.OperationLemmas.{knows_bytes}
use Rattle.dl_lint.proofs.SequenceLemmas.{sequences_bytes}
use Rattle.dl_lint.proofs.linting.LinterVisitor.bytes.Goals as goal

pub returns-clause-heard : goal.returns-clause-heard
returns-clause-heard g c first start visits linted =
    let bytes = c.args.bytes.now in
    lints_nothing linted c.bytes.new.self c.bytes-2.new.self c.args.self.now.files.now (map of_item (map a_byte bytes))
    (found_none (strings_of first) first.report.question.now visits _ (none_at_bytes (strings_of first) first.report.question.now visits bytes)) (no_damage bytes) (c.bytes.ensures visits linted.reached)
    (knows_bytes c.bytes-2.new.self visits bytes (c.bytes-2.ensures (seen visits) linted.knows))
    (files_bytes first.report.question.now.rules c.args.self.now.files.now visits bytes linted.files)
    (sequences_bytes first.report.question.now c.args.self.now.sequences.now visits bytes linted.sequences)
