use Rattle.std.proofs.Common.{◌∙◌, sym}
use Rattle.std.specs.Prelude.{flat_map}
use Rattle.dl_sequence_rules.specs.NoCode.{no_code_found}
use Rattle.dl_lint.proofs.SectionLemmas.{no_code_unchosen}
use Rattle.dl_lint.proofs.TellLemmas.{told_none}
use Rattle.dl_lint.proofs.report.Report.tell_addresses.Goals as goal

pub returns-then-not-contains-clause-told : goal.returns-then-not-contains-clause-told
returns-then-not-contains-clause-told g c is =
    told_none (g.W.Write.contents c.args.output.now) c.args.self.now
    (flat_map (no_code_found 0 c.args.sequences.now) c.args.self.now.question.now.ranges.now)
    (no_code_unchosen c.args.self.now.question.now.rules (sym c.contains.ensures ∙ c.if-not-contains.true) 0 c.args.sequences.now c.args.self.now.question.now.ranges.now)
