use Rattle.std.proofs.Common.{◌∙◌, ◌++◌, ◌≤◌, List, None, ℕ, ap, length, refl, subst, sym}
use Rattle.dl_rows.specs.Plain.{along, along_from, files_of, items_of_plain}
use Rattle.dl_sections.specs.Copying.{offset_after as unit_offset}
use Rattle.dl_sections.specs.Visiting.{header_told}
use Rattle.dl_operation_rules.specs.Keeping.{Knows}
use Rattle.dl_operation_rules.specs.Operations.{at_address, seen}
use Rattle.dl_table_rules.specs.Keeping.{AreNamed}
use Rattle.dl_lint.specs.Keeping.{AreOf, after_run}
use Rattle.dl_lint.specs.Linting.{HasLinted, strings_of}
use Rattle.dl_lint.specs.TableRules.{files_named}
use Rattle.dl_lint.specs.declared.reached.Reached.{Reached}
use Rattle.dl_operation_rules.specs.declared.operations.Operations.{Operations}
use Rattle.dl_lint.proofs.PlainGoing.{FindsNothing}
use Rattle.dl_lint.proofs.LintingLemmas.{lints_nothing}
use Rattle.dl_lint.proofs.PlainLemmas.{told_run}
use Rattle.dl_lint.proofs.PlainRowsGoing.{finds_of, header_of_items, no_damage_of_items, reached_is, same_named, unit_of_items, whole_run}
use Rattle.dl_sections.proofs.HeadersTold.{header_told-append}
use Rattle.dl_lint.proofs.FilesLemmas.{unit_offset-append}
use Rattle.dl_lint.proofs.linting.LinterVisitor.plain_run.Goals as goal

pub returns-in_default : goal.returns-in_default
returns-in_default g c = record { heard = λ ones is first start held visits linted. linted }

pub returns-then-not-are_good_rows : goal.returns-then-not-are_good_rows
returns-then-not-are_good_rows g c = record { heard = λ ones is first start held visits linted. linted }

pub returns-then-not-lead : goal.returns-then-not-lead
returns-then-not-lead g c = record {
  heard = λ ones is first start held visits linted.
      subst (λ (operations : Operations). HasLinted g.D.DamageSink.hears first (record c.args.self.now { operations = operations }) start held visits)
      (sym (c.lead.ensures.stays c.if-not-lead.true)) linted;
}

pub returns : goal.returns
returns g c = record {
  heard = λ ones is first start held visits linted. (
      let h = c.args.header.now in
      let run = c.args.run.now in
      let q = first.report.question.now in
      let so = c.if-not-lead.false in
      let begins = c.lead.ensures.starts (seen visits) linted.knows so in
      let p = along h.params (along_from run.from is.file) ones in
      let are = c.in-Some.ensures in
      let whole = sym (ap (λ (r : Reached). r.begun) linted.reached) ∙ are.whole ∙ ap (λ (r : Reached). r.next) linted.reached in
      let going = whole_run (strings_of first) q h visits (along_from run.from is.file) is.one begins.0 ones begins.1 whole refl refl refl is.plain
      (λ some. subst (λ (at : Reached). FindsNothing h at p) linted.reached
      (finds_of h c.args.self.now.at p run is.comes (c.are_good_rows.ensures c.if-not-are_good_rows.false (subst (λ (n : ℕ). 1 ≤ n) (sym is.comes.count) some)))) in
      let items = items_of_plain h ones in
      let more = told_run h ones in
      lints_nothing linted c.go_through.new.self c.lead.new.self c.rows.new.self more going.found (no_damage_of_items items)
      (c.go_through.ensures ∙ ap (λ (at : Reached). after_run at c.in-Some.offsets run.rows) linted.reached
      ∙ reached_is (strings_of first) q h visits (visits ++ more) p ones run c.in-Some.offsets going is.bytes is.last_bytes is.comes
      (subst (λ (at : Reached). AreOf at (length run.bytes.now) run.last_bytes c.in-Some.offsets) linted.reached are))
      (subst (Knows c.lead.new.self) (ap (λ (a : ℕ). record (seen visits) { place = at_address a }) is.comes.to ∙ sym going.sees)
      (c.lead.ensures.takes (seen visits) linted.knows so))
      (record {
        unit = c.rows.ensures.unit ∙ linted.files.unit
            ∙ sym (unit_offset-append 0 visits more ∙ unit_of_items (unit_offset 0 visits) items);
        named = λ kept k told. same_named c.rows.new.self.named k (files_named visits ++ files_of p) _ going.files
            (subst (AreNamed c.rows.new.self.named k) (ap (λ (l : List ℕ). files_named visits ++ l) is.comes.files)
            (c.rows.ensures.named k (files_named visits)
            (linted.files.named kept k (sym (header_told-append None visits more ∙ header_of_items (header_told None visits) items) ∙ told))));
      })
      (going.sequences _ linted.sequences));
}
