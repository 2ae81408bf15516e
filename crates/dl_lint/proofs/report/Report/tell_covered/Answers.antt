use Rattle.std.proofs.Common.{[], Ok, ap, append-nil, refl, subst, sym}
use Rattle.std.specs.Prelude.{flat_map}
use Rattle.std.proofs.lemmas.Result.{err_from_is_err_and}
use Rattle.dl_sequence_rules.specs.NoCode.{no_code_found}
use Rattle.dl_sequence_rules.specs.SequenceFindings.{overlaps_after, section_found}
use Rattle.dl_lint.proofs.SectionLemmas.{all_out, some_out}
use Rattle.dl_lint.proofs.TellLemmas.{lost, more_told, none_yet, told_last}
use Rattle.dl_lint.specs.Keeping.{AreCovered}
use Rattle.dl_lint.specs.declared.question.LintQuestion.{LintQuestion}
use Rattle.dl_lint.proofs.report.Report.tell_covered.Goals as goal

pub returns-in_err-tell_places-clause-told : goal.returns-in_err-tell_places-clause-told
returns-in_err-tell_places-clause-told g c is =
    let e = err_from_is_err_and c.from_residual.result c.from_residual.ensures.1 in
    let old = g.W.Write.contents c.args.output.now in
    let ss = c.args.sequences.now in
    let found = section_found 0 c.args.self.now.question.now.ranges.now ss in
    rw (e.1, e.2) (some_out old (g.W.Write.contents c.tell_places.new.output) c.args.self.now c.tell_places.new.self found _
    (lost (none_yet old c.args.self.now found) (overlaps_after [] ss) (flat_map (no_code_found 0 ss) c.args.self.now.question.now.ranges.now)
    refl (g.W.Write.contents c.tell_places.new.output) c.tell_places.new.self (overlaps_after [] ss) refl _
    (c.in_err-tell_places.ensures.told ss is)))

pub returns-in_err-tell_addresses-clause-told : goal.returns-in_err-tell_addresses-clause-told
returns-in_err-tell_addresses-clause-told g c is =
    let e = err_from_is_err_and c.from_residual-in_err-tell_addresses.result c.from_residual-in_err-tell_addresses.ensures.1 in
    let old = g.W.Write.contents c.args.output.now in
    let ss = c.args.sequences.now in
    let ranges = flat_map (no_code_found 0 ss) c.args.self.now.question.now.ranges.now in
    let found = section_found 0 c.args.self.now.question.now.ranges.now ss in
    let f1 = more_told (none_yet old c.args.self.now found) (overlaps_after [] ss) ranges refl
    (g.W.Write.contents c.tell_places.new.output) c.tell_places.new.self (overlaps_after [] ss) refl
    (c.in_ok-tell_places.ensures.told ss is) in
    rw (e.1, e.2) (some_out old (g.W.Write.contents c.tell_addresses.new.output) c.args.self.now c.tell_addresses.new.self found _
    (lost f1 ranges [] (sym (append-nil ranges)) (g.W.Write.contents c.tell_addresses.new.output) c.tell_addresses.new.self
    (flat_map (no_code_found 0 ss) c.tell_places.new.self.question.now.ranges.now)
    (ap (λ (q : LintQuestion). flat_map (no_code_found 0 ss) q.ranges.now) f1.adds.question) _
    (c.in_err-tell_addresses.ensures.told (subst (λ (q : LintQuestion). AreCovered q c.args.covered.now ss) (sym f1.adds.question) is))))

pub returns-clause-told : goal.returns-clause-told
returns-clause-told g c is =
    let old = g.W.Write.contents c.args.output.now in
    let mid = g.W.Write.contents c.tell_addresses.new.output in
    let ss = c.args.sequences.now in
    let ranges = flat_map (no_code_found 0 ss) c.args.self.now.question.now.ranges.now in
    let found = section_found 0 c.args.self.now.question.now.ranges.now ss in
    let f1 = more_told (none_yet old c.args.self.now found) (overlaps_after [] ss) ranges refl
    (g.W.Write.contents c.tell_places.new.output) c.tell_places.new.self (overlaps_after [] ss) refl
    (c.in_ok-tell_places.ensures.told ss is) in
    all_out old mid (g.W.Write.contents c.flush.new.output) c.args.self.now c.tell_addresses.new.self found c.flush.new.self
    (told_last f1 ranges [] (sym (append-nil ranges)) mid c.tell_addresses.new.self
    (flat_map (no_code_found 0 ss) c.tell_places.new.self.question.now.ranges.now)
    (ap (λ (q : LintQuestion). flat_map (no_code_found 0 ss) q.ranges.now) f1.adds.question) refl (Ok tt)
    (c.in_ok-tell_addresses.ensures.told (subst (λ (q : LintQuestion). AreCovered q c.args.covered.now ss) (sym f1.adds.question) is))) c.flush.result c.flush.ensures.printed c.flush.ensures.empty
