use Rattle.std.proofs.Common.{true, [], take, drop, ap, ap₂, sym, subst, ◌∙◌, refl, arith}
use Rattle.std.proofs.lemmas.List.{take_all}
use Rattle.dl_look.specs.FinderRows.{unended}
use Rattle.dl_look.specs.declared.probed.Span.{Span}
use Rattle.dl_look.proofs.MoreRows.{unended-push_end}
use Rattle.dl_stretch.specs.Parts.{ended, current}
use Rattle.dl_stretch.specs.Sequences.{Keeps}
use Rattle.dl_stretch.specs.Spans.{answer_of}
use Rattle.dl_stretch.proofs.PartLemmas.{ended_len, parted_added, whole_added, unit_added}
use Rattle.dl_stretch.proofs.UnitLemmas.{none_more, some_more, or_when}
use Rattle.dl_stretch.proofs.run_spans.RunSpans.end_sequence.Goals as goal

pub returns-in_default-clause-unit : goal.returns-in_default-clause-unit
returns-in_default-clause-unit g c = λ rows r at ends holds. (
    let s = c.args.self.now in
    record {
      right = λ a lt. ap (λ l. answer_of l (drop s.whole_spans s.spans.items) a)
          (c.cut.ensures.runs ∙ take_all c.begun.result (ended s.list) (omega (arith, c.begun.ensures, ended_len s.list)))
          ∙ holds.right a lt
          ∙ none_more rows r ends (current s.list) a (c.in_default.ensures.value (unended rows) r holds.kept at);
      kept = subst (Keeps c.cut.new.self.state (current c.cut.new.self)) (sym (unended-push_end [] rows r ends)) c.cut.ensures.keeps;
    })

pub invariant_of-self-2 : goal.invariant_of-self-2
invariant_of-self-2 g c =
    let s = c.args.self.now in
    let spans = s.spans.items in
    let span : Span = record {
      start = c.begun-2.result;
      len = c.count.result;
      first = c.in-Some.first;
      last = c.args.end;
      rising = true;
    } in
    let pushed = c.in_ok-push.ensures.items in
    record {
      parted = rw (c.keep.ensures.runs, pushed)
          (parted_added (ended s.list) spans s.whole_runs s.whole_spans s.parted (current s.list) c.in-Some.first
          c.args.end c.in-Some.ensures.found c.begun-2.result c.count.result
          (c.begun-2.ensures ∙ sym (ended_len s.list)) c.count.ensures);
    }

pub returns-clause-whole : goal.returns-clause-whole
returns-clause-whole g c = λ a. (
    let s = c.args.self.now in
    let spans = s.spans.items in
    let span : Span = record {
      start = c.begun-2.result;
      len = c.count.result;
      first = c.in-Some.first;
      last = c.args.end;
      rising = true;
    } in
    let pushed = c.in_ok-push.ensures.items in
    ap₂ (λ r l. answer_of r (take s.whole_spans l) a) c.keep.ensures.runs pushed
    ∙ whole_added (ended s.list) spans s.whole_runs s.whole_spans s.parted (current s.list) c.in-Some.first
    c.args.end c.in-Some.ensures.found c.begun-2.result c.count.result (c.begun-2.ensures ∙ sym (ended_len s.list))
    c.count.ensures a)

pub returns-clause-unit : goal.returns-clause-unit
returns-clause-unit g c = λ rows r here ends holds. (
    let s = c.args.self.now in
    let spans = s.spans.items in
    let span : Span = record {
      start = c.begun-2.result;
      len = c.count.result;
      first = c.in-Some.first;
      last = c.args.end;
      rising = true;
    } in
    let pushed = c.in_ok-push.ensures.items in
    record {
      right = λ a lt. ap₂ (λ r l. answer_of r (drop s.whole_spans l) a) c.keep.ensures.runs pushed
          ∙ unit_added (ended s.list) spans s.whole_runs s.whole_spans s.parted (current s.list) c.in-Some.first
          c.args.end c.in-Some.ensures.found c.begun-2.result c.count.result
          (c.begun-2.ensures ∙ sym (ended_len s.list)) c.count.ensures a lt
          ∙ or_when a c.in-Some.first c.args.end _ _ (current s.list) (current s.list) (holds.right a lt) refl
          ∙ some_more rows r ends (current s.list) a lt c.in-Some.first c.args.end (sym here)
          (c.in-Some.ensures.value (unended rows) r holds.kept here);
      kept = subst (Keeps c.keep.new.self.state (current c.keep.new.self)) (sym (unended-push_end [] rows r ends))
          c.keep.ensures.keeps;
    })
