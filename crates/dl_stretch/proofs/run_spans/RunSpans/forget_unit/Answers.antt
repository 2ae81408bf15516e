use Rattle.std.proofs.Common.{take, drop, ap₂, ◌∙◌}
use Rattle.dl_stretch.specs.Parts.{ended}
use Rattle.dl_stretch.specs.Spans.{answer_of}
use Rattle.dl_stretch.proofs.PartLemmas.{parted_forgotten, whole_forgotten, unit_forgotten}
use Rattle.dl_stretch.proofs.run_spans.RunSpans.forget_unit.Goals as goal

pub invariant_of-self : goal.invariant_of-self
invariant_of-self c =
    let s = c.args.self.now in
    record {
      parted = rw (c.cut.ensures.runs, c.truncate.ensures.items)
          (parted_forgotten (ended s.list) s.spans.items s.whole_runs s.whole_spans s.parted);
    }

pub returns-clause-whole : goal.returns-clause-whole
returns-clause-whole c = λ a. (
    let s = c.args.self.now in
    ap₂ (λ r l. answer_of r (take s.whole_spans l) a) c.cut.ensures.runs c.truncate.ensures.items
    ∙ whole_forgotten (ended s.list) s.spans.items s.whole_runs s.whole_spans s.parted a)

pub returns-clause-unit : goal.returns-clause-unit
returns-clause-unit c =
    let s = c.args.self.now in
    record {
      right = λ a lt. ap₂ (λ r l. answer_of r (drop s.whole_spans l) a) c.cut.ensures.runs c.truncate.ensures.items
          ∙ unit_forgotten (ended s.list) s.spans.items s.whole_runs s.whole_spans s.parted a;
      kept = c.cut.ensures.keeps;
    }
