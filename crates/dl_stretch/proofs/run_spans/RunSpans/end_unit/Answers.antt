use Rattle.std.proofs.Common.{take, length, ap, sym, ◌∙◌, arith}
use Rattle.dl_stretch.specs.Parts.{ended}
use Rattle.dl_stretch.specs.Runs.{number_in}
use Rattle.dl_stretch.specs.Spans.{answer_of}
use Rattle.dl_stretch.proofs.PartLemmas.{ended_len, parted_ended, answer_ended}
use Rattle.dl_stretch.proofs.run_spans.RunSpans.end_unit.Goals as goal

pub invariant_of-self : goal.invariant_of-self
invariant_of-self c =
    let s = c.args.self.now in
    record {
      parted = rw c.renumber.ensures.runs
          (parted_ended (ended s.list) s.spans.items s.whole_runs s.whole_spans s.parted
          (number_in c.args.numbers.now c.args.other) c.begun-self.result c.len-self.result
          (c.begun-self.ensures ∙ sym (ended_len c.renumber.new.self) ∙ ap length c.renumber.ensures.runs)
          (omega (arith, c.len-self.ensures, s.spans.ok.0)));
    }

pub returns-clause-whole : goal.returns-clause-whole
returns-clause-whole c = λ a lt. (
    let s = c.args.self.now in
    ap (λ l. answer_of l (take c.len-self.result s.spans.items) a) c.renumber.ensures.runs
    ∙ answer_ended (ended s.list) s.spans.items s.whole_runs s.whole_spans s.parted
    (number_in c.args.numbers.now c.args.other) c.len-self.result a (omega (arith, c.len-self.ensures, s.spans.ok.0)) lt)
