use Rattle.std.proofs.Common.{◌∙◌, sym, ap}
use Rattle.dl_field.specs.declared.params.Params.{Params}
use Rattle.dl_findings.specs.Counting.{at_most_64_bits}
use Rattle.dl_lint.specs.Before.{program_offset}
use Rattle.dl_lint.proofs.KeptLemmas.{at_start, reached_header}
use Rattle.dl_lint.proofs.reached.Reached.at_program.Goals as goal

pub returns : goal.returns
returns c visits =
    let l = c.args.lengths.now in
    let h = c.args.header.now in
    at_start (program_offset c.args.unit l.header_length h.params) c.program_offset-program.result
    (c.program_offset-program.ensures
    ∙ ap (λ (p : Params). at_most_64_bits (program_offset c.args.unit l.header_length p)) c.params.ensures.value)
    ∙ sym (reached_header visits c.args.unit l h)
