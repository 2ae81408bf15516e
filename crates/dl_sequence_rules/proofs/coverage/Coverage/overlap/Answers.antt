use Rattle.std.proofs.Common.{◌∙◌, List, ◌∷◌, [], ap, subst, sym, arith}
use Rattle.std.specs.Prelude.{option_to_list}
use Rattle.dl_look.specs.Cuts.{AreCuts}
use Rattle.dl_look.specs.declared.cuts.Cut.{Cut}
use Rattle.dl_findings.specs.declared.finding.Finding.{Finding}
use Rattle.dl_sequence_rules.specs.Alone.{no_ended}
use Rattle.dl_sequence_rules.specs.Cutting.{spans_of}
use Rattle.dl_sequence_rules.proofs.OverlapLemmas.{an_overlap, no_overlap, other_within}
use Rattle.dl_sequence_rules.proofs.coverage.Coverage.overlap.Goals as goal

pub returns-in_err-shared : goal.returns-in_err-shared
returns-in_err-shared c is =
    let read = c.in_ok-sequence.ensures.lookup.3 in
    let low = c.cuts_below-low.ensures in
    let high = c.cuts_below-high.ensures in
    let are = subst (λ (l : List Cut). AreCuts (spans_of c.args.sequences.now) l) (sym c.as_slice-cuts.ensures.value) is in
    ap option_to_list c.from_residual-in_err-shared.ensures
    ∙ no_overlap c.args.sequences.now c.args.at c.in_ok-sequence.field-0.now (sym (read.1 no_ended)) c.as_slice-cuts.result.now
    are read.0 c.cuts_below-low.result c.cuts_below-high.result high.within low.below low.others high.below high.others
    c.in_err-shared.ensures

pub returns-in_err-other : goal.returns-in_err-other
returns-in_err-other c is =
    let read = c.in_ok-sequence.ensures.lookup.3 in
    let low = c.cuts_below-low.ensures in
    let high = c.cuts_below-high.ensures in
    let are = subst (λ (l : List Cut). AreCuts (spans_of c.args.sequences.now) l) (sym c.as_slice-cuts.ensures.value) is in
    let shared = c.in_ok-shared.ensures in
    let within =
    other_within c.args.sequences.now c.args.at c.in_ok-sequence.field-0.now (sym (read.1 no_ended)) c.as_slice-cuts.result.now
    are read.0 c.cuts_below-low.result c.cuts_below-high.result high.within low.below low.others high.below high.others
    shared.0 c.in_ok-shared.shared.other shared.1 shared.2 shared.4 shared.5 shared.6 in
    let past = c.in_err-other.ensures.lookup.3 in
    absurd (omega arith)

pub returns : goal.returns
returns c is =
    let read = c.in_ok-sequence.ensures.lookup.3 in
    let low = c.cuts_below-low.ensures in
    let high = c.cuts_below-high.ensures in
    let are = subst (λ (l : List Cut). AreCuts (spans_of c.args.sequences.now) l) (sym c.as_slice-cuts.ensures.value) is in
    let shared = c.in_ok-shared.ensures in
    ap (λ (f : Finding). f ∷ []) c.overlap_of.ensures
    ∙ an_overlap c.args.sequences.now c.args.at c.in_ok-sequence.field-0.now (sym (read.1 no_ended)) c.as_slice-cuts.result.now
    are read.0 c.cuts_below-low.result c.cuts_below-high.result high.within low.below low.others high.below high.others
    shared.0 c.in_ok-shared.shared.other shared.1 shared.2 shared.4 shared.5 shared.6 c.in_ok-shared.shared.place
    c.in_ok-other.other.now shared.3 (sym (c.in_ok-other.ensures.lookup.3.1 no_ended))
