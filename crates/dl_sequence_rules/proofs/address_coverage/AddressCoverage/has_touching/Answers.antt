use Rattle.std.proofs.Common.{◌≡◌, ◌∙◌, ℕ, ◌+◌, ◌≤◌, ◌<◌, false, inl, inr, List, length, subst, sym, arith}
use Rattle.std.proofs.lemmas.Bool.{cases_Bool}
use Rattle.dl_look.specs.Cuts.{AreCuts, cut_place}
use Rattle.dl_look.specs.declared.cuts.Cut.{Cut}
use Rattle.dl_sequence_rules.specs.Covering.{place_at}
use Rattle.dl_sequence_rules.specs.Cutting.{address_spans_of}
use Rattle.dl_sequence_rules.proofs.NoCodeLemmas.{Reached, none_touches}
use Rattle.dl_sequence_rules.proofs.address_coverage.AddressCoverage.has_touching.Goals as goal

pub returns : goal.returns
returns c is =
    let cuts = c.as_slice-cuts.result.now in
    let range = c.args.range in
    let are = subst (λ (l : List Cut). AreCuts (address_spans_of c.args.sequences.now) l) (sym c.as_slice-cuts.ensures.value) is in
    let ends = λ (k : ℕ) (le : c.cuts_before-high.result ≤ k) (lt : k < length cuts). (
    let h = c.cuts_before-high.ensures.others k le lt in
    let e = c.end_of.ensures in
    let z : range.start + range.size ≤ (cut_place cuts k).address = omega arith in
    z) in
    let upto = c.cuts_upto.ensures in
    let reached : Reached cuts (place_at range.start) c.cuts_upto.result = record { within = upto.within; upto = upto.upto; above = upto.above } in
    let none = λ (no : c.any_touches.result ≡ false).
    none_touches c.args.sequences.now cuts are range c.cuts_upto.result c.saturating_sub-low.result c.cuts_before-high.result
    reached c.saturating_sub-low.ensures c.cuts_before-high.ensures.within ends (c.any_touches.ensures.none no) in
    elim (cases_Bool c.any_touches.result) [
      | inl does ↦ does ∙ sym (c.any_touches.ensures.some does)
      | inr isnt ↦ isnt ∙ sym (none isnt)
    ]
