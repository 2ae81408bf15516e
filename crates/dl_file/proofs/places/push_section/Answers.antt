use Rattle.std.proofs.Common.{◌∙◌, ap, length, sym}
use Rattle.std.proofs.Math.Nat.{div-le_self, le_refl}
use Rattle.std.specs.Prelude.{option_map}
use Rattle.dl_file.proofs.BoundLemmas.{entries_refused, few_pushed, section_most}
use Rattle.dl_file.proofs.places.push_section.Goals as goal
use Rattle.dl_file.proofs.places.push_section.Goals.{then-section-eq-CREL, else-section-eq-CREL}

pub returns-then-is_err-clause-most : goal.returns-then-is_err-clause-most
returns-then-is_err-clause-most g c = λ f is short.
    let old = c.args.places.now.items in
    let entries = c.in-Some.entries.items in
    let all = section_most c.args.section.now f entries
    (sym (ap (option_map (λ v. v.items)) c.in-Some.is) ∙ c.in_ok-entries.ensures.bytes f is short) in
    let failed = sym c.if-is_err.ensures.value in
    elim c.if-section-eq-CREL.branch [
      | then-section-eq-CREL w ↦ entries_refused (g.M.Memory.refuses c.args.memory.now) w.push_compact_places-pushed.result
          c.if-section-eq-CREL.pushed old w.deref.result.now entries f (length w.deref.result.now) w.pushed-is failed
          w.push_compact_places-pushed.ensures.refused (le_refl _) w.deref.ensures.value all
      | else-section-eq-CREL w ↦ entries_refused (g.M.Memory.refuses c.args.memory.now) w.push_places-pushed.result
          c.if-section-eq-CREL.pushed old w.deref-else-section-eq-CREL.result.now entries f _ w.pushed-is failed
          w.push_places-pushed.ensures.refused (div-le_self (length w.deref-else-section-eq-CREL.result.now) _)
          w.deref-else-section-eq-CREL.ensures.value all
    ]

pub returns-clause-few : goal.returns-clause-few
returns-clause-few g c = λ f is short.
    let old = c.args.places.now.items in
    let entries = c.in-Some.entries.items in
    let all = section_most c.args.section.now f entries
    (sym (ap (option_map (λ v. v.items)) c.in-Some.is) ∙ c.in_ok-entries.ensures.bytes f is short) in
    let fine = sym c.if-is_err.ensures.value in
    elim c.if-section-eq-CREL.branch [
      | then-section-eq-CREL w ↦ few_pushed w.push_compact_places-pushed.result c.if-section-eq-CREL.pushed old
          w.push_compact_places-pushed.new.places.items c.if-section-eq-CREL.places.items w.deref.result.now entries f w.pushed-is
          fine w.push_compact_places-pushed.ensures.few (ap (λ v. v.items) w.places-is) w.deref.ensures.value all
      | else-section-eq-CREL w ↦ few_pushed w.push_places-pushed.result c.if-section-eq-CREL.pushed old
          w.push_places-pushed.new.places.items c.if-section-eq-CREL.places.items w.deref-else-section-eq-CREL.result.now entries
          f w.pushed-is fine w.push_places-pushed.ensures.few (ap (λ v. v.items) w.places-is)
          w.deref-else-section-eq-CREL.ensures.value all
    ]
