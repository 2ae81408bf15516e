use Rattle.std.proofs.Common.{◌∙◌, ◌+◌, ◌++◌, ◌∷◌, [], ap, arith, length, refl, subst, sym}
use Rattle.std.proofs.lemmas.Result.{err_from_is_err_and}
use Rattle.dl_look.specs.declared.place.Place.{Place}
use Rattle.dl_sequence_rules.specs.Keeping.{AreDead}
use Rattle.dl_lint.specs.Before.{sequence_told}
use Rattle.dl_lint.specs.Sequences.{live_in}
use Rattle.dl_lint.specs.declared.reached.Reached.{Reached}
use Rattle.dl_lint.proofs.SequenceLemmas.{sequence_counts, sequence_dies, sequence_kept, sequence_passes}
use Rattle.dl_lint.proofs.sequences_seen.SequencesSeen.end_sequence.Goals.{then-not-keeps_sequences-via-then-not-keeps_sequences}
use Rattle.dl_lint.proofs.sequences_seen.SequencesSeen.end_sequence.Goals.{then-not-keeps_sequences-via-else-not-keeps_sequences+then-not-rises_with}
use Rattle.dl_lint.proofs.sequences_seen.SequencesSeen.end_sequence.Goals as goal

pub returns-then-not-is_code-clause-knows : goal.returns-then-not-is_code-clause-knows
returns-then-not-is_code-clause-knows g c visits h knows is at =
    let q = c.args.question.now in
    let first = c.first_with-first.ensures (sequence_told visits) (ap (λ (a : Reached). a.sequence) is) in
    sequence_dies q visits h c.args.row.now c.requires c.args.self.now _
    (sym (c.is_code.ensures ∙ ap (λ (p : Place). live_in q p.address) first) ∙ c.if-not-is_code.true) refl
    (λ firsts dead. subst (λ (p : Place). AreDead c.add.new.self (firsts ++ p.address ∷ [])) first (c.add.ensures firsts dead)) knows

pub returns-then-not-keeps_sequences-clause-knows : goal.returns-then-not-keeps_sequences-clause-knows
returns-then-not-keeps_sequences-clause-knows g c visits h knows is at =
    let q = c.args.question.now in
    let told = ap (λ (a : Reached). a.sequence) is in
    let first = c.first_with-first.ensures (sequence_told visits) told in
    sequence_passes q visits h c.args.row.now c.requires
    (sym (c.is_code.ensures ∙ ap (λ (p : Place). live_in q p.address) first) ∙ c.if-not-is_code.false) c.args.self.now
    (elim c.then-not-keeps_sequences.branch [
      | then-not-keeps_sequences-via-then-not-keeps_sequences w ↦
          λ keeps. absurd (let e = sym keeps ∙ sym c.keeps_sequences.ensures ∙ w.if-not-keeps_sequences.true in cc)
      | then-not-keeps_sequences-via-else-not-keeps_sequences+then-not-rises_with w ↦
          λ keeps. sym (w.rises_with.ensures visits is) ∙ w.if-not-rises_with.true
    ]) knows

pub returns-in_err-push-clause-kept : goal.returns-in_err-push-clause-kept
returns-in_err-push-clause-kept g c =
    let e = err_from_is_err_and c.from_residual.result c.from_residual.ensures.1 in
    rw e.1 (λ q visits knows. record { dead = knows.dead; ended = λ is. c.in_err-push.ensures.kept ∙ knows.ended is })

pub returns-in_err-push-clause-refused : goal.returns-in_err-push-clause-refused
returns-in_err-push-clause-refused g c =
    let e = err_from_is_err_and c.from_residual.result c.from_residual.ensures.1 in
    rw e.1 (λ visits h knows is.
    let q = c.args.question.now in
    let told = ap (λ (a : Reached). a.sequence) is in
    let first = c.first_with-first.ensures (sequence_told visits) told in
    let keeps = sym c.keeps_sequences.ensures ∙ c.if-not-keeps_sequences.false in
    let counts = sequence_counts q visits h c.args.row.now c.requires
    (sym (c.is_code.ensures ∙ ap (λ (p : Place). live_in q p.address) first) ∙ c.if-not-is_code.false)
    (sym (c.rises_with.ensures visits is) ∙ c.if-not-rises_with.false) c.args.self.now keeps knows in
    (keeps, (length c.args.self.now.ended.items + 1, omega (arith, counts), c.in_err-push.ensures.refused)))

pub returns-clause-knows : goal.returns-clause-knows
returns-clause-knows g c visits h knows is at =
    let q = c.args.question.now in
    let told = ap (λ (a : Reached). a.sequence) is in
    let first = c.first_with-first.ensures (sequence_told visits) told in
    sequence_kept q visits h c.args.row.now c.requires
    (sym (c.is_code.ensures ∙ ap (λ (p : Place). live_in q p.address) first) ∙ c.if-not-is_code.false)
    (sym (c.rises_with.ensures visits is) ∙ c.if-not-rises_with.false) c.args.self.now _ _
    (rw (at, first, is, c.row_seen-row.ensures visits is) refl) refl c.in_ok-push.ensures.items knows
