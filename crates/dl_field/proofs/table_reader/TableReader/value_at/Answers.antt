use Rattle.std.proofs.Common.{◌∷◌, drop, Some, sym, ap, subst, ◌∙◌, ℕ, ◌+◌, arith}
use Rattle.std.proofs.lemmas.List.{drop_more}
use Rattle.dl_table.specs.declared.table.Pair.{Pair}
use Rattle.dl_field.specs.TableMoves.{Moves}
use Rattle.dl_field.specs.declared.value_phase.ValuePhase.TheVariants as value
use Rattle.dl_field.proofs.TableRuns.{value_taken_at, text_taken_at}
use Rattle.dl_field.proofs.table_reader.TableReader.value_at.Goals as goal

pub hold-requires-clause-held : goal.hold-requires-clause-held
hold-requires-clause-held c = omega (arith, c.in_ok-held.ensures.within)

pub returns-in-Text : goal.returns-in-Text
returns-in-Text c =
    let old = c.args.self.now in
    let at = c.args.at in
    let to = c.in_ok-next.next in
    text_taken_at
    c.args.order c.args.format old c.hold_text.new.self at to c.index.result.now (drop (at.column + 1) old.pairs.items)
    (drop_more old.pairs.items at.column c.index.result.now c.requires.in_row
    ∙ ap (λ (p : Pair). p ∷ drop (at.column + 1) old.pairs.items) (sym c.index.ensures))
    c.requires.in_row
    (subst (λ (n : ℕ). Moves at n (Some to)) (c.len.ensures ∙ old.pairs.ok.0) c.in_ok-next.ensures.moves)
    (omega (arith, c.in_ok-next.ensures.within, c.len.ensures, old.pairs.ok.0)) c.requires.whole
    c.args.bytes.now c.in_ok-hold_text.field-0.now
    ((rw c.in-Text.is at (c.new-value.ensures.at old.pool.items (sym (c.len-2.ensures ∙ old.pool.ok.0)))).0)
    c.in_ok-hold_text.ensures

pub returns : goal.returns
returns c =
    let old = c.args.self.now in
    let at = c.args.at in
    let to = c.in_ok-next.next in
    value_taken_at
    c.args.order c.args.format old c.hold.new.self at to c.index.result.now (drop (at.column + 1) old.pairs.items)
    (drop_more old.pairs.items at.column c.index.result.now c.requires.in_row
    ∙ ap (λ (p : Pair). p ∷ drop (at.column + 1) old.pairs.items) (sym c.index.ensures))
    c.requires.in_row
    (subst (λ (n : ℕ). Moves at n (Some to)) (c.len.ensures ∙ old.pairs.ok.0) c.in_ok-next.ensures.moves)
    (omega (arith, c.in_ok-next.ensures.within, c.len.ensures, old.pairs.ok.0)) c.requires.whole
    c.new-value.result c.in_ok-held.held c.args.bytes.now c.in_ok-held.tail.now c.in_ok-hold.field-0.now
    (c.new-value.ensures.at old.pool.items (sym (c.len-2.ensures ∙ old.pool.ok.0)))
    c.in_ok-held.ensures c.in_ok-hold.ensures.holds
