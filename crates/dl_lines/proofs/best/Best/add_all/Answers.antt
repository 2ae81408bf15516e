use Rattle.std.proofs.Common.{◌∙◌, ◌++◌, List, length, ap, ap₂, sym, refl}
use Rattle.std.proofs.lemmas.Bool.{eqb-false, eqb-true}
use Rattle.dl_lines.specs.declared.best.KeptPlace.{KeptPlace}
use Rattle.dl_lines.proofs.BestLemmas.{joins_all, joins_none, on_ok, stays_below}
use Rattle.dl_lines.proofs.best.Best.add_all.Goals as goal

pub returns-then-is_empty-clause-both : goal.returns-then-is_empty-clause-both
returns-then-is_empty-clause-both g c paths =
    let more = c.as_slice-more.result.now in
    joins_none paths c.args.self.now c.args.others.now
    (ap length (sym c.as_slice-more.ensures.value)
    ∙ eqb-true (length more) 0 (sym c.is_empty.ensures ∙ c.if-is_empty.true))

pub returns-then-is_below-clause-both : goal.returns-then-is_below-clause-both
returns-then-is_below-clause-both g c paths =
    stays_below paths c.args.self.now c.args.others.now.line c.args.others.now.places.items
    (sym c.is_below.ensures ∙ c.if-is_below.true)

pub returns-clause-both : goal.returns-clause-both
returns-clause-both g c =
    let more = c.as_slice-more.result.now in
    on_ok c.extend_from_slice.result c.extend_from_slice.ensures.items (λ extended paths. joins_all paths c.args.self.now
    (record { line = c.args.others.now.line; places = c.extend_from_slice.new.list }) c.args.others.now
    (λ e. eqb-false (length more) 0 (sym c.is_empty.ensures ∙ c.if-is_empty.false)
    (ap length c.as_slice-more.ensures.value ∙ e))
    (sym c.is_below.ensures ∙ c.if-is_below.false) refl
    (extended ∙ ap₂ (λ (l m : List KeptPlace). l ++ m) c.keep_up_to.ensures.items c.as_slice-more.ensures.value))
