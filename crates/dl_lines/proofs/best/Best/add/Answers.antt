use Rattle.std.proofs.Common.{◌∙◌, [], ◌∷◌, ◌++◌, List, ap, sym, refl}
use Rattle.dl_lines.specs.declared.best.KeptPlace.{KeptPlace}
use Rattle.dl_lines.proofs.BestLemmas.{joins, on_ok, stays_below}
use Rattle.dl_lines.proofs.best.Best.add.Goals as goal

pub returns-then-is_below-clause-both : goal.returns-then-is_below-clause-both
returns-then-is_below-clause-both g c paths =
    stays_below paths c.args.self.now c.args.line (c.args.place ∷ []) (sym c.is_below.ensures ∙ c.if-is_below.true)

pub returns-clause-both : goal.returns-clause-both
returns-clause-both g c =
    on_ok c.push.result c.push.ensures.items (λ pushed paths. joins paths c.args.self.now
    (record { line = c.args.line; places = c.push.new.list }) c.args.line c.args.place []
    (sym c.is_below.ensures ∙ c.if-is_below.false) refl
    (pushed ∙ ap (λ (l : List KeptPlace). l ++ c.args.place ∷ []) c.keep_up_to.ensures.items))
