use Rattle.std.proofs.Common.{ℕ, Some, None, refl, subst, ◌∙◌}
use Rattle.dl_field.specs.TableMoves.{Moves}
use Rattle.dl_field.proofs.ValueLemmas.{moved, ended}
use Rattle.dl_field.proofs.table_reader.TableReader.end_value.Goals as goal

pub returns-in-Some-clause-goes : goal.returns-in-Some-clause-goes
returns-in-Some-clause-goes c = λ order next layout entries before holds summed size is.
    let moves = subst (λ (n : ℕ). Moves c.args.at n (Some c.in-Some.at)) (c.len.ensures ∙ c.args.self.now.pairs.ok.0)
    c.in-Some.ensures.moves in
    moved order c.args.self.now.pairs.items c.args.self.now.pool.items c.args.self.now.values.items
    c.begin_value.new.self c.args.at c.in-Some.at c.args.format next layout entries before moves c.requires.in_row
    c.begin_value.ensures.goes holds summed size is

pub returns-in-None-clause-goes : goal.returns-in-None-clause-goes
returns-in-None-clause-goes c = λ order next layout entries before holds summed size is.
    let moves = subst (λ (n : ℕ). Moves c.args.at n None) (c.len.ensures ∙ c.args.self.now.pairs.ok.0)
    c.in-None.ensures.moves in
    (ended _ c.args.at c.args.format next layout entries before moves c.requires.in_row holds summed size is, refl)
