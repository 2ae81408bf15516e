use Rattle.std.proofs.Common.{◌≡◌, ℕ, Bool, List, [], ◌∷◌, ◌++◌, sym, subst, ◌∙◌}
use Rattle.std.proofs.lemmas.Result.{IfOk-weaker}
use Rattle.dl_rows.specs.declared.row.Row.{Row}
use Rattle.dl_look.specs.FinderRows.{unended}
use Rattle.dl_look.specs.LiveRows.{live_rows}
use Rattle.dl_stretch.specs.declared.runs.Runs.{Runs}
use Rattle.dl_stretch.specs.Stands.{Holds, Stands, whole_answer}
use Rattle.dl_stretch.specs.ToldUnits.{UnitRows}
use Rattle.dl_stretch.proofs.UnitLemmas.{both_ok}
use Rattle.dl_stretch.proofs.runs.Runs.row.Goals as goal

pub returns-then-takes-clause-taken : goal.returns-then-takes-clause-taken
returns-then-takes-clause-taken g c =
    let old = c.args.self.now in
    let r = c.args.row.now in
    let new : Runs = record { spans = c.row.new.self; live = c.takes.new.self } in
    IfOk-weaker c.row.result
    (λ _. ((a : ℕ) → whole_answer new.spans a ≡ whole_answer old.spans a)
    × ((rows : List Row) → Holds old.spans rows → Holds new.spans (rows ++ r ∷ [])))
    (λ _. (is_live : ℕ → Bool) (units : List UnitRows) (rows : List Row) → Stands is_live old units rows
    → (unended rows ≡ [] → c.args.live ≡ is_live r.address) → Stands is_live new units (rows ++ r ∷ []))
    (λ _ row is_live units rows stands says. record {
      whole = λ a lt. row.0 a ∙ stands.whole a lt;
      unit = subst (Holds new.spans) (sym (c.if-takes.ensures.told is_live rows stands.told says))
          (row.1 (live_rows is_live rows) stands.unit);
      told = c.if-takes.ensures.goes_on is_live rows stands.told says;
    }) (both_ok c.row.result _ _ c.row.ensures.whole c.row.ensures.unit)
