use Rattle.std.proofs.Common.{◌≡◌, Bool, List, [], ◌∷◌, ◌++◌, refl, sym, ap, ◌∙◌, subst, append-nil}
use Rattle.std.specs.Prelude.{if◌then◌else◌}
use Rattle.std.specs.Option.{option_copied}
use Rattle.dl_rows.specs.declared.row.Row.{Row}
use Rattle.dl_rows.specs.Items.{a_row}
use Rattle.dl_look.specs.FinderRows.{unended}
use Rattle.dl_look.specs.FindersRows.{Stand}
use Rattle.dl_look.specs.LiveRows.{live_rows}
use Rattle.dl_sections.specs.RowsTold.{rows_after}
use Rattle.dl_sections.specs.Section.{of_item}
use Rattle.dl_addr.specs.Code.{is_code}
use Rattle.dl_addr.specs.Locating.{code_of}
use Rattle.dl_addr.proofs.LocatorLemmas.{goes_on}
use Rattle.dl_addr.proofs.locating.LocatorVisitor.row.Goals as goal

pub returns-then-takes-clause-heard : goal.returns-then-takes-clause-heard
returns-then-takes-clause-heard g c first start visits s =
    let live = code_of first in
    let rows = rows_after [] visits in
    let r = c.args.row.now in
    let is : unended rows ≡ [] → c.begins_live-is_live.result ≡ live r.address =
    λ e. c.begins_live-is_live.ensures live rows s.live e
    ∙ ap (λ code. is_code (option_copied code) r.address) s.code in
    let told : live_rows live (rows ++ r ∷ []) ≡ live_rows live rows ++ r ∷ [] =
    c.takes.ensures.told live rows s.live is
    ∙ ap (λ (b : Bool). live_rows live rows ++ (if b then r ∷ [] else [])) c.if-takes.true in
    goes_on first c.args.self.now (record c.args.self.now {
      live = c.takes.new.self;
      finders =
          c.row.new.self;
    }) start (g.W.Write.contents c.args._output.now) visits (of_item (a_row c.args._header.now r) ∷ []) s
    (λ x n. refl) refl refl refl refl refl refl refl (c.takes.ensures.goes_on live rows s.live is) refl refl
    (λ places units st. subst (λ (l : List Row). Stand c.row.new.self places units l) (sym told)
    (c.row.ensures.stand places units (live_rows live rows) st)) c.row.ensures.count

pub returns-else-takes-clause-heard : goal.returns-else-takes-clause-heard
returns-else-takes-clause-heard g c first start visits s =
    let live = code_of first in
    let rows = rows_after [] visits in
    let r = c.args.row.now in
    let is : unended rows ≡ [] → c.begins_live-is_live.result ≡ live r.address =
    λ e. c.begins_live-is_live.ensures live rows s.live e
    ∙ ap (λ code. is_code (option_copied code) r.address) s.code in
    let told : live_rows live (rows ++ r ∷ []) ≡ live_rows live rows =
    c.takes.ensures.told live rows s.live is
    ∙ ap (λ (b : Bool). live_rows live rows ++ (if b then r ∷ [] else [])) c.if-takes.false
    ∙ append-nil (live_rows live rows) in
    goes_on first c.args.self.now (record c.args.self.now {
      live =
          c.takes.new.self;
    }) start (g.W.Write.contents c.args._output.now) visits (of_item (a_row c.args._header.now r) ∷ []) s
    (λ x n. refl) refl refl refl refl refl refl refl (c.takes.ensures.goes_on live rows s.live is) refl refl
    (λ places units st. subst (λ (l : List Row). Stand c.args.self.now.finders places units l) (sym told) st) refl
