use Rattle.std.proofs.Common.{true, [], ◌∷◌, refl, subst, sym, ap, ◌∙◌}
use Rattle.std.specs.Option.{option_copied}
use Rattle.dl_rows.specs.Items.{a_row}
use Rattle.dl_sections.specs.RowsTold.{rows_after}
use Rattle.dl_sections.specs.Section.{of_item}
use Rattle.dl_sections.proofs.VisitLemmas.{rows_after-append}
use Rattle.dl_addr.specs.Code.{is_code}
use Rattle.dl_stretch.specs.Stands.{Stands}
use Rattle.dl_making.specs.Making.{code_of}
use Rattle.dl_making.proofs.KeepLemmas.{row_wants}
use Rattle.dl_making.proofs.MakerLemmas.{goes_on, stops}
use Rattle.dl_making.proofs.maker.MakerVisitor.row.Goals as goal

pub returns-in-Ok-clause-heard : goal.returns-in-Ok-clause-heard
returns-in-Ok-clause-heard g c first start visits s =
    let live = code_of first in
    let rows = rows_after [] visits in
    let r = c.args.row.now in
    let more = of_item (a_row c.args._header.now r) ∷ [] in
    goes_on first c.args.self.now (record c.args.self.now { runs = c.row.new.self }) start
    (g.W.Write.contents c.args._output.now) visits more s
    (λ rows n x. refl) (record { memory = refl; code = refl; directories = refl; strings = refl }) refl refl refl
    c.row.ensures.more c.row.ensures.whole
    (λ units e stands. subst (Stands live c.row.new.self units) (sym (rows_after-append [] visits more))
    (c.in-Ok.ensures.taken live units rows stands (λ none. c.begins_live-is_live.ensures live units rows stands none
    ∙ ap (λ code. is_code (option_copied code) r.address) s.same.code)))

pub returns-in-Err-clause-heard : goal.returns-in-Err-clause-heard
returns-in-Err-clause-heard g c first start visits s =
    stops g.M.Memory.refuses first c.args.self.now (record c.args.self.now { runs = c.row.new.self; is_refused = true }) start
    (g.W.Write.contents c.args._output.now) visits (of_item (a_row c.args._header.now c.args.row.now)) s
    (record { memory = refl; code = refl; directories = refl; strings = refl }) refl refl
    (row_wants first c.args.self.now start (g.W.Write.contents c.args._output.now) visits s c.in-Err.ensures.refused)
