use Rattle.dl_rows.specs.Items.{a_row}
use Rattle.dl_sections.proofs.Names.{◌++◌, ◌∷◌, [], of_item, refl}
use Rattle.dl_sections.proofs.SeekerLemmas.{seeks_on}
use Rattle.dl_sections.proofs.finding.SeekerVisitor.row.Goals as goal

pub returns-clause-heard : goal.returns-clause-heard
returns-clause-heard g c first start visits s =
    seeks_on s (record c.args.self.now { finder = c.row.new.self }) (of_item (a_row c.args._header.now c.args.row.now))
    (s.rows ++ c.args.row.now ∷ []) refl refl s.not_found refl refl
    (c.row.ensures first.place s.rows s.stands)
