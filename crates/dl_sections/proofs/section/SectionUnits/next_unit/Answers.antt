use Rattle.std.proofs.Common.{refl, sym, ap, subst, ◌∙◌, ℕ, []}
use Rattle.dl_rows.specs.declared.reader.Reader.{Reader}
use Rattle.dl_rows.specs.ReaderStands.{StandsFor}
use Rattle.dl_print.specs.Counts.{add}
use Rattle.dl_sections.proofs.UnitsLemmas.{header_is, left_after}
use Rattle.dl_sections.proofs.section.SectionUnits.next_unit.Goals as goal

pub returns-clause-header : goal.returns-clause-header
returns-clause-header c b stands =
    header_is _ _ c.into_header.result b c.replace-reader.ensures.value c.into_header.ensures stands

pub returns-clause-units : goal.returns-clause-units
returns-clause-units c dialect past t units b are is short =
    let u = c.args.self.now in
    let taken = c.taken.ensures.bytes b
    (subst (λ (r : Reader). StandsFor r b) (sym c.replace-reader.ensures.value) are.stands) in
    left_after dialect past u t units b are is short _ are.dialect_is
    (subst (λ (r : Reader). StandsFor r []) (sym c.replace-reader.ensures.after) c.of.ensures.stands)
    (ap (λ (r : Reader). r.dialect) c.replace-reader.ensures.after ∙ c.of.ensures.dialect ∙ are.dialect_is)
    (c.saturating_add-self.ensures ∙ ap (λ (n : ℕ). add u.offset n) taken)
    refl refl refl c.add_unit.ensures
