use Rattle.std.proofs.Common.{ap₂, subst, ◌∙◌}
use Rattle.dl_head.specs.declared.dialect.Dialect.{Dialect}
use Rattle.dl_file.specs.LineReader.{line_remaining}
use Rattle.dl_sections.specs.declared.options.TheConstants.{SECTION_LIMIT}
use Rattle.dl_sections.specs.PassedOver.{PassesOver}
use Rattle.dl_open.specs.Tables.{class_dialect}
use Rattle.dl_open.proofs.ReaderLemmas.{reader_known}
use Rattle.dl_open.proofs.not_read.in_table.Goals as goal

pub returns : goal.returns
returns g c source t given =
    let fails = g.S.ReadAt.fails_with source in
    let (read, consumes, passes) = c.passed_over.ensures.ran in
    let left = line_remaining g.S.ReadAt.all_bytes c.passed_over.new.input in (
      read,
      left,
      reader_known {S = g.row.S.Denot} g.S.ReadAt.all_bytes g.S.ReadAt.fails_with fails c.args.table.line t.line left read given.line consumes,
      subst (λ (d : Dialect). PassesOver d SECTION_LIMIT read left c.passed_over.result)
          (c.file_dialect.ensures ∙ ap₂ (class_dialect c.args.units) given.order given.class) passes,
    )
