use Rattle.std.proofs.Common.{◌∙◌, ap, sym}
use Rattle.std.specs.Option.{option_copied}
use Rattle.dl_memory.proofs.RefusalLemmas.{wants_fewer}
use Rattle.dl_table.specs.TableData.{TableData}
use Rattle.dl_field.specs.declared.params.Params.{Params}
use Rattle.dl_emit.specs.Conversion.{version_5_params}
use Rattle.dl_emit.proofs.CellLemmas.{directories_within, files_within}
use Rattle.dl_emit.proofs.ConversionLemmas.{none_some, parts_fit}
use Rattle.dl_emit.proofs.conversion.into_version_5_in.Goals as goal

pub unreachable-requires : goal.unreachable-requires
unreachable-requires g c =
    let params = c.params-2.ensures in
    let fit = parts_fit c.args.header c.params_of_version_5-params.result c.in_ok-directories.directories
    c.in_ok-files.files params.sound
    (c.params_of_version_5-params.ensures.value ∙ ap version_5_params params.value)
    (ap (λ (t : TableData). t.format) c.in_ok-directories.ensures.value
    ∙ ap (λ (t : TableData). t.format) c.directories.ensures)
    (ap (λ (t : TableData). t.format) c.in_ok-files.ensures.value ∙ ap (λ (t : TableData). t.format) c.files.ensures) in
    none_some c.in-Err.field-0.fault (sym c.in-Err.ensures.refused ∙ fit)

pub returns-in_err-directories-clause-refused : goal.returns-in_err-directories-clause-refused
returns-in_err-directories-clause-refused g c =
    let within = directories_within c.args.header (option_copied c.args.directory)
    (λ own. c.if-params-eq5.false (ap (λ (p : Params). p.version) c.params.ensures.value ∙ own))
    c.first_directory.result.now c.directories.result.now c.first_directory.ensures.value c.directories.ensures in
    wants_fewer _ _ _ _ within c.in_err-directories.ensures.refused

pub returns-in_err-files-clause-refused : goal.returns-in_err-files-clause-refused
returns-in_err-files-clause-refused g c =
    let within = files_within c.args.header (option_copied c.args.directory)
    (λ own. c.if-params-eq5.false (ap (λ (p : Params). p.version) c.params.ensures.value ∙ own)) c.files.result.now
    c.files.ensures in
    wants_fewer _ _ _ _ within c.in_err-files.ensures.refused
