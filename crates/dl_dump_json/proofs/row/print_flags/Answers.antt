use Rattle.std.proofs.Common.{◌∙◌, sym}
use Rattle.dl_path.proofs.PrintLemmas.{prints_same}
use Rattle.dl_dump_json.specs.Rows.{flags_members}
use Rattle.dl_dump_json.proofs.FlagLemmas.{flags_alone}
use Rattle.dl_dump_json.proofs.row.print_flags.Goals as goal

pub returns-else-has_flags-clause-printed : goal.returns-else-has_flags-clause-printed
returns-else-has_flags-clause-printed g c =
    prints_same _ _ _ _ c.flags_of.result.now (flags_members c.args.row.now) _
    (c.flags_of.ensures ∙ flags_alone c.args.row.now (sym c.has_flags.ensures ∙ c.if-has_flags.false)) c.put.ensures.printed
