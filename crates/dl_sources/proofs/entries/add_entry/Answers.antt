use Rattle.std.proofs.Common.{Some, arith}
use Rattle.std.specs.Option.{option_copied}
use Rattle.dl_path.specs.Parts.{path_apart}
use Rattle.dl_path.specs.PathTexts.{file_parts}
use Rattle.dl_path.specs.TextRoom.{PartsWithin, text_room}
use Rattle.dl_path.proofs.RoomLemmas.{parts_have_room}
use Rattle.dl_print.specs.ValueText.{strings_of}
use Rattle.dl_making.proofs.FewLemmas.{seen_apart}
use Rattle.dl_sources.proofs.PathLemmas.{whole_few}
use Rattle.dl_sources.proofs.ResultLemmas.{any_err, at_most}
use Rattle.dl_sources.proofs.entries.add_entry.Goals as goal

pub returns-in_err-text-clause-refused : goal.returns-in_err-text-clause-refused
returns-in_err-text-clause-refused g c =
    any_err c.from_residual.result (λ mentions held.
    let u = c.args.unit.now in
    let s = strings_of u.strings.now in
    let room = text_room s (Some u.header.now) in
    let within = seen_apart path_apart (PartsWithin room) (Some c.in-Some.path) (file_parts s (Some u.header.now) c.args.number)
    c.in-Some.ensures.apart (parts_have_room s (Some u.header.now) c.args.number) in
    at_most (g.M.Memory.refuses c.args.memory.now) _ _
    (omega (arith, whole_few (option_copied u.directory) c.in-Some.path room within)) c.in_err-text.ensures.refused)
