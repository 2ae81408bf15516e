use Rattle.std.proofs.Common.{◌+◌, arith, ap, length}
use Rattle.std.specs.Prelude.{IfSome}
use Rattle.std.specs.Option.{option_copied}
use Rattle.std.proofs.lemmas.Result.{on_err_weaker}
use Rattle.dl_path.specs.declared.path.Path.{Path}
use Rattle.dl_path.specs.Parts.{path_apart}
use Rattle.dl_path.specs.PathTexts.{file_parts}
use Rattle.dl_path.specs.TextRoom.{PartsWithin, text_room}
use Rattle.dl_path.proofs.RoomLemmas.{parts_have_room}
use Rattle.dl_print.specs.ValueText.{strings_of}
use Rattle.dl_memory.proofs.RefusalLemmas.{wants_fewer}
use Rattle.dl_making.specs.Few.{unit_text}
use Rattle.dl_making.proofs.FewLemmas.{adds_file, adds_less, adds_more, given, seen_apart}
use Rattle.dl_making.proofs.files.file_number.Goals as goal

pub returns-in_err-texts-clause-refused : goal.returns-in_err-texts-clause-refused
returns-in_err-texts-clause-refused g c =
    let u = c.args.unit.now in
    let s = strings_of u.strings.now in
    let room = text_room s (option_copied u.header) in
    let within : IfSome c.path_of-path.result (λ (p : Path). PartsWithin room (path_apart p)) =
    seen_apart path_apart (PartsWithin room) c.path_of-path.result (file_parts s (option_copied u.header) c.args.file)
    c.path_of-path.ensures.apart (parts_have_room s (option_copied u.header) c.args.file) in
    wants_fewer _ _ _ _ (omega arith) (c.in_err-texts.ensures.refused room within)

pub returns-clause-refused : goal.returns-clause-refused
returns-clause-refused g c =
    on_err_weaker c.add_file.result (λ refused. (
      refused.0,
      omega (arith, refused.1, ap length c.text_numbers.ensures.files),
      refused.2,
    )) c.add_file.ensures.refused

pub returns-clause-few : goal.returns-clause-few
returns-clause-few g c =
    let u = c.args.unit.now in
    let s = strings_of u.strings.now in
    let room = text_room s (option_copied u.header) in
    let within : IfSome c.path_of-path.result (λ (p : Path). PartsWithin room (path_apart p)) =
    seen_apart path_apart (PartsWithin room) c.path_of-path.result (file_parts s (option_copied u.header) c.args.file)
    c.path_of-path.ensures.apart (parts_have_room s (option_copied u.header) c.args.file) in
    let one = c.text_numbers.new.names in
    let two = c.add_file.new.self in
    given c.add_file.result (adds_more 3 0 0 1 (unit_text u) c.args.names.now one two (c.in_ok-texts.ensures.few room within)
    (adds_less one two 0 1 0 0 1 (unit_text u) (omega arith) (omega arith) (omega arith)
    (adds_file one two c.add_file.ensures.texts c.add_file.ensures.few)))
