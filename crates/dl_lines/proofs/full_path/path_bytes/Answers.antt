use Rattle.std.proofs.Common.{Some, ap, ◌∙◌, ◌++◌, ℕ, List, length, arith, option_map}
use Rattle.std.specs.Option.{option_copied}
use Rattle.dl_path.specs.PathTexts.{folder}
use Rattle.dl_path.specs.Parts.{path_seen}
use Rattle.dl_path.specs.Paths.{compiled_in}
use Rattle.dl_print.specs.ValueText.{strings_of}
use Rattle.dl_addr.proofs.KeepLemmas.{on_err}
use Rattle.dl_addr.proofs.RoomLemmas.{refused_within}
use Rattle.dl_lines.proofs.PathLemmas.{parts_few, text_few, compiled_is}
use Rattle.dl_lines.proofs.full_path.path_bytes.Goals as goal

pub returns-in_err-bytes-clause-refused : goal.returns-in_err-bytes-clause-refused
returns-in_err-bytes-clause-refused g c =
    on_err _ (refused_within (g.M.Memory.refuses c.args.memory.now) _ _ (omega (
      arith,
      parts_few (strings_of c.args.strings.now) (option_copied c.args.directory) c.args.header.now c.args.file
          c.in-Some.path c.in-Some.ensures.apart,
      ap length c.root_of.ensures,
    )) c.in_err-bytes.ensures.refused)

pub returns-clause-within : goal.returns-clause-within
returns-clause-within g c =
    let p = c.in-Some.path in
    text_few (strings_of c.args.strings.now) (option_copied c.args.directory) c.args.header.now c.args.file p
    c.in_ok-bytes.bytes.items c.in-Some.ensures.apart
    (c.in_ok-bytes.ensures.text ∙ ap (λ (l : List ℕ). folder l ++ path_seen p) c.root_of.ensures)

pub returns-clause-path : goal.returns-clause-path
returns-clause-path g c =
    let p = c.in-Some.path in
    let directory = option_copied c.args.directory in
    ap Some (c.in_ok-bytes.ensures.text ∙ ap (λ (l : List ℕ). folder l ++ path_seen p) c.root_of.ensures
    ∙ compiled_is directory (path_seen p))
    ∙ ap (option_map (compiled_in directory)) c.in-Some.ensures.seen
