use Rattle.std.proofs.Common.{◌≡◌, ◌++◌, length, arith, ap, ◌∙◌, append_assoc, length-append}
use Rattle.std.specs.Option.{option_copied}
use Rattle.dl_path.specs.PathTexts.{folder}
use Rattle.dl_memory.proofs.RefusalLemmas.{wants_fewer, wants_list}
use Rattle.dl_sources.proofs.PathLemmas.{parts_few, root, whole_is, whole_len}
use Rattle.dl_sources.proofs.path_text.path_text.Goals as goal

pub returns-in_err-put_folder-2-clause-refused : goal.returns-in_err-put_folder-2-clause-refused
returns-in_err-put_folder-2-clause-refused g c =
    let d = option_copied c.args.directory in
    let p = c.args.path in
    wants_fewer _ _ _ _ (omega (
      arith,
      whole_len d p,
      (parts_few d p).1,
      ap length c.in_ok-put_folder.ensures.put,
      length-append c.new-text.result.items (folder c.root_of.result.now),
      ap length c.new-text.ensures.items,
      ap (λ w. length (folder w)) c.root_of.ensures,
    )) c.in_err-put_folder-2.ensures.refused

pub returns-in_err-put_folder-3-clause-refused : goal.returns-in_err-put_folder-3-clause-refused
returns-in_err-put_folder-3-clause-refused g c =
    let d = option_copied c.args.directory in
    let p = c.args.path in
    wants_fewer _ _ _ _ (omega (
      arith,
      whole_len d p,
      (parts_few d p).2,
      ap length c.in_ok-put_folder.ensures.put,
      length-append c.new-text.result.items (folder c.root_of.result.now),
      ap length c.new-text.ensures.items,
      ap (λ w. length (folder w)) c.root_of.ensures,
      ap length c.in_ok-put_folder-2.ensures.put,
      length-append c.put_folder.new.text.items (folder p.base.now),
    )) c.in_err-put_folder-3.ensures.refused

pub returns-in_err-extend_from_slice-clause-refused : goal.returns-in_err-extend_from_slice-clause-refused
returns-in_err-extend_from_slice-clause-refused g c =
    let d = option_copied c.args.directory in
    let p = c.args.path in
    wants_list _ _ _ _ (omega (
      arith,
      whole_len d p,
      ap length c.in_ok-put_folder.ensures.put,
      length-append c.new-text.result.items (folder c.root_of.result.now),
      ap length c.new-text.ensures.items,
      ap (λ w. length (folder w)) c.root_of.ensures,
      ap length c.in_ok-put_folder-2.ensures.put,
      length-append c.put_folder.new.text.items (folder p.base.now),
      ap length c.in_ok-put_folder-3.ensures.put,
      length-append c.put_folder-2.new.text.items (folder p.directory.now),
    )) c.in_err-extend_from_slice.ensures.refused

pub returns-clause-text : goal.returns-clause-text
returns-clause-text g c =
    let d = option_copied c.args.directory in
    let p = c.args.path in
    let one : c.put_folder.new.text.items ≡ folder (root d p) =
    c.in_ok-put_folder.ensures.put ∙ ap (λ w. w ++ folder c.root_of.result.now) c.new-text.ensures.items
    ∙ ap folder c.root_of.ensures in
    let two = c.in_ok-put_folder-2.ensures.put ∙ ap (λ w. w ++ folder p.base.now) one in
    let three = c.in_ok-put_folder-3.ensures.put ∙ ap (λ w. w ++ folder p.directory.now) two in
    c.in_ok-extend_from_slice.ensures.items
    ∙ ap (λ w. w ++ p.name.now) three
    ∙ append_assoc (folder (root d p) ++ folder p.base.now) (folder p.directory.now) p.name.now
    ∙ append_assoc (folder (root d p)) (folder p.base.now) (folder p.directory.now ++ p.name.now)
    ∙ whole_is d p
