use Rattle.std.proofs.Common.{◌+◌, ◌++◌, ℕ, List, arith, ap, length, length-append, ◌∙◌}
use Rattle.dl_memory.specs.Refusals.{IsRefused}
use Rattle.dl_path.specs.PathTexts.{folder}
use Rattle.dl_addr.proofs.KeepLemmas.{on_err}
use Rattle.dl_addr.proofs.RoomLemmas.{refused_within}
use Rattle.dl_lines.proofs.PathLemmas.{folder_len, text_is}
use Rattle.dl_lines.proofs.full_path.text_of.Goals as goal

pub returns-in_err-put_folder-2-clause-refused : goal.returns-in_err-put_folder-2-clause-refused
returns-in_err-put_folder-2-clause-refused g c =
    on_err _ (refused_within (g.M.Memory.refuses c.args.memory.now) _ _ (omega (
      arith,
      ap length c.in_ok-put_folder.ensures.text,
      ap length c.new-bytes.ensures.items,
      length-append c.new-bytes.result.items (folder c.args.root.now),
      folder_len c.args.root.now,
    )) c.in_err-put_folder-2.ensures.refused)

pub returns-in_err-put_folder-3-clause-refused : goal.returns-in_err-put_folder-3-clause-refused
returns-in_err-put_folder-3-clause-refused g c =
    on_err _ (refused_within (g.M.Memory.refuses c.args.memory.now) _ _ (omega (
      arith,
      ap length c.in_ok-put_folder-2.ensures.text,
      length-append c.put_folder.new.bytes.items (folder c.args.path.base.now),
      folder_len c.args.path.base.now,
      ap length c.in_ok-put_folder.ensures.text,
      ap length c.new-bytes.ensures.items,
      length-append c.new-bytes.result.items (folder c.args.root.now),
      folder_len c.args.root.now,
    )) c.in_err-put_folder-3.ensures.refused)

pub returns-in_err-extend_from_slice-clause-refused : goal.returns-in_err-extend_from_slice-clause-refused
returns-in_err-extend_from_slice-clause-refused g c =
    let refused : IsRefused (g.M.Memory.refuses c.args.memory.now)
    (length c.args.root.now + length c.args.path.base.now + length c.args.path.directory.now + length c.args.path.name.now + 3) = (
      _,
      omega (
        arith,
        ap length c.in_ok-put_folder-3.ensures.text,
        length-append c.put_folder-2.new.bytes.items (folder c.args.path.directory.now),
        folder_len c.args.path.directory.now,
        ap length c.in_ok-put_folder-2.ensures.text,
        length-append c.put_folder.new.bytes.items (folder c.args.path.base.now),
        folder_len c.args.path.base.now,
        ap length c.in_ok-put_folder.ensures.text,
        ap length c.new-bytes.ensures.items,
        length-append c.new-bytes.result.items (folder c.args.root.now),
        folder_len c.args.root.now,
      ),
      c.in_err-extend_from_slice.ensures.refused,
    ) in
    on_err _ refused

pub returns-clause-text : goal.returns-clause-text
returns-clause-text g c =
    let p = c.args.path in
    c.in_ok-extend_from_slice.ensures.items
    ∙ ap (λ (l : List ℕ). l ++ p.name.now) (c.in_ok-put_folder-3.ensures.text
    ∙ ap (λ (l : List ℕ). l ++ folder p.directory.now) (c.in_ok-put_folder-2.ensures.text
    ∙ ap (λ (l : List ℕ). l ++ folder p.base.now) (c.in_ok-put_folder.ensures.text
    ∙ ap (λ (l : List ℕ). l ++ folder c.args.root.now) c.new-bytes.ensures.items)))
    ∙ text_is c.args.root.now p
