use Rattle.std.proofs.Common.{◌∙◌, ◌++◌, ◌∷◌, [], ap, sym, append-nil, arith, length, length-append}
use Rattle.dl_member.proofs.PathLemmas.{both_put, folder_at, no_folder}
use Rattle.dl_member.proofs.path.put_folder.Goals as goal

pub returns-in_default : goal.returns-in_default
returns-in_default c =
    sym (append-nil c.args.path.now.bytes)
    ∙ ap (λ f. c.args.path.now.bytes ++ f) (sym (no_folder c.args.file.now c.in_default.ensures.cases))

pub returns-in-Err : goal.returns-in-Err
returns-in-Err c =
    let front = c.split_at.result.0.now in
    let is = folder_at c.args.file.now front c.in-Some.at c.in-Some.ensures.cases c.split_at.ensures.front in
    omega (arith, c.in-Err.ensures, ap length is, length-append front (47 ∷ []))

pub returns-in-Ok : goal.returns-in-Ok
returns-in-Ok c =
    let front = c.split_at.result.0.now in
    let is = folder_at c.args.file.now front c.in-Some.at c.in-Some.ensures.cases c.split_at.ensures.front in
    both_put c.args.path.now.bytes front (47 ∷ []) c.put.new.path.bytes _ _ _ c.in-Ok.ensures is c.put-in-Ok.ensures
