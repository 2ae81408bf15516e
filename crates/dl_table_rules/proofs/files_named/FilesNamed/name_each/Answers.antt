use Rattle.std.proofs.Common.{◌∙◌, ◌∷◌, ◌++◌, [], ℕ, List, ap, append_assoc, arith, subst, sym, take}
use Rattle.std.proofs.lemmas.List.{take_all, take_more}
use Rattle.dl_table_rules.specs.Keeping.{AreNamed}
use Rattle.dl_table_rules.proofs.files_named.FilesNamed.name_each.Goals as goal

pub loop-file-preserved : goal.loop-file-preserved
loop-file-preserved c h before known =
    let i = c.loop-file.file-index in
    let files = c.args.files.now in
    subst (AreNamed c.mark.new.self h)
    (append_assoc before (take i files) (_ ∷ [])
    ∙ ap (λ (l : List ℕ). before ++ l) (sym (take_more files i 0 c.loop-file-test.true)))
    (c.mark.ensures h (before ++ take i files) (c.loop-file.invariant h before known))

pub returns : goal.returns
returns c h before known =
    subst (λ (l : List ℕ). AreNamed c.loop-file.self h (before ++ l))
    (take_all c.loop-file.file-index c.args.files.now (omega (arith, c.loop-file-test.false))) (c.loop-file.invariant h before known)
