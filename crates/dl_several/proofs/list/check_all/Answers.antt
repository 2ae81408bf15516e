use Rattle.std.proofs.Common.{◌≡◌, ◌∙◌, ◌==◌, ◌++◌, ◌∷◌, [], false, true, length, sym, ap, append_assoc}
use Rattle.dl_several.specs.Lists.{AtPath, paths_in}
use Rattle.dl_several.proofs.ListLemmas.{path_cut, no_path_cut}
use Rattle.dl_several.proofs.SeveralLemmas.{worst_more}
use Rattle.dl_several.proofs.list.check_all.Goals as goal

pub loop-left-preserved-then-not-is_empty : goal.loop-left-preserved-then-not-is_empty
loop-left-preserved-then-not-is_empty g c =
    let end = c.args.end in
    let old = c.loop-left.left.now in
    let (done, is, checked) = c.loop-left.invariant in
    let path = c.cut.result.0.now in
    let left = paths_in end c.cut.result.1.now in
    let at = AtPath g.C.CheckFiles.checks g.C.CheckFiles.refuses in
    let some : (length path == 0) ≡ false = sym c.is_empty-in-loop-left.ensures ∙ c.if-not-is_empty.true in
    let cut = path_cut end old (ap (λ p. length p == 0) (sym c.cut.ensures.before) ∙ some) in
    let first : paths_in end old ≡ path ∷ left = rw (c.cut.ensures.before, c.cut.ensures.behind) cut in (
      done ++ path ∷ [],
      is ∙ ap (λ l. done ++ l) first ∙ sym (append_assoc done (path ∷ []) left),
      rw c.max-worst.ensures (worst_more at done path c.loop-left.worst c.check_bytes.result c.args.checker.now
          c.loop-left.checker c.check_bytes.new.checker checked c.check_bytes.ensures),
    )

pub loop-left-preserved : goal.loop-left-preserved
loop-left-preserved g c =
    let end = c.args.end in
    let old = c.loop-left.left.now in
    let (done, is, checked) = c.loop-left.invariant in
    let path = c.cut.result.0.now in
    let none : (length path == 0) ≡ true = sym c.is_empty-in-loop-left.ensures ∙ c.if-not-is_empty.false in
    let cut = no_path_cut end old (ap (λ p. length p == 0) (sym c.cut.ensures.before) ∙ none) in
    let same : paths_in end old ≡ paths_in end c.cut.result.1.now = rw c.cut.ensures.behind cut in
    (done, is ∙ ap (λ l. done ++ l) same, checked)
