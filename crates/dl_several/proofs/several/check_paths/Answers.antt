use Rattle.std.proofs.Common.{[], List, ℕ, Bor}
use Rattle.std.proofs.lemmas.List.{map_more}
use Rattle.dl_several.proofs.SeveralLemmas.{worst_more}
use Rattle.dl_several.proofs.several.check_paths.Goals as goal

pub loop-path-preserved : goal.loop-path-preserved
loop-path-preserved g c =
    let l = c.loop-path in
    let none : Bor (List ℕ) = record { ref_ptr = (0, 0); now = [] } in
    rw (c.max-worst.ensures, map_more (λ path. path.now) c.args.paths.now l.path-index none c.loop-path-test.true)
    (worst_more g.C.CheckFiles.checks _ _ l.worst c.check.result c.args.checker.now l.checker c.check.new.self
    l.invariant c.check.ensures)
