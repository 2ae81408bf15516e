use Rattle.std.proofs.Common.{map}
use Rattle.dl_several.proofs.SeveralLemmas.{worst_before}
use Rattle.dl_several.proofs.several.check_named.Goals as goal

pub returns-in-Some : goal.returns-in-Some
returns-in-Some g c =
    let others = map (λ path. path.now) c.args.files.now.others.now in
    rw (c.max.ensures, c.in-Some.is) (worst_before g.C.CheckFiles.checks others c.in-Some.path.now c.check-first.result
    c.check_paths.result c.args.checker.now c.check-first.new.self c.check_paths.new.checker c.check-first.ensures
    c.check_paths.ensures)
