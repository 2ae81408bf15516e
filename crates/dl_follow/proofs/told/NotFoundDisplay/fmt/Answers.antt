use Rattle.std.proofs.Common.{ℕ, List, refl, sym, subst}
use Rattle.std.specs.Fmt.{HasWritten}
use Rattle.std.proofs.Output.{has_written_append}
use Rattle.dl_follow.proofs.told.NotFoundDisplay.fmt.Goals as goal

pub returns-in-Some-clause-writes : goal.returns-in-Some-clause-writes
returns-in-Some-clause-writes g c = λ plain ok.
    let first = c.write.ensures.writes plain (rw c.in_ok-write.was refl) in
    subst (λ (l : List ℕ). HasWritten g.W.Write.write_str_gives c.args.f.now l c.write-in-Some.new.self)
    (rw (sym c.new.ensures, c.in-Some.is) refl)
    (has_written_append _ _ _ _ _ _ first (c.write-in-Some.ensures.writes first.plain ok))
