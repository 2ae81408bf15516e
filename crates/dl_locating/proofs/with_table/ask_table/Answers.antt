use Rattle.std.proofs.Common.{[], refl}
use Rattle.std.proofs.KnownBytes.{Consumes-nil}
use Rattle.dl_sections.proofs.BlameLemmas.{blames_where}
use Rattle.dl_locating.proofs.with_table.ask_table.Goals as goal

pub returns-in-Some-clause-read : goal.returns-in-Some-clause-read
returns-in-Some-clause-read g c = ([], Consumes-nil _, rw c.in-Some.is (refl, c.of_file.ensures.read))

pub returns-in-None-clause-read : goal.returns-in-None-clause-read
returns-in-None-clause-read g c = let e = c.of_input.ensures.read in (e.0, e.1, rw c.in-None.is e.2)

pub returns-in-Some-clause-blames : goal.returns-in-Some-clause-blames
returns-in-Some-clause-blames g c first is = (is, λ e. absurd (let none = rw c.in-Some.is at e.0 in cc))

pub returns-in-None-clause-blames : goal.returns-in-None-clause-blames
returns-in-None-clause-blames g c = blames_where c.of_input.ensures.blames (λ e. e.1)
