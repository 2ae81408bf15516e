use Rattle.std.proofs.Common.{◌∙◌, refl, sym, ap}
use Rattle.std.specs.Prelude.{◌==◌, position}
use Rattle.dl_archive.proofs.entry.long_name.Goals as goal

pub returns-clause-name : goal.returns-clause-name
returns-clause-name g c = λ f is short.
    let text = c.in_ok-len.ensures.text f is short in
    let end = ap (position (λ x. x == 10)) (sym text) ∙ sym c.first_of.ensures.place ∙ c.in-Some-first_of.is in
    rw (c.in-Some.is, end, c.before_slash.ensures.len, text) refl
