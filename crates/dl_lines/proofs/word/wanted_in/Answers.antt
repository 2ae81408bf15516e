use Rattle.std.proofs.Common.{◌+◌, ◌∙◌}
use Rattle.dl_lines.proofs.WordLemmas.{asked, colon_is, digits_are, has_colon, no_line, no_path, on_none, rest_is}
use Rattle.dl_lines.proofs.word.wanted_in.Goals as goal

pub returns-in_err-colon-clause-none : goal.returns-in_err-colon-clause-none
returns-in_err-colon-clause-none c =
    on_none c.from_residual.result (λ path line small asks. has_colon c.args.word.now path line asks c.in_err-colon.ensures.none)

pub returns-then-colon-eq0-clause-none : goal.returns-then-colon-eq0-clause-none
returns-then-colon-eq0-clause-none c path line small asks =
    let word = c.args.word.now in
    let i = c.in_ok-colon.colon in
    let e = c.in_ok-colon.ensures in
    no_path word path line i asks (colon_is word path line i asks e.within e.colon e.last) c.if-colon-eq0.true

pub returns-in_err-line-clause-none : goal.returns-in_err-line-clause-none
returns-in_err-line-clause-none c =
    let word = c.args.word.now in
    let i = c.in_ok-colon.colon in
    let e = c.in_ok-colon.ensures in
    on_none c.from_residual-in_err-line.result (λ path line small asks. no_line word path line asks _
    (rest_is word (i + 1) ∙ digits_are word path line i asks (colon_is word path line i asks e.within e.colon e.last)) small
    c.in_err-line.ensures.none)

pub returns-clause-some : goal.returns-clause-some
returns-clause-some c =
    let e = c.in_ok-colon.ensures in
    let told = c.in_ok-line.ensures in
    asked c.args.word.now c.in_ok-colon.colon c.in_ok-line.line e.within e.colon c.if-colon-eq0.false told.some told.digits
    told.number
