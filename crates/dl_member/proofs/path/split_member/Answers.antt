use Rattle.std.proofs.Common.{arith, None, Some}
use Rattle.std.proofs.lemmas.Str.Pattern.{strip_suffix_char}
use Rattle.dl_member.proofs.PathLemmas.{not_both, not_closed, not_opened}
use Rattle.dl_member.proofs.path.split_member.Goals as goal

pub returns-in_default : goal.returns-in_default
returns-in_default c = λ archive name.
    not_closed c.args.path.now archive name (strip_suffix_char 41 c.args.path.now None c.in_default.ensures.cases (omega arith))

pub returns-in_default-around_last : goal.returns-in_default-around_last
returns-in_default-around_last c = λ archive name.
    not_opened c.args.path.now c.in-Some.text.now archive name
    (strip_suffix_char 41 c.args.path.now (Some c.in-Some.text) c.in-Some.ensures.cases (omega arith)) c.in_default-around_last.ensures

pub returns-else-archive-gt0 : goal.returns-else-archive-gt0
returns-else-archive-gt0 c = λ archive name.
    not_both c.args.path.now c.in-Some.text.now c.in-Some-around_last.archive.now c.in-Some-around_last.name.now archive name
    (strip_suffix_char 41 c.args.path.now (Some c.in-Some.text) c.in-Some.ensures.cases (omega arith)) c.in-Some-around_last.ensures
    c.else-archive-gt0.either
