use Rattle.std.proofs.Common.{arith}
use Rattle.std.proofs.lemmas.Str.Pattern.{rfind_char, strip_prefix_char}
use Rattle.std.proofs.Common.{None, Some}
use Rattle.dl_member.proofs.PathLemmas.{around_last}
use Rattle.dl_member.proofs.path.around_last.Goals as goal

pub returns-in_default : goal.returns-in_default
returns-in_default c = rfind_char 40 c.args.text.now None c.in_default.ensures.cases (omega arith)

pub returns-in-Some-strip_prefix : goal.returns-in-Some-strip_prefix
returns-in-Some-strip_prefix c =
    around_last c.args.text.now c.split_at.result.0.now c.split_at.result.1.now c.in-Some-strip_prefix.back.now c.in-Some.at
    c.in-Some.ensures.cases c.split_at.ensures.front c.split_at.ensures.back
    (strip_prefix_char 40 c.split_at.result.1.now (Some c.in-Some-strip_prefix.back) c.in-Some-strip_prefix.ensures.cases (omega arith))
