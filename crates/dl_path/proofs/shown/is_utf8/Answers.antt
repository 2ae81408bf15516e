use Rattle.std.proofs.Common.{sym, ⊎_elim}
use Rattle.std.proofs.lemmas.Bool.{cases_Bool}
use Rattle.std.proofs.lemmas.Str.{IsUtf8-from_is_utf8, is_utf8-from_IsUtf8}
use Rattle.dl_path.proofs.shown.is_utf8.Goals as goal

pub returns-in-Ok : goal.returns-in-Ok
returns-in-Ok c = sym (is_utf8-from_IsUtf8 c.args.text.now c.in-Ok.ensures.cases.1)

pub returns-in-Err : goal.returns-in-Err
returns-in-Err c =
    ⊎_elim (λ yes. absurd (c.in-Err.ensures.cases.0 (IsUtf8-from_is_utf8 c.args.text.now yes))) (λ no. sym no)
    (cases_Bool _)
