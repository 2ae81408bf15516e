use Rattle.std.proofs.Common.{refl}
use Rattle.std.specs.Option.{option_copied}
use Rattle.std.proofs.lemmas.Result.{on_err_weaker, on_ok_weaker}
use Rattle.dl_making.specs.Few.{path_text}
use Rattle.dl_making.proofs.FewLemmas.{adds_none}
use Rattle.dl_making.proofs.files.text_numbers.Goals as goal

pub returns-in-Some-clause-refused : goal.returns-in-Some-clause-refused
returns-in-Some-clause-refused g c =
    on_err_weaker c.path_numbers.result (λ refused most within. refused most (rw c.in-Some.is at within))
    c.path_numbers.ensures.refused

pub returns-in-Some-clause-few : goal.returns-in-Some-clause-few
returns-in-Some-clause-few g c =
    on_ok_weaker c.path_numbers.result (λ few most within. few most (rw c.in-Some.is at within))
    c.path_numbers.ensures.few

pub returns-in-None-clause-few : goal.returns-in-None-clause-few
returns-in-None-clause-few g c most within =
    adds_none c.args.names.now c.args.names.now refl refl 3 0 (path_text (option_copied c.args.directory) most)
