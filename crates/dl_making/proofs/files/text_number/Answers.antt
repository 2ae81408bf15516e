use Rattle.std.specs.Prelude.{is_ok}
use Rattle.std.proofs.Common.{arith, length, refl}
use Rattle.dl_pack.specs.Shown.{texts_of}
use Rattle.dl_making.proofs.FewLemmas.{adds_none, adds_text, given}
use Rattle.dl_making.proofs.TextNumbers.{more_texts}
use Rattle.dl_making.proofs.files.text_number.Goals as goal

pub returns-clause-grows : goal.returns-clause-grows
returns-clause-grows g c =
    more_texts (is_ok c.add_text.result) (texts_of c.args.names.now) (texts_of c.add_text.new.self) c.args.text.now c.add_text.ensures.texts

pub returns-then-is_empty-clause-few : goal.returns-then-is_empty-clause-few
returns-then-is_empty-clause-few g c =
    adds_none c.args.names.now c.args.names.now refl refl 1 0 (length c.args.text.now)

pub returns-clause-few : goal.returns-clause-few
returns-clause-few g c =
    given c.add_text.result (adds_text c.args.names.now c.add_text.new.self (is_ok c.add_text.result) c.args.text.now
    (length c.args.text.now) c.add_text.ensures.texts c.add_text.ensures.files (omega arith))
