use Rattle.std.proofs.Common.{refl, arith, length, inl, inr}
use Rattle.std.proofs.lemmas.Result.{err_from_is_err_and}
use Rattle.dl_pack.specs.IndexOf.{file_order}
use Rattle.dl_pack.specs.Shown.{files_of, texts_of}
use Rattle.dl_pack.proofs.LaidLemmas.{all_named}
use Rattle.dl_pack.proofs.RoomLemmas.{at_most, err_same}
use Rattle.dl_pack.proofs.StretchLemmas.{made_opens, made_tells}
use Rattle.dl_pack.proofs.making.index_bytes.Goals as goal

pub returns-in-Ok-clause-opens : goal.returns-in-Ok-clause-opens
returns-in-Ok-clause-opens g c = λ list stands.
    made_opens c.args.all c.args.build_id.now (file_order list) list (files_of c.args.names.now) (texts_of c.args.names.now) _ refl
    (c.in-Ok.ensures.made list stands) (omega arith) (c.in-Ok.ensures.fits list stands) c.in-Ok.ensures.sums

pub returns-in-Ok-clause-tells : goal.returns-in-Ok-clause-tells
returns-in-Ok-clause-tells g c = λ list stands.
    made_tells c.args.all c.args.build_id.now (file_order list) list (files_of c.args.names.now) (texts_of c.args.names.now) _ refl
    (c.in-Ok.ensures.made list stands) (omega arith) (c.in-Ok.ensures.fits list stands) c.in-Ok.ensures.sums
    (all_named c.in_ok-totals.totals (length (files_of c.args.names.now)) list (c.in_ok-totals.ensures.totals list stands)
    c.in_ok-totals.ensures.good)

pub returns-in_err-totals-clause-refused : goal.returns-in_err-totals-clause-refused
returns-in_err-totals-clause-refused g c is list stands =
    let p = err_from_is_err_and c.from_residual.result c.from_residual.ensures.1 in
    at_most _ _ _ (omega arith) (c.totals_of.ensures.refused
    (err_same c.totals_of.result c.from_residual.result p.0 c.in_err-totals.field-0.0 _ p.1 p.2 is c.in_err-totals.was))

pub returns-in_err-texts-clause-refused : goal.returns-in_err-texts-clause-refused
returns-in_err-texts-clause-refused g c is list stands =
    let q = c.from_residual-in_err-texts in
    let p = err_from_is_err_and q.result q.ensures.1 in
    at_most _ _ _ (omega arith) (c.texts_named.ensures.refused
    (err_same c.texts_named.result q.result p.0 c.in_err-texts.field-0.0 _ p.1 p.2 is c.in_err-texts.was))

pub returns-in_err-totals-clause-wants : goal.returns-in_err-totals-clause-wants
returns-in_err-totals-clause-wants g c is =
    let p = err_from_is_err_and c.from_residual.result c.from_residual.ensures.1 in
    inl (c.totals_of.ensures.refused
    (err_same c.totals_of.result c.from_residual.result p.0 c.in_err-totals.field-0.0 _ p.1 p.2 is c.in_err-totals.was))

pub returns-in_err-texts-clause-wants : goal.returns-in_err-texts-clause-wants
returns-in_err-texts-clause-wants g c is =
    let some = c.in_ok-totals.ensures.some in
    inr (some.0, some.1, returns-in_err-texts-clause-refused g c is some.0 some.1)
