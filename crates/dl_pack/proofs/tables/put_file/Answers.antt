use Rattle.std.proofs.Common.{ap, arith, ◌∙◌, ◌++◌, get_or}
use Rattle.dl_memory.proofs.RefusalLemmas.{wants_fewer}
use Rattle.dl_num.specs.Fixed.{little_bytes}
use Rattle.dl_pack.specs.Tables.{text_number}
use Rattle.dl_pack.specs.Mentioned.{order_of}
use Rattle.dl_pack.proofs.GrowthLemmas.{number_grew}
use Rattle.dl_pack.proofs.TableLemmas.{put_five}
use Rattle.dl_pack.proofs.tables.put_file.Goals as goal

pub returns-clause-put : goal.returns-clause-put
returns-clause-put g c =
    put_five c.args.out.now.items _ _ _ _ _ (little_bytes 8 c.args.file.unit)
    (little_bytes 4 (text_number (order_of c.args.texts.now) (get_or c.args.file.texts 0 0)))
    (little_bytes 4 (text_number (order_of c.args.texts.now) (get_or c.args.file.texts 1 0)))
    (little_bytes 4 (text_number (order_of c.args.texts.now) (get_or c.args.file.texts 2 0))) (little_bytes 4 0)
    c.in_ok-put_number.ensures.put
    (c.in_ok-put_number-2.ensures.put ∙ ap (λ n. c.put_number.new.out.items ++ little_bytes 4 n) (c.from.ensures ∙ c.text_number-first.ensures))
    (c.in_ok-put_number-3.ensures.put ∙ ap (λ n. c.put_number-2.new.out.items ++ little_bytes 4 n) (c.from-2.ensures ∙ c.text_number-second.ensures))
    (c.in_ok-put_number-4.ensures.put ∙ ap (λ n. c.put_number-3.new.out.items ++ little_bytes 4 n) (c.from-3.ensures ∙ c.text_number-third.ensures))
    c.in_ok-put_number-5.ensures.put

pub returns-in_err-put_number-clause-refused : goal.returns-in_err-put_number-clause-refused
returns-in_err-put_number-clause-refused g c =
    wants_fewer _ _ _ _ (omega (arith)) c.in_err-put_number.ensures.refused

pub returns-in_err-put_number-2-clause-refused : goal.returns-in_err-put_number-2-clause-refused
returns-in_err-put_number-2-clause-refused g c =
    wants_fewer _ _ _ _ (omega (arith, number_grew _ _ 8 _ c.in_ok-put_number.ensures.put)) c.in_err-put_number-2.ensures.refused

pub returns-in_err-put_number-3-clause-refused : goal.returns-in_err-put_number-3-clause-refused
returns-in_err-put_number-3-clause-refused g c =
    wants_fewer _ _ _ _ (omega (arith, number_grew _ _ 8 _ c.in_ok-put_number.ensures.put, number_grew _ _ 4 _ c.in_ok-put_number-2.ensures.put)) c.in_err-put_number-3.ensures.refused

pub returns-in_err-put_number-4-clause-refused : goal.returns-in_err-put_number-4-clause-refused
returns-in_err-put_number-4-clause-refused g c =
    wants_fewer _ _ _ _ (omega (arith, number_grew _ _ 8 _ c.in_ok-put_number.ensures.put, number_grew _ _ 4 _ c.in_ok-put_number-2.ensures.put, number_grew _ _ 4 _ c.in_ok-put_number-3.ensures.put)) c.in_err-put_number-4.ensures.refused

pub returns-in_err-put_number-5-clause-refused : goal.returns-in_err-put_number-5-clause-refused
returns-in_err-put_number-5-clause-refused g c =
    wants_fewer _ _ _ _ (omega (arith, number_grew _ _ 8 _ c.in_ok-put_number.ensures.put, number_grew _ _ 4 _ c.in_ok-put_number-2.ensures.put, number_grew _ _ 4 _ c.in_ok-put_number-3.ensures.put, number_grew _ _ 4 _ c.in_ok-put_number-4.ensures.put)) c.in_err-put_number-5.ensures.refused
