use Rattle.std.proofs.Common.{◌≡◌, [], ◌∷◌, ◌++◌, ap, arith, length, rules, ◌∙◌}
use Rattle.std.specs.Prelude.{codes}
use Rattle.dl_num.specs.Fixed.{little_bytes}
use Rattle.dl_pack.specs.Columns.{column_bytes}
use Rattle.dl_memory.proofs.RefusalLemmas.{wants_fewer}
use Rattle.dl_pack.proofs.GrowthLemmas.{column_len, grew, number_grew}
use Rattle.dl_pack.proofs.TableLemmas.{put_three, put_two, put_four}
use Rattle.dl_pack.proofs.header.put_front.Goals as goal

pub returns-clause-put : goal.returns-clause-put
returns-clause-put g c =
    put_three c.args.out.now.items _ _ _ (codes "dlineidx") (little_bytes 4 1)
    (little_bytes 4 c.args.header.now.flags ++ (column_bytes 8 c.args.header.now.numbers
    ++ (c.args.header.now.widths ++ ((0 ∷ 0 ∷ 0 ∷ []) ++ little_bytes 4 c.args.header.now.sum))))
    c.in_ok-put_slice.ensures.put c.in_ok-put_number.ensures.put
    (put_two c.put_number.new.out.items c.put_number-2.new.out.items _ (little_bytes 4 c.args.header.now.flags)
    (column_bytes 8 c.args.header.now.numbers
    ++ (c.args.header.now.widths ++ ((0 ∷ 0 ∷ 0 ∷ []) ++ little_bytes 4 c.args.header.now.sum)))
    (c.in_ok-put_number-2.ensures.put ∙ ap (λ n. c.put_number.new.out.items ++ little_bytes 4 n) c.from.ensures)
    (put_four c.put_number-2.new.out.items _ _ _ _ (column_bytes 8 c.args.header.now.numbers) c.args.header.now.widths
    (0 ∷ 0 ∷ 0 ∷ []) (little_bytes 4 c.args.header.now.sum) c.in_ok-put_numbers.ensures.put c.in_ok-put_slice-2.ensures.put
    c.in_ok-put_slice-3.ensures.put
    (c.in_ok-put_number-3.ensures.put ∙ ap (λ n. c.put_slice-3.new.out.items ++ little_bytes 4 n) c.from-2.ensures)))

pub returns-in_err-put_slice-clause-refused : goal.returns-in_err-put_slice-clause-refused
returns-in_err-put_slice-clause-refused g c =
    let six : length c.args.header.now.numbers ≡ 6 = search rules in
    let five : length c.args.header.now.widths ≡ 5 = search rules in
    wants_fewer _ _ _ _ (omega (arith, six, five)) c.in_err-put_slice.ensures.refused

pub returns-in_err-put_number-clause-refused : goal.returns-in_err-put_number-clause-refused
returns-in_err-put_number-clause-refused g c =
    let six : length c.args.header.now.numbers ≡ 6 = search rules in
    let five : length c.args.header.now.widths ≡ 5 = search rules in
    wants_fewer _ _ _ _ (omega (arith, six, five, grew c.args.out.now.items c.put_slice.new.out.items _ c.in_ok-put_slice.ensures.put)) c.in_err-put_number.ensures.refused

pub returns-in_err-put_number-2-clause-refused : goal.returns-in_err-put_number-2-clause-refused
returns-in_err-put_number-2-clause-refused g c =
    let six : length c.args.header.now.numbers ≡ 6 = search rules in
    let five : length c.args.header.now.widths ≡ 5 = search rules in
    wants_fewer _ _ _ _ (omega (arith, six, five, grew c.args.out.now.items c.put_slice.new.out.items _ c.in_ok-put_slice.ensures.put, number_grew c.put_slice.new.out.items c.put_number.new.out.items 4 1 c.in_ok-put_number.ensures.put)) c.in_err-put_number-2.ensures.refused

pub returns-in_err-put_numbers-clause-refused : goal.returns-in_err-put_numbers-clause-refused
returns-in_err-put_numbers-clause-refused g c =
    let six : length c.args.header.now.numbers ≡ 6 = search rules in
    let five : length c.args.header.now.widths ≡ 5 = search rules in
    wants_fewer _ _ _ _ (omega (arith, six, five, grew c.args.out.now.items c.put_slice.new.out.items _ c.in_ok-put_slice.ensures.put, number_grew c.put_slice.new.out.items c.put_number.new.out.items 4 1 c.in_ok-put_number.ensures.put, number_grew c.put_number.new.out.items c.put_number-2.new.out.items 4 c.from.result c.in_ok-put_number-2.ensures.put)) c.in_err-put_numbers.ensures.refused

pub returns-in_err-put_slice-2-clause-refused : goal.returns-in_err-put_slice-2-clause-refused
returns-in_err-put_slice-2-clause-refused g c =
    let six : length c.args.header.now.numbers ≡ 6 = search rules in
    let five : length c.args.header.now.widths ≡ 5 = search rules in
    wants_fewer _ _ _ _ (omega (arith, six, five, grew c.args.out.now.items c.put_slice.new.out.items _ c.in_ok-put_slice.ensures.put, number_grew c.put_slice.new.out.items c.put_number.new.out.items 4 1 c.in_ok-put_number.ensures.put, number_grew c.put_number.new.out.items c.put_number-2.new.out.items 4 c.from.result c.in_ok-put_number-2.ensures.put, grew c.put_number-2.new.out.items c.put_numbers.new.out.items _ c.in_ok-put_numbers.ensures.put, column_len 8 c.args.header.now.numbers)) c.in_err-put_slice-2.ensures.refused

pub returns-in_err-put_slice-3-clause-refused : goal.returns-in_err-put_slice-3-clause-refused
returns-in_err-put_slice-3-clause-refused g c =
    let six : length c.args.header.now.numbers ≡ 6 = search rules in
    let five : length c.args.header.now.widths ≡ 5 = search rules in
    wants_fewer _ _ _ _ (omega (arith, six, five, grew c.args.out.now.items c.put_slice.new.out.items _ c.in_ok-put_slice.ensures.put, number_grew c.put_slice.new.out.items c.put_number.new.out.items 4 1 c.in_ok-put_number.ensures.put, number_grew c.put_number.new.out.items c.put_number-2.new.out.items 4 c.from.result c.in_ok-put_number-2.ensures.put, grew c.put_number-2.new.out.items c.put_numbers.new.out.items _ c.in_ok-put_numbers.ensures.put, column_len 8 c.args.header.now.numbers, grew c.put_numbers.new.out.items c.put_slice-2.new.out.items _ c.in_ok-put_slice-2.ensures.put)) c.in_err-put_slice-3.ensures.refused

pub returns-in_err-put_number-3-clause-refused : goal.returns-in_err-put_number-3-clause-refused
returns-in_err-put_number-3-clause-refused g c =
    let six : length c.args.header.now.numbers ≡ 6 = search rules in
    let five : length c.args.header.now.widths ≡ 5 = search rules in
    wants_fewer _ _ _ _ (omega (arith, six, five, grew c.args.out.now.items c.put_slice.new.out.items _ c.in_ok-put_slice.ensures.put, number_grew c.put_slice.new.out.items c.put_number.new.out.items 4 1 c.in_ok-put_number.ensures.put, number_grew c.put_number.new.out.items c.put_number-2.new.out.items 4 c.from.result c.in_ok-put_number-2.ensures.put, grew c.put_number-2.new.out.items c.put_numbers.new.out.items _ c.in_ok-put_numbers.ensures.put, column_len 8 c.args.header.now.numbers, grew c.put_numbers.new.out.items c.put_slice-2.new.out.items _ c.in_ok-put_slice-2.ensures.put, grew c.put_slice-2.new.out.items c.put_slice-3.new.out.items _ c.in_ok-put_slice-3.ensures.put)) c.in_err-put_number-3.ensures.refused
