use Rattle.std.proofs.Common.{◌≡◌, ◌∙◌, ap, arith, [], ◌++◌, length, rules}
use Rattle.dl_num.specs.Fixed.{little_bytes}
use Rattle.dl_pack.specs.IndexOf.{header_front, header_back}
use Rattle.dl_memory.proofs.RefusalLemmas.{wants_fewer}
use Rattle.dl_pack.proofs.GrowthLemmas.{front_len, grew, number_grew}
use Rattle.dl_pack.proofs.TableLemmas.{put_three}
use Rattle.dl_pack.proofs.header.header_with.Goals as goal

pub returns-clause-made : goal.returns-clause-made
returns-clause-made g c =
    put_three [] _ _ _ (header_front c.args.header.now.flags c.args.header.now.numbers c.args.header.now.widths c.args.header.now.sum)
    (little_bytes 4 c.args.sum) (header_back c.args.build_id.now)
    (c.in_ok-put_front.ensures.put ∙ ap (λ o. o ++ header_front c.args.header.now.flags c.args.header.now.numbers c.args.header.now.widths c.args.header.now.sum) c.new-bytes.ensures.items)
    (c.in_ok-put_number.ensures.put ∙ ap (λ n. c.put_front.new.out.items ++ little_bytes 4 n) c.from.ensures)
    c.in_ok-put_back.ensures.put

pub returns-in_err-put_front-clause-refused : goal.returns-in_err-put_front-clause-refused
returns-in_err-put_front-clause-refused g c =
    wants_fewer _ _ _ _ (omega (arith, ap length c.new-bytes.ensures.items)) c.in_err-put_front.ensures.refused

pub returns-in_err-put_number-clause-refused : goal.returns-in_err-put_number-clause-refused
returns-in_err-put_number-clause-refused g c =
    let h = c.args.header.now in
    let six : length h.numbers ≡ 6 = search rules in
    let five : length h.widths ≡ 5 = search rules in
    let put = grew c.new-bytes.result.items c.put_front.new.out.items (header_front h.flags h.numbers h.widths h.sum)
    c.in_ok-put_front.ensures.put in
    let len = front_len h.flags h.numbers h.widths h.sum six five in
    wants_fewer _ _ _ _ (omega (arith, put, len, ap length c.new-bytes.ensures.items)) c.in_err-put_number.ensures.refused

pub returns-in_err-put_back-clause-refused : goal.returns-in_err-put_back-clause-refused
returns-in_err-put_back-clause-refused g c =
    let h = c.args.header.now in
    let six : length h.numbers ≡ 6 = search rules in
    let five : length h.widths ≡ 5 = search rules in
    let put = grew c.new-bytes.result.items c.put_front.new.out.items (header_front h.flags h.numbers h.widths h.sum)
    c.in_ok-put_front.ensures.put in
    let len = front_len h.flags h.numbers h.widths h.sum six five in
    let more = number_grew c.put_front.new.out.items c.put_number.new.out.items 4 _ c.in_ok-put_number.ensures.put in
    wants_fewer _ _ _ _ (omega (arith, put, len, more, ap length c.new-bytes.ensures.items)) c.in_err-put_back.ensures.refused
