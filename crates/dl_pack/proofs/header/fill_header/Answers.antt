use Rattle.std.proofs.Common.{sym, arith, length-drop, ◌-◌, ap, ◌∙◌, ◌++◌, ◌≤◌, drop, length, ◌≡◌, rules}
use Rattle.std.proofs.lemmas.List.{take_all}
use Rattle.dl_crc.specs.Crc32.{crc_32}
use Rattle.dl_pack.proofs.WholeLemmas.{filled_whole}
use Rattle.dl_pack.proofs.HeadLemmas.{filled_sums}
use Rattle.dl_pack.proofs.header.fill_header.Goals as goal

pub returns-clause-whole : goal.returns-clause-whole
returns-clause-whole g c =
    let same : c.args.bytes.now.len ≡ length c.args.bytes.now.items = sym c.deref.ensures.len ∙ ap length c.deref.ensures.value in
    let room : 128 ≤ length c.args.bytes.now.items = omega arith in
    let five : length c.args.described.now.widths ≡ 5 = search rules in
    let all : length (drop 128 c.deref.result.now) ≤ length c.deref.result.now - 128 =
    omega (arith, length-drop 128 c.deref.result.now) in
    filled_whole c.args.bytes.now.len c.len.result c.args.bytes.now.items c.replace_front.new.bytes c.as_slice.result.now
    c.args.described.now.flags c.args.described.now.base c.args.described.now.count c.args.described.now.files
    c.args.described.now.texts c.args.described.now.text_bytes c.crc_32.result c.args.described.now.widths
    c.args.build_id.now same (c.len.ensures ∙ same) room five c.requires.short
    (c.crc_32.ensures ∙ ap crc_32 (take_all _ (drop 128 c.deref.result.now) all) ∙ ap (λ xs. crc_32 (drop 128 xs)) c.deref.ensures.value)
    (c.as_slice.ensures.value ∙ c.in_ok-header.ensures.bytes)
    (c.replace_front.ensures
    ∙ ap (λ xs. c.as_slice.result.now ++ drop (length c.as_slice.result.now) xs) c.as_mut_slice.ensures.value)

pub returns-clause-sums : goal.returns-clause-sums
returns-clause-sums g c =
    let same : c.args.bytes.now.len ≡ length c.args.bytes.now.items = sym c.deref.ensures.len ∙ ap length c.deref.ensures.value in
    let room : 128 ≤ length c.args.bytes.now.items = omega arith in
    let five : length c.args.described.now.widths ≡ 5 = search rules in
    let all : length (drop 128 c.deref.result.now) ≤ length c.deref.result.now - 128 =
    omega (arith, length-drop 128 c.deref.result.now) in
    filled_sums c.len.result c.args.bytes.now.items _
    c.args.described.now.flags c.args.described.now.base c.args.described.now.count c.args.described.now.files
    c.args.described.now.texts c.args.described.now.text_bytes c.crc_32.result c.args.described.now.widths
    c.args.build_id.now (c.len.ensures ∙ same) (omega arith) room five c.requires.short
    (c.crc_32.ensures ∙ ap crc_32 (take_all _ (drop 128 c.deref.result.now) all) ∙ ap (λ xs. crc_32 (drop 128 xs)) c.deref.ensures.value)
    (omega arith) c.in_ok-header.ensures.sum (returns-clause-whole g c)
