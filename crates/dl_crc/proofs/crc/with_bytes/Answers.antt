use Rattle.std.proofs.Common.{get_or, take, sym, ap, ◌∙◌}
use Rattle.std.proofs.lemmas.List.{take_more, take_all}
use Rattle.dl_crc.specs.Crc32.{with_byte, with_bytes}
use Rattle.dl_crc.proofs.CrcLemmas.{with_bytes-append}
use Rattle.dl_crc.proofs.crc.with_bytes.Goals as goal

pub loop-byte-preserved : goal.loop-byte-preserved
loop-byte-preserved c =
    let bytes = c.args.bytes.now in
    let i = c.loop-byte.byte-index in
    let first = c.args.register in
    c.with_byte-register.ensures ∙ ap (λ r. with_byte r (get_or bytes i 0)) c.loop-byte.invariant
    ∙ sym (with_bytes-append first (take i bytes) _)
    ∙ ap (with_bytes first) (sym (take_more bytes i 0 c.loop-byte-test.true))

pub returns : goal.returns
returns c = c.loop-byte.invariant ∙ ap (with_bytes c.args.register) (take_all _ c.args.bytes.now c.loop-byte-test.false)
