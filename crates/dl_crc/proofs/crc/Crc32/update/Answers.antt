use Rattle.std.proofs.Common.{◌≡◌, ◌*◌, ◌/◌, ◌++◌, length, sym, ap, ap₂, ◌∙◌, take-append-drop}
use Rattle.std.specs.List.{concat}
use Rattle.dl_crc.specs.Crc32.{with_bytes, turned_over}
use Rattle.dl_crc.proofs.CrcLemmas.{chunks_joined, with_bytes-append}
use Rattle.dl_crc.proofs.crc.Crc32.update.Goals as goal

pub returns : goal.returns
returns c before stands =
    let bytes = c.args.bytes.now in
    let first = c.args.self.now.register in
    let n = length bytes / 8 * 8 in
    let eights = c.as_chunks.result.0.now in
    let last = c.as_chunks.result.1.now in
    let whole : concat eights ++ last ≡ bytes =
    ap₂ (λ a b. a ++ b) (ap concat c.as_chunks.ensures.front ∙ chunks_joined 8 (length bytes / 8) bytes)
    c.as_chunks.ensures.back ∙ take-append-drop n bytes in
    record {
      register =
          c.with_bytes-self.ensures ∙ ap (λ r. with_bytes r last) c.with_eights.ensures
          ∙ sym (with_bytes-append first (concat eights) last) ∙ ap (with_bytes first) whole
          ∙ ap (λ r. with_bytes r bytes) stands.register ∙ sym (with_bytes-append (turned_over 0) before bytes);
    }
