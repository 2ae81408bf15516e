use Rattle.std.proofs.Common.{◌≡◌, ℕ, ◌+◌, ◌-◌, List, [], ◌∷◌, ◌++◌, take, get_or, arith, sym, ap, ◌∙◌}
use Rattle.std.proofs.lemmas.List.{take_more}
use Rattle.dl_table.specs.Text.{text_at}
use Rattle.dl_print.proofs.StringLemmas.{text_at-push}
use Rattle.dl_print.proofs.output.string_sections.texts_len.Goals as goal

pub loop-len-preserved : goal.loop-len-preserved
loop-len-preserved c =
    let bytes = c.args.bytes.now in
    let len = c.loop-len.len in
    let front = take (len - 1) bytes in
    let last = get_or bytes (len - 1) 0 in
    let one : len - 1 + 1 ≡ len = omega arith in
    let whole : take len bytes ≡ front ++ last ∷ [] =
    ap (λ (n : ℕ). take n bytes) (sym one) ∙ take_more bytes (len - 1) 0 (omega arith) in
    record {
      within = omega arith;
      texts = λ n. sym (text_at-push front last n c.if-bytes-len-ne0.true)
          ∙ ap (λ (l : List ℕ). text_at l n) (sym whole) ∙ c.loop-len.invariant.texts n;
    }
