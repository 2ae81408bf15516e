use Rattle.std.proofs.Common.{◌≡◌, ◌+◌, ◌*◌, ◌/◌, ap, ◌∙◌, arith, sym}
use Rattle.dl_index.specs.Columns.{size_of}
use Rattle.dl_index.specs.Layout.{rounded}
use Rattle.dl_index.proofs.LayoutLemmas.{after_column}
use Rattle.dl_index.proofs.PartLemmas.{div_ceil-eight, size_said}
use Rattle.dl_index.proofs.layout.Layout.of.Goals as goal

pub invariant_of-result : goal.invariant_of-result
invariant_of-result c =
    let h = c.args.header.now in
    let w = h.widths in
    let half : c.div_ceil.result ≡ (h.count + 7) / 8 = c.div_ceil.ensures ∙ div_ceil-eight h.count in
    let r1 : c.rounded_up-files_at.result ≡ rounded (h.count * size_of w.starts) = c.rounded_up-files_at.ensures ∙ ap (λ n. rounded (h.count * n)) c.size.ensures in
    let r2 : c.rounded_up.result ≡ rounded (h.count * size_of w.files) = c.rounded_up.ensures ∙ ap (λ n. rounded (h.count * n)) c.size-2.ensures in
    let r3 : c.rounded_up-2.result ≡ rounded (h.count * size_of w.lines) = c.rounded_up-2.ensures ∙ ap (λ n. rounded (h.count * n)) c.size-3.ensures in
    let r4 : c.rounded_up-3.result ≡ rounded (h.count * size_of w.columns) = c.rounded_up-3.ensures ∙ ap (λ n. rounded (h.count * n)) c.size-4.ensures in
    let r5 : c.rounded_up-4.result ≡ rounded (h.count * size_of w.discriminators) = c.rounded_up-4.ensures ∙ ap (λ n. rounded (h.count * n)) c.size-5.ensures in
    let r6 : c.rounded_up-5.result ≡ rounded ((h.count + 7) / 8) = c.rounded_up-5.ensures ∙ ap rounded half in
    let r7 : c.rounded_up-6.result ≡ rounded (h.files * 24) = c.rounded_up-6.ensures in
    let r8 : c.rounded_up-7.result ≡ rounded (h.texts * 16) = c.rounded_up-7.ensures in
    let all = c.requires.fits in
    record {
      starts_size = size_said w.starts _ (sym c.bytes.ensures);
      files_size = size_said w.files _ (sym c.bytes-2.ensures);
      lines_size = size_said w.lines _ (sym c.bytes-3.ensures);
      columns_size = size_said w.columns _ (sym c.bytes-4.ensures);
      discriminators_size = size_said w.discriminators _ (sym c.bytes-5.ensures);
      after_starts = after_column 128 h.count _ _ _ _ c.rounded_up-files_at.ensures c.size.ensures c.bytes.ensures;
      after_files = after_column _ h.count _ _ _ _ c.rounded_up.ensures c.size-2.ensures c.bytes-2.ensures;
      after_lines = after_column _ h.count _ _ _ _ c.rounded_up-2.ensures c.size-3.ensures c.bytes-3.ensures;
      after_columns = after_column _ h.count _ _ _ _ c.rounded_up-3.ensures c.size-4.ensures c.bytes-4.ensures;
      after_discriminators = after_column _ h.count _ _ _ _ c.rounded_up-4.ensures c.size-5.ensures c.bytes-5.ensures;
      after_statements = omega arith;
      after_file_table = omega arith;
      after_text_table = omega arith;
      after_texts = omega arith;
    }
