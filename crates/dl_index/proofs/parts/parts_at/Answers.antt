use Rattle.std.proofs.Common.{◌+◌, ◌*◌, ◌/◌, ◌≡◌, take, drop, sym, ap, ap₂, ◌∙◌, arith, refl}
use Rattle.dl_index.specs.Layout.{rounded}
use Rattle.dl_index.proofs.LayoutLemmas.{part_of}
use Rattle.dl_index.proofs.PartLemmas.{div_ceil-eight}
use Rattle.dl_index.proofs.PlaceLemmas.{next_is}
use Rattle.dl_index.proofs.parts.parts_at.Goals as goal

pub returns : goal.returns
returns c is =
    let l = c.args.layout.now in
    let b = c.args.bytes.now in
    let s = is.sizes in
    let w = is.widths in
    let by = part_of is in
    let half : c.div_ceil.result ≡ (l.count + 7) / 8 = c.div_ceil.ensures ∙ div_ceil-eight l.count in
    let e1 = next_is b _ 128 (rounded (l.count * l.starts_width)) _ l.after_starts refl in
    let e2 = next_is b _ _ (rounded (l.count * l.files_width)) _ l.after_files e1 in
    let e3 = next_is b _ _ (rounded (l.count * l.lines_width)) _ l.after_lines e2 in
    let e4 = next_is b _ _ (rounded (l.count * l.columns_width)) _ l.after_columns e3 in
    let e5 = next_is b _ _ (rounded (l.count * l.discriminators_width)) _ l.after_discriminators e4 in
    let e6 = next_is b _ _ (rounded ((l.count + 7) / 8)) _ l.after_statements e5 in
    let e7 = next_is b _ _ (rounded (l.files * 24)) _ l.after_file_table e6 in
    let e8 = next_is b _ _ (rounded (l.texts * 16)) _ l.after_text_table e7 in
    let starts = c.column_at.ensures in
    let files = c.column_at-2.ensures in
    let statements = c.part_at.ensures in
    let file_table = c.part_at-2.ensures in
    let text_table = c.part_at-3.ensures in
    let texts = c.part_at-4.ensures in
    let bits_len = statements.len in
    let files_len = file_table.len in
    let texts_len = text_table.len in
    let same_count = s.count in
    let same_files = s.files in
    let same_texts = s.texts in
    let same_bytes = s.text_bytes in
    let end = l.after_texts in
    let enough = c.requires in
    record {
      starts = record { bytes = starts.column ∙ by 0; width = starts.width ∙ w.starts; len = starts.len ∙ s.count };
      files = record {
        bytes = files.column ∙ ap (take (l.count * l.files_width)) e1 ∙ by 1;
        width = files.width ∙ w.files;
        len = files.len ∙ s.count;
      };
      statements = statements.part ∙ ap₂ (λ n rest. take n rest) half e5 ∙ by 5;
      file_table = file_table.part ∙ ap (take (l.files * 24)) e6 ∙ by 6;
      text_table = text_table.part ∙ ap (take (l.texts * 16)) e7 ∙ by 7;
      texts = texts.part ∙ ap (take l.text_bytes) e8 ∙ by 8;
      statements_len = omega arith;
      file_table_len = omega arith;
      text_table_len = omega arith;
      texts_len = texts.len ∙ s.text_bytes;
      texts_there = sym (by 8) ∙ sym (ap (take l.text_bytes) e8) ∙ ap (λ n. take n (drop l.texts_at b)) s.text_bytes;
      texts_within = omega arith;
    }
