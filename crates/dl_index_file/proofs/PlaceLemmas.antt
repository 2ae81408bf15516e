-- Where the parts of an index stand: one behind the other, up to its end.
use Rattle.std.proofs.Common.{◌≡◌, ℕ, ◌+◌, ◌≤◌, List, take, drop, map, sum, sym, ap, ap₂, ◌∙◌, arith}
use Rattle.std.proofs.lemmas.List.{drop-drop}
use Rattle.dl_elf.specs.declared.file.Range.{Range}
use Rattle.dl_index.specs.Layout.{rounded}
use Rattle.dl_index.specs.Parts.{Reads, header_sizes}
use Rattle.dl_index.proofs.PartLemmas.{part_by}
use Rattle.dl_index.specs.declared.header.Header.{Header}
use Rattle.dl_index_file.specs.declared.parts.Places.{Places}
use Rattle.dl_index_file.specs.Places.{IsRange, behind, ArePlaces}
use Rattle.dl_index_file.specs.Kept.{AllEnd, AreParts}

behind_is : {r : Range} {from len : ℕ} → IsRange r from len → behind r ≡ from + rounded len
behind_is is = ap₂ (λ n m. n + rounded m) is.offset is.size

summed : (a0 a1 a2 a3 a4 a5 a6 a7 a8 n1 n2 n3 n4 n5 n6 n7 n8 n9 : ℕ) → n1 ≡ 128 + a0 → n2 ≡ n1 + a1 → n3 ≡ n2 + a2
    → n4 ≡ n3 + a3 → n5 ≡ n4 + a4 → n6 ≡ n5 + a5 → n7 ≡ n6 + a6 → n8 ≡ n7 + a7 → n9 ≡ n8 + a8
    → n9 ≡ 128 + (0 + a0 + a1 + a2 + a3 + a4 + a5 + a6 + a7 + a8)
summed a0 a1 a2 a3 a4 a5 a6 a7 a8 n1 n2 n3 n4 n5 n6 n7 n8 n9 e0 e1 e2 e3 e4 e5 e6 e7 e8 = omega arith

-- the last part ends where the bytes of all do
pub ends_at : {h : Header} {p : Places} → ArePlaces p h → behind p.texts ≡ 128 + sum (map rounded (header_sizes h))
ends_at p =
    summed _ _ _ _ _ _ _ _ _ _ _ _ _ _ _ _ _ _ (behind_is p.starts) (behind_is p.files) (behind_is p.lines)
    (behind_is p.columns) (behind_is p.discriminators) (behind_is p.statements) (behind_is p.file_table)
    (behind_is p.text_table) (behind_is p.texts)

pub rounds_up : (n : ℕ) → n ≤ rounded n
rounds_up n = omega arith

-- each part ends where the last one does, or before
module _ {h : Header} {p : Places} (are : ArePlaces p h) where
  pub ends_before : (most : ℕ) → behind p.texts ≤ most → AllEnd p most
  ends_before most upto =
      let i0 = rounds_up p.starts.size in
      let i1 = rounds_up p.files.size in
      let i2 = rounds_up p.lines.size in
      let i3 = rounds_up p.columns.size in
      let i4 = rounds_up p.discriminators.size in
      let i5 = rounds_up p.statements.size in
      let i6 = rounds_up p.file_table.size in
      let i7 = rounds_up p.text_table.size in
      let i8 = rounds_up p.texts.size in
      let e1 = are.files.offset in
      let e2 = are.lines.offset in
      let e3 = are.columns.offset in
      let e4 = are.discriminators.offset in
      let e5 = are.statements.offset in
      let e6 = are.file_table.offset in
      let e7 = are.text_table.offset in
      let e8 = are.texts.offset in
      record {
        starts = omega arith;
        files = omega arith;
        lines = omega arith;
        columns = omega arith;
        discriminators = omega arith;
        statements = omega arith;
        file_table = omega arith;
        text_table = omega arith;
        texts = omega arith;
      }

-- the bytes behind a part, where the next one begins
next_rest : (b rest : List ℕ) {r : Range} {from len : ℕ} → IsRange r from len → rest ≡ drop r.offset b
    → drop (rounded len) rest ≡ drop (behind r) b
next_rest b rest {r} is begins =
    ap₂ (λ n x. drop (rounded n) x) (sym is.size) begins ∙ drop-drop (rounded r.size) r.offset b

here : (b rest : List ℕ) {r : Range} {from len : ℕ} → IsRange r from len → rest ≡ drop r.offset b
    → take len rest ≡ take r.size (drop r.offset b)
here b rest is begins = ap₂ take (sym is.size) begins

pub are_parts : {h : Header} {p : Places} {b : List ℕ} → ArePlaces p h → Reads h b → AreParts p b
are_parts {h} {p} {b} are r =
    let by = part_by r in
    let b0 : drop 128 b ≡ drop p.starts.offset b = ap (λ n. drop n b) (sym are.starts.offset) in
    let b1 = next_rest b _ are.starts b0 ∙ ap (λ n. drop n b) (sym are.files.offset) in
    let b2 = next_rest b _ are.files b1 ∙ ap (λ n. drop n b) (sym are.lines.offset) in
    let b3 = next_rest b _ are.lines b2 ∙ ap (λ n. drop n b) (sym are.columns.offset) in
    let b4 = next_rest b _ are.columns b3 ∙ ap (λ n. drop n b) (sym are.discriminators.offset) in
    let b5 = next_rest b _ are.discriminators b4 ∙ ap (λ n. drop n b) (sym are.statements.offset) in
    let b6 = next_rest b _ are.statements b5 ∙ ap (λ n. drop n b) (sym are.file_table.offset) in
    let b7 = next_rest b _ are.file_table b6 ∙ ap (λ n. drop n b) (sym are.text_table.offset) in
    let b8 = next_rest b _ are.text_table b7 ∙ ap (λ n. drop n b) (sym are.texts.offset) in
    record {
      starts = sym (by 0) ∙ here b _ are.starts b0;
      files = sym (by 1) ∙ here b _ are.files b1;
      lines = sym (by 2) ∙ here b _ are.lines b2;
      columns = sym (by 3) ∙ here b _ are.columns b3;
      discriminators = sym (by 4) ∙ here b _ are.discriminators b4;
      statements = sym (by 5) ∙ here b _ are.statements b5;
      file_table = sym (by 6) ∙ here b _ are.file_table b6;
      text_table = sym (by 7) ∙ here b _ are.text_table b7;
      texts = sym (by 8) ∙ here b _ are.texts b8;
    }
