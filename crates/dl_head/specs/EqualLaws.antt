-- The test of equality of headers decides it, and so is an equivalence. No promise rests on this file.
use Rattle.std.proofs.Common.{◌≡◌, ℕ, Bool, Decides, ap, ◌&&◌, eqb}
use Rattle.std.specs.Cmp.{IsEquivalence, decided}
use Rattle.std.specs.Ordering.{int_eq}
use Rattle.std.proofs.lemmas.Slice.Eq.{bytes_eq-Decides}
use Rattle.std.proofs.lemmas.Bool.Decides.{Decides-eqb, Decides-int_eq, Decides-and, Decides-like}
use Rattle.dl_field.specs.declared.params.Params.{Params}
use Rattle.dl_field.specs.HeaderData.{HeaderData}
use Rattle.dl_table.specs.Built.{same_format}
use Rattle.dl_table.specs.Equal.{same_table}
use Rattle.dl_table.specs.EqualLaws.{same_format-Decides, same_table-Decides}
use Rattle.dl_head.specs.Equal.{same_params, same_header}

-- two numbers of two records, and what is left to compare
number_and : (m n : ℕ) (rest : Bool) (P : Type 0) → Decides rest P → Decides (eqb m n && rest) ((m ≡ n) × P)
number_and m n rest P d = Decides-and (eqb m n) rest (Decides-eqb m n) d

pub same_params-Decides : (p q : Params) → Decides (same_params p q) (p ≡ q)
same_params-Decides p q =
    let lengths = bytes_eq-Decides p.lengths.items q.lengths.items in
    let base = number_and p.line_range q.line_range _ _ (number_and p.opcode_base q.opcode_base _ _ lengths) in
    let line_base = Decides-and (int_eq p.line_base q.line_base) _ (Decides-int_eq p.line_base q.line_base) base in
    let sizes = number_and p.version q.version _ _ (number_and p.address_size q.address_size _ _
    (number_and p.segment_selector_size q.segment_selector_size _ _
    (number_and p.minimum_instruction_length q.minimum_instruction_length _ _
    (number_and p.maximum_operations_per_instruction q.maximum_operations_per_instruction _ _
    (number_and p.default_is_stmt q.default_is_stmt _ _ line_base))))) in
    Decides-like (same_params p q)
    (λ h. λ i. record {
      format = h.0 i;
      version = h.1.0 i;
      address_size = h.1.1.0 i;
      segment_selector_size = h.1.1.1.0 i;
      minimum_instruction_length = h.1.1.1.1.0 i;
      maximum_operations_per_instruction = h.1.1.1.1.1.0 i;
      default_is_stmt = h.1.1.1.1.1.1.0 i;
      line_base = h.1.1.1.1.1.1.1.0 i;
      line_range = h.1.1.1.1.1.1.1.1.0 i;
      opcode_base = h.1.1.1.1.1.1.1.1.1.0 i;
      lengths = record { items = h.1.1.1.1.1.1.1.1.1.1 i };
    })
    (λ e. (
      λ i. (e i).format,
      (
        λ i. (e i).version,
        (
          λ i. (e i).address_size,
          (
            λ i. (e i).segment_selector_size,
            (
              λ i. (e i).minimum_instruction_length,
              (
                λ i. (e i).maximum_operations_per_instruction,
                (
                  λ i. (e i).default_is_stmt,
                  (
                    λ i. (e i).line_base,
                    (
                      λ i. (e i).line_range,
                      (λ i. (e i).opcode_base, λ i. (e i).lengths.items),
                    ),
                  ),
                ),
              ),
            ),
          ),
        ),
      ),
    ))
    (Decides-and (same_format p.format q.format) _ (same_format-Decides p.format q.format) sizes)

pub same_header-Decides : (g h : HeaderData) → Decides (same_header g h) (g ≡ h)
same_header-Decides g h =
    Decides-like (same_header g h) (λ k. λ i. record { params = k.0 i; directories = k.1.0 i; files = k.1.1 i })
    (λ e. (
      ap (λ (u : HeaderData). u.params) e,
      (ap (λ (u : HeaderData). u.directories) e, ap (λ (u : HeaderData). u.files) e),
    ))
    (Decides-and (same_params g.params h.params) _ (same_params-Decides g.params h.params)
    (Decides-and (same_table g.directories h.directories) (same_table g.files h.files)
    (same_table-Decides g.directories h.directories) (same_table-Decides g.files h.files)))

pub same_header-laws : IsEquivalence same_header
same_header-laws = decided same_header same_header-Decides
