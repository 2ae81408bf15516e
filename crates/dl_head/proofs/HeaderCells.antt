-- The bytes of a header hold the cells of its tables.
use Rattle.std.proofs.Common.{◌≡◌, ◌++◌, length, refl, ap, ◌∙◌, arith, length-append}
use Rattle.dl_field.specs.Cells.{rest_cells}
use Rattle.dl_field.specs.Layout.{Layout, following_all}
use Rattle.dl_head.specs.Cells.{cut_cells}
use Rattle.dl_head.specs.HeaderLayout.{header_layout}
use Rattle.dl_head.specs.Laws.{HeaderHoldsItsCells}
use Rattle.dl_head.proofs.CellLemmas.{header_few}
use Rattle.dl_head.proofs.HeaderLaws.{made_last, header_cut}
use Rattle.dl_head.proofs.ReadSound.{whole_read}

pub header_holds_its_cells : HeaderHoldsItsCells
header_holds_its_cells dialect h w v is =
    let sum = (whole_read dialect.order h ⊥ (length is.items) (λ known. absurd known) dialect is.items refl
    (omega arith)
    (record { bytes = is.fields; all = λ known. absurd known; spelt = is.spelt; made = is.made })).cells in
    let rest : rest_cells (following_all (header_layout dialect) is.items) (is.padding ++ v) ≡ 0 =
    ap (λ (l : Layout). rest_cells l (is.padding ++ v)) (made_last _ h is.made) in
    let few = header_few dialect is.items is.fields is.spelt in (
      ap (cut_cells dialect) (header_cut dialect h w v is) ∙ omega (arith, sum, rest),
      omega (arith, sum, few, ap length is.whole, length-append is.fields is.padding),
    )
