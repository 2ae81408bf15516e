use Rattle.std.proofs.Common.{ap, ◌∙◌, sym, ℕ, ◌-◌, ◌^◌, min}
use Rattle.dl_rows.proofs.ReaderLemmas.{cells_here, no_cells}
use Rattle.dl_rows.proofs.reader.Reader.cells.Goals as goal

pub returns-in-Foreign : goal.returns-in-Foreign
returns-in-Foreign c b s =
    let at = rw c.in-Foreign.is at s in no_cells c.args.self.now.dialect at.0 b at.1.foreign

pub returns-in-AfterHeader : goal.returns-in-AfterHeader
returns-in-AfterHeader c b s =
    c.cells-in-AfterHeader.ensures
    ∙ ap (λ (n : ℕ). min n (2 ^ 64 - 1)) (sym (cells_here c.args.self.now.dialect c.in-AfterHeader.header
    c.in-AfterHeader.field-2 b (rw c.in-AfterHeader.is at s).in_body))
