use Rattle.std.proofs.Common.{◌∙◌, ℕ, List, Option, Some, sym, ap}
use Rattle.std.specs.Prelude.{option_map}
use Rattle.std.specs.Option.{option_copied}
use Rattle.dl_rows.specs.declared.row.Row.{Row}
use Rattle.dl_addr.specs.declared.kept.FilePath.{FilePath}
use Rattle.dl_addr.specs.declared.kept.KeptPath.{KeptPath}
use Rattle.dl_addr.specs.declared.locating.Locator.{Locator}
use Rattle.dl_addr.specs.Location.{Location, location_at}
use Rattle.dl_addr.specs.Locating.{printed_by}
use Rattle.dl_addr.specs.Texts.{path_at}
use Rattle.dl_addr.proofs.LocationLemmas.{kept_is}
use Rattle.dl_addr.proofs.locating.Locator.answer_of.Goals as goal

abbrev answer_row : {M : Type 0} → Locator M → Row → List (List ℕ) → FilePath → Location
answer_row l row texts f = location_at row f.unit.offset (printed_by l f.unit (path_at texts f))

abbrev some_row : Row → Option (List ℕ) → ℕ → Option Location
some_row row path unit = Some (location_at row unit path)

pub returns : goal.returns
returns g c =
    let l = c.args.self.now in
    let row = c.args.row in
    let texts = l.paths.texts.items in
    let file = c.in_ok-file.file in
    let p : KeptPath = record { texts = c.as_slice.result; file = file; root = c.root.result } in
    ap (λ (path : Option (List ℕ)). some_row row path file.now.unit.offset) (kept_is p ∙ c.root.ensures)
    ∙ ap (λ (t : List (List ℕ)). Some (answer_row l row t file.now)) c.as_slice.ensures.value
    ∙ ap (option_map (answer_row l row texts)) (sym (ap option_copied c.in_ok-file.was) ∙ c.file.ensures)
