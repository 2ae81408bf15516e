-- The header of a unit has no more cells than the unit has bytes.
use Rattle.std.proofs.Common.{◌≡◌, ◌≤◌, ℕ, List, [], length, Option, Some, None, refl, arith, ap, length-append}
use Rattle.std.specs.Prelude.{option_map}
use Rattle.dl_field.specs.HeaderData.{HeaderData}
use Rattle.dl_head.specs.declared.dialect.Dialect.{Dialect}
use Rattle.dl_head.specs.Header.{header_in}
use Rattle.dl_head.proofs.HeaderCells.{header_holds_its_cells}
use Rattle.dl_head.proofs.HeaderLaws.{found_is_header}
use Rattle.dl_sections.specs.Section.{header_of}
use Rattle.dl_addr.specs.Room.{cells_of}

pub cells_few : (dialect : Dialect) (u : List ℕ) → cells_of (header_of dialect u) ≤ length u
cells_few dialect u = by (header_in dialect u) refl where
  by : (o : Option (HeaderData × List ℕ)) → header_in dialect u ≡ o → cells_of (option_map (λ parts. parts.0) o) ≤ length u
  by None is = omega arith
  by (Some (h, rest)) is =
      let found = found_is_header dialect h u rest is in
      let held = header_holds_its_cells dialect h found.0 [] found.2 in
      omega (arith, held.1, ap length found.1, length-append found.0 rest)
