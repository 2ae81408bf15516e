-- What is kept of answers. No promise rests on this file.
use Rattle.dl_addr.specs.declared.locating.Answer.{Answer}
use Rattle.dl_addr.specs.declared.locating.Locator.{Locator}
use Rattle.dl_addr.specs.Locating.{path_of_located, printed_by}
use Rattle.dl_addr.specs.Location.{Location, location_at}
use Rattle.dl_addr.specs.Locations.{Located}
use Rattle.dl_addr.specs.Texts.{path_kept}

-- the path is as it is printed: of the last component alone, where it was asked for
abbrev pub answer_seen : Answer → Location
answer_seen a = record {
  unit = a.path.file.now.unit.offset;
  path = path_kept a.path;
  line = a.position.line;
  column = a.position.column;
  discriminator = a.position.discriminator;
  is_stmt = a.position.is_stmt;
}

abbrev pub located_seen : {M : Type 0} → Locator M → Located → Location
located_seen first l =
    location_at l.row l.unit (printed_by first (path_of_located first l).1 (path_of_located first l).0)
