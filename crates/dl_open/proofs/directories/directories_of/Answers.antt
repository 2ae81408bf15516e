use Rattle.std.proofs.Common.{inr, subst}
use Rattle.dl_open.specs.Directories.{info_size}
use Rattle.dl_open.specs.Pieces.{IsUnread}
use Rattle.dl_open.proofs.DirectoriesLemmas.{has_units}
use Rattle.dl_open.proofs.directories.directories_of.Goals as goal

pub returns-in-Err-NoMemory : goal.returns-in-Err-NoMemory
returns-in-Err-NoMemory g c f known short =
    let all_bytes = g.S.ReadAt.all_bytes in
    let fails_with = g.S.ReadAt.fails_with in
    let told = c.in_ok-info.ensures.opens f known short in
    let units = has_units {S = g.row.S.Denot} all_bytes fails_with (fails_with c.args.file.now) f c.in_ok-info.field-0 c.in-Some.info
    c.in-Some.is told in
    inr (
      units.0,
      units.1,
      subst (IsUnread (g.M.Memory.refuses c.args.memory.now) (info_size units.0) (fails_with c.args.file.now))
          c.in-Err-NoMemory.field-0-is (c.in-Err-NoMemory.ensures c.args.file.now units.0 units.2),
    )
