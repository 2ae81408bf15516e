use Rattle.std.proofs.Common.{◌+◌, ◌*◌, ◌∷◌, [], length, ap, arith, length-append}
use Rattle.std.specs.Option.{option_copied}
use Rattle.dl_addr.specs.Room.{paths_room, unit_cells}
use Rattle.dl_addr.proofs.KeepLemmas.{on_err}
use Rattle.dl_addr.proofs.RoomLemmas.{all_within}
use Rattle.dl_addr.proofs.texts.add_file.Goals as goal

pub returns-clause-few : goal.returns-clause-few
returns-clause-few g c count few =
    let path = c.in_ok-path.path in
    record {
      files = omega (
        arith,
        few.files,
        ap length c.in_ok-push.ensures.items,
        length-append c.args.paths.now.files.items (path
            ∷ []),
      );
      texts = omega (arith, few.texts, c.in_ok-path.ensures.few);
    }

pub returns-in_err-path-clause-refused : goal.returns-in_err-path-clause-refused
returns-in_err-path-clause-refused g c =
    let h = option_copied c.args.unit.now.header in
    on_err c.from_residual.result (λ count few put.
    c.in_err-path.ensures.refused (2 * count) (paths_room (count + 1) h) put (omega arith) (omega (arith, few.texts))
    (all_within c.file_parts-parts.result (unit_cells c.args.unit.now) (paths_room (count + 1) h) (omega arith)
    c.file_parts-parts.ensures.within))

pub returns-in_err-push-clause-refused : goal.returns-in_err-push-clause-refused
returns-in_err-push-clause-refused g c =
    on_err c.from_residual-in_err-push.result (λ count few put. (
      length c.args.paths.now.files.items + 1,
      omega (arith, few.files),
      c.in_err-push.ensures.refused,
    ))
