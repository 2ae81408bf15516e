use Rattle.std.proofs.Common.{arith, ap, length, length-append}
use Rattle.dl_addr.proofs.RoomLemmas.{err_map}
use Rattle.dl_lines.proofs.PathLemmas.{slash_few}
use Rattle.dl_lines.proofs.full_path.put_folder.Goals as goal

pub returns-clause-refused : goal.returns-clause-refused
returns-clause-refused g c =
    err_map c.extend_from_slice-2.result c.extend_from_slice-2.ensures.refused (λ refused. (
      _,
      omega (
        arith,
        slash_few c.args.directory.now,
        ap length c.slash_after.ensures,
        ap length c.in_ok-extend_from_slice.ensures.items,
        length-append c.args.bytes.now.items c.args.directory.now,
      ),
      refused,
    ))
