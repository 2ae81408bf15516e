use Rattle.std.proofs.lemmas.Result.{err_from_is_err_and}
use Rattle.dl_input.proofs.input.Input.next_piece.Goals as goal

pub returns-in_err-n : goal.returns-in_err-n
returns-in_err-n g c =
    let p = err_from_is_err_and c.from_residual.result c.from_residual.ensures.1 in
    rw p.1 (record {
      ok = tt;
      end = tt;
      short = tt;
      err = c.in_err-n.ensures.err;
      blames = c.in_err-n.ensures.blames;
      over = tt;
    })
