use Rattle.std.proofs.Common.{◌≡◌, ◌-◌, arith, length, take, drop, sym}
use Rattle.std.proofs.lemmas.List.{take-append-drop, take_all, length-take-le, length-drop}
use Rattle.dl_rows.proofs.PhaseLemmas.{rest_within, rest_ends}
use Rattle.dl_rows.proofs.operation_state.rest.Goals as goal

pub returns-then-left-len-clause-step : goal.returns-then-left-len-clause-step
returns-then-left-len-clause-step c order h v s =
    let bytes = c.args.bytes.now in
    let e : take (length bytes - c.args.left) (drop c.args.left bytes) ≡ drop c.args.left bytes =
    take_all (length bytes - c.args.left) (drop c.args.left bytes) (omega (arith, length-drop c.args.left bytes)) in
    rest_ends order h c.args.left v bytes _ (take c.args.left bytes) s (rw e (sym (take-append-drop c.args.left bytes)))
    (length-take-le c.args.left bytes (omega arith))

pub returns-else-left-len-clause-step : goal.returns-else-left-len-clause-step
returns-else-left-len-clause-step c order h v s = rest_within order h c.args.left v c.args.bytes.now s (omega arith)
