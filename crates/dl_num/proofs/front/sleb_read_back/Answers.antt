use Rattle.std.proofs.Common.{subst, ℤ, w64}
use Rattle.std.proofs.lemmas.Int.{to_z-of_z}
use Rattle.dl_num.specs.Leb.{IsSleb}
use Rattle.std.proofs.Common.{ap, Some}
use Rattle.dl_num.proofs.ReadBack.{sleb_back, signed64, not_open}
use Rattle.dl_num.proofs.front.sleb_read_back.Goals as goal

pub returns-in_err-found : goal.returns-in_err-found
returns-in_err-found c =
    let spells =
    (subst (λ (i : ℤ). IsSleb c.sleb_bytes-bytes.result.items i) (to_z-of_z w64 c.args.number c.ranges.number)
    c.sleb_bytes-bytes.ensures.shortest.spells) in
    absurd (not_open _ spells.0 spells.1 spells.2 (rw c.as_slice.ensures.value at c.in_err-found.ensures))

pub returns : goal.returns
returns c =
    ap Some (sleb_back _ _ c.args.number
    (rw c.as_slice.ensures.value (subst (λ (i : ℤ). IsSleb c.sleb_bytes-bytes.result.items i)
    (to_z-of_z w64 c.args.number c.ranges.number) c.sleb_bytes-bytes.ensures.shortest.spells))
    (signed64 c.args.number c.ranges.number) _ c.in_ok-found.ensures)
