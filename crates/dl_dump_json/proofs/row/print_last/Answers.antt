use Rattle.std.proofs.Common.{◌≡◌, ℕ, arith, codes, refl}
use Rattle.std.proofs.lemmas.Fmt.{decimal_digit}
use Rattle.dl_path.proofs.PrintLemmas.{prints_same}
use Rattle.dl_dump_json.specs.Rows.{last_members}
use Rattle.dl_dump_json.proofs.row.print_last.Goals as goal

both_zero : (isa discriminator : ℕ) → isa ≡ 0 → discriminator ≡ 0
    → codes ",\"isa\":0,\"discriminator\":0}\n" ≡ last_members isa discriminator
unfolding last_members
both_zero isa discriminator none other = rw (none, other, decimal_digit 0 (omega arith)) refl

pub returns-then-discriminator-eq0-clause-printed : goal.returns-then-discriminator-eq0-clause-printed
returns-then-discriminator-eq0-clause-printed g c =
    prints_same _ _ _ _ (codes ",\"isa\":0,\"discriminator\":0}\n") (last_members c.args.isa c.args.discriminator) _
    (both_zero c.args.isa c.args.discriminator c.if-isa-eq0.true c.if-discriminator-eq0.true) c.put.ensures.printed
