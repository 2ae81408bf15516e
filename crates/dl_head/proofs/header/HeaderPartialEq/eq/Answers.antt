use Rattle.std.proofs.Common.{rules, ◌≡◌, Bool, Decides, sym, subst}
use Rattle.dl_head.specs.Equal.{same_header}
use Rattle.dl_head.specs.EqualLaws.{same_header-Decides}
use Rattle.dl_head.proofs.header.HeaderPartialEq.eq.Goals as goal

pub returns-then-eq-2-clause-exact : goal.returns-then-eq-2-clause-exact
returns-then-eq-2-clause-exact c =
    let same : c.eq-then-eq-2.result ≡ same_header c.args.self.now c.args.other.now = search rules in
    subst (λ (b : Bool). Decides b (c.args.self.now ≡ c.args.other.now)) (sym same)
    (same_header-Decides c.args.self.now c.args.other.now)
