use Rattle.std.proofs.Common.{◌≡◌, arith}
use Rattle.std.proofs.Math.Logic.{∥∥₁_elim, ∥∥₁_prop}
use Rattle.std.proofs.Props.{props}
use Rattle.dl_file.proofs.StreamLemmas.{more_fed}
use Rattle.dl_file.proofs.stream_reader.StreamReader.feed_piece.Goals as goal

pub returns-clause-fed : goal.returns-clause-fed
returns-clause-fed g c = λ told b stands.
    let r = c.take.new.self in
    let s = c.take.ensures.stands told b stands.0 stands.1 stands.2 in
    let f = c.feed-fed.ensures.fed stands.0 _ s.stands in
    let none : r.given ≡ 0 = c.take.ensures.given in (
      _,
      _,
      record {
        rest = s.rest;
        ahead = s.ahead;
        whole = more_fed b stands.0 r.piece s.rest r.fed c.feed-fed.result.used r.filled c.feed-fed.ensures.used
            s.whole;
        stands = f.stands;
        given = omega (arith, none);
        left = s.left;
        over = s.over;
        few = s.few;
        sized = s.sized;
      },
      f.says,
      none,
    )

pub invariant_of-self-clause-inflates : goal.invariant_of-self-clause-inflates
invariant_of-self-clause-inflates g c =
    ∥∥₁_elim c.take.new.self.inflates ∥∥₁_prop (λ s. ∣ (_, s.1, (c.feed-fed.ensures.fed s.0 s.1 s.2).stands) ∣₁)

pub returns-clause-full : goal.returns-clause-full
returns-clause-full g c = λ is.
    ∥∥₁_elim c.take.new.self.inflates (hlevel props)
    (λ s. omega (arith, (c.feed-fed.ensures.fed s.0 s.1 s.2).full is))
