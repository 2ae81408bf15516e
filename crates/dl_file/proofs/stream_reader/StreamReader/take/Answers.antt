use Rattle.std.proofs.Common.{◌≡◌, ◌+◌, ◌-◌, ◌++◌, length, length-append, arith, ap, ◌∙◌, nat_lt}
use Rattle.dl_file.proofs.StreamLemmas.{taken_left, taken_over}
use Rattle.std.proofs.Math.Logic.{∥∥₁_elim, ∥∥₁_prop}
use Rattle.dl_zlib.specs.StreamStands.{waiting}
use Rattle.dl_file.proofs.stream_reader.StreamReader.take.Goals as goal

pub returns-clause-stands : goal.returns-clause-stands
returns-clause-stands g c = λ told b bytes gone s.
    let r = c.args.self.now in
    let w = waiting r.inflate in
    let size : length gone + length w ≡ length (gone ++ w) + 0 = omega (arith, length-append gone w) in
    record {
      rest = s.rest;
      ahead = s.ahead;
      whole = s.whole;
      stands = c.take.ensures.stands bytes gone s.stands;
      given = omega arith;
      left = taken_left told.header.size (length gone) r.given (length w) r.left c.requires s.given s.left
          ∙ ap (λ n. told.header.size - n) size;
      over = rw c.output.ensures.waiting (taken_over told.header.size (length gone) r.given (length w) r.left r.is_over
          c.requires s.given s.left s.over ∙ ap (nat_lt told.header.size) size);
      few = s.few;
      sized = s.sized;
    }

pub invariant_of-self-clause-inflates : goal.invariant_of-self-clause-inflates
invariant_of-self-clause-inflates g c =
    ∥∥₁_elim c.args.self.now.inflates ∥∥₁_prop (λ s. ∣ (s.0, _, c.take.ensures.stands s.0 s.1 s.2) ∣₁)
