use Rattle.std.proofs.Common.{◌≡◌, ◌⊎◌, ◌+◌, ◌-◌, ◌<◌, ◌≤◌, ◌++◌, drop, length, arith, ap, ◌∙◌, subst}
use Rattle.std.proofs.Common.{min, length-append, length-drop, length-take}
use Rattle.dl_file.specs.InStep.{unfed}
use Rattle.dl_file.proofs.StreamLemmas.{all_given, given_over, gives_next, piece_given}
use Rattle.dl_file.proofs.stream_reader.StreamReader.give.Goals as goal

pub returns-clause-gives : goal.returns-clause-gives
returns-clause-gives g c = λ told b s.
    let r = c.args.self.now in
    let n = c.min-n.result in
    let out = c.output.result.now in
    let at = c.in-Some.ensures.lookup.0 in
    let few : n ≤ length c.in-Some.waiting.now = omega (arith, c.min.ensures, c.min-n.ensures) in
    let left : n ≤ r.left = omega (arith, c.min-n.ensures) in
    let within : r.given + n ≤ length out = omega (arith, few, at.3) in
    let of = s.2 in (
      (
        s.0,
        s.1,
        record {
          rest = of.rest;
          ahead = of.ahead;
          whole = of.whole;
          stands = of.stands;
          given = rw c.output.ensures.waiting at within;
          left = omega (arith, of.left);
          over = given_over told.header.size (length s.1) r.given n r.left r.is_over of.over of.left left;
          few = of.few;
          sized = of.sized;
        },
      ),
      gives_next told b s.0 (unfed r ++ of.rest) s.1 out _ r.given n r.left of.whole
          (c.output.ensures.front s.0 s.1 of.stands) of.left within left
          (piece_given c.in-Some.waiting.now c.copy_from_slice.new.self (drop n c.args.buffer.now) out r.given n
          c.copy_from_slice.ensures.after at.2 few),
    )

pub returns-clause-all : goal.returns-clause-all
returns-clause-all g c = λ none some.
    let n = c.min-n.result in
    let w = c.in-Some.waiting.now in
    let copied = c.copy_from_slice.new.self in
    let size = length-append copied (drop n c.args.buffer.now) in
    let taken = c.copy_from_slice.ensures.len in
    let room : 0 < length c.args.buffer.now = omega (
      arith,
      some,
      none,
      size,
      taken,
      length-take n c.args.buffer.now,
      length-drop n c.args.buffer.now,
    ) in
    subst (λ k. (c.args.self.now.left - n ≡ 0) ⊎ (k ≤ c.args.self.now.given + n)) (ap length c.output.ensures.waiting)
    (all_given (length c.output.result.now) c.args.self.now.given (length w) (length c.args.buffer.now)
    c.args.self.now.left n
    c.in-Some.ensures.lookup.0.3
    (c.min-n.ensures ∙ ap (λ k. min k c.args.self.now.left) c.min.ensures) none room)
