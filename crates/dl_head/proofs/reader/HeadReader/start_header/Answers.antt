use Rattle.std.proofs.Common.{ℕ, Some, refl, ap, arith}
use Rattle.dl_head.proofs.EarlyFields.{header_length_late}
use Rattle.dl_head.proofs.reader.HeadReader.start_header.Goals as goal

pub returns-clause-follows : goal.returns-clause-follows
returns-clause-follows c = (
  omega (arith, c.saturating_sub.ensures, c.fixed_part-fixed.ensures, c.if-length-saturating_sub.false),
  λ items early of. (
    header_length_late c.args.self.now _ items c.args.length early of
        (ap (λ (n : ℕ). Some n) (omega (arith, c.initial_size.ensures, c.fixed_part-fixed.ensures))),
    refl,
    early.before.no_lengths,
  ),
  record { dialect = refl; start = refl; taken = refl; header = refl },
)

pub invariant_of-self-clause-read : goal.invariant_of-self-clause-read
invariant_of-self-clause-read c = c.requires.read
