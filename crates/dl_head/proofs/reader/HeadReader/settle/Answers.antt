use Rattle.std.proofs.Common.{refl}
use Rattle.dl_head.proofs.ByteCounted.{settles_more}
use Rattle.dl_head.proofs.reader.HeadReader.settle.Goals as goal

pub returns-in_default : goal.returns-in_default
returns-in_default c = record {
  settles = settles_more c.args.self.now _ c.args.self.now.phase c.in_default.not-Foreign
      (c.is_at_end.ensures.before c.if-not-is_at_end.true) refl;
  dialect = refl;
}
