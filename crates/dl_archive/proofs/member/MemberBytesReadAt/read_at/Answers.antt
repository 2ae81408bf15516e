use Rattle.std.proofs.Common.{arith}
use Rattle.std.proofs.lemmas.List.{length-take-le}
use Rattle.dl_archive.proofs.BytesLemmas.{member_read}
use Rattle.dl_archive.proofs.member.MemberBytesReadAt.read_at.Goals as goal

pub returns-clause-bytes : goal.returns-clause-bytes
returns-clause-bytes g c =
    let len = length-take-le c.min-room.result c.args.buffer.now (omega (arith, c.min-room.ensures)) in
    member_read (g.S.ReadAt.all_bytes c.args.self.now.source.now) c.args.self.now.range c.args.offset c.read_at.result
    c.read_at.new.buffer _ c.read_at.ensures.bound
    (omega (arith, len, c.read_at.auto.buffer, c.if-room-eq0.false))
    (omega (arith, len, c.read_at.auto.buffer, c.min-room.ensures, c.saturating_sub-left.ensures))
    c.read_at.ensures.bytes
