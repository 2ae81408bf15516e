use Rattle.std.proofs.Common.{inl, inr, ◌≡◌, ◌+◌, ◌≤◌, length, arith, drop, length-take}
use Rattle.dl_elf.proofs.Ranges.{ends_before, range_consumed}
use Rattle.dl_elf.proofs.reader.SectionReader.read_next.Goals as goal

pub returns-clause-bytes : goal.returns-clause-bytes
returns-clause-bytes g c =
    let n = c.in_ok-n.n in
    let told = c.in_ok-n.ensures.bytes in
    let fits : n ≤ length c.read_at.new.buffer = c.in_ok-n.ensures.bound.0 in
    let same = c.read_at.auto.buffer in
    let within : c.shorter-room.result ≤ c.args.self.now.left = omega (arith, c.shorter-room.ensures) in
    let left : n ≤ c.args.self.now.left =
    omega (arith, fits, same, within, length-take c.shorter-room.result c.args.buffer.now) in
    let is : c.in-Some.offset ≡ c.args.self.now.offset + n = c.in-Some.ensures.1 in (
      rw is (range_consumed (g.S.ReadAt.all_bytes c.args.self.now.source.now) c.args.self.now.offset
          c.args.self.now.left n c.read_at.new.buffer (drop c.shorter-room.result c.args.buffer.now) left fits told),
      λ e l. absurd (c.if-n-eq0.false e),
    )

pub returns-clause-later : goal.returns-clause-later
returns-clause-later g c error fails =
    let n = c.in_ok-n.n in
    let fits : n ≤ length c.read_at.new.buffer = c.in_ok-n.ensures.bound.0 in
    let within : c.shorter-room.result ≤ c.args.self.now.left = omega (arith, c.shorter-room.ensures) in
    let left : n ≤ c.args.self.now.left =
    omega (arith, fits, c.read_at.auto.buffer, within, length-take c.shorter-room.result c.args.buffer.now) in
    elim fails [
      | inl given ↦ inl given
      | inr early ↦ inr (
        early.0,
        omega (arith, early.1),
        ends_before (g.S.ReadAt.all_bytes c.args.self.now.source.now) c.args.self.now.offset c.args.self.now.left n
            c.in-Some.offset left c.in-Some.ensures.1 early.2,
      )
    ]
