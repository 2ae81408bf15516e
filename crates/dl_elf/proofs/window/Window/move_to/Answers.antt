use Rattle.std.proofs.Common.{◌≡◌, length, rules}
use Rattle.dl_elf.proofs.Windows.{full_of}
use Rattle.dl_elf.proofs.window.Window.move_to.Goals as goal

pub returns-clause-full : goal.returns-clause-full
returns-clause-full g c =
    let len : length c.fill.new.buffer ≡ 16384 = search rules in
    full_of (g.S.ReadAt.all_bytes c.args.source.now) c.args.offset c.in_ok-n.n 16384 c.fill.new.buffer len
    c.in_ok-n.ensures.bytes
