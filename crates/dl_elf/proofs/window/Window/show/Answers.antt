use Rattle.std.proofs.Common.{◌≡◌, ◌-◌, length, arith, refl}
use Rattle.dl_elf.proofs.Windows.{kept, moved, shown_len}
use Rattle.dl_elf.proofs.window.Window.show.Goals as goal

pub returns-then-has-clause-bytes : goal.returns-then-has-clause-bytes
returns-then-has-clause-bytes g c =
    let has = c.if-has.ensures refl in
    kept (g.S.ReadAt.all_bytes c.args.source.now) c.args.self.now.start c.args.offset c.args.self.now.filled
    c.args.len c.args.self.now.buffer has.0 has.1 c.requires.shows

pub returns-clause-bytes : goal.returns-clause-bytes
returns-clause-bytes g c =
    let w = c.move_to.new.self in
    let told = c.in_ok-move_to.ensures in
    let room : length w.buffer ≡ 16384 = w.room in
    moved (g.S.ReadAt.all_bytes c.args.source.now) w.start c.args.offset c.min.result w.filled c.args.len 16384
    w.buffer told.start c.min.ensures (omega (arith, room, w.within)) (omega (arith, c.requires.short)) told.full

pub returns-then-has-clause-len : goal.returns-then-has-clause-len
returns-then-has-clause-len g c =
    let w = c.args.self.now in
    let room : length w.buffer ≡ 16384 = w.room in
    let has = c.if-has.ensures refl in
    shown_len (c.args.offset - w.start) c.args.len w.buffer (omega (arith, room, w.within, has.1))

pub returns-clause-len : goal.returns-clause-len
returns-clause-len g c =
    let w = c.move_to.new.self in
    let room : length w.buffer ≡ 16384 = w.room in
    let none : c.args.offset - w.start ≡ 0 = omega (arith, c.in_ok-move_to.ensures.start) in
    shown_len (c.args.offset - w.start) c.min.result w.buffer (omega (arith, room, w.within, none, c.min.ensures))
