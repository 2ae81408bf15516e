use Rattle.std.proofs.Common.{[]}
use Rattle.dl_held.proofs.HoldingLemmas.{dropped, held_more, refused_now}
use Rattle.dl_held.proofs.held.Held.take.Goals as goal

pub invariant_of-self : goal.invariant_of-self
invariant_of-self g c = record {
  tied = c.args.self.now.tied;
  sound = held_more g.K.Refusing.refuses c.args.bytes.now c.args.self.now.written.bytes c.note.new.self.bytes c.note.ensures
      c.args.self.now.bytes.items c.extend_from_slice.new.list.items c.args.self.now.refused c.if-not-self.true c.in-Ok.ensures.items
      c.args.self.now.sound;
}

pub invariant_of-self-in-Err : goal.invariant_of-self-in-Err
invariant_of-self-in-Err g c = record {
  tied = c.args.self.now.tied;
  sound = refused_now g.K.Refusing.refuses c.args.bytes.now c.args.self.now.written.bytes c.note.new.self.bytes c.note.ensures
      c.args.self.now.bytes.items [] c.args.self.now.refused c.if-not-self.true c.args.self.now.tied c.in-Err.ensures.refused
      c.args.self.now.sound;
}

pub invariant_of-self-else-not-self : goal.invariant_of-self-else-not-self
invariant_of-self-else-not-self g c = record {
  tied = c.args.self.now.tied;
  sound = dropped g.K.Refusing.refuses c.args.bytes.now c.args.self.now.written.bytes c.note.new.self.bytes c.note.ensures
      c.args.self.now.bytes.items c.args.self.now.refused c.if-not-self.false c.args.self.now.sound;
}
