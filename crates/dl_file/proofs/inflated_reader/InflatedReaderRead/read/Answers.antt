use Rattle.std.proofs.Common.{Ok, Err}
use Rattle.dl_elf.specs.Reader.{known_range}
use Rattle.dl_file.specs.ContentReader.{left_of}
use Rattle.dl_file.proofs.InflatedLemmas.{ends_known, fails_known, follows_on, gives_known, keeps_known, next_known}
use Rattle.dl_file.proofs.inflated_reader.InflatedReaderRead.read.Goals as goal

pub invariant_of-self : goal.invariant_of-self
invariant_of-self g c = record {
  follows = follows_on g.S.ReadAt.all_bytes c.args.self.now.source.now c.args.self.now.place c.args.self.now.told
      c.args.self.now.at c.read_next.new.self (Ok c.in-Ok.n) c.read_next.new.buffer c.args.self.now.follows
      c.in-Ok.ensures.next;
}

pub invariant_of-self-in-Err : goal.invariant_of-self-in-Err
invariant_of-self-in-Err g c = record {
  follows = follows_on g.S.ReadAt.all_bytes c.args.self.now.source.now c.args.self.now.place c.args.self.now.told
      c.args.self.now.at c.read_next.new.self (Err c.in-Err.fault) c.read_next.new.buffer c.args.self.now.follows
      c.in-Err.ensures.next;
}

pub returns-in-Ok-clause-bytes : goal.returns-in-Ok-clause-bytes
returns-in-Ok-clause-bytes g c =
    let r = c.args.self.now in
    let known = known_range (g.S.ReadAt.all_bytes r.source.now) r.place.offset r.place.size in
    gives_known r.told known r.at.left c.read_next.new.self.left c.in-Ok.n c.read_next.new.buffer
    (next_known g.S.ReadAt.all_bytes r.source.now r.place r.told r.at c.read_next.new.self (Ok c.in-Ok.n)
    c.read_next.new.buffer r.follows c.in-Ok.ensures.next)

pub returns-in-Ok-clause-ends : goal.returns-in-Ok-clause-ends
returns-in-Ok-clause-ends g c =
    let r = c.args.self.now in
    let known = known_range (g.S.ReadAt.all_bytes r.source.now) r.place.offset r.place.size in
    ends_known r.told known (left_of r.told.header known c.read_next.new.self.left) r.at.left c.read_next.new.self.left
    c.in-Ok.n c.read_next.new.buffer
    (next_known g.S.ReadAt.all_bytes r.source.now r.place r.told r.at c.read_next.new.self (Ok c.in-Ok.n)
    c.read_next.new.buffer r.follows c.in-Ok.ensures.next)

pub returns-in-Err-clause-bytes : goal.returns-in-Err-clause-bytes
returns-in-Err-clause-bytes g c =
    let r = c.args.self.now in
    let known = known_range (g.S.ReadAt.all_bytes r.source.now) r.place.offset r.place.size in
    keeps_known r.told known r.at.left c.read_next.new.self.left c.in-Err.fault c.read_next.new.buffer
    (next_known g.S.ReadAt.all_bytes r.source.now r.place r.told r.at c.read_next.new.self (Err c.in-Err.fault)
    c.read_next.new.buffer r.follows c.in-Err.ensures.next)

pub returns-in-Err-clause-ends : goal.returns-in-Err-clause-ends
returns-in-Err-clause-ends g c =
    let r = c.args.self.now in
    let known = known_range (g.S.ReadAt.all_bytes r.source.now) r.place.offset r.place.size in
    fails_known r.told known r.at.left c.read_next.new.self.left c.in-Err.fault c.error.result c.read_next.new.buffer
    (next_known g.S.ReadAt.all_bytes r.source.now r.place r.told r.at c.read_next.new.self (Err c.in-Err.fault)
    c.read_next.new.buffer r.follows c.in-Err.ensures.next)
