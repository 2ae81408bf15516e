use Rattle.std.proofs.Common.{refl, ap}
use Rattle.dl_head.proofs.EarlyFields.{at_length}
use Rattle.dl_head.proofs.OneFieldMore.{at_phase}
use Rattle.dl_head.proofs.BytesBeforeTables.{is_no_cell, field_no_cell, length_no_cell, field_pushed}
use Rattle.dl_head.proofs.reader.HeadReader.push_byte.Goals as goal

pub returns-in-UnitLength-clause-follows : goal.returns-in-UnitLength-clause-follows
returns-in-UnitLength-clause-follows c = field_pushed c.unit_length.ensures.follows c.unit_length.ensures.cells
    (λ items rest at. rw (at_phase c.args.self.now _ items rest c.in-UnitLength.is at).0.none refl)

pub returns-in-LongUnitLength-clause-follows : goal.returns-in-LongUnitLength-clause-follows
returns-in-LongUnitLength-clause-follows c = field_pushed c.long_unit_length.ensures.follows
    c.long_unit_length.ensures.cells
    (λ items rest at. rw (at_phase c.args.self.now _ items rest c.in-LongUnitLength.is at).0.none refl)

pub returns-in-Version-clause-follows : goal.returns-in-Version-clause-follows
returns-in-Version-clause-follows c = field_pushed c.version.ensures.follows c.version.ensures.cells
    (λ items rest at. rw (at_phase c.args.self.now _ items rest c.in-Version.is at).0.items_are refl)

pub returns-in-VersionEnd-clause-follows : goal.returns-in-VersionEnd-clause-follows
returns-in-VersionEnd-clause-follows c = field_pushed c.version_end.ensures.follows c.version_end.ensures.cells
    (λ items rest at. rw (at_phase c.args.self.now _ items rest c.in-VersionEnd.is at).0.items_are refl)

pub returns-in-HeaderLength-clause-follows : goal.returns-in-HeaderLength-clause-follows
returns-in-HeaderLength-clause-follows c = field_pushed c.header_length.ensures.follows c.header_length.ensures.cells
    (λ items rest at.
    let a = at_phase c.args.self.now _ items rest c.in-HeaderLength.is at in
    rw a.0.items_are (ap is_no_cell (at_length c.args.self.now a.1).follows))

pub returns-in-Byte-clause-follows : goal.returns-in-Byte-clause-follows
returns-in-Byte-clause-follows c = field_pushed c.byte_field.ensures.follows c.byte_field.ensures.cells
    (λ items rest at. field_no_cell c.args.self.now c.in-Byte.field items rest
    (at_phase c.args.self.now _ items rest c.in-Byte.is at))

pub returns-in-OpcodeLength-clause-follows : goal.returns-in-OpcodeLength-clause-follows
returns-in-OpcodeLength-clause-follows c = field_pushed c.opcode_length.ensures.follows c.opcode_length.ensures.cells
    (λ items rest at. length_no_cell c.args.self.now items rest c.in-OpcodeLength.is
    (at_phase c.args.self.now _ items rest c.in-OpcodeLength.is at))
