-- The numbers that stand for faults, counts and statuses.
use Rattle.std.specs.Prelude.{ℕ, ◌+◌, ◌*◌, ◌==◌, cond, nat_lt, if◌then◌else◌, Option, Some, None}
use Rattle.dl_table.specs.declared.fault.FaultKind.{FaultKind}
use Rattle.dl_table.specs.declared.fault.FaultKind.TheVariants as fault
use Rattle.dl_rows.specs.declared.row.Row.{Row}
use Rattle.dl_print.specs.declared.summary.Summary.{Summary}
use Rattle.dl_buffers.specs.declared.record.Counts.{Counts}
use Rattle.dl_buffers.specs.declared.record.FaultRecord.{FaultRecord}
use Rattle.dl_buffers.specs.declared.record.RowRecord.{RowRecord}
use Rattle.dl_buffers.specs.declared.status.Status.{Status}
use Rattle.dl_buffers.specs.declared.status.Status.TheVariants as status

abbrev pub kind_code : FaultKind → ℕ
kind_code fault.ReservedLength = 1
kind_code fault.UnitTooLong = 2
kind_code fault.UnitOverrun = 3
kind_code fault.AddressSize = 4
kind_code fault.HeaderBeyondUnit = 5
kind_code fault.HeaderOverrun = 6
kind_code fault.MaxOps = 7
kind_code fault.LineRange = 8
kind_code fault.OpcodeBase = 9
kind_code (fault.StandardLength opcode) = 10
kind_code (fault.UnknownForm code) = 11
kind_code fault.EmptyFormat = 12
kind_code fault.LebRange = 13
kind_code fault.ExtendedEmpty = 14
kind_code fault.ExtendedLength = 15
kind_code fault.OpcodeOverrun = 16
kind_code fault.Truncated = 17

-- what a kind says besides: an opcode, or the code of a form
abbrev pub kind_detail : FaultKind → ℕ
kind_detail (fault.StandardLength opcode) = opcode
kind_detail (fault.UnknownForm code) = code
kind_detail other = 0

-- a fault at an offset of the section
abbrev pub record_of : (offset : ℕ) → FaultKind → FaultRecord
record_of offset kind = record { offset = offset; detail = kind_detail kind; kind = kind_code kind }

-- ---- the way back from a record

-- the kind of this number, which says nothing besides
unfoldable pub plain_kind : ℕ → Option FaultKind
plain_kind kind =
    if kind == 1 then Some fault.ReservedLength else if kind == 2 then Some fault.UnitTooLong else
    if kind == 3 then Some fault.UnitOverrun else if kind == 4 then Some fault.AddressSize else
    if kind == 5 then Some fault.HeaderBeyondUnit else if kind == 6 then Some fault.HeaderOverrun else
    if kind == 7 then Some fault.MaxOps else if kind == 8 then Some fault.LineRange else
    if kind == 9 then Some fault.OpcodeBase else if kind == 12 then Some fault.EmptyFormat else
    if kind == 13 then Some fault.LebRange else if kind == 14 then Some fault.ExtendedEmpty else
    if kind == 15 then Some fault.ExtendedLength else if kind == 16 then Some fault.OpcodeOverrun else
    if kind == 17 then Some fault.Truncated else None

-- an opcode is a byte
abbrev pub opcode_told : (detail : ℕ) → Option FaultKind
opcode_told detail = if nat_lt detail 256 then Some (fault.StandardLength detail) else None

-- the kind that these numbers stand for; none where they stand for none
abbrev pub told_kind : (kind detail : ℕ) → Option FaultKind
told_kind kind detail =
    if kind == 10 then opcode_told detail else if kind == 11 then Some (fault.UnknownForm detail) else plain_kind kind

-- of units that are whole, and how many are damaged
abbrev pub counts_of : Summary → (damaged : ℕ) → Counts
counts_of s damaged = record {
  units = s.units;
  skipped = s.skipped;
  sequences = s.sequences;
  rows = s.rows;
  damaged = damaged;
}

abbrev pub status_code : Status → ℕ
status_code status.Done = 0
status_code status.Fault = 1
status_code status.NoAnswer = 2
status_code status.NoMemory = 3
status_code status.OtherVersion = 4
status_code status.NoRoom = 5

-- 1, 2, 4, 8 and 16, where they hold, in sum
abbrev pub flags_of : Row → ℕ
flags_of r =
    (((cond r.is_stmt 1 0 + 2 * cond r.basic_block 1 0) + 4 * cond r.prologue_end 1 0)
    + 8 * cond r.epilogue_begin 1 0) + 16 * cond r.end_sequence 1 0

abbrev pub row_record : Row → RowRecord
row_record r = record {
  address = r.address;
  file = r.file;
  line = r.line;
  column = r.column;
  isa = r.isa;
  discriminator = r.discriminator;
  op_index = r.op_index;
  flags = flags_of r;
}
