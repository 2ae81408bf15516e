use Rattle.std.proofs.Common.{refl}
use Rattle.dl_dump_json.specs.Rows.{flag_member}
use Rattle.dl_dump_json.proofs.row.flags_of.Goals as goal

pub returns-then-is_stmt : goal.returns-then-is_stmt
unfolding flag_member
returns-then-is_stmt c = rw c.if-is_stmt.true refl

pub returns-else-is_stmt : goal.returns-else-is_stmt
unfolding flag_member
returns-else-is_stmt c = rw c.if-is_stmt.false refl
