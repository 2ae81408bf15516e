-- Why there is no file of a member, and why a walk over members ends before the last one: texts and statuses.
use Rattle.std.specs.Prelude.{ℕ, List, codes, Option, Some, None}
use Rattle.dl_archive.specs.declared.fault.ArchiveFault.TheVariants.{Damaged, Read}
use Rattle.dl_member.specs.declared.fault.MemberFault.{MemberFault}
use Rattle.dl_member.specs.declared.fault.MemberFault.TheVariants.{Archive, NoMember, NotArchive, Open}
use Rattle.dl_member.specs.declared.fault.WalkFault.{WalkFault}
use Rattle.dl_member.specs.declared.fault.WalkFault.TheVariants as walk

-- None where the system words it
abbrev pub member_fault_text : MemberFault → Option (List ℕ)
member_fault_text NotArchive = Some (codes "not an archive")
member_fault_text NoMember = Some (codes "no such member")
member_fault_text (Archive (Damaged at)) = Some (codes "damaged archive")
member_fault_text (Archive (Read error)) = None
member_fault_text (Open error) = None

-- 1 where the archive or the words are to blame, 3 for reads and opening
abbrev pub member_fault_status : MemberFault → ℕ
member_fault_status NotArchive = 1
member_fault_status NoMember = 1
member_fault_status (Archive (Damaged at)) = 1
member_fault_status (Archive (Read error)) = 3
member_fault_status (Open error) = 3

-- 1 where the archive is to blame, 3 for reads and writes
abbrev pub walk_fault_status : WalkFault → ℕ
walk_fault_status walk.NotArchive = 1
walk_fault_status (walk.Archive (Damaged at)) = 1
walk_fault_status (walk.Archive (Read error)) = 3
walk_fault_status (walk.Unwritten fault) = 3
