-- The member of a name. f: the bytes of the archive.
use Rattle.std.specs.Prelude.{⊤, ◌≡◌, ℕ, List, Option, Some, None, Result, Ok, Err, find, bytes_eq}
use Rattle.std.specs.declared.io.Error.{Error}
use Rattle.dl_archive.specs.Archive.{kind_of, MemberData, members, name_of}
use Rattle.dl_archive.specs.Told.{seen}
use Rattle.dl_archive.specs.declared.fault.ArchiveFault.TheVariants.{Damaged, Read}
use Rattle.dl_archive.specs.declared.kind.Kind.{Kind}
use Rattle.dl_archive.specs.declared.member.Member.{Member}
use Rattle.dl_member.specs.declared.fault.MemberFault.{MemberFault}
use Rattle.dl_member.specs.declared.fault.MemberFault.TheVariants.{Archive, NoMember, NotArchive}

-- the first of these members that has the name
abbrev pub first_named : (f name : List ℕ) → List MemberData → Option MemberData
first_named f name ms = find (λ m. bytes_eq (name_of f m) name) ms

-- an archive of this kind has this one first of the name, and behind all that are looked at it is damaged there
abbrev pub IsFirst : Kind → (f name : List ℕ) → Option MemberData → Type 0
IsFirst kind f name m = (kind_of f ≡ Some kind) × (first_named f name (members kind f).0 ≡ m)

-- none has the name, and the archive ends, or is damaged there
abbrev pub IsNone : (f name : List ℕ) → (damage : Option ℕ) → Type 0
IsNone f name damage = (kind : Kind) × IsFirst kind f name None × ((members kind f).1 ≡ damage)

-- why there is none
abbrev pub IsNotFound : (f name : List ℕ) → MemberFault → Type 0
IsNotFound f name NotArchive = kind_of f ≡ None
IsNotFound f name NoMember = IsNone f name None
IsNotFound f name (Archive (Damaged at)) = IsNone f name (Some at)
IsNotFound f name (Archive (Read error)) = ⊤
IsNotFound f name other = ⊥

-- what find_member answers
abbrev pub IsFound : (f name : List ℕ) → Result Member MemberFault → Type 0
IsFound f name (Ok m) = (kind : Kind) × IsFirst kind f name (Some (seen m))
IsFound f name (Err fault) = IsNotFound f name fault

-- a fault that tells of a read tells an error that it may give
abbrev pub FailsAsRead : (fails : Error → Type 0) → MemberFault → Type 0
FailsAsRead fails (Archive (Read error)) = fails error
FailsAsRead fails other = ⊤
