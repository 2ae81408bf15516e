-- What is told of an archive, member after member. f: the bytes of the file. fails: the errors that reading it may give.
use Rattle.std.specs.Prelude.{◌≡◌, ◌≤◌, ◌<◌, ◌+◌, ◌^◌, ⊤, ℕ, List, [], ◌∷◌, length, Option, Some, None, Result, Ok, Err}
use Rattle.std.specs.declared.io.Error.{Error}
use Rattle.dl_archive.specs.Archive.{and_others, EntryData, kind_of, long_names, member, MemberData, members, members_from, symbols}
use Rattle.dl_archive.specs.declared.entry.ArchiveEntry.{ArchiveEntry}
use Rattle.dl_archive.specs.declared.entry.ArchiveEntry.TheVariants as entry
use Rattle.dl_archive.specs.declared.fault.ArchiveFault.{ArchiveFault}
use Rattle.dl_archive.specs.declared.fault.ArchiveFault.TheVariants.{Damaged, Read}
use Rattle.dl_archive.specs.declared.member.Member.{Member}
use Rattle.dl_archive.specs.declared.members.Members.{Members}

abbrev pub archive_of : {S : Type 0} → Members S → S
archive_of m = m.source.now

-- where the next entry is looked for
abbrev pub next_of : {S : Type 0} → Members S → ℕ
next_of m = m.next

-- where a member stands
abbrev pub seen : Member → MemberData
seen m = record { header = m.header; name = m.name; place = m.place }

-- the members that are left to be told, and where the archive is damaged behind them
abbrev pub left : {S : Type 0} → (f : List ℕ) → Members S → List MemberData × Option ℕ
left f m = members_from m.kind f m.names m.next

-- all of an archive are left
abbrev pub AreAll : {S : Type 0} → (f : List ℕ) → Members S → Type 0
AreAll f m = (kind_of f ≡ Some m.kind) × (left f m ≡ members m.kind f)

-- a fault that tells of a read tells an error that it may give
abbrev pub FailsAsRead : (fails : Error → Type 0) → ArchiveFault → Type 0
FailsAsRead fails (Damaged at) = ⊤
FailsAsRead fails (Read error) = fails error

-- the next member; where none is told, the same is left: none behind the last one, and none where the archive is damaged
abbrev pub MemberTold : {S : Type 0} → (f : List ℕ) (old new : Members S)
    → Result (Option Member) ArchiveFault → Type 0
MemberTold f old new (Ok (Some m)) = left f old ≡ (seen m ∷ (left f new).0, (left f new).1)
MemberTold f old new (Ok None) = (left f old ≡ ([], None)) × (left f new ≡ left f old)
MemberTold f old new (Err (Damaged at)) = (left f old ≡ ([], Some at)) × (left f new ≡ left f old)
MemberTold f old new (Err (Read error)) = left f new ≡ left f old

-- ---- entry after entry; no public contract reaches these

abbrev pub entry_seen : ArchiveEntry → EntryData
entry_seen entry.Symbols = symbols
entry_seen (entry.LongNames t) = long_names t
entry_seen (entry.Member m) = member (seen m)

abbrev pub entry_and_next : ArchiveEntry × ℕ → EntryData × ℕ
entry_and_next e = (entry_seen e.0, e.1)

-- a table of long names ends below 2^64
abbrev pub IsBelow : ArchiveEntry → Type 0
IsBelow (entry.LongNames t) = t.offset + t.size < 2 ^ 64
IsBelow other = ⊤

-- no entry stands at an offset
abbrev pub Ended : {T : Type 0} → (f : List ℕ) (at : ℕ) → Result T ArchiveFault → Type 0
Ended f at (Ok x) = length f ≤ at
Ended f at (Err (Damaged n)) = (n ≡ at) × (at < length f)
Ended f at (Err (Read error)) = ⊤

-- the next entry
abbrev pub EntryTold : {S : Type 0} → (f : List ℕ) (old new : Members S)
    → Result (Option ArchiveEntry) ArchiveFault → Type 0
EntryTold f old new (Ok (Some e)) = left f old ≡ and_others (entry_seen e) (left f new)
EntryTold f old new (Ok None) = (left f old ≡ ([], None)) × (left f new ≡ left f old)
EntryTold f old new (Err (Damaged at)) = (left f old ≡ ([], Some at)) × (left f new ≡ left f old)
EntryTold f old new (Err (Read error)) = left f new ≡ left f old
