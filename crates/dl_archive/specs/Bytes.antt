-- The bytes of a member, as those of a file.
use Rattle.std.specs.Prelude.{◌≡◌, ℕ, List, Option, Some, None, option_map, MatchOption}
use Rattle.std.specs.declared.io.Error.{Error}
use Rattle.dl_elf.specs.Elf.{bytes_at}
use Rattle.dl_elf.specs.declared.file.Range.{Range}
use Rattle.dl_archive.specs.declared.member.Member.{Member}
use Rattle.dl_archive.specs.declared.member.MemberBytes.{MemberBytes}

abbrev pub source_of : {S : Type 0} → MemberBytes S → S
source_of m = m.source.now

-- as many as the member has, of those of its archive
abbrev pub bytes_in : Range → List ℕ → List ℕ
bytes_in r f = bytes_at r.offset r.size f

abbrev pub bytes_of : {S : Type 0} → (S → Option (List ℕ)) → MemberBytes S → Option (List ℕ)
bytes_of all m = option_map (bytes_in m.range) (all (source_of m))

-- those of a member of this archive, which fail as reads of the archive do; none where they stand in a file of their own
abbrev pub IsBytesOf : {S : Type 0} → (all : S → Option (List ℕ)) (fails : S → Error → Type 0) → S → Member
    → Option (MemberBytes S) → Type 0
IsBytesOf all fails source m result = MatchOption result (m.place ≡ None)
    (λ b. (r : Range) × (m.place ≡ Some r) × (bytes_of all b ≡ option_map (bytes_in r) (all source)) × (source_of b ≡ source))
