-- Archives, as ar.h of System V lays them out, with the names that GNU and BSD add and GNU's thin archives. f: the bytes
-- of a file. Eight bytes, and then entries, each with a header of 60 bytes: a name (16 bytes), date (12), owner and group
-- (6 each), mode (8), size in decimal digits (10), and two bytes that end it. A field is filled up with spaces.
use Rattle.std.specs.Prelude.{ℕ, zero, suc, ◌+◌, ◌-◌, ◌*◌, ◌^◌, ◌%◌, min, Bool, true, false, ◌&&◌, ◌||◌, ◌==◌, nat_le, nat_lt}
use Rattle.std.specs.Prelude.{bytes_eq, ◌≤◌, ⊤, if◌then◌else◌, List, [], ◌∷◌, ◌++◌, length, take, drop, codes, position, unwrap_or}
use Rattle.std.specs.Prelude.{slice_index, Option, Some, None, option_map, option_and_then}
use Rattle.std.specs.Option.{option_map_or}
use Rattle.dl_elf.specs.declared.file.Range.{Range}
use Rattle.dl_elf.specs.Elf.{bytes_at}
use Rattle.dl_archive.specs.declared.kind.Kind.{Kind}
use Rattle.dl_archive.specs.declared.kind.Kind.TheVariants.{Whole, Thin}
use Rattle.dl_archive.specs.declared.name_field.NameField.{NameField}
use Rattle.dl_archive.specs.declared.name_field.NameField.TheVariants.{Symbols, LongNames, InTable, InMember, Here}
use Rattle.dl_archive.specs.declared.header.Header.{Header}

-- what a file is by its first eight bytes; in a thin archive the members are files of their own
abbrev pub kind_of : (f : List ℕ) → Option Kind
kind_of f =
    if bytes_eq (take 8 f) (codes "!<arch>" ++ 10 ∷ []) then Some Whole else
    if bytes_eq (take 8 f) (codes "!<thin>" ++ 10 ∷ []) then Some Thin else None

-- ---- fields

-- how many of the first n bytes there are without the bytes c at their end
abbrev pub end_before : (c : ℕ) → List ℕ → ℕ → ℕ
end_before c b zero = 0
end_before c b (suc n) = if slice_index b n == c then end_before c b n else suc n

-- b without the bytes c at its end
abbrev pub without_end : (c : ℕ) → List ℕ → List ℕ
without_end c b = take (end_before c b (length b)) b

abbrev pub is_digit : ℕ → Bool
is_digit c = nat_le 48 c && nat_le c 57

-- the number below 2^64 that decimal digits are behind those of n
abbrev pub number_after : ℕ → List ℕ → Option ℕ
number_after n [] = Some n
number_after n (c ∷ digits) =
    if is_digit c && nat_lt (n * 10 + (c - 48)) (2 ^ 64) then number_after (n * 10 + (c - 48)) digits else None

-- the number that one digit or more are
abbrev pub number_of : List ℕ → Option ℕ
number_of [] = None
number_of (c ∷ digits) = number_after 0 (c ∷ digits)

-- where the first byte c stands; where there is none, how many bytes there are
abbrev pub place_of : (c : ℕ) → List ℕ → ℕ
place_of c b = unwrap_or (position (λ x. x == c) b) (length b)

-- what the name of a header says, without the spaces at its end: a table of symbols, GNU's table of long names, the place of a
-- name in that table, BSD's length of a name that stands before the bytes of the member, or the name, up to a slash
abbrev pub name_field : List ℕ → Option NameField
name_field name =
    if bytes_eq name (codes "/") || bytes_eq name (codes "/SYM64/") then Some Symbols else
    if bytes_eq name (codes "//") then Some LongNames else
    if bytes_eq (take 1 name) (codes "/") then option_map InTable (number_of (drop 1 name)) else
    if bytes_eq (take 3 name) (codes "#1/") then option_map InMember (number_of (drop 3 name)) else
    Some (Here (place_of 47 name))

-- a name that stands in its field has no more bytes than that
abbrev pub HasName : NameField → Type 0
HasName (Here n) = n ≤ 16
HasName other = ⊤

-- ---- headers

-- what the 60 bytes of a header at an offset say
abbrev pub header_in : (at : ℕ) (b : List ℕ) → Option Header
header_in at b =
    if bytes_eq (bytes_at 58 2 b) (0x60 ∷ 10 ∷ [])
    then option_and_then (λ name. option_map (λ size. record { offset = at; name = name; size = size })
    (number_of (without_end 32 (bytes_at 48 10 b)))) (name_field (without_end 32 (bytes_at 0 16 b)))
    else None

-- the header at an offset; None where it doesn't lie in the file
abbrev pub header_at : (f : List ℕ) (at : ℕ) → Option Header
header_at f at = if nat_le (at + 60) (length f) then header_in at (bytes_at at 60 f) else None

-- where what follows the header begins
abbrev pub body_of : Header → ℕ
body_of h = h.offset + 60

-- in a thin archive the tables alone have bytes
abbrev pub is_table : NameField → Bool
is_table Symbols = true
is_table LongNames = true
is_table other = false

-- how many bytes of the entry follow its header
abbrev pub stored : Kind → Header → ℕ
stored Whole h = h.size
stored Thin h = if is_table h.name then h.size else 0

-- where they end
abbrev pub end_of : Kind → Header → ℕ
end_of kind h = body_of h + stored kind h

-- the next entry begins at an even offset, below 2^64
abbrev pub after : Kind → Header → ℕ
after kind h = min (end_of kind h + end_of kind h % 2) 0xffffffffffffffff

-- ---- members

-- how many bytes of a text there are without a slash at its end
abbrev pub before_slash : List ℕ → ℕ
before_slash text = if slice_index text (length text - 1) == 47 then length text - 1 else length text

-- the text at byte n of the table of long names; it and what ends it have at most 4096 bytes
abbrev pub long_text : (f : List ℕ) → Range → (n : ℕ) → List ℕ
long_text f t n = bytes_at (t.offset + n) (min 4096 (t.size - n)) f

-- the name there, which ends before a slash and a newline
abbrev pub long_name : (f : List ℕ) → Option Range → (n : ℕ) → Option Range
long_name f None n = None
long_name f (Some t) n =
    option_map (λ len. record { offset = t.offset + n; size = before_slash (take len (long_text f t n)) })
    (position (λ x. x == 10) (long_text f t n))

-- where a member stands: its header, its name, and its bytes; None in a thin archive, where they are those of another file
pub record MemberData : Type 0 where
  pub header : ℕ
  pub name : Range
  pub place : Option Range

abbrev pub bytes_place : Kind → (offset size : ℕ) → Option Range
bytes_place Whole offset size = Some (record { offset = offset; size = size })
bytes_place Thin offset size = None

-- a member whose name stands there
abbrev pub with_name : Kind → Header → Range → MemberData
with_name kind h name = record { header = h.offset; name = name; place = bytes_place kind (body_of h) h.size }

-- a member whose name is the first n bytes behind its header, at most 4096
abbrev pub with_name_before : Kind → Header → (n : ℕ) → Option MemberData
with_name_before Thin h n = None
with_name_before Whole h n = if nat_le n h.size && nat_le n 4096 then Some (record {
  header = h.offset;
  name = record { offset = body_of h; size = n };
  place = Some (record { offset = body_of h + n; size = h.size - n });
}) else None

-- the member with this header, beside the table of long names; None where its name isn't there, or it is a table
abbrev pub member_of : Kind → (f : List ℕ) → (names : Option Range) → Header → NameField → Option MemberData
member_of kind f names h (Here n) = Some (with_name kind h (record { offset = h.offset; size = n }))
member_of kind f names h (InTable n) = option_map (with_name kind h) (long_name f names n)
member_of kind f names h (InMember n) = with_name_before kind h n
member_of kind f names h other = None

-- ---- entries

-- an entry is a table of symbols, the table of long names, or a member
pub data EntryData : Type 0 where
  symbols : EntryData
  long_names : Range → EntryData
  member : MemberData → EntryData

abbrev pub entry_of : Kind → (f : List ℕ) → (names : Option Range) → Header → NameField → Option EntryData
entry_of kind f names h Symbols = Some symbols
entry_of kind f names h LongNames = Some (long_names (record { offset = body_of h; size = h.size }))
entry_of kind f names h name = option_map member (member_of kind f names h name)

-- the entry with this header, whose bytes lie in the file
abbrev pub entry_with : Kind → (f : List ℕ) → (names : Option Range) → Header → Option (EntryData × ℕ)
entry_with kind f names h =
    if nat_le (end_of kind h) (length f) then option_map (λ e. (e, after kind h)) (entry_of kind f names h h.name) else None

-- the entry at an offset, and where the next one begins
abbrev pub entry_at : Kind → (f : List ℕ) → (names : Option Range) → (at : ℕ) → Option (EntryData × ℕ)
entry_at kind f names at = option_and_then (entry_with kind f names) (header_at f at)

-- the table of long names behind an entry
abbrev pub names_after : EntryData → Option Range → Option Range
names_after (long_names t) names = Some t
names_after other names = names

-- the members of an entry and of those behind it
abbrev pub and_others : EntryData → List MemberData × Option ℕ → List MemberData × Option ℕ
and_others (member m) others = (m ∷ others.0, others.1)
and_others other others = others

-- the members of the first n entries from an offset on, up to the end, or to an entry that is damaged, with its offset
abbrev pub members_upto : (n : ℕ) → Kind → (f : List ℕ) → (names : Option Range) → (at : ℕ) → List MemberData × Option ℕ
members_upto zero kind f names at = ([], None)
members_upto (suc n) kind f names at =
    if nat_le (length f) at then ([], None)
    else option_map_or (λ e. and_others e.0 (members_upto n kind f (names_after e.0 names) e.1))
    (entry_at kind f names at) ([], Some at)

-- those of all entries from an offset on, each of which has 60 bytes or more
abbrev pub members_from : Kind → (f : List ℕ) → (names : Option Range) → (at : ℕ) → List MemberData × Option ℕ
members_from kind f names at = members_upto (length f) kind f names at

-- those of an archive
abbrev pub members : Kind → (f : List ℕ) → List MemberData × Option ℕ
members kind f = members_from kind f None 8

-- the name of a member; BSD fills it up with zero bytes
abbrev pub name_of : (f : List ℕ) → MemberData → List ℕ
name_of f m = without_end 0 (bytes_at m.name.offset m.name.size f)
