-- The reader of the first entry of a unit, and the grammar of it.
use Rattle.std.proofs.Common.{◌≡◌, ℕ, ◌-◌, Bool, true, false, cond, nat_le, List, [], ◌++◌, take, sym, length, drop, Result, Ok, Err, ap, ◌∙◌, arith}
use Rattle.std.proofs.lemmas.List.{append-nil}
use Rattle.dl_num.specs.declared.fixed.Order.{Order}
use Rattle.dl_info.specs.declared.front.FieldFault.{FieldFault}
use Rattle.dl_info.specs.declared.front.FieldFault.TheVariants.{Damaged, Short}
use Rattle.dl_info.specs.declared.head.UnitLength.{UnitLength}
use Rattle.dl_info.specs.declared.unit.Answer.{Answer}
use Rattle.dl_info.specs.declared.unit.Answer.TheVariants.{Found, More, Unreadable}
use Rattle.dl_info.specs.declared.abbreviation.Attribute.{Attribute}
use Rattle.dl_info.specs.declared.head.Head.{Head}
use Rattle.dl_info.specs.Front.{◌>>=◌, uleb_at}
use Rattle.dl_info.specs.Heads.{head_at, length_at}
use Rattle.dl_info.specs.Abbreviations.{Abbreviation, declared_from, declared_in, or_none}
use Rattle.dl_info.specs.Entries.{EntryData, entry_at, values_at, without_values}
use Rattle.dl_info.specs.Grammar.{AreValues, Declares, IsEntry, IsHead, IsUleb64}
use Rattle.dl_info.specs.Units.{entry_of, entry_with, first_entry, length_answer, settled, unit_length}
use Rattle.dl_info.specs.Laws.{EntryIsSpelled, LengthIsSpelled, OneEntry}
use Rattle.dl_info.proofs.GrammarLemmas.{answered_reads, Reader, same_reads, then_reads}
use Rattle.dl_info.proofs.GrammarTables.{declared_given, declared_told, Is}
use Rattle.dl_info.proofs.GrammarUnits.{reads_head, reads_length, reads_uleb, reads_values}
use Rattle.dl_info.proofs.SpelledLemmas.{value_is}

from_damaged : (r : Result (List Attribute) FieldFault) (attributes : List Attribute) → Is (or_none r) attributes
    → Is r attributes
from_damaged (Ok x) attributes is = is
from_damaged (Err s) attributes is = absurd cc

-- what is known of the attributes, and the values
abbrev ByAnswer : List ℕ → Head → ℕ → EntryData → List ℕ → Type 0
ByAnswer abbreviations head code e w = (attributes : List Attribute)
    × Is (declared_from head.abbreviations code abbreviations) attributes
    × AreValues head.encoding attributes (without_values head.encoding.format) e w

abbrev ByTable : List ℕ → Head → ℕ → EntryData → List ℕ → Type 0
ByTable abbreviations head code e w = (before : List Abbreviation) × (attributes : List Attribute)
    × Declares before code attributes (drop head.abbreviations abbreviations)
    × AreValues head.encoding attributes (without_values head.encoding.format) e w

there : (abbreviations : List ℕ) (head : Head) (code : ℕ) (e : EntryData) (w : List ℕ)
    → ByAnswer abbreviations head code e w → ByTable abbreviations head code e w
there abbreviations head code e w s =
    let table = drop head.abbreviations abbreviations in
    let known = from_damaged (declared_in (length table) code table) s.0 s.1 in
    let told = declared_told (length table) code table s.0 known in
    (told.0, s.0, told.1, s.2)

back : (abbreviations : List ℕ) (head : Head) (code : ℕ) (e : EntryData) (w : List ℕ)
    → ByTable abbreviations head code e w → ByAnswer abbreviations head code e w
back abbreviations head code e w s =
    let table = drop head.abbreviations abbreviations in
    (s.1, ap or_none (declared_given s.0 (length table) code table s.1 (omega arith) s.2), s.3)

after_code : (abbreviations : List ℕ) (head : Head) (code : ℕ)
    → Reader (λ b. declared_from head.abbreviations code abbreviations
    >>= λ attributes. values_at head.encoding attributes (without_values head.encoding.format) b)
    (ByTable abbreviations head code)
after_code abbreviations head code =
    same_reads _ (ByAnswer abbreviations head code) (ByTable abbreviations head code)
    (answered_reads (declared_from head.abbreviations code abbreviations)
    (λ attributes. values_at head.encoding attributes (without_values head.encoding.format))
    (λ attributes. AreValues head.encoding attributes (without_values head.encoding.format))
    (λ attributes. reads_values head.encoding attributes (without_values head.encoding.format)))
    (there abbreviations head code) (back abbreviations head code)

reads_entry : (order : Order) (abbreviations : List ℕ)
    → Reader (entry_at order abbreviations) (IsEntry order abbreviations)
unfolding entry_at
reads_entry order abbreviations =
    then_reads (head_at order) _ (IsHead order) _ (reads_head order)
    (λ head. then_reads uleb_at _ IsUleb64 _ reads_uleb (λ code. after_code abbreviations head code))

pub one_entry : OneEntry
one_entry order abbreviations w v e f first second =
    let reader = reads_entry order abbreviations in
    let whole = ap (entry_at order abbreviations) (append-nil (w ++ v)) in
    let same = value_is e f v [] (sym (reader.gives e w v first) ∙ (sym whole ∙ reader.gives f (w ++ v) [] second)) in
    (same.1, same.0)

-- ---- what is found

abbrev found_or : {A : Type 0} → A → Answer A → A
found_or other (Found x) = x
found_or other More = other
found_or other Unreadable = other

length_found : (r : Result (UnitLength × List ℕ) FieldFault) (l : UnitLength) → length_answer r ≡ Found l
    → (rest : List ℕ) × (r ≡ Ok (l, rest))
length_found (Ok x) l is = (x.1, ap (λ y. Ok (y, x.1)) (ap (found_or x.0) is))
length_found (Err (Short n)) l is = absurd cc
length_found (Err Damaged) l is = absurd cc

pub length_is_spelled : LengthIsSpelled
length_is_spelled order b l =
    let reader = reads_length order in (
      λ is.
          let found = length_found (length_at order b) l is in
          let told = reader.told b found.0 l found.1 in
          (told.0, found.0, told.1, told.2),
      λ s. ap (unit_length order) s.2 ∙ ap length_answer (reader.gives l s.0 s.1 s.3),
    )

neither : (t : Bool) (e : EntryData) → cond {A = Answer EntryData} t More Unreadable ≡ Found e → ⊥
neither true e is = absurd cc
neither false e is = absurd cc

entry_found : (beyond : ℕ) (r : Result (EntryData × List ℕ) FieldFault) (e : EntryData) → settled beyond r ≡ Found e
    → (rest : List ℕ) × (r ≡ Ok (e, rest))
entry_found beyond (Ok x) e is = (x.1, ap (λ y. Ok (y, x.1)) (ap (found_or x.0) is))
entry_found beyond (Err (Short n)) e is = absurd (neither (nat_le n beyond) e is)
entry_found beyond (Err Damaged) e is = absurd cc

pub entry_is_spelled : EntryIsSpelled
entry_is_spelled order abbreviations b l e long =
    let reader = reads_entry order abbreviations in
    let unit = take l.size b in
    let by_length : first_entry order abbreviations b ≡ entry_of order abbreviations l.size unit =
    ap (entry_with order abbreviations b) long in (
      λ is.
          let found =
          entry_found (l.size - length unit) (entry_at order abbreviations unit) e (sym by_length ∙ is) in
          let told = reader.told unit found.0 e found.1 in
          (told.0, found.0, told.1, told.2),
      λ s. by_length ∙ ap (settled (l.size - length unit))
          (ap (entry_at order abbreviations) s.2 ∙ reader.gives e s.0 s.1 s.3),
    )
