-- The directory of a unit's entry has no more bytes than are read of the unit.
use Rattle.std.proofs.Common.{◌≡◌, ℕ, ◌+◌, ◌≤◌, List, length, min}
use Rattle.std.proofs.Common.{refl, sym, ap, ◌∙◌, arith, length-append, length-take}
use Rattle.dl_num.specs.declared.fixed.Order.{Order}
use Rattle.dl_info.specs.declared.head.UnitLength.{UnitLength}
use Rattle.dl_info.specs.declared.unit.Answer.{Answer}
use Rattle.dl_info.specs.declared.unit.Answer.TheVariants.{Found, More, Unreadable}
use Rattle.dl_info.specs.Entries.{EntryData}
use Rattle.dl_info.specs.Units.{entry_with, first_entry, unit_length}
use Rattle.dl_info.proofs.GrammarEntries.{entry_is_spelled}
use Rattle.dl_info.proofs.SizeLemmas.{entry_size}
use Rattle.dl_dirs.specs.Holding.{said_size, text_size}
use Rattle.dl_dirs.proofs.UnitLemmas.{spelled}

-- the bytes of a unit with a first entry are some, and no fewer than those of its directory
pub record Sized (order : Order) (b : List ℕ) (e : EntryData) : Type 0 where
  pub l : UnitLength
  pub length_is : unit_length order b ≡ Found l
  pub some : 1 ≤ min l.size (length b)
  pub few : said_size e ≤ min l.size (length b)

pub found_sized : (order : Order) (abbreviations b : List ℕ) (e : EntryData) → first_entry order abbreviations b ≡ Found e
    → Sized order b e
found_sized order abbreviations b e found = by (unit_length order b) refl where
  by : (u : Answer UnitLength) → unit_length order b ≡ u → Sized order b e
  by (Found l) is =
      let s = spelled order b l is in
      let entry = (entry_is_spelled order abbreviations b l e is).0 found in
      let few = entry_size text_size (λ w. omega arith) (λ n. refl) (λ n. refl) (λ n. refl) order abbreviations e entry.0 entry.3 in
      let whole : length b ≡ length s.w + length s.rest = ap length s.parts ∙ length-append s.w s.rest in
      record {
        l = l;
        length_is = is;
        some = omega (arith, s.four, s.within, whole);
        few = omega (arith, few, ap length entry.2, length-append entry.0 entry.1, length-take l.size b);
      }
  by More is = absurd (let no : ◌≡◌ {A = Answer EntryData} More (Found e) = sym (ap (entry_with order abbreviations b) is) ∙ found in cc)
  by Unreadable is = absurd (let no : ◌≡◌ {A = Answer EntryData} Unreadable (Found e) = sym (ap (entry_with order abbreviations b) is) ∙ found in cc)
