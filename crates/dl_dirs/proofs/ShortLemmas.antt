-- A directory has no more bytes than the sections in which it may stand.
use Rattle.std.proofs.Common.{◌≡◌, ◌≤◌, ℕ, zero, suc, ◌+◌, Bool, true, false, cond, List, ◌++◌, length, drop, Option, Some, None}
use Rattle.std.proofs.Common.{refl, ap, arith, length-drop}
use Rattle.std.specs.Prelude.{option_and_then, unwrap_or, IfSome}
use Rattle.std.specs.Option.{option_map_or}
use Rattle.dl_num.specs.declared.fixed.Order.{Order}
use Rattle.dl_info.specs.declared.head.UnitLength.{UnitLength}
use Rattle.dl_info.specs.declared.unit.Answer.{Answer}
use Rattle.dl_info.specs.declared.unit.Answer.TheVariants.{Found, More, Unreadable}
use Rattle.dl_info.specs.Entries.{EntryData, TextData, here, str, line_str, index}
use Rattle.dl_info.specs.Units.{first_entry, string_offset, string_place, unit_length}
use Rattle.dl_table.proofs.TextLemmas.{Few, fewer, text_at_few}
use Rattle.dl_dirs.specs.Holding.{said_size, text_size}
use Rattle.dl_dirs.specs.Laws.{section_len, texts_len}
use Rattle.dl_dirs.specs.Texts.{TextsData, directory_text, first_base, index_text, section_text, text_of}
use Rattle.dl_dirs.specs.Units.{after, directory, entries, entries_in, found_in, saying, says}
use Rattle.dl_dirs.proofs.SizeLemmas.{found_sized}

module _ (order : Order) (abbreviations : List ℕ) where
  -- ---- the entry that says it

  -- an entry of units of so many bytes says a directory of no more, where it stands in the entry
  abbrev Within : (most : ℕ) → Option EntryData → Type 0
  Within most o = IfSome o (λ e. said_size e ≤ most)

  wider : (a b : ℕ) (o : Option EntryData) → Within a o → a ≤ b → Within b o
  wider a b None few le = tt
  wider a b (Some e) few le = omega (arith, few, le)

  -- the entries of n units behind the first one
  abbrev behind : (n : ℕ) → List ℕ → Answer UnitLength → List EntryData
  behind n b = after (λ l. entries_in order abbreviations n (drop l.size b))

  said_within : (offset n : ℕ) (b : List ℕ) → Within (length b) (saying offset (entries_in order abbreviations n b))
  said_within offset zero b = unfold entries_in in tt
  said_within offset (suc n) b = whole (λ l. said_within offset n (drop l.size b)) where
    others : (u : Answer UnitLength)
        → ((l : UnitLength) → Within (length (drop l.size b)) (saying offset (entries_in order abbreviations n (drop l.size b))))
        → Within (length b) (saying offset (behind n b u))
    others (Found l) later =
        wider (length (drop l.size b)) (length b) (saying offset (entries_in order abbreviations n (drop l.size b))) (later l)
        (omega (arith, length-drop l.size b))
    others More later = tt
    others Unreadable later = tt

    first : (a : Answer EntryData) → first_entry order abbreviations b ≡ a
        → Within (length b) (saying offset (behind n b (unit_length order b)))
        → Within (length b) (saying offset (found_in a ++ behind n b (unit_length order b)))
    first (Found e) is later = by (says offset e) where
      by : (t : Bool) → Within (length b) (cond t (Some e) (saying offset (behind n b (unit_length order b))))
      by true = let s = found_sized order abbreviations b e is in omega (arith, s.few)
      by false = later
    first More is later = later
    first Unreadable is later = later

    whole : ((l : UnitLength) → Within (length (drop l.size b)) (saying offset (entries_in order abbreviations n (drop l.size b))))
        → Within (length b) (saying offset (entries_in order abbreviations (suc n) b))
    whole later = unfold entries_in in first (first_entry order abbreviations b) refl (others (unit_length order b) later)

  -- ---- its text

  module _ (t : TextsData) where
    in_section : (section : Option (List ℕ)) (n : ℕ) → Few (section_len section) (section_text section n)
    in_section None n = tt
    in_section (Some b) n = text_at_few b n

    by_index : (e : EntryData) (n : ℕ) → Few (section_len t.debug_str) (index_text order t e.format e.str_offsets_base n)
    by_index e n = by (string_place e.format (unwrap_or e.str_offsets_base (first_base e.format)) n) where
      at : (o : Option ℕ) → Few (section_len t.debug_str) (option_and_then (section_text t.debug_str) o)
      at None = tt
      at (Some n) = in_section t.debug_str n

      of : (place : ℕ) (offsets : Option (List ℕ)) → Few (section_len t.debug_str)
          (option_and_then (λ offsets. option_and_then (section_text t.debug_str) (string_offset order e.format place offsets)) offsets)
      of place None = tt
      of place (Some offsets) = at (string_offset order e.format place offsets)

      by : (place : Option ℕ) → Few (section_len t.debug_str) (option_and_then
          (λ place. option_and_then
          (λ offsets. option_and_then (section_text t.debug_str) (string_offset order e.format place offsets)) t.str_offsets)
          place)
      by None = tt
      by (Some place) = of place t.str_offsets

    text_few : (e : EntryData) (most : ℕ) (o : Option TextData) → e.comp_dir ≡ o → said_size e ≤ most
        → Few (most + texts_len t) (option_and_then (text_of order t e) o)
    text_few e most None is few = tt
    text_few e most (Some (here w)) is few = omega (arith, few, ap (λ o. option_map_or text_size o 0) is)
    text_few e most (Some (str n)) is few =
        fewer (section_len t.debug_str) (most + texts_len t) (section_text t.debug_str n) (in_section t.debug_str n) (omega arith)
    text_few e most (Some (line_str n)) is few =
        fewer (section_len t.debug_line_str) (most + texts_len t) (section_text t.debug_line_str n) (in_section t.debug_line_str n)
        (omega arith)
    text_few e most (Some (index n)) is few =
        fewer (section_len t.debug_str) (most + texts_len t) (index_text order t e.format e.str_offsets_base n) (by_index e n)
        (omega arith)

    length_few : (most : ℕ) (o : Option (List ℕ)) → Few most o → option_map_or length o 0 ≤ most
    length_few most None few = omega arith
    length_few most (Some w) few = few

    pub directory_short : (b : List ℕ) (offset : ℕ)
        → option_map_or length (directory order abbreviations t b offset) 0 ≤ length b + texts_len t
    directory_short b offset =
        length_few (length b + texts_len t) (directory order abbreviations t b offset)
        (by (saying offset (entries order abbreviations b)) (said_within offset (length b) b)) where
          by : (o : Option EntryData) → Within (length b) o
              → Few (length b + texts_len t) (option_and_then (directory_text order t) o)
          by None few = tt
          by (Some e) few = text_few e (length b) e.comp_dir refl few
