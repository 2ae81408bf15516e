-- What visits tell.
use Rattle.std.proofs.Common.{◌≡◌, ◌⊎◌, inl, inr, ℕ, ◌+◌, ◌<◌, ◌≤◌, Bool, true, false, List, [], ◌∷◌, ◌++◌, length, map}
use Rattle.std.proofs.Common.{slice_get, Option, Some, None, Result, Ok, Err, refl, sym, ap, ◌∙◌, arith}
use Rattle.std.specs.Prelude.{⊤, ◌||◌, is_err, nat_lt, if◌then◌else◌, OnErr, OnOk, option_map}
use Rattle.std.specs.Option.{option_and_then, option_copied}
use Rattle.std.proofs.lemmas.Option.{slice_get_past}
use Rattle.std.proofs.lemmas.Bool.Decides.{nat_tests}
use Rattle.dl_field.specs.HeaderData.{HeaderData}
use Rattle.dl_table.specs.EntryData.{with_content}
use Rattle.dl_head.specs.Numbers.{entry_numbered, first_number}
use Rattle.dl_table.specs.TableData.{TableData}
use Rattle.dl_rows.specs.Items.{a_byte, a_row, an_operation}
use Rattle.dl_rows.specs.declared.row.Row.{Row}
use Rattle.dl_memory.specs.declared.memory.NoMemory.{NoMemory}
use Rattle.dl_sections.specs.Section.{Visit, of_header, of_version, of_item, of_open, of_end, of_damage}
use Rattle.dl_path.specs.Paths.{beside_table, compiled_in, file_path, has_directory_0}
use Rattle.dl_addr.proofs.LocatedLemmas.{no_live_rows}
use Rattle.dl_lines.specs.Places.{Known, path_in, place_at, places_after, places_of_rows}
use Rattle.dl_lines.specs.Room.{files_count, told_room}
use Rattle.dl_lines.specs.Searching.{upto}
use Rattle.dl_lines.specs.Seeking.{Heard, heard_after}
use Rattle.dl_lines.specs.Seeking.{with_visit}
use Rattle.dl_lines.proofs.EachLemmas.{below_or_not}
use Rattle.dl_lines.proofs.FileLemmas.{upto_past}

-- ---- visits one after the other

pub heard_more : (known : Known) (heard : Heard) (a b : List Visit)
    → heard_after known heard (a ++ b) ≡ heard_after known (heard_after known heard a) b
heard_more known heard [] b = refl
heard_more known heard (v ∷ a) b = heard_more known (with_visit known heard v) a b

pub room_more : (known : Known) (a b : List Visit)
    → told_room known (a ++ b) ≡ told_room known a + told_room known b
room_more known [] b = omega arith
room_more known (of_header n l h ∷ a) b = omega (arith, room_more known a b)
room_more known (of_version n v ∷ a) b = room_more known a b
room_more known (of_item (a_byte x) ∷ a) b = room_more known a b
room_more known (of_item (an_operation header o) ∷ a) b = room_more known a b
room_more known (of_item (a_row header r) ∷ a) b = omega (arith, room_more known a b)
room_more known (of_open ∷ a) b = room_more known a b
room_more known (of_end h ∷ a) b = room_more known a b
room_more known (of_damage unit n k ∷ a) b = room_more known a b

-- no more rows and files were told than there is room for
pub counts_few : (known : Known) (heard : Heard) (visits : List Visit)
    → (heard_after known heard visits).row_count + (heard_after known heard visits).file_count
    ≤ heard.row_count + heard.file_count + told_room known visits
counts_few known heard [] = omega arith
counts_few known heard (of_header n l h ∷ a) = omega (arith, counts_few known (with_visit known heard (of_header n l h)) a)
counts_few known heard (of_version n v ∷ a) = counts_few known heard a
counts_few known heard (of_item (a_byte x) ∷ a) = counts_few known heard a
counts_few known heard (of_item (an_operation header o) ∷ a) = counts_few known heard a
counts_few known heard (of_item (a_row header r) ∷ a) =
    omega (arith, counts_few known (with_visit known heard (of_item (a_row header r))) a)
counts_few known heard (of_open ∷ a) = counts_few known heard a
counts_few known heard (of_end h ∷ a) = counts_few known (with_visit known heard (of_end h)) a
counts_few known heard (of_damage unit n k ∷ a) = counts_few known (with_visit known heard (of_damage unit n k)) a

-- no rows have no places
pub no_places : (live : ℕ → Bool) (path : ℕ → Option (List ℕ)) → places_of_rows live path [] ≡ []
no_places live path =
    ap (λ (l : List Row). map (λ (r : Row). place_at (path r.file) r) (places_after [] l)) (no_live_rows live)

-- ---- files of a header

none_at : (first : ℕ) (t : TableData) (n : ℕ) → first + length t.entries ≤ n → entry_numbered first t n ≡ None
none_at first t n past = by (nat_lt n first) where
  by : (b : Bool)
      → (if b then None else option_map (with_content t.pairs) (slice_get t.entries (Rattle.std.specs.Prelude.◌-◌ n first))) ≡ None
  by true = refl
  by false = ap (option_map (with_content t.pairs)) (slice_get_past t.entries (Rattle.std.specs.Prelude.◌-◌ n first) (omega (arith, past)))

none_before : (first : ℕ) (t : TableData) (n : ℕ) → n < first → entry_numbered first t n ≡ None
none_before first t n below =
    ap (λ (b : Bool). if b then None else option_map (with_content t.pairs) (slice_get t.entries (Rattle.std.specs.Prelude.◌-◌ n first))) test where
      test : nat_lt n first ≡ true
      test = grind (arith, nat_tests, below)

pub no_path_past : (known : Known) (offset : ℕ) (h : HeaderData) (file : ℕ) → files_count h ≤ file
    → path_in known offset (Some h) file ≡ None
no_path_past known offset h file past =
    ap (λ o. option_map (compiled_in (beside_table (has_directory_0 (Some h)) (known.directories offset)))
    (option_and_then (file_path known.strings h) o)) (none_at (first_number h.params) h.files file past)

pub no_path_before : (known : Known) (offset : ℕ) (h : HeaderData) (file : ℕ) → file < first_number h.params
    → path_in known offset (Some h) file ≡ None
no_path_before known offset h file below =
    ap (λ o. option_map (compiled_in (beside_table (has_directory_0 (Some h)) (known.directories offset)))
    (option_and_then (file_path known.strings h) o)) (none_before (first_number h.params) h.files file below)

-- all of them were told
pub all_files : (path : ℕ → Option (List ℕ)) (count : ℕ) → ((file : ℕ) → count ≤ file → path file ≡ None)
    → (file : ℕ) → upto count path file ≡ path file
all_files path count none file = by (below_or_not file count) where
  by : (file < count) ⊎ (count ≤ file) → upto count path file ≡ path file
  by (inl lt) = ap (λ (b : Bool). if◌then◌else◌ {A = Option (List ℕ)} b (path file) None) (test lt) where
    test : file < count → nat_lt file count ≡ true
    test lt = grind (arith, nat_tests, lt)
  by (inr le) = upto_past count path file le ∙ sym (none file le)

-- ---- results

pub ok_of : {P : Type 0} (r : Result ⊤ NoMemory) → is_err r ≡ false → OnOk r P → P
ok_of (Ok done) e p = p
ok_of (Err none) e p = absurd cc

pub err_of : {P : Type 0} (r : Result ⊤ NoMemory) → is_err r ≡ true → OnErr r P → P
err_of (Ok done) e p = absurd cc
err_of (Err none) e p = p
