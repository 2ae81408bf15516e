-- A header of versions 2 to 4 that bytes spell has the tables of these versions.
use Rattle.std.proofs.Common.{◌≡◌, ℕ, zero, suc, ◌+◌, ◌-◌, List, [], ◌∷◌, ◌++◌, drop, Option, Some, None, refl, subst}
use Rattle.std.proofs.Common.{inl, inr}
use Rattle.std.proofs.lemmas.Bool.{cases_eq, cases_lt, eq-eqb, le-ltb, lt-ltb, ne_eqb}
use Rattle.dl_table.specs.declared.form.Form.{Form}
use Rattle.dl_table.specs.declared.form.Format.{Format}
use Rattle.dl_table.specs.declared.table.Pair.{Pair}
use Rattle.dl_table.specs.TableData.{TableData}
use Rattle.dl_table.specs.Value.{Value}
use Rattle.dl_field.specs.declared.params.Params.{Params}
use Rattle.dl_field.specs.HeaderData.{HeaderData}
use Rattle.dl_field.specs.Layout.{Layout, initial_length_then, number_then, form_then, value_then, foreign_version}
use Rattle.dl_field.specs.Layout.{path_or_end, last_entry, Item, length_is, number_is, form_is, value_is, end_is}
use Rattle.dl_field.specs.Layout.{following, following_all, pairs_layout, entry_layout, entries_layout, table_layout}
use Rattle.dl_field.specs.Layout.{listed_directory, listed_file}
use Rattle.dl_head.specs.declared.dialect.Dialect.{Dialect}
use Rattle.dl_head.specs.Dialect.{older_size}
use Rattle.dl_head.specs.HeaderLayout.{header_layout, lengths_layout, tables_layout, from_files, from_end}
use Rattle.dl_head.specs.HeaderLayout.{from_default_is_stmt, after_minimum_length, from_address_size}
use Rattle.dl_head.specs.HeaderLayout.{from_older_version, older_params, format_alone}
use Rattle.dl_head.proofs.HeaderLaws.{made_last}
use Rattle.dl_head.proofs.Openings.{after_length}
use Rattle.dl_head.proofs.ReadSound.{header_is_sound}
use Rattle.dl_emit.specs.ConversionLaws.{ReadIsOlder}

-- the tables are those of versions 2 to 4, where the header is one of these
abbrev AreListed : HeaderData → Type 0
AreListed h =
    (h.params.version ≡ 5 → ⊥) → (h.directories.pairs ≡ listed_directory) × (h.files.pairs ≡ listed_file)

-- so it is of each header to which fields of the layout lead
abbrev Leads : Layout → Type 0
Leads (initial_length_then next) = (f : Format) (n : ℕ) → Leads (next f n)
Leads (number_then field next) = (n : ℕ) → Leads (next n)
Leads (form_then next) = (f : Form) → Leads (next f)
Leads (value_then format f next) = (v : Value) → Leads (next v)
Leads (path_or_end format pairs entries next) = (t : TableData) → t.pairs ≡ pairs → Leads (next t)
Leads (foreign_version v) = Unit {0}
Leads (last_entry h) = AreListed h

leads_entry : (format : Format) (pairs : List Pair) (before : List Value) (next : List Value → Layout)
    → ((values : List Value) → Leads (next values)) → Leads (entry_layout format pairs before next)
leads_entry format [] before next all = all before
leads_entry format (p ∷ pairs) before next all = λ v. leads_entry format pairs (before ++ v ∷ []) next all

-- a field more
leads_on : (layout : Layout) (i : Item) → Leads layout → Leads (following layout i)
leads_on (initial_length_then next) (length_is f n) leads = leads f n
leads_on (initial_length_then next) (number_is n) leads = leads
leads_on (initial_length_then next) (form_is f) leads = leads
leads_on (initial_length_then next) (value_is v) leads = leads
leads_on (initial_length_then next) (end_is n) leads = leads
leads_on (number_then field next) (number_is n) leads = leads n
leads_on (number_then field next) (length_is f n) leads = leads
leads_on (number_then field next) (form_is f) leads = leads
leads_on (number_then field next) (value_is v) leads = leads
leads_on (number_then field next) (end_is n) leads = leads
leads_on (form_then next) (form_is f) leads = leads f
leads_on (form_then next) (length_is f n) leads = leads
leads_on (form_then next) (number_is n) leads = leads
leads_on (form_then next) (value_is v) leads = leads
leads_on (form_then next) (end_is n) leads = leads
leads_on (value_then format f next) (value_is v) leads = leads v
leads_on (value_then format f next) (length_is g n) leads = leads
leads_on (value_then format f next) (number_is n) leads = leads
leads_on (value_then format f next) (form_is g) leads = leads
leads_on (value_then format f next) (end_is n) leads = leads
leads_on (path_or_end format pairs entries next) (value_is v) leads =
    leads_entry format (drop 1 pairs) (v ∷ []) (λ entry. path_or_end format pairs (entries ++ entry ∷ []) next)
    (λ entry. leads)
leads_on (path_or_end format pairs entries next) (end_is n) leads =
    leads (record { format = format; pairs = pairs; entries = entries }) refl
leads_on (path_or_end format pairs entries next) (length_is g n) leads = leads
leads_on (path_or_end format pairs entries next) (number_is n) leads = leads
leads_on (path_or_end format pairs entries next) (form_is g) leads = leads
leads_on (foreign_version v) i leads = leads
leads_on (last_entry h) i leads = leads

leads_all : (layout : Layout) (items : List Item) → Leads layout → Leads (following_all layout items)
leads_all layout [] leads = leads
leads_all layout (i ∷ items) leads = leads_all (following layout i) items (leads_on layout i leads)

-- ---- tables of version 5

leads_pairs : (count : ℕ) (before : List Pair) (next : List Pair → Layout)
    → ((pairs : List Pair) → Leads (next pairs)) → Leads (pairs_layout count before next)
leads_pairs zero before next all = all before
leads_pairs (suc count) before next all =
    λ code f. leads_pairs count (before ++ record { content = code; form = f } ∷ []) next all

leads_entries : (format : Format) (pairs : List Pair) (count : ℕ) (before : List (List Value))
    (next : List (List Value) → Layout) → ((entries : List (List Value)) → Leads (next entries))
    → Leads (entries_layout format pairs count before next)
leads_entries format pairs zero before next all = all before
leads_entries format pairs (suc count) before next all =
    leads_entry format pairs [] (λ entry. entries_layout format pairs count (before ++ entry ∷ []) next)
    (λ entry. leads_entries format pairs count (before ++ entry ∷ []) next all)

leads_table : (format : Format) (next : TableData → Layout) → ((t : TableData) → Leads (next t))
    → Leads (table_layout format next)
leads_table format next all =
    λ pair_count. leads_pairs pair_count [] _
    (λ pairs. λ count. leads_entries format pairs count [] _ (λ entries. all _))

-- ---- the fields in their order

leads_tables : (p : Params) → Leads (tables_layout p)
leads_tables p = elim (cases_eq p.version 5) [
  | inl five ↦ rw (eq-eqb p.version 5 five)
      (leads_table p.format (from_files p)
      (λ directories. leads_table p.format (from_end p directories) (λ files older. absurd (older five))))
  | inr other ↦ rw (ne_eqb p.version 5 other) (λ directories d files f older. (d, f))
]

leads_lengths : (opcode count : ℕ) (before : List ℕ) (next : List ℕ → Layout)
    → ((lengths : List ℕ) → Leads (next lengths)) → Leads (lengths_layout opcode count before next)
leads_lengths opcode zero before next all = all before
leads_lengths opcode (suc count) before next all =
    λ n. leads_lengths (opcode + 1) count (before ++ n ∷ []) next all

leads_default : (p : Params) → Leads (from_default_is_stmt p)
leads_default p =
    λ is_stmt base range opcodes. leads_lengths 1 (opcodes - 1) [] _ (λ lengths. leads_tables _)

leads_minimum : (p : Params) → Leads (after_minimum_length p)
leads_minimum p = elim (cases_lt p.version 4) [
  | inl old ↦ rw (lt-ltb p.version 4 old) (leads_default p)
  | inr new ↦ rw (le-ltb p.version 4 new)
      (λ maximum. leads_default (record p { maximum_operations_per_instruction = maximum }))
]

leads_fields : (format : Format) (unit_length : ℕ) → Leads (from_address_size unit_length (format_alone format))
leads_fields format unit_length =
    λ address segment header minimum. leads_minimum (record (format_alone format) {
      address_size = address;
      segment_selector_size = segment;
      minimum_instruction_length = minimum;
    })

leads_older : (format : Format) (n v : ℕ) (o : Option ℕ) → Leads (from_older_version format n v o)
leads_older format n v None = tt
leads_older format n v (Some size) =
    λ header minimum. leads_minimum (record (older_params format v size) { minimum_instruction_length = minimum })

leads_version : (dialect : Dialect) (format : Format) (n v : ℕ) → Leads (after_length dialect format n v)
leads_version dialect format n v = elim (cases_eq v 5) [
  | inl same ↦ rw (eq-eqb v 5 same) (leads_fields format n)
  | inr other ↦ rw (ne_eqb v 5 other) (leads_older format n v (older_size dialect v))
]

pub read_is_older : ReadIsOlder
read_is_older dialect h w is all older =
    let listed = subst Leads (made_last (following_all (header_layout dialect) is.items) h is.made)
    (leads_all (header_layout dialect) is.items (λ format n v. leads_version dialect format n v)) older in
    record {
      sound = header_is_sound dialect h w is all;
      older = older;
      directories = listed.0;
      files = listed.1;
    }
