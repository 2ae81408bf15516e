-- Paths that are kept stay, and a file's path is that of its entry.
use Rattle.std.proofs.Common.{◌≡◌, ◌⊎◌, inl, inr, ℕ, zero, suc, Bool, true, false, List, [], ◌∷◌, ◌++◌, length, min}
use Rattle.std.proofs.Common.{slice_get, Option, Some, None, refl, sym, ap, ap₂, ◌∙◌, arith, append_assoc, append-nil}
use Rattle.std.proofs.Common.{subst, ⊎_elim, ◌+◌, ◌-◌, ◌<◌, ◌≤◌, slice_set}
use Rattle.std.proofs.lemmas.List.{get_or-set_same, length-set}
use Rattle.std.specs.Prelude.{◌^◌, if◌then◌else◌, nat_lt}
use Rattle.std.specs.Prelude.{cond, option_map, unwrap_or}
use Rattle.std.specs.BTreeMap.{BTreeMap, Updates, get, is_at}
use Rattle.std.specs.Option.{option_and_then, option_copied, option_map_or}
use Rattle.std.specs.Map.{lookup}
use Rattle.std.proofs.Common.{Ordering}
use Rattle.std.specs.declared.cmp.Ordering.TheVariants.{Less, Equal, Greater}
use Rattle.std.specs.Ordering.{is_eq, nat_cmp}
use Rattle.std.proofs.lemmas.Bool.{cases_lt, true≢false}
use Rattle.std.proofs.lemmas.Map.Lookups.{exact_unsigned}
use Rattle.std.proofs.lemmas.Option.{slice_get-get_or, slice_get_past}
use Rattle.dl_table.specs.EntryData.{with_content}
use Rattle.dl_field.specs.HeaderData.{HeaderData}
use Rattle.dl_table.specs.TableData.{TableData}
use Rattle.dl_head.specs.Numbers.{entry_numbered, first_number}
use Rattle.dl_print.specs.ValueText.{Strings, strings_of}
use Rattle.dl_addr.specs.declared.kept.FilePath.{FilePath}
use Rattle.dl_addr.specs.declared.kept.PathUnit.{PathUnit}
use Rattle.dl_addr.specs.declared.kept.Paths.{Paths}
use Rattle.dl_addr.specs.declared.texts.UnitFiles.{UnitFiles}
use Rattle.dl_addr.specs.declared.texts.UnitNumbers.{UnitNumbers}
use Rattle.dl_path.specs.Paths.{file_path, path_of, under}
use Rattle.dl_addr.specs.Texts.{AreSeen, AreTexts, Grows, HasPath, IsKept, IsPath, TextsGrow, directory_text, files_end, named}
use Rattle.dl_addr.specs.Texts.{part_at, path_at, path_of_file, place_of, text_at, text_or_none}

pub none_is_some : {A : Type 0} {x : A} → ◌≡◌ {A = Option A} None (Some x) → ⊥
none_is_some e = cc

pub some_same : {A : Type 0} (a b : A) → ◌≡◌ {A = Option A} (Some a) (Some b) → a ≡ b
some_same a b e = cc

-- ---- what is kept stays

pub texts_none : (texts : List (List ℕ)) → TextsGrow texts texts
texts_none texts = ([], sym (append-nil texts))

pub texts_on : (a b c : List (List ℕ)) → TextsGrow a b → TextsGrow b c → TextsGrow a c
texts_on a b c (x, e) (y, f) = (x ++ y, f ∙ ap (λ (l : List (List ℕ)). l ++ y) e ∙ append_assoc a x y)

pub grows_none : (paths : Paths) → Grows paths paths
grows_none paths = record { files = ([], sym (append-nil paths.files.items)); texts = texts_none paths.texts.items }

pub grows_on : (a b c : Paths) → Grows a b → Grows b c → Grows a c
grows_on a b c g h = record {
  files = (
    g.files.0 ++ h.files.0,
    h.files.1 ∙ ap (λ (l : List FilePath). l ++ h.files.0) g.files.1
        ∙ append_assoc a.files.items g.files.0 h.files.0,
  );
  texts = texts_on a.texts.items b.texts.items c.texts.items g.texts h.texts;
}

get_front : {A : Type 0} (xs more : List A) (k : ℕ) (x : A) → slice_get xs k ≡ Some x
    → slice_get (xs ++ more) k ≡ Some x
get_front [] more k x e = absurd (none_is_some e)
get_front (y ∷ xs) more zero x e = e
get_front (y ∷ xs) more (suc k) x e = get_front xs more k x e

text_front : (texts more : List (List ℕ)) (k : ℕ) (w : List ℕ) → text_at texts k ≡ Some w
    → text_at (texts ++ more) k ≡ Some w
text_front [] more k w e = absurd (none_is_some e)
text_front (x ∷ texts) more zero w e = e
text_front (x ∷ texts) more (suc k) w e = text_front texts more k w e

pub text_stays : (old new : List (List ℕ)) (k : ℕ) (w : List ℕ) → TextsGrow old new → text_at old k ≡ Some w
    → text_at new k ≡ Some w
text_stays old new k w (more, e) is = ap (λ (l : List (List ℕ)). text_at l k) e ∙ text_front old more k w is

pub part_stays : (old new : List (List ℕ)) (n : Option ℕ) (w : List ℕ) → TextsGrow old new → part_at old n ≡ Some w
    → part_at new n ≡ Some w
part_stays old new None w grows is = is
part_stays old new (Some k) w grows is = text_stays old new k w grows is

name_stays : (old new : List (List ℕ)) (n : Option ℕ) (w : Option (List ℕ)) → TextsGrow old new
    → option_map (text_at old) n ≡ option_map Some w → option_map (text_at new) n ≡ option_map Some w
name_stays old new None w grows is = is
name_stays old new (Some k) None grows is = absurd (none_is_some (sym is))
name_stays old new (Some k) (Some w) grows is =
    ap Some (text_stays old new k w grows (some_same (text_at old k) (Some w) is))

pub path_stays : (old new : List (List ℕ)) (f : FilePath) (path : Option (List ℕ)) → TextsGrow old new
    → IsPath old f path → IsPath new f path
path_stays old new f path grows p = record {
  base = p.base;
  directory = p.directory;
  name = p.name;
  has_base = part_stays old new f.base p.base grows p.has_base;
  has_directory = part_stays old new f.directory p.directory grows p.has_directory;
  has_name = name_stays old new f.name p.name grows p.has_name;
  is = p.is;
}

pub has_stays : (old new : Paths) (k : ℕ) (path : Option (List ℕ) × PathUnit) → Grows old new → HasPath old k path
    → HasPath new k path
has_stays old new k path grows h = record {
  file = h.file;
  at =
      ap (λ (l : List FilePath). slice_get l k) grows.files.1
      ∙ get_front old.files.items grows.files.0 k h.file h.at;
  is_path = path_stays old.texts.items new.texts.items h.file path.0 grows.texts h.is_path;
  unit = h.unit;
}

pub kept_stays : (old new : Paths) (kept kept' : List ℕ) (i : ℕ) (path : Option (List ℕ) × PathUnit) → Grows old new
    → slice_get kept' i ≡ slice_get kept i → IsKept old kept i path → IsKept new kept' i path
kept_stays old new kept kept' i path grows same k = record {
  number = k.number;
  entry = same ∙ k.entry;
  is = has_stays old new k.number path grows k.is;
}

pub texts_stay : (f : ℕ → Option (List ℕ)) (numbers : BTreeMap ℕ ℕ) (old new : List (List ℕ)) → TextsGrow old new
    → AreTexts f numbers old → AreTexts f numbers new
texts_stay f numbers old new grows are n k at =
    let w = are n k at in (w.0, w.1, text_stays old new k w.0 grows w.2)

-- ---- a path by its parts

part_is : (texts : List (List ℕ)) (n : Option ℕ) (w : List ℕ) → part_at texts n ≡ Some w → text_or_none texts n ≡ w
part_is texts None w is = some_same [] w is
part_is texts (Some k) w is = ap (λ (o : Option (List ℕ)). unwrap_or o []) is

name_is : (texts : List (List ℕ)) (n : Option ℕ) (w : Option (List ℕ))
    → option_map (text_at texts) n ≡ option_map Some w → option_and_then (text_at texts) n ≡ w
name_is texts None None is = refl
name_is texts None (Some w) is = absurd (none_is_some is)
name_is texts (Some k) None is = absurd (none_is_some (sym is))
name_is texts (Some k) (Some w) is = some_same (text_at texts k) (Some w) is

-- what is found by the numbers is the path
pub path_found : (texts : List (List ℕ)) (f : FilePath) (path : Option (List ℕ)) → IsPath texts f path
    → path_at texts f ≡ path
path_found texts f path p =
    ap₂ (λ (b d : List ℕ). option_map (under (under b d)) (option_and_then (text_at texts) f.name))
    (part_is texts f.base p.base p.has_base) (part_is texts f.directory p.directory p.has_directory)
    ∙ ap (option_map (under (under p.base p.directory))) (name_is texts f.name p.name p.has_name)
    ∙ sym p.is

-- ---- files and directories that were seen

is_equal : (o : Ordering) → is_eq o ≡ true → o ≡ Equal
is_equal Less e = absurd (true≢false (sym e))
is_equal Equal e = refl
is_equal Greater e = absurd (true≢false (sym e))

-- a number more was seen
added : (m n : BTreeMap ℕ ℕ) (key v : ℕ) → Updates nat_cmp m n key (Some v) → (q k : ℕ) → get nat_cmp n q ≡ Some k
    → (get nat_cmp m q ≡ Some k) ⊎ ((q ≡ key) × (k ≡ v))
added m n key v u q k at = by (is_at (nat_cmp key) q) refl where
  by : (b : Bool) → is_at (nat_cmp key) q ≡ b → (get nat_cmp m q ≡ Some k) ⊎ ((q ≡ key) × (k ≡ v))
  by true e =
      inr (
        sym (exact_unsigned key q (is_equal (nat_cmp key q) e)),
        some_same k v (sym at ∙ u.0 q ∙ ap (λ (b : Bool). cond b (Some v) (get nat_cmp m q)) e),
      )
  by false e = inl (sym (ap (λ (b : Bool). cond b (Some v) (get nat_cmp m q)) e) ∙ sym (u.0 q) ∙ at)

pub directory_added : (f : ℕ → Option (List ℕ)) (m n : BTreeMap ℕ ℕ) (texts : List (List ℕ)) (key v : ℕ) (w : List ℕ)
    → Updates nat_cmp m n key (Some v) → f key ≡ Some w → text_at texts v ≡ Some w → AreTexts f m texts
    → AreTexts f n texts
directory_added f m n texts key v w u is at are q k has = by (added m n key v u q k has) where
  by : (get nat_cmp m q ≡ Some k) ⊎ ((q ≡ key) × (k ≡ v))
      → (w : List ℕ) × (f q ≡ Some w) × (text_at texts k ≡ Some w)
  by (inl was) = are q k was
  by (inr (e, e')) = (w, ap f e ∙ is, ap (text_at texts) e' ∙ at)

pub file_added : (u : UnitFiles) (m n : UnitNumbers) (old new : Paths) (key v : ℕ) → Grows old new
    → n.last ≡ m.last → Updates nat_cmp m.files n.files key (Some v) → HasPath new v (path_of_file u key)
    → AreTexts (directory_text u) n.directories new.texts.items → AreSeen u m old → AreSeen u n new
file_added u m n old new key v grows kept up has directories are = record {
  files = λ q k at. by q k (added m.files n.files key v up q k at);
  directories = directories;
  last = λ file k at. has_stays old new k (path_of_file u file) grows (are.last file k (sym kept ∙ at));
} where
  by : (q k : ℕ) → (get nat_cmp m.files q ≡ Some k) ⊎ ((q ≡ key) × (k ≡ v)) → HasPath new k (path_of_file u q)
  by q k (inl was) = has_stays old new k (path_of_file u q) grows (are.files q k was)
  by q k (inr (e, e')) =
      subst (λ (j : ℕ). HasPath new k (path_of_file u j)) (sym e)
      (subst (λ (j : ℕ). HasPath new j (path_of_file u key)) (sym e') has)

-- and a file was looked up
pub last_seen : (u : UnitFiles) (m : UnitNumbers) (paths : Paths) (file number : ℕ)
    → HasPath paths number (path_of_file u file) → AreSeen u m paths
    → AreSeen u (record m { last = Some (file, number) }) paths
last_seen u m paths file number has are = record {
  files = are.files;
  directories = are.directories;
  last = λ q k at. by q k (some_same (file, number) (q, k) at);
} where
  by : (q k : ℕ) → ◌≡◌ {A = ℕ × ℕ} (file, number) (q, k) → HasPath paths k (path_of_file u q)
  by q k e = subst (λ (p : ℕ × ℕ). HasPath paths p.1 (path_of_file u p.0)) e has

-- no number was seen yet
pub none_seen : (m : BTreeMap ℕ ℕ) → m.entries ≡ [] → (q k : ℕ) → get nat_cmp m q ≡ Some k → ⊥
none_seen m none q k at = none_is_some (sym (ap (lookup (is_at (nat_cmp q))) none) ∙ at)

-- from the end of the numbers on there are no entries
pub numbered_past : (first : ℕ) (t : TableData) (n : ℕ) → first + length t.entries ≤ n → entry_numbered first t n ≡ None
numbered_past first t n past = by (nat_lt n first) where
  by : (is : Bool)
      → (if is then None else option_map (with_content t.pairs) (slice_get t.entries (n - first))) ≡ None
  by true = refl
  by false = ap (option_map (with_content t.pairs)) (slice_get_past t.entries (n - first) (omega (arith, past)))

clamped : (s : Strings) (header : Option HeaderData) (file : ℕ) → file < 2 ^ 64
    → path_of s header (min file (option_map_or files_end header 0)) ≡ path_of s header file
clamped s None file within = refl
clamped s (Some h) file within =
    let first = first_number h.params in
    let n = first + length h.files.entries in
    ⊎_elim
    (λ lt. let e : min file (min n (2 ^ 64 - 1)) ≡ file = omega (arith, within, lt) in ap (path_of s (Some h)) e)
    (λ le. ⊎_elim
    (λ few. ap (option_and_then (file_path s h)) (numbered_past first h.files (min file (min n (2 ^ 64 - 1)))
    (omega (arith, le, few)) ∙ sym (numbered_past first h.files file le)))
    (λ many. let e : min file (min n (2 ^ 64 - 1)) ≡ file = omega (arith, within, many) in ap (path_of s (Some h)) e)
    (cases_lt n (2 ^ 64)))
    (cases_lt file n)

pub path_clamped : (u : UnitFiles) (file end : ℕ) → file < 2 ^ 64
    → end ≡ option_map_or files_end (option_copied u.header) 0
    → path_of_file u (min file end) ≡ path_of_file u file
path_clamped u file end within e =
    ap (λ (path : Option (List ℕ)). (named u.style (option_copied u.directory) path, place_of u))
    (ap (λ (n : ℕ). path_of (strings_of u.strings.now) (option_copied u.header) (min file n)) e
    ∙ clamped (strings_of u.strings.now) (option_copied u.header) file within)

-- the number of a place's path
pub kept_at : (paths : Paths) (kept : List ℕ) (i k : ℕ) (path : Option (List ℕ) × PathUnit) → i < length kept
    → HasPath paths k path → IsKept paths (slice_set kept i k) i path
kept_at paths kept i k path within has = record {
  number = k;
  entry =
      slice_get-get_or (slice_set kept i k) i 0 (let e = length-set kept i k in omega arith)
      ∙ ap Some (get_or-set_same kept i k 0 within);
  is = has;
}
