-- A table of paths, with one entry more.
use Rattle.std.proofs.Common.{◌≡◌, ◌≤◌, ℕ, ◌+◌, Bool, true, false, List, [], ◌∷◌, ◌++◌, length, map, Option, Some, None}
use Rattle.std.proofs.Common.{arith, refl, sym, ap, ap₂, ◌∙◌, subst, append-nil, length-append, true≢false}
use Rattle.std.specs.Prelude.{cond, if◌then◌else◌}
use Rattle.std.specs.BTreeMap.{insert_entry}
use Rattle.std.specs.BTreeSet.{insert_key}
use Rattle.std.specs.Cmp.Lexicographic.{slice_cmp}
use Rattle.std.specs.Global.{Vec}
use Rattle.std.specs.List.{AllByRecursion, flat_map, fold}
use Rattle.std.specs.List.Sorted.{IsStrictlySortedBy}
use Rattle.std.specs.Map.{keys_of, set_value}
use Rattle.std.specs.Option.{option_map_or, option_to_list}
use Rattle.std.specs.Ordering.{is_eq, match_ordering, nat_cmp}
use Rattle.std.specs.declared.cmp.Ordering.{Ordering}
use Rattle.std.specs.declared.cmp.Ordering.TheVariants.{Less, Equal, Greater}
use Rattle.std.specs.Str.{bytes_eq}
use Rattle.std.proofs.lemmas.Cmp.{nat_list_cmp_total}
use Rattle.std.proofs.lemmas.Grind.{flat_map-append}
use Rattle.std.proofs.lemmas.List.{length-map, map-append}
use Rattle.std.proofs.lemmas.List.Sums.{fold-append, sum_by_push}
use Rattle.std.proofs.lemmas.Map.Keys.{sorted_head, sorted_tail}
use Rattle.std.proofs.lemmas.Map.Lookups.{exact_bytes}
use Rattle.std.proofs.lemmas.Map.Text.{is_eq-slice_cmp}
use Rattle.dl_sources.specs.declared.counting.Counts.{Counts}
use Rattle.dl_sources.specs.declared.table.PathTotals.{PathTotals}
use Rattle.dl_sources.specs.declared.table.SourceTable.{SourceTable}
use Rattle.dl_sources.specs.Counts.{at_most_64_bits}
use Rattle.dl_sources.specs.Holding.{Holds, looked, paths_in, same_bytes, told_at, with_told}
use Rattle.dl_sources.specs.SourceFiles.{totals_seen}
use Rattle.dl_sources.specs.Sources.{Mention, Totals, in_order, nothing_told, paths_of, sums_of, total, totals_of}

abbrev Entries : Type 0
Entries = List (Vec ℕ × PathTotals)

abbrev compare : List ℕ → List ℕ → Ordering
compare = slice_cmp nat_cmp

-- paths that compare as equal are the same
pub equal_same : (p q : List ℕ) → compare p q ≡ Equal → p ≡ q
equal_same p q e = exact_bytes p q e

pub same_is : (p q : List ℕ) → same_bytes p q ≡ true → p ≡ q
same_is p q e = by (compare p q) refl where
  by : (o : Ordering) → compare p q ≡ o → p ≡ q
  by Less is = absurd (true≢false (sym e ∙ ap is_eq is))
  by Equal is = equal_same p q is
  by Greater is = absurd (true≢false (sym e ∙ ap is_eq is))

-- of a path that isn't the one that changed, the first of two choices may come last
swap : {A : Type 0} (a b : Bool) (x y z : A) → (a ≡ true → b ≡ true → ⊥) → cond a x (cond b y z) ≡ cond b y (cond a x z)
swap true true x y z apart = absurd (apart refl refl)
swap true false x y z apart = refl
swap false b x y z apart = refl

again : {A : Type 0} (a b : Bool) (x y z : A) → a ≡ b → cond a x z ≡ cond a x (cond b y z)
again true b x y z is = refl
again false true x y z is = absurd (true≢false (sym is))
again false false x y z is = refl

-- two paths that are apart aren't both the same as a third
apart_both : (q p k : List ℕ) → same_bytes p k ≡ false → same_bytes q k ≡ true → same_bytes q p ≡ true → ⊥
apart_both q p k apart first second =
    true≢false (sym (subst (λ x. same_bytes x k ≡ true) (same_is q p second) first) ∙ apart)

-- a value in place of another one
pub look_set : (p q : List ℕ) (w : PathTotals) (es : Entries) (v : PathTotals) → looked p es ≡ Some v
    → looked q (set_value (λ (k : Vec ℕ). same_bytes p k.items) es w) ≡ cond (same_bytes q p) (Some w) (looked q es)
look_set p q w [] v found = absurd cc
look_set p q w (e ∷ es) v found = by (same_bytes p e.0.items) refl (look_set p q w es v) where
  by : (b : Bool) → same_bytes p e.0.items ≡ b
      → (looked p es ≡ Some v
      → looked q (set_value (λ (k : Vec ℕ). same_bytes p k.items) es w) ≡ cond (same_bytes q p) (Some w) (looked q es))
      → looked q (cond b ((e.0, w) ∷ es) (e ∷ set_value (λ (k : Vec ℕ). same_bytes p k.items) es w))
      ≡ cond (same_bytes q p) (Some w) (looked q (e ∷ es))
  by true is later =
      ap (λ b. cond b (Some w) (looked q es)) (ap (same_bytes q) (sym (same_is p e.0.items is)))
      ∙ again (same_bytes q p) (same_bytes q e.0.items) (Some w) (Some e.1) (looked q es)
      (ap (same_bytes q) (same_is p e.0.items is))
  by false is later =
      ap (cond (same_bytes q e.0.items) (Some e.1)) (later (sym (ap (λ b. cond b (Some e.1) (looked p es)) is) ∙ found))
      ∙ swap (same_bytes q e.0.items) (same_bytes q p) (Some e.1) (Some w) (looked q es)
      (apart_both q p e.0.items is)

-- an entry more
pub look_insert : (q : List ℕ) (key : Vec ℕ) (v : PathTotals) (es : Entries)
    → looked q (insert_entry (λ (x y : Vec ℕ). compare x.items y.items) es key v)
    ≡ cond (same_bytes q key.items) (Some v) (looked q es)
look_insert q key v [] = refl
look_insert q key v (e ∷ es) = by (compare key.items e.0.items) refl (look_insert q key v es) where
  by : (o : Ordering) → compare key.items e.0.items ≡ o
      → looked q (insert_entry (λ (x y : Vec ℕ). compare x.items y.items) es key v)
      ≡ cond (same_bytes q key.items) (Some v) (looked q es)
      → looked q (match_ordering o ((key, v) ∷ e ∷ es) ((e.0, v) ∷ es)
      (e ∷ insert_entry (λ (x y : Vec ℕ). compare x.items y.items) es key v))
      ≡ cond (same_bytes q key.items) (Some v) (looked q (e ∷ es))
  by Less is later = refl
  by Equal is later =
      let same = equal_same key.items e.0.items is in
      ap (λ b. cond b (Some v) (looked q es)) (ap (same_bytes q) (sym same))
      ∙ again (same_bytes q key.items) (same_bytes q e.0.items) (Some v) (Some e.1) (looked q es) (ap (same_bytes q) same)
  by Greater is later =
      ap (cond (same_bytes q e.0.items) (Some e.1)) later
      ∙ swap (same_bytes q e.0.items) (same_bytes q key.items) (Some e.1) (Some v) (looked q es)
      (apart_both q key.items e.0.items (ap is_eq is))

pub paths_insert : (key : Vec ℕ) (v : PathTotals) (es : Entries)
    → paths_in (insert_entry (λ (x y : Vec ℕ). compare x.items y.items) es key v)
    ≡ insert_key compare (paths_in es) key.items
paths_insert key v [] = refl
paths_insert key v (e ∷ es) = by (compare key.items e.0.items) (paths_insert key v es) where
  by : (o : Ordering)
      → paths_in (insert_entry (λ (x y : Vec ℕ). compare x.items y.items) es key v)
      ≡ insert_key compare (paths_in es) key.items
      → paths_in (match_ordering o ((key, v) ∷ e ∷ es) ((e.0, v) ∷ es)
      (e ∷ insert_entry (λ (x y : Vec ℕ). compare x.items y.items) es key v))
      ≡ match_ordering o (key.items ∷ e.0.items ∷ paths_in es) (e.0.items ∷ paths_in es)
      (e.0.items ∷ insert_key compare (paths_in es) key.items)
  by Less later = refl
  by Equal later = refl
  by Greater later = ap (λ (l : List (List ℕ)). e.0.items ∷ l) later

-- a path that is there already
later_none : (p k : List ℕ) (es : Entries) → compare p k ≡ Less
    → AllByRecursion (λ (y : Vec ℕ). compare k y.items ≡ Less) (keys_of es) → looked p es ≡ None
later_none p k [] below all = refl
later_none p k (e ∷ es) below all =
    ap (λ b. cond b (Some e.1) (looked p es)) (ap is_eq (nat_list_cmp_total.trans p k e.0.items below all.0))
    ∙ later_none p k es below all.1

abbrev pub order : Vec ℕ → Vec ℕ → Ordering
order x y = compare x.items y.items

pub paths_found : (p : List ℕ) (es : Entries) (v : PathTotals)
    → IsStrictlySortedBy order (keys_of es) → looked p es ≡ Some v
    → insert_key compare (paths_in es) p ≡ paths_in es
paths_found p [] v sorted found = absurd cc
paths_found p (e ∷ es) v sorted found = by (compare p e.0.items) refl (paths_found p es v (sorted_tail order e.0 (keys_of es) sorted)) where
  by : (o : Ordering) → compare p e.0.items ≡ o → (looked p es ≡ Some v → insert_key compare (paths_in es) p ≡ paths_in es)
      → match_ordering o (p ∷ e.0.items ∷ paths_in es) (e.0.items ∷ paths_in es)
      (e.0.items ∷ insert_key compare (paths_in es) p) ≡ e.0.items ∷ paths_in es
  by Less is later =
      absurd (let none = ap (λ b. cond (is_eq b) (Some e.1) (looked p es)) is
      ∙ later_none p e.0.items es is (sorted_head order e.0 (keys_of es) sorted) in
      let clash : None ≡ Some v = sym none ∙ found in cc)
  by Equal is later = refl
  by Greater is later =
      ap (λ (l : List (List ℕ)). e.0.items ∷ l) (later (sym (ap (λ b. cond (is_eq b) (Some e.1) (looked p es)) is) ∙ found))

pub paths_by_keys : (es : Entries) → paths_in es ≡ map (λ (k : Vec ℕ). k.items) (keys_of es)
paths_by_keys [] = refl
paths_by_keys (e ∷ es) = ap (λ (l : List (List ℕ)). e.0.items ∷ l) (paths_by_keys es)

-- the value of a path that is there changes
pub paths_same : (es new : Entries) → keys_of new ≡ keys_of es → paths_in new ≡ paths_in es
paths_same es new is = paths_by_keys new ∙ ap (map (λ (k : Vec ℕ). k.items)) is ∙ sym (paths_by_keys es)

-- ---- what mentions come to, with one more

module _ (mentions : List Mention) (m : Mention) where
  total_push : (f : Counts → ℕ) (p : List ℕ)
      → total f p (mentions ++ m ∷ [])
      ≡ at_most_64_bits (total f p mentions + (if bytes_eq p m.path then f m.counts else 0))
  total_push f p =
      ap at_most_64_bits (sum_by_push (λ (n : Mention). if bytes_eq p n.path then f n.counts else 0) mentions m) ∙ omega arith

  sums_push : (p : List ℕ)
      → sums_of p (mentions ++ m ∷ [])
      ≡ fold (insert_key compare) (sums_of p mentions) (if bytes_eq p m.path then option_to_list m.sum else [])
  sums_push p =
      let f : Mention → List (List ℕ) = λ n. if bytes_eq p n.path then option_to_list n.sum else [] in
      ap in_order (flat_map-append f mentions (m ∷ []) ∙ ap (λ (l : List (List ℕ)). flat_map f mentions ++ l) (append-nil (f m)))
      ∙ fold-append (insert_key compare) [] (flat_map f mentions) (f m)

  pub paths_push : paths_of (mentions ++ m ∷ []) ≡ insert_key compare (paths_of mentions) m.path
  paths_push =
      ap in_order (map-append (λ (n : Mention). n.path) mentions (m ∷ []))
      ∙ fold-append (insert_key compare) [] (map (λ (n : Mention). n.path) mentions) (m.path ∷ [])

  totals_by : (p : List ℕ) (b : Bool) → bytes_eq p m.path ≡ b
      → totals_of p (mentions ++ m ∷ [])
      ≡ cond b (with_told (totals_of p mentions) m.counts m.sum) (totals_of p mentions)
  totals_by p b is = by b (total_push (λ c. c.rows) p ∙ ap (λ x. at_most_64_bits (total (λ c. c.rows) p mentions + cond x m.counts.rows 0)) is)
      (total_push (λ c. c.bytes) p ∙ ap (λ x. at_most_64_bits (total (λ c. c.bytes) p mentions + cond x m.counts.bytes 0)) is)
      (sums_push p ∙ ap (λ x. fold (insert_key compare) (sums_of p mentions) (cond x (option_to_list m.sum) [])) is) where
        by : (b : Bool)
            → total (λ c. c.rows) p (mentions ++ m ∷ []) ≡ at_most_64_bits (total (λ c. c.rows) p mentions + cond b m.counts.rows 0)
            → total (λ c. c.bytes) p (mentions ++ m ∷ []) ≡ at_most_64_bits (total (λ c. c.bytes) p mentions + cond b m.counts.bytes 0)
            → sums_of p (mentions ++ m ∷ []) ≡ fold (insert_key compare) (sums_of p mentions) (cond b (option_to_list m.sum) [])
            → totals_of p (mentions ++ m ∷ [])
            ≡ cond b (with_told (totals_of p mentions) m.counts m.sum) (totals_of p mentions)
        by true rows bytes sums = ap₂ (λ c s. record { counts = c; sums = s }) (ap₂ (λ a c. record { rows = a; bytes = c }) rows bytes) sums
        by false rows bytes sums =
            ap₂ (λ c s. record { counts = c; sums = s })
            (ap₂ (λ a c. record { rows = a; bytes = c }) (rows ∙ omega arith) (bytes ∙ omega arith)) sums

  pub totals_push : (p : List ℕ)
      → totals_of p (mentions ++ m ∷ [])
      ≡ cond (same_bytes p m.path) (with_told (totals_of p mentions) m.counts m.sum) (totals_of p mentions)
  totals_push p = totals_by p (same_bytes p m.path) (sym (is_eq-slice_cmp p m.path))

  module _ (old new : SourceTable) (held : Holds old mentions) (w : PathTotals)
      (look : (q : List ℕ) → looked q new.paths.entries ≡ cond (same_bytes q m.path) (Some w) (looked q old.paths.entries))
      (value : totals_seen w ≡ with_told (told_at m.path old.paths.entries) m.counts m.sum)
      (paths : paths_in new.paths.entries ≡ insert_key compare (paths_in old.paths.entries) m.path) where
    told_then : (q : List ℕ) (b : Bool) → same_bytes q m.path ≡ b
        → option_map_or totals_seen (cond b (Some w) (looked q old.paths.entries)) nothing_told
        ≡ cond b (with_told (totals_of q mentions) m.counts m.sum) (totals_of q mentions)
    told_then q true is =
        value
        ∙ ap (λ (t : Totals). with_told t m.counts m.sum) (ap (λ p. told_at p old.paths.entries) (sym (same_is q m.path is))
        ∙ held.each q)
    told_then q false is = held.each q

    pub holds_more : Holds new (mentions ++ m ∷ [])
    holds_more = record {
      paths = paths ∙ ap (λ (l : List (List ℕ)). insert_key compare l m.path) held.paths ∙ sym paths_push;
      each = λ q. ap (λ o. option_map_or totals_seen o nothing_told) (look q) ∙ told_then q (same_bytes q m.path) refl
          ∙ sym (totals_push q);
    }

-- ---- how many there are

one_more : (texts : List (List ℕ)) (t : List ℕ) → length (insert_key compare texts t) ≤ length texts + 1
one_more [] t = omega arith
one_more (x ∷ texts) t = by (compare t x) (one_more texts t) where
  by : (o : Ordering) → length (insert_key compare texts t) ≤ length texts + 1
      → length (match_ordering o (t ∷ x ∷ texts) (x ∷ texts) (x ∷ insert_key compare texts t)) ≤ length (x ∷ texts) + 1
  by Less later = omega arith
  by Equal later = omega arith
  by Greater later = omega (arith, later)

many_more : (begun texts : List (List ℕ)) → length (fold (insert_key compare) begun texts) ≤ length begun + length texts
many_more begun [] = omega arith
many_more begun (t ∷ texts) = omega (arith, many_more (insert_key compare begun t) texts, one_more begun t)

pub few_in_order : (texts : List (List ℕ)) → length (in_order texts) ≤ length texts
few_in_order texts = omega (arith, many_more [] texts)

few_sums : (p : List ℕ) (mentions : List Mention)
    → length (flat_map (λ (m : Mention). if bytes_eq p m.path then option_to_list m.sum else []) mentions) ≤ length mentions
few_sums p [] = omega arith
few_sums p (m ∷ mentions) = omega (
  arith,
  few_sums p mentions,
  by (bytes_eq p m.path) m.sum,
  length-append (if bytes_eq p m.path then option_to_list m.sum else [])
      (flat_map (λ (n : Mention). if bytes_eq p n.path then option_to_list n.sum else []) mentions),
) where
  by : (b : Bool) (o : Option (List ℕ)) → length (if b then option_to_list o else []) ≤ 1
  by true None = omega arith
  by true (Some sum) = omega arith
  by false o = omega arith

pub few_paths : (t : SourceTable) (mentions : List Mention) → Holds t mentions → length t.paths.entries ≤ length mentions
few_paths t mentions held = omega (
  arith,
  length-map t.paths.entries (λ (e : Vec ℕ × PathTotals). e.0.items),
  ap length held.paths,
  few_in_order (map (λ (m : Mention). m.path) mentions),
  length-map mentions (λ (m : Mention). m.path),
)

pub found_is : (p : List ℕ) (es : Entries) (v : PathTotals) → looked p es ≡ Some v → told_at p es ≡ totals_seen v
found_is p es v found = ap (λ o. option_map_or totals_seen o nothing_told) found

pub none_is : (p : List ℕ) (es : Entries) → looked p es ≡ None → told_at p es ≡ nothing_told
none_is p es none = ap (λ o. option_map_or totals_seen o nothing_told) none

pub few_found : (t : SourceTable) (mentions : List Mention) → Holds t mentions → (p : List ℕ) (v : PathTotals)
    → looked p t.paths.entries ≡ Some v → length v.sums.keys ≤ length mentions
few_found t mentions held p v found =
    let is = ap (λ (x : Totals). x.sums) (sym (found_is p t.paths.entries v found) ∙ held.each p) in
    omega (
      arith,
      ap length is,
      few_in_order (flat_map (λ (m : Mention). if bytes_eq p m.path then option_to_list m.sum else []) mentions),
      few_sums p mentions,
    )
