-- What is kept of directories, and of one entry more.
use Rattle.std.proofs.Common.{◌≡◌, ◌⊎◌, inl, inr, ℕ, zero, suc, ◌+◌, ◌-◌, ◌<◌, ◌≤◌, Bool, true, false, cond, List, [], ◌∷◌, ◌++◌, length}
use Rattle.std.proofs.Common.{take, drop, slice_get, Option, Some, None, refl, sym, ap, subst, ◌∙◌, arith}
use Rattle.std.proofs.Common.{length-append, length-drop, length-take, eqb}
use Rattle.std.specs.Prelude.{◌==◌, ◌&&◌, option_map, Result, Ok, Err, IfErr, OnOk}
use Rattle.std.specs.BTreeMap.{Updates, get}
use Rattle.std.specs.List.{ends_with}
use Rattle.std.specs.Option.{is_some, option_and_then, option_map_or, option_or}
use Rattle.std.specs.Ordering.{nat_cmp}
use Rattle.std.proofs.lemmas.Bool.Decides.{Decides-eqb}
use Rattle.std.proofs.lemmas.Slice.Eq.{ends_is}
use Rattle.std.proofs.lemmas.Bool.{cases_lt, eq-eqb, true≢false}
use Rattle.std.proofs.lemmas.List.{drop-append-le, take-append-le, take_all}
use Rattle.std.proofs.lemmas.List.Folds.{find-append}
use Rattle.std.proofs.lemmas.Option.{slice_get_within}
use Rattle.std.proofs.Math.Seq.{drop-append_seam}
use Rattle.dl_info.specs.declared.entry.FirstEntry.{FirstEntry}
use Rattle.dl_info.specs.declared.entry.Text.{Text}
use Rattle.dl_info.specs.Entries.{EntryData, entry, here, text}
use Rattle.dl_info.proofs.MapLemmas.{query}
use Rattle.dl_dirs.specs.declared.extent.Extent.{Extent}
use Rattle.dl_dirs.specs.declared.places.Kept.{Kept}
use Rattle.dl_dirs.specs.declared.places.Place.{Place}
use Rattle.dl_dirs.specs.declared.places.Place.TheVariants as at
use Rattle.dl_dirs.specs.declared.places.Places.{Places}
use Rattle.dl_dirs.specs.Holding.{Grows, HasPlace, Holds, IsExtent, IsIn, IsPlaced, bytes_of, kept_at, kept_entry, place_text}
use Rattle.dl_dirs.specs.Units.{HasDirectory, saying, says}

pub none_some : {A : Type 0} {x : A} → ◌≡◌ {A = Option A} None (Some x) → ⊥
none_some e = cc

pub some_same : {A : Type 0} (a b : A) → ◌≡◌ {A = Option A} (Some a) (Some b) → a ≡ b
some_same a b e = cc

-- ---- extents

pub extent_stays : (old new : List ℕ) (e : Extent) → Grows old new → IsIn old e → IsExtent new e (bytes_of old e)
extent_stays old new e (more, is) within =
    let start : e.start ≤ length old = omega (arith, within) in
    let len : e.len ≤ length (drop e.start old) = omega (arith, length-drop e.start old, within) in (
      rw (is, drop-append-le e.start old more start) (take-append-le e.len (drop e.start old) more len),
      omega (arith, ap length is, length-append old more, within),
    )

-- a text behind others
pub extent_behind : (b front text : List ℕ) (e : Extent) → b ≡ front ++ text → e.start ≡ length front
    → e.len ≡ length text → IsExtent b e text
extent_behind b front text e parts start len = (
  rw (parts, start, len, drop-append_seam front text) (take_all (length text) text (omega arith)),
  omega (arith, ap length parts, length-append front text, start, len),
)

-- a text at the end of others
pub ends_extent : (b w text : List ℕ) (n : ℕ) (r : Bool) → w ≡ b → r ≡ ends_with eqb w text → r ≡ true → n ≡ length b
    → length text ≤ length b → IsExtent b (record { start = n - length text; len = length text }) text
ends_extent b w text n r same said is n_is within =
    let said_of : r ≡ ends_with eqb b text = said ∙ ap (λ v. ends_with eqb v text) same in
    let parts : b ≡ take (length b - length text) b ++ text = (ends_is Decides-eqb b text r said_of).0 is in
    extent_behind b (take (length b - length text) b) text (record { start = n - length text; len = length text }) parts
    (omega (arith, n_is, length-take (length b - length text) b)) refl

pub place_stays : (old new : List ℕ) (p : Place) → Grows old new → HasPlace old p
    → (place_text new p ≡ place_text old p) × HasPlace new p
place_stays old new (at.Here e) grows has =
    let stays = extent_stays old new e grows has in (ap here stays.0, stays.1)
place_stays old new (at.Str n) grows has = (refl, tt)
place_stays old new (at.LineStr n) grows has = (refl, tt)
place_stays old new (at.Index n) grows has = (refl, tt)

-- ---- numbers

pub front_get : {A : Type 0} (xs more : List A) (i : ℕ) → i < length xs → slice_get (xs ++ more) i ≡ slice_get xs i
front_get [] more i less = absurd (omega (arith, less))
front_get (x ∷ xs) more zero less = refl
front_get (x ∷ xs) more (suc i) less = front_get xs more i (omega (arith, less))

pub last_get : {A : Type 0} (xs : List A) (x : A) → slice_get (xs ++ x ∷ []) (length xs) ≡ Some x
last_get [] x = refl
last_get (y ∷ xs) x = last_get xs x

pub has_get : {A : Type 0} (xs : List A) (i : ℕ) → i < length xs → ◌≡◌ {A = Option A} (slice_get xs i) None → ⊥
has_get [] i within is = absurd (omega (arith, within))
has_get (x ∷ xs) zero within is = none_some (sym is)
has_get (x ∷ xs) (suc i) within is = has_get xs i (omega (arith, within)) is

or_none : {A : Type 0} (o : Option A) → option_or o None ≡ o
or_none None = refl
or_none (Some x) = refl

-- ---- entries

-- of entries and one more
saying_more : (n : ℕ) (es : List EntryData) (e : EntryData)
    → saying n (es ++ e ∷ []) ≡ option_or (saying n es) (cond (says n e) (Some e) None)
saying_more n es e = find-append (says n) es (e ∷ [])

-- an entry that says nothing that wasn't said
pub holds_passed : (p : Places) (es : List EntryData) (e : EntryData) → Holds p es
    → ((n : ℕ) → says n e ≡ true → is_some (saying n es) ≡ true) → Holds p (es ++ e ∷ [])
holds_passed p es e h said = record {
  value = λ n. h.value n ∙ sym (saying_more n es e ∙ by n (saying n es) (says n e) refl refl);
  numbered = h.numbered;
  kept = h.kept;
} where
  by : (n : ℕ) (o : Option EntryData) (s : Bool) → saying n es ≡ o → says n e ≡ s
      → option_or (saying n es) (cond (says n e) (Some e) None) ≡ saying n es
  by n (Some f) s is at = rw is refl
  by n None true is at = absurd (true≢false (sym (said n at) ∙ ap is_some is))
  by n None false is at = rw (is, at) refl

same_entry : (old new : List ℕ) (k : Kept) → Grows old new → HasPlace old k.place
    → kept_entry new k ≡ kept_entry old k
same_entry old new k grows has =
    ap
    (λ text. record {
      format = k.format;
      stmt_list = Some k.offset;
      comp_dir = Some text;
      str_offsets_base = k.base;
    })
    (place_stays old new k.place grows has).0

abbrev pub entry_in : List ℕ → List Kept → Option ℕ → Option EntryData
entry_in b kept number = option_map (kept_entry b) (option_and_then (slice_get kept) number)

-- the same of what is kept where the bytes grew
pub holds_grown : (p q : Places) (es : List EntryData) → q.numbers ≡ p.numbers → q.entries ≡ p.entries
    → Grows p.bytes.items q.bytes.items → Holds p es → Holds q es
holds_grown p q es numbers entries grows h = record {
  value = λ n.
      ap (λ m. entry_in q.bytes.items q.entries.items (get nat_cmp m n)) numbers
      ∙ (ap (λ v. entry_in q.bytes.items v.items (get nat_cmp p.numbers n)) entries
      ∙ (by (get nat_cmp p.numbers n) ∙ h.value n));
  numbered = λ n i is.
      subst (λ v. i < length v.items) (sym entries)
      (h.numbered n i (sym (ap (λ m. get nat_cmp m n) numbers) ∙ is));
  kept = λ i k is.
      let was = h.kept i k (sym (ap (λ v. slice_get v.items i) entries) ∙ is) in (
        ap (λ m. get nat_cmp m k.offset) numbers ∙ was.0,
        (place_stays p.bytes.items q.bytes.items k.place grows was.1).1,
      );
} where
  of : (i : ℕ) (k : Option Kept) → slice_get p.entries.items i ≡ k
      → option_map (kept_entry q.bytes.items) k ≡ option_map (kept_entry p.bytes.items) k
  of i None is = refl
  of i (Some k) is = ap Some (same_entry p.bytes.items q.bytes.items k grows (h.kept i k is).1)

  by : (number : Option ℕ) → entry_in q.bytes.items p.entries.items number
      ≡ entry_in p.bytes.items p.entries.items number
  by None = refl
  by (Some i) = of i (slice_get p.entries.items i) refl

-- an entry more, of a line table of which none is kept
pub holds_kept : (p q : Places) (es : List EntryData) (k : Kept) → Holds p es → HasPlace p.bytes.items k.place
    → get nat_cmp p.numbers k.offset ≡ None
    → Updates nat_cmp p.numbers q.numbers k.offset (Some (length p.entries.items))
    → q.entries.items ≡ p.entries.items ++ k ∷ [] → q.bytes ≡ p.bytes
    → Holds q (es ++ kept_entry p.bytes.items k ∷ [])
holds_kept p q es k h has absent updates entries bytes = record {
  value = value;
  numbered = numbered;
  kept = kept;
} where
  e : EntryData
  e = kept_entry p.bytes.items k

  found : (n : ℕ) → get nat_cmp q.numbers n
      ≡ cond (k.offset == n) (Some (length p.entries.items)) (get nat_cmp p.numbers n)
  found n = rw (← query k.offset n) (updates.0 n)

  new : (n : ℕ) → (k.offset == n) ≡ true → get nat_cmp q.numbers n ≡ Some (length p.entries.items)
  new n is = found n ∙ ap (λ b. cond b (Some (length p.entries.items)) (get nat_cmp p.numbers n)) is

  old : (n : ℕ) → (k.offset == n) ≡ false → get nat_cmp q.numbers n ≡ get nat_cmp p.numbers n
  old n is = found n ∙ ap (λ b. cond b (Some (length p.entries.items)) (get nat_cmp p.numbers n)) is

  read : (n : ℕ) (number : Option ℕ) → get nat_cmp q.numbers n ≡ number
      → option_map (kept_entry q.bytes.items) (kept_at q n)
      ≡ entry_in p.bytes.items (p.entries.items ++ k ∷ []) number
  read n number is =
      ap (λ v. option_map (kept_entry v.items) (kept_at q n)) bytes
      ∙ (ap (λ l. entry_in p.bytes.items l (get nat_cmp q.numbers n)) entries
      ∙ ap (entry_in p.bytes.items (p.entries.items ++ k ∷ [])) is)

  among : (n : ℕ) (number : Option ℕ) → get nat_cmp p.numbers n ≡ number
      → entry_in p.bytes.items (p.entries.items ++ k ∷ []) number ≡ entry_in p.bytes.items p.entries.items number
  among n None is = refl
  among n (Some i) is =
      ap (option_map (kept_entry p.bytes.items)) (front_get p.entries.items (k ∷ []) i (h.numbered n i is))

  by : (n : ℕ) (same : Bool) → (k.offset == n) ≡ same
      → option_map (kept_entry q.bytes.items) (kept_at q n) ≡ option_or (saying n es) (cond (says n e) (Some e) None)
  by n true is =
      let none : saying n es ≡ None =
      sym (h.value n) ∙ ap (entry_in p.bytes.items p.entries.items)
      (ap (get nat_cmp p.numbers) (sym ((Decides-eqb k.offset n).0 is)) ∙ absent) in
      read n (Some (length p.entries.items)) (new n is)
      ∙ (ap (option_map (kept_entry p.bytes.items)) (last_get p.entries.items k) ∙ sym (rw (none, is) refl))
  by n false is =
      read n (get nat_cmp p.numbers n) (old n is)
      ∙ (among n (get nat_cmp p.numbers n) refl ∙ (h.value n ∙ sym (rw is (or_none (saying n es)))))

  value : (n : ℕ) → option_map (kept_entry q.bytes.items) (kept_at q n) ≡ saying n (es ++ e ∷ [])
  value n = by n (k.offset == n) refl ∙ sym (saying_more n es e)

  longer : length q.entries.items ≡ length p.entries.items + 1
  longer = ap length entries ∙ length-append p.entries.items (k ∷ [])

  numbered : (n i : ℕ) → get nat_cmp q.numbers n ≡ Some i → i < length q.entries.items
  numbered n i is = of (k.offset == n) refl where
    of : (same : Bool) → (k.offset == n) ≡ same → i < length q.entries.items
    of true at =
        let last : length p.entries.items ≡ i = some_same (length p.entries.items) i (sym (new n at) ∙ is) in
        omega (arith, longer, last)
    of false at = let before = h.numbered n i (sym (old n at) ∙ is) in omega (arith, longer, before)

  kept : (i : ℕ) (j : Kept) → slice_get q.entries.items i ≡ Some j
      → (get nat_cmp q.numbers j.offset ≡ Some i) × HasPlace q.bytes.items j.place
  kept i j is = of (cases_lt i (length p.entries.items)) where
    of : (i < length p.entries.items) ⊎ (length p.entries.items ≤ i)
        → (get nat_cmp q.numbers j.offset ≡ Some i) × HasPlace q.bytes.items j.place
    of (inl less) =
        let was = h.kept i j
        (sym (front_get p.entries.items (k ∷ []) i less) ∙ (sym (ap (λ l. slice_get l i) entries) ∙ is)) in
        (by (k.offset == j.offset) refl was.0, subst (λ v. HasPlace v.items j.place) (sym bytes) was.1) where
          by : (same : Bool) → (k.offset == j.offset) ≡ same → get nat_cmp p.numbers j.offset ≡ Some i
              → get nat_cmp q.numbers j.offset ≡ Some i
          by true at was =
              absurd (none_some (sym absent ∙ (ap (get nat_cmp p.numbers) ((Decides-eqb k.offset j.offset).0 at) ∙ was)))
          by false at was = old j.offset at ∙ was
    of (inr past) =
        let within = slice_get_within q.entries.items i j is in
        let last : i ≡ length p.entries.items = omega (arith, past, within, longer) in
        let same : k ≡ j =
        some_same k j
        (sym (last_get p.entries.items k)
        ∙ (ap (slice_get (p.entries.items ++ k ∷ [])) (sym last) ∙ (sym (ap (λ l. slice_get l i) entries) ∙ is))) in
        subst (λ x. (get nat_cmp q.numbers x.offset ≡ Some i) × HasPlace q.bytes.items x.place) same (
          new k.offset (eq-eqb k.offset k.offset refl) ∙ ap Some (sym last),
          subst (λ v. HasPlace v.items k.place) (sym bytes) has,
        )

-- ---- an entry in memory

pub none_of : {A : Type 0} (o : Option A) → is_some o ≡ false → o ≡ None
none_of None is = refl
none_of (Some x) is = absurd (true≢false is)

pub says_table : (u : FirstEntry) (n : ℕ) → u.stmt_list ≡ None → says n (entry u) ≡ true → ⊥
says_table u n none said =
    true≢false
    (sym said ∙ ap (λ o. option_map_or (λ m. m == n) o false && is_some (option_map text u.comp_dir)) none)

pub says_directory : (u : FirstEntry) (n : ℕ) → ◌≡◌ {A = Option Text} u.comp_dir None → says n (entry u) ≡ true → ⊥
says_directory u n none said = true≢false (sym said ∙ (ap (λ o. tests && is_some (option_map text o)) none ∙ never tests))
  where
    tests : Bool
    tests = option_map_or (λ m. m == n) u.stmt_list false

    never : (b : Bool) → (b && false) ≡ false
    never true = refl
    never false = refl

-- one of a line table of which an entry is kept
pub was_said : (p : Places) (es : List EntryData) (u : FirstEntry) (offset : ℕ) → Holds p es → u.stmt_list ≡ Some offset
    → is_some (get nat_cmp p.numbers offset) ≡ true → (n : ℕ) → says n (entry u) ≡ true
    → is_some (saying n es) ≡ true
was_said p es u offset h at known n said = by (get nat_cmp p.numbers n) refl where
  first : (b c : Bool) → (b && c) ≡ true → b ≡ true
  first true c is = refl
  first false c is = is

  same : offset ≡ n
  same =
      (Decides-eqb offset n).0
      (first (offset == n) (is_some (option_map text u.comp_dir))
      (sym (ap (λ o. option_map_or (λ m. m == n) o false && is_some (option_map text u.comp_dir)) at) ∙ said))

  of : (i : ℕ) (k : Option Kept) → slice_get p.entries.items i ≡ k → i < length p.entries.items
      → is_some (option_map (kept_entry p.bytes.items) k) ≡ true
  of i (Some k) is within = refl
  of i None is within = absurd (has_get p.entries.items i within is)

  by : (number : Option ℕ) → get nat_cmp p.numbers n ≡ number → is_some (saying n es) ≡ true
  by None is =
      absurd (true≢false (sym known ∙ (ap (λ m. is_some (get nat_cmp p.numbers m)) same ∙ ap is_some is)))
  by (Some i) is =
      ap is_some (sym (h.value n) ∙ ap (entry_in p.bytes.items p.entries.items) is)
      ∙ of i (slice_get p.entries.items i) refl (h.numbered n i is)

-- what is kept of it
pub entry_kept : (u : FirstEntry) (b : List ℕ) (offset : ℕ) (place : Place) (said : Text) → u.stmt_list ≡ Some offset
    → u.comp_dir ≡ Some said → place_text b place ≡ text said
    → kept_entry b (record { offset = offset; format = u.format; place = place; base = u.str_offsets_base }) ≡ entry u
entry_kept u b offset place said table directory is = rw (table, directory, is) refl

pub added : (p q new : Places) (u : FirstEntry) (offset : ℕ) (place : Place) (said : Text) → q.numbers ≡ p.numbers
    → q.entries ≡ p.entries → Grows p.bytes.items q.bytes.items → u.stmt_list ≡ Some offset → u.comp_dir ≡ Some said
    → IsPlaced q.bytes.items place (text said) → get nat_cmp p.numbers offset ≡ None
    → ((es : List EntryData) → Holds q es → HasPlace q.bytes.items place → get nat_cmp q.numbers offset ≡ None
    → Holds new
    (es
    ++ kept_entry q.bytes.items
    (record { offset = offset; format = u.format; place = place; base = u.str_offsets_base })
    ∷ []))
    → (es : List EntryData) → Holds p es → Holds new (es ++ entry u ∷ [])
added p q new u offset place said numbers entries grows table directory placed absent keeps es h =
    subst (λ e. Holds new (es ++ e ∷ []))
    (entry_kept u q.bytes.items offset place said table directory placed.0)
    (keeps es (holds_grown p q es numbers entries grows h) placed.1 (ap (λ m. get nat_cmp m offset) numbers ∙ absent))

pub if_err : {T E : Type 0} (r : Result T E) (P : Type 0) → P → IfErr r (λ error. P)
if_err (Ok x) P p = tt
if_err (Err e) P p = p

-- a fact of what is there after a call that succeeds
pub where_ok : {T E : Type 0} (r : Result T E) (P Q : Type 0) → (P → Q) → OnOk r P → OnOk r Q
where_ok (Ok x) P Q f p = f p
where_ok (Err e) P Q f p = p

-- ---- units that say a directory

pub one_says : (u : FirstEntry) (offset : ℕ) (said : Text) → u.stmt_list ≡ Some offset → u.comp_dir ≡ Some said
    → HasDirectory (entry u ∷ [])
one_says u offset said table directory =
    let so : says offset (entry u) ≡ true =
    rw (table, directory) (ap (λ t. t && true) (eq-eqb offset offset refl)) in
    (offset, entry u, ap (λ t. cond t (Some (entry u)) None) so)

pub has_more : (es more : List EntryData) → HasDirectory more → HasDirectory (es ++ more)
has_more es more (offset, e, is) = by (saying offset es) refl where
  by : (o : Option EntryData) → saying offset es ≡ o → HasDirectory (es ++ more)
  by None none = (offset, e, find-append (says offset) es more ∙ (ap (λ o. option_or o (saying offset more)) none ∙ is))
  by (Some f) some = (offset, f, find-append (says offset) es more ∙ ap (λ o. option_or o (saying offset more)) some)
