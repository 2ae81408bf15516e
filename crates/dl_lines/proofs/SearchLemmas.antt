-- What a search stands for, call after call.
use Rattle.std.proofs.Common.{◌≡◌, ◌⊎◌, inl, inr, ℕ, zero, suc, ◌+◌, ◌<◌, ◌≤◌, Bool, true, false, List, [], ◌∷◌, ◌++◌, length}
use Rattle.std.proofs.Common.{map, take, drop, slice_get, Option, Some, None, refl, sym, ap, ap₂, ◌∙◌, subst, arith}
use Rattle.std.specs.Prelude.{◌&&◌, nat_lt, if◌then◌else◌, option_to_list}
use Rattle.std.specs.List.{list_all}
use Rattle.std.specs.Option.{option_map_or}
use Rattle.std.proofs.lemmas.Bool.Decides.{nat_tests}
use Rattle.std.proofs.lemmas.List.{map-append, take-append-drop}
use Rattle.std.specs.Global.{Vec}
use Rattle.dl_rows.specs.declared.row.Row.{Row}
use Rattle.dl_lines.specs.declared.best.Best.{Best}
use Rattle.dl_lines.specs.declared.best.KeptPlace.{KeptPlace}
use Rattle.dl_lines.specs.declared.question.Wanted.{Wanted}
use Rattle.dl_lines.specs.declared.search.FileMatch.{FileMatch}
use Rattle.dl_lines.specs.declared.search.FileMatch.TheVariants.{Other, Path}
use Rattle.dl_lines.specs.declared.search.Search.{Search}
use Rattle.dl_lines.specs.Places.{CodePlace, place_at}
use Rattle.dl_lines.specs.Answers.{answering, fits, is_line, least_of}
use Rattle.dl_lines.specs.Kept.{AreWithin, both, is_exact, is_within, place_kept, places_kept}
use Rattle.dl_lines.specs.Searching.{IsAdded, IsBegun, IsEnded, IsKnown, IsNew, Stands, file_at, is_wanted, place_added}
use Rattle.dl_lines.specs.Searching.{place_of_file, texts_of}
use Rattle.dl_lines.proofs.AnswerLemmas.{answering_both}

-- ---- paths more, and fewer

pub get_left : {A : Type 0} (a b : List A) (n : ℕ) → n < length a → slice_get (a ++ b) n ≡ slice_get a n
get_left [] b n lt = absurd (omega (arith, lt))
get_left (x ∷ a) b zero lt = refl
get_left (x ∷ a) b (suc n) lt = get_left a b n (omega (arith, lt))

pub get_last : {A : Type 0} (a : List A) (x : A) → slice_get (a ++ x ∷ []) (length a) ≡ Some x
get_last [] x = refl
get_last (y ∷ a) x = get_last a x

within_is : (n : ℕ) (p : KeptPlace) → is_within n p ≡ true → p.path < n
within_is n p e = grind (arith, nat_tests, e)

-- places whose paths are the first ones tell the same under more paths
pub kept_under_more : (a b : List (List ℕ)) (line : ℕ) (places : List KeptPlace) → AreWithin (length a) places
    → map (place_kept (a ++ b) line) places ≡ map (place_kept a line) places
kept_under_more a b line [] within = refl
kept_under_more a b line (p ∷ places) within =
    ap₂ (λ (o : Option (List ℕ)) (l : List CodePlace). record {
      path = o;
      address = p.address;
      line = line;
      column = p.column;
      prologue_end = p.prologue_end;
    } ∷ l) (get_left a b p.path (within_is (length a) p (first (is_within (length a) p) within)))
    (kept_under_more a b line places (second (is_within (length a) p) within)) where
      first : (x : Bool) → (x && list_all (is_within (length a)) places) ≡ true → x ≡ true
      first true e = refl
      first false e = e

      second : (x : Bool) → (x && list_all (is_within (length a)) places) ≡ true
          → list_all (is_within (length a)) places ≡ true
      second true e = e
      second false e = absurd cc

pub within_more : (n m : ℕ) (places : List KeptPlace) → n ≤ m → AreWithin n places → AreWithin m places
within_more n m [] le within = refl
within_more n m (p ∷ places) le within =
    by (is_within n p) refl within (λ rest. within_more n m places le rest) where
      more : is_within n p ≡ true → is_within m p ≡ true
      more e = grind (arith, nat_tests, le, e)

      by : (x : Bool) → is_within n p ≡ x → (x && list_all (is_within n) places) ≡ true
          → (list_all (is_within n) places ≡ true → list_all (is_within m) places ≡ true)
          → (is_within m p && list_all (is_within m) places) ≡ true
      by true e rest go = ap₂ (λ (x y : Bool). x && y) (more e) (go rest)
      by false e rest go = absurd cc

pub texts_len : (s : Search) → length (texts_of s.paths) ≡ length s.paths.items
texts_len s = Rattle.std.proofs.lemmas.List.length-map s.paths.items (λ v. v.items)

-- ---- nothing answers of no places

nothing_answers : (exact : Bool) (w : Wanted) → answering exact w [] ≡ []
nothing_answers exact w = refl

one_fits : (exact : Bool) (w : Wanted) (p : CodePlace) → fits exact w p ≡ true → answering exact w (p ∷ []) ≡ p ∷ []
one_fits exact w p e =
    ap (λ (b : Bool). least_of (if b then p ∷ [] else [])) e ∙ alone p.line where
      alone : (n : ℕ) → least_of (p ∷ []) ≡ p ∷ []
      alone n = ap (λ (b : Bool). if b && true then p ∷ [] else []) (self p.line) where
        self : (n : ℕ) → Rattle.std.specs.Prelude.nat_le n n ≡ true
        self n = grind (arith, nat_tests)

none_fits : (exact : Bool) (w : Wanted) (p : CodePlace) → fits exact w p ≡ false → answering exact w (p ∷ []) ≡ []
none_fits exact w p e = ap (λ (b : Bool). least_of (if b then p ∷ [] else [])) e

-- ---- the calls

abbrev no_path : ℕ → Option (List ℕ)
no_path file = None

pub made : (s : Search) (w : Wanted) (exact : Bool) → IsNew s w exact → Stands s w exact [] [] no_path 0 0
made s w exact new = record {
  wanted = new.wanted;
  lines = new.lines;
  kept = ap (map (place_kept (texts_of s.paths) s.kept.line)) new.kept;
  unit = ap (map (place_kept (texts_of s.paths) s.unit.line)) new.unit;
  kept_within = ap (list_all (is_within s.paths_kept)) new.kept;
  unit_within = ap (list_all (is_within (length s.paths.items))) new.unit;
  paths_within = omega (arith, new.paths_kept);
  known = λ file. subst (λ (f : FileMatch). IsKnown (texts_of s.paths) w f None) (sym (ap (λ (l : List FileMatch). file_at l file) new.files)) refl;
  few_places = omega (arith, ap length new.kept, ap length new.unit);
  few_paths = omega (arith, ap length new.paths);
}

-- the first paths
take_texts : (paths : List (Vec ℕ)) (n : ℕ)
    → map (λ (v : Vec ℕ). v.items) (take n paths)
    ≡ take n (map (λ (v : Vec ℕ). v.items) paths)
take_texts paths zero = refl
take_texts [] (suc n) = refl
take_texts (v ∷ paths) (suc n) = ap (λ (l : List (List ℕ)). v.items ∷ l) (take_texts paths n)

take_len : {A : Type 0} (n : ℕ) (l : List A) → n ≤ length l → length (take n l) ≡ n
take_len zero l le = refl
take_len (suc n) [] le = absurd (omega (arith, le))
take_len (suc n) (x ∷ l) le = ap suc (take_len n l (omega (arith, le)))

-- the same places under the first paths
pub under_first : (texts : List (List ℕ)) (n line : ℕ) (places : List KeptPlace) → n ≤ length texts → AreWithin n places
    → map (place_kept (take n texts) line) places ≡ map (place_kept texts line) places
under_first texts n line places le within =
    sym (kept_under_more (take n texts) (drop n texts) line places
    (subst (λ (k : ℕ). AreWithin k places) (sym (take_len n texts le)) within))
    ∙ ap (λ (l : List (List ℕ)). map (place_kept l line) places) (take-append-drop n texts)

known_other : (texts : List (List ℕ)) (w : Wanted) (files : List FileMatch) (file : ℕ) → files ≡ []
    → IsKnown texts w (file_at files file) None
known_other texts w files file none =
    subst (λ (l : List FileMatch). IsKnown texts w (file_at l file) None) (sym none) refl

module _ (s t : Search) (w : Wanted) (exact : Bool) (ended current : List CodePlace) (path : ℕ → Option (List ℕ))
    (rows files : ℕ) (stands : Stands s w exact ended current path rows files) where
  abbrev texts : List (List ℕ)
  texts = texts_of s.paths

  long : s.paths_kept ≤ length texts
  long = omega (arith, stands.paths_within, texts_len s)

  -- a unit begins
  pub begun : IsBegun s t → Stands t w exact ended [] no_path rows files
  begun is = record {
    wanted = is.wanted ∙ stands.wanted;
    lines = ap is_exact is.lines ∙ stands.lines;
    kept =
        ap₂ places_kept (ap (map (λ (v : Vec ℕ). v.items)) is.paths ∙ take_texts s.paths.items s.paths_kept) is.kept
        ∙ under_first texts s.paths_kept s.kept.line s.kept.places.items long stands.kept_within ∙ stands.kept;
    unit = ap (map (place_kept (texts_of t.paths) t.unit.line)) is.unit;
    kept_within = ap₂ (λ (n : ℕ) (b : Best). list_all (is_within n) b.places.items) is.paths_kept is.kept ∙ stands.kept_within;
    unit_within = ap (list_all (is_within (length t.paths.items))) is.unit;
    paths_within = omega (
      arith,
      is.paths_kept,
      ap length is.paths,
      take_len s.paths_kept s.paths.items stands.paths_within,
    );
    known = λ file. known_other (texts_of t.paths) w t.files.items file is.files;
    few_places = omega (arith, ap (λ (b : Best). length b.places.items) is.kept, ap length is.unit, stands.few_places);
    few_paths = omega (
      arith,
      ap length is.paths,
      take_len s.paths_kept s.paths.items stands.paths_within,
      stands.paths_within,
      stands.few_paths,
    );
  }

  -- the current unit has ended
  pub ends : IsEnded s t → Stands t w exact (ended ++ current) [] no_path rows files
  ends is = record {
    wanted = is.wanted ∙ stands.wanted;
    lines = ap is_exact is.lines ∙ stands.lines;
    kept =
        ap (λ (l : List (List ℕ)). places_kept l t.kept) (ap (map (λ (v : Vec ℕ). v.items)) is.paths
        ∙ take_texts s.paths.items t.paths_kept)
        ∙ under_first texts t.paths_kept t.kept.line t.kept.places.items (omega (arith, count, texts_len s)) within
        ∙ is.kept texts ∙ ap₂ both stands.kept stands.unit ∙ sym (answering_both exact w ended current);
    unit = ap (map (place_kept (texts_of t.paths) t.unit.line)) is.unit;
    kept_within = within;
    unit_within = ap (list_all (is_within (length t.paths.items))) is.unit;
    paths_within = omega (arith, ap length is.paths, take_len t.paths_kept s.paths.items count);
    known = λ file. known_other (texts_of t.paths) w t.files.items file is.files;
    few_places = omega (arith, is.few, ap length is.unit, stands.few_places);
    few_paths = omega (
      arith,
      ap length is.paths,
      take_len t.paths_kept s.paths.items count,
      count,
      stands.few_paths,
    );
  } where
    count : t.paths_kept ≤ length s.paths.items
    count = by is.paths_kept where
      by : ((t.paths_kept ≡ s.paths_kept) × (s.unit.places.items ≡ [])) ⊎ (t.paths_kept ≡ length s.paths.items)
          → t.paths_kept ≤ length s.paths.items
      by (inl (same, none)) = omega (arith, same, stands.paths_within)
      by (inr all) = omega (arith, all)

    within : AreWithin t.paths_kept t.kept.places.items
    within = by is.paths_kept where
      by : ((t.paths_kept ≡ s.paths_kept) × (s.unit.places.items ≡ [])) ⊎ (t.paths_kept ≡ length s.paths.items)
          → AreWithin t.paths_kept t.kept.places.items
      by (inl (same, none)) =
          is.within t.paths_kept
          (within_more s.paths_kept t.paths_kept s.kept.places.items (omega (arith, same)) stands.kept_within)
          (ap (list_all (is_within t.paths_kept)) none)
      by (inr all) =
          is.within t.paths_kept
          (within_more s.paths_kept t.paths_kept s.kept.places.items (omega (arith, all, stands.paths_within))
          stands.kept_within)
          (within_more (length s.paths.items) t.paths_kept s.unit.places.items (omega (arith, all)) stands.unit_within)

  -- the current unit has a place at a row
  pub adds : (r : Row) → IsAdded s t r
      → Stands t w exact ended (current ++ place_at (path r.file) r ∷ []) path (rows + 1) files
  adds r is = record {
    wanted = is.wanted ∙ stands.wanted;
    lines = ap is_exact is.lines ∙ stands.lines;
    kept = ap₂ (λ (p : Vec (Vec ℕ)) (b : Best). places_kept (texts_of p) b) is.paths is.kept ∙ stands.kept;
    unit =
        ap (λ (p : Vec (Vec ℕ)). places_kept (texts_of p) t.unit) is.paths
        ∙ is.unit texts ∙ ap₂ both stands.unit told ∙ sym (answering_both exact w current (x ∷ []));
    kept_within = ap₂ (λ (n : ℕ) (b : Best). list_all (is_within n) b.places.items) is.paths_kept is.kept ∙ stands.kept_within;
    unit_within =
        ap (λ (p : Vec (Vec ℕ)). list_all (is_within (length p.items)) t.unit.places.items) is.paths
        ∙ is.within (length s.paths.items) stands.unit_within within;
    paths_within = omega (arith, is.paths_kept, ap (λ (p : Vec (Vec ℕ)). length p.items) is.paths, stands.paths_within);
    known = λ file. subst (λ (p : Vec (Vec ℕ)). IsKnown (texts_of p) w (file_at t.files.items file) (path file))
        (sym is.paths)
        (subst (λ (f : Vec FileMatch). IsKnown texts w (file_at f.items file) (path file)) (sym is.files)
        (stands.known file));
    few_places = omega (arith, is.few, ap (λ (b : Best). length b.places.items) is.kept, stands.few_places);
    few_paths = omega (arith, ap (λ (p : Vec (Vec ℕ)). length p.items) is.paths, stands.few_paths);
  } where
    x : CodePlace
    x = place_at (path r.file) r

    line_same : is_line (is_exact s.lines) s.wanted.line r.line ≡ is_line exact w.line r.line
    line_same = ap₂ (λ (e : Bool) (v : Wanted). is_line e v.line r.line) stands.lines stands.wanted

    told_by : (b : Bool) → is_line exact w.line r.line ≡ b → (f : FileMatch) → IsKnown texts w f (path r.file)
        → map (place_kept texts r.line) (if b then place_of_file r f else []) ≡ answering exact w (x ∷ [])
    told_by false e f known =
        sym (none_fits exact w x (ap (λ (b : Bool). b && is_wanted w (path r.file)) e))
    told_by true e Other known =
        sym (none_fits exact w x (ap₂ (λ (a b : Bool). a && b) e known))
    told_by true e (Path n) (lt, is_path, wanted) =
        ap (λ (o : Option (List ℕ)). place_at o r ∷ []) is_path
        ∙ sym (one_fits exact w x (ap₂ (λ (a b : Bool). a && b) e wanted))

    told : map (place_kept texts r.line) (place_added s r) ≡ answering exact w (x ∷ [])
    told =
        ap (λ (b : Bool). map (place_kept texts r.line) (if b then place_of_file r (file_at s.files.items r.file) else [])) line_same
        ∙ told_by (is_line exact w.line r.line) refl (file_at s.files.items r.file) (stands.known r.file)

    within_by : (b : Bool) (f : FileMatch) → IsKnown texts w f (path r.file)
        → AreWithin (length s.paths.items) (if b then place_of_file r f else [])
    within_by false f known = refl
    within_by true Other known = refl
    within_by true (Path n) (lt, is_path, wanted) =
        ap (λ (b : Bool). b && true) (test (omega (arith, lt, texts_len s))) where
          test : n < length s.paths.items → nat_lt n (length s.paths.items) ≡ true
          test e = grind (arith, nat_tests, e)

    within : AreWithin (length s.paths.items) (place_added s r)
    within =
        within_by (is_line (is_exact s.lines) s.wanted.line r.line) (file_at s.files.items r.file) (stands.known r.file)

  -- more rows and files were told
  pub more : (rows' files' : ℕ) (path' : ℕ → Option (List ℕ)) → s ≡ t → rows ≤ rows' → files ≤ files'
      → ((file : ℕ) → IsKnown texts w (file_at s.files.items file) (path file)
      → IsKnown texts w (file_at s.files.items file) (path' file))
      → Stands s w exact ended current path' rows' files'
  more rows' files' path' same le le' known = record {
    wanted = stands.wanted;
    lines = stands.lines;
    kept = stands.kept;
    unit = stands.unit;
    kept_within = stands.kept_within;
    unit_within = stands.unit_within;
    paths_within = stands.paths_within;
    known = λ file. known file (stands.known file);
    few_places = omega (arith, le, stands.few_places);
    few_paths = omega (arith, le', stands.few_paths);
  }
