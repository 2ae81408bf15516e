-- The files of a unit, told one after the other to a search.
use Rattle.std.proofs.Common.{◌≡◌, ◌⊎◌, inl, inr, ℕ, zero, suc, ◌+◌, ◌<◌, ◌≤◌, Bool, true, false, List, [], ◌∷◌, ◌++◌, length, length-append}
use Rattle.std.proofs.Common.{slice_get, Option, Some, None, refl, sym, ap, ap₂, ◌∙◌, subst, arith}
use Rattle.std.specs.Prelude.{nat_lt, if◌then◌else◌, option_to_list}
use Rattle.std.specs.List.{list_all}
use Rattle.std.proofs.lemmas.Bool.Decides.{nat_tests}
use Rattle.dl_lines.specs.declared.best.Best.{Best}
use Rattle.dl_lines.specs.declared.question.Wanted.{Wanted}
use Rattle.dl_lines.specs.declared.search.FileMatch.{FileMatch}
use Rattle.dl_lines.specs.declared.search.FileMatch.TheVariants.{Other, Path}
use Rattle.dl_lines.specs.declared.search.Search.{Search}
use Rattle.dl_lines.specs.Places.{CodePlace}
use Rattle.dl_lines.specs.Kept.{is_exact, is_within, places_kept}
use Rattle.dl_lines.specs.Searching.{IsJudged, IsKnown, Stands, file_at, is_wanted}
use Rattle.dl_lines.specs.Searching.{file_or_other, texts_of, upto}
use Rattle.dl_lines.proofs.EachLemmas.{below_or_not}
use Rattle.dl_lines.proofs.SearchLemmas.{get_last, get_left, kept_under_more, texts_len, within_more}

-- ---- the next file is told

upto_left : (e : ℕ) (path : ℕ → Option (List ℕ)) (file : ℕ) → file < e → upto (e + 1) path file ≡ upto e path file
upto_left e path file lt =
    both (nat_lt file (e + 1)) (nat_lt file e) refl refl where
      both : (a b : Bool) → nat_lt file (e + 1) ≡ a → nat_lt file e ≡ b
          → ◌≡◌ {A = Option (List ℕ)} (if a then path file else None) (if b then path file else None)
      both true true f g = refl
      both false b f g = absurd (grind (arith, nat_tests, f, lt))
      both true false f g = absurd (grind (arith, nat_tests, g, lt))

upto_here : (e : ℕ) (path : ℕ → Option (List ℕ)) → upto (e + 1) path e ≡ path e
upto_here e path = ap (λ (b : Bool). if b then path e else None) test where
  test : nat_lt e (e + 1) ≡ true
  test = grind (arith, nat_tests)

pub upto_past : (e : ℕ) (path : ℕ → Option (List ℕ)) (file : ℕ) → e ≤ file → upto e path file ≡ None
upto_past e path file le = ap (λ (b : Bool). if◌then◌else◌ {A = Option (List ℕ)} b (path file) None) test where
  test : nat_lt file e ≡ false
  test = grind (arith, nat_tests, le)

get_past : {A : Type 0} (l : List A) (n : ℕ) → length l ≤ n → slice_get l n ≡ None
get_past [] n le = refl
get_past (x ∷ l) zero le = absurd (omega (arith, le))
get_past (x ∷ l) (suc n) le = get_past l n (omega (arith, le))

known_more : (a b : List (List ℕ)) (w : Wanted) (f : FileMatch) (path : Option (List ℕ)) → IsKnown a w f path
    → IsKnown (a ++ b) w f path
known_more a b w Other path known = known
known_more a b w (Path n) path (lt, is, wanted) =
    (omega (arith, lt, length-append a b), get_left a b n lt ∙ is, wanted)

known_new : (texts : List (List ℕ)) (w : Wanted) (n : ℕ) (path : Option (List ℕ)) → n ≡ length texts
    → (wanted : Bool) → is_wanted w path ≡ wanted
    → IsKnown (texts ++ (if wanted then option_to_list path else [])) w (if wanted then Path n else Other) path
known_new texts w n path at false e = e
known_new texts w n None at true e = absurd cc
known_new texts w n (Some p) at true e = (
  omega (arith, at, length-append texts (p ∷ [])),
  ap (slice_get (texts ++ p ∷ [])) at ∙ get_last texts p,
  e,
)

few_new : (path : Option (List ℕ)) (wanted : Bool)
    → length (if◌then◌else◌ {A = List (List ℕ)} wanted (option_to_list path) []) ≤ 1
few_new path false = omega arith
few_new None true = omega arith
few_new (Some p) true = omega arith

pub judges : (s t : Search) (w : Wanted) (exact : Bool) (ended current : List CodePlace) (path : ℕ → Option (List ℕ))
    (rows files e : ℕ) → Stands s w exact ended current (upto e path) rows files → length s.files.items ≡ e
    → IsJudged s t (path e) → Stands t w exact ended current (upto (e + 1) path) rows (files + 1)
judges s t w exact ended current path rows files e stands count is = record {
  wanted = is.wanted ∙ stands.wanted;
  lines = ap is_exact is.lines ∙ stands.lines;
  kept = ap₂ places_kept texts_is is.kept ∙ kept_under_more old new s.kept.line s.kept.places.items
      (within_more s.paths_kept (length old) s.kept.places.items (omega (arith, stands.paths_within, texts_len s)) stands.kept_within)
      ∙ stands.kept;
  unit = ap₂ places_kept texts_is is.unit ∙ kept_under_more old new s.unit.line s.unit.places.items
      (within_more (length s.paths.items) (length old) s.unit.places.items (omega (arith, texts_len s)) stands.unit_within)
      ∙ stands.unit;
  kept_within = ap₂ (λ (n : ℕ) (b : Best). list_all (is_within n) b.places.items) is.paths_kept is.kept ∙ stands.kept_within;
  unit_within = ap (λ (b : Best). list_all (is_within (length t.paths.items)) b.places.items) is.unit
      ∙ within_more (length s.paths.items) (length t.paths.items) s.unit.places.items (omega (arith, longer, texts_len s)) stands.unit_within;
  paths_within = omega (arith, is.paths_kept, longer, texts_len s, stands.paths_within);
  known = λ file. subst (λ (l : List (List ℕ)). IsKnown l w (file_at t.files.items file) (upto (e + 1) path file)) (sym texts_is)
      (subst (λ (l : List FileMatch). IsKnown (old ++ new) w (file_at l file) (upto (e + 1) path file)) (sym is.files)
      (known file));
  few_places = omega (arith, ap (λ (b : Best). length b.places.items) is.kept, ap (λ (b : Best). length b.places.items) is.unit, stands.few_places);
  few_paths = omega (arith, shorter, texts_len s, stands.few_paths);
} where
  old : List (List ℕ)
  old = texts_of s.paths

  wanted : Bool
  wanted = is_wanted s.wanted (path e)

  new : List (List ℕ)
  new = if wanted then option_to_list (path e) else []

  texts_is : texts_of t.paths ≡ old ++ new
  texts_is = is.paths

  longer : length old ≤ length t.paths.items
  longer = omega (arith, texts_len t, ap length texts_is, length-append old new)

  shorter : length t.paths.items ≤ length old + 1
  shorter = omega (arith, texts_len t, ap length texts_is, length-append old new, few_new (path e) wanted)

  here : FileMatch
  here = if wanted then Path (length s.paths.items) else Other

  known_here : IsKnown (old ++ new) w here (path e)
  known_here =
      known_new old w (length s.paths.items) (path e) (sym (texts_len s)) wanted
      (ap (λ (v : Wanted). is_wanted v (path e)) (sym stands.wanted))

  known : (file : ℕ) → IsKnown (old ++ new) w (file_at (s.files.items ++ here ∷ []) file) (upto (e + 1) path file)
  known file = by (below_or_not file e) where
    by : (file < e) ⊎ (e ≤ file)
        → IsKnown (old ++ new) w (file_at (s.files.items ++ here ∷ []) file) (upto (e + 1) path file)
    by (inl lt) =
        subst (λ (o : Option (List ℕ)). IsKnown (old ++ new) w (file_at (s.files.items ++ here ∷ []) file) o)
        (sym (upto_left e path file lt))
        (subst (λ (o : Option FileMatch). IsKnown (old ++ new) w (file_or_other o) (upto e path file))
        (sym (get_left s.files.items (here ∷ []) file (omega (arith, lt, count))))
        (known_more old new w (file_at s.files.items file) (upto e path file) (stands.known file)))
    by (inr le) = from (below_or_not e file) where
      from : (e < file) ⊎ (file ≤ e)
          → IsKnown (old ++ new) w (file_at (s.files.items ++ here ∷ []) file) (upto (e + 1) path file)
      from (inl above) =
          subst (λ (o : Option (List ℕ)). IsKnown (old ++ new) w (file_at (s.files.items ++ here ∷ []) file) o)
          (sym (upto_past (e + 1) path file (omega (arith, above))))
          (subst (λ (o : Option FileMatch). IsKnown (old ++ new) w (file_or_other o) None)
          (sym (get_past (s.files.items ++ here ∷ []) file
          (omega (arith, above, count, length-append s.files.items (here ∷ []))))) refl)
      from (inr same) =
          let is_here : file ≡ length s.files.items = omega (arith, same, le, count) in
          let is_e : file ≡ e = omega (arith, same, le) in
          subst (λ (o : Option (List ℕ)). IsKnown (old ++ new) w (file_at (s.files.items ++ here ∷ []) file) o)
          (sym (ap (upto (e + 1) path) is_e ∙ upto_here e path))
          (subst (λ (o : Option FileMatch). IsKnown (old ++ new) w (file_or_other o) (path e))
          (sym (ap (slice_get (s.files.items ++ here ∷ [])) is_here ∙ get_last s.files.items here)) known_here)
