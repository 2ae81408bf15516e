-- Lines that are printed one after the other, each once.
use Rattle.std.proofs.Common.{◌≡◌, ◌≢◌, ◌⊎◌, inl, inr, ℕ, zero, suc, ◌+◌, ◌<◌, ◌≤◌, Bool, true, false, not, List, [], ◌∷◌, ◌++◌, length, map, take, drop, get_or}
use Rattle.std.proofs.Common.{Option, refl, sym, ap, ap₂, ◌∙◌, subst, append-nil, append_assoc, arith}
use Rattle.std.specs.Prelude.{◌&&◌, ◌||◌, ◌==◌, if◌then◌else◌, flat_map}
use Rattle.std.specs.List.{list_all, list_any}
use Rattle.std.proofs.lemmas.Bool.Decides.{nat_tests}
use Rattle.std.proofs.lemmas.Grind.{flat_map-append}
use Rattle.std.proofs.lemmas.List.{get_or_default, take-append-drop, take_more, take_all}
use Rattle.dl_print.specs.declared.fault.WriteFault.{WriteFault}
use Rattle.dl_print.specs.Printed.{Printed}
use Rattle.dl_print.specs.Output.{PrintsMore}
use Rattle.dl_print.specs.Text.{line}
use Rattle.dl_path.proofs.PrintLemmas.{Loses, loses_front, loses_then, more_then}
use Rattle.dl_addr.specs.declared.question.WhichFound.{WhichFound}
use Rattle.dl_addr.specs.declared.question.WhichFound.TheVariants as found
use Rattle.dl_lines.specs.declared.best.KeptPlace.{KeptPlace}
use Rattle.dl_lines.specs.declared.search.Search.{Search}
use Rattle.dl_lines.specs.Places.{CodePlace}
use Rattle.dl_lines.specs.Answers.{is_same, is_same_bool, is_same_path, told_once}
use Rattle.dl_lines.specs.Kept.{Rises}
use Rattle.dl_lines.specs.Lines.{place_text}
use Rattle.dl_lines.specs.Printing.{found_by, found_place, found_places, has_place, is_same_there, is_told_before, no_place}
use Rattle.dl_lines.specs.Printing.{once_text, search_text, searches_text}
use Rattle.dl_lines.proofs.EachLemmas.{below_or_not}

-- ---- which was told before

none_told : (p : CodePlace → Bool) (places : List CodePlace) (n : ℕ)
    → ((i : ℕ) → i < n → i < length places → p (get_or places i no_place) ≡ false) → list_any p (take n places) ≡ false
none_told p places zero none = refl
none_told p [] (suc n) none = refl
none_told p (q ∷ places) (suc n) none =
    ap₂ (λ (a b : Bool). a || b) (none 0 (omega arith) (omega arith))
    (none_told p places n (λ i lt within. none (suc i) (omega (arith, lt)) (omega (arith, within))))

one_told : (p : CodePlace → Bool) (places : List CodePlace) (n i : ℕ) → i < n → i < length places
    → p (get_or places i no_place) ≡ true → list_any p (take n places) ≡ true
one_told p places zero i lt within is = absurd (omega (arith, lt))
one_told p [] (suc n) i lt within is = absurd (omega (arith, within))
one_told p (q ∷ places) (suc n) zero lt within is = ap (λ (b : Bool). b || list_any p (take n places)) is
one_told p (q ∷ places) (suc n) (suc i) lt within is =
    by (p q) (one_told p places n i (omega (arith, lt)) (omega (arith, within)) is) where
      by : (b : Bool) → list_any p (take n places) ≡ true → (b || list_any p (take n places)) ≡ true
      by true e = refl
      by false e = e

-- a place, as it is told
pub place_seen : (s : Search) (places : List KeptPlace) (i : ℕ) (d : KeptPlace) → i < length places
    → get_or (map (found_place s) places) i no_place ≡ found_place s (get_or places i d)
place_seen s [] i d lt = absurd (omega (arith, lt))
place_seen s (p ∷ places) zero d lt = refl
place_seen s (p ∷ places) (suc i) d lt = place_seen s places i d (omega (arith, lt))

pub places_len : (s : Search) (places : List KeptPlace) → length (map (found_place s) places) ≡ length places
places_len s [] = refl
places_len s (p ∷ places) = ap suc (places_len s places)

module _ (s : Search) (number : ℕ) (d : KeptPlace) (within : number < length s.kept.places.items) where
  abbrev items : List KeptPlace
  items = s.kept.places.items

  abbrev here : KeptPlace
  here = get_or items number d

  here_is : get_or (found_places s) number no_place ≡ found_place s here
  here_is = place_seen s items number d within

  line_is : (n : ℕ) → (n == n) ≡ true
  line_is n = grind (arith, nat_tests)

  other_address : (p q : KeptPlace) → p.address ≢ q.address → is_same (found_place s p) (found_place s q) ≡ false
  other_address p q ne = ap (λ (b : Bool). b && (s.kept.line == s.kept.line && is_same_there (found_place s p) (found_place s q))) differs where
    differs : (p.address == q.address) ≡ false
    differs = grind (arith, nat_tests, ne)

  pub same_address : (p q : KeptPlace) → p.address ≡ q.address
      → is_same (found_place s p) (found_place s q) ≡ is_same_there (found_place s p) (found_place s q)
  same_address p q e =
      ap₂ (λ (a b : Bool). a && (b && is_same_there (found_place s p) (found_place s q)))
      (ap (λ (n : ℕ). n == q.address) e ∙ line_is q.address) (line_is s.kept.line)

  -- no place from number `at` on has the same
  abbrev pub NoneFrom : ℕ → Type 0
  NoneFrom at =
      (i : ℕ) → at ≤ i → i < number
      → is_same (get_or (found_places s) number no_place) (get_or (found_places s) i no_place) ≡ false

  pub nothing_from : NoneFrom number
  nothing_from i le lt = absurd (omega (arith, le, lt))

  pub one_less : (at next : ℕ) (q : KeptPlace) → next ≡ at + 1 → at < number → q ≡ get_or items at q → here.address ≡ q.address
      → is_same_there (found_place s here) (found_place s q) ≡ false → NoneFrom next → NoneFrom at
  one_less at next q after lt is address differs none i le below = by (i == at) refl where
    by : (b : Bool) → (i == at) ≡ b
        → is_same (get_or (found_places s) number no_place) (get_or (found_places s) i no_place) ≡ false
    by true e =
        let same : i ≡ at = grind (arith, nat_tests, e) in
        ap₂ is_same here_is (ap (λ (k : ℕ). get_or (found_places s) k no_place) same
        ∙ place_seen s items at q (omega (arith, lt, within)) ∙ ap (found_place s) (sym is))
        ∙ same_address here q address ∙ differs
    by false e = none i (grind (arith, nat_tests, e, le, after)) below

  -- a place of another address stands before it
  pub stops_there : Rises items → (at next : ℕ) (q : KeptPlace) → next ≡ at + 1 → at < number → q ≡ get_or items at q
      → q.address ≢ here.address → NoneFrom next → is_told_before (found_places s) number ≡ false
  stops_there up at next q after lt is ne none =
      none_told (is_same (get_or (found_places s) number no_place)) (found_places s) number by where
        address_below : (i : ℕ) → i ≤ at → (get_or items i q).address < here.address
        address_below i le =
            let first = up i at q le (omega (arith, lt, within)) in
            let second = up at number d (omega (arith, lt)) within in
            let third : (get_or items at d).address ≡ (get_or items at q).address =
            ap (λ (p : KeptPlace). p.address) (get_or_default items at d q (omega (arith, lt, within))) in
            let fourth = ap (λ (p : KeptPlace). p.address) is in
            omega (arith, first, second, third, fourth, ne)

        by : (i : ℕ) → i < number → i < length (found_places s)
            → is_same (get_or (found_places s) number no_place) (get_or (found_places s) i no_place) ≡ false
        by i below long = at_or_above (below_or_not at i) where
          at_or_above : (at < i) ⊎ (i ≤ at)
              → is_same (get_or (found_places s) number no_place) (get_or (found_places s) i no_place) ≡ false
          at_or_above (inl above) = none i (omega (arith, above, after)) below
          at_or_above (inr le) =
              ap₂ is_same here_is (place_seen s items i q (omega (arith, below, within)))
              ∙ other_address here (get_or items i q) (λ e. omega (arith, e, address_below i le))

  pub found_there : (at : ℕ) (q : KeptPlace) → at < number → q ≡ get_or items at q → here.address ≡ q.address
      → is_same_there (found_place s here) (found_place s q) ≡ true → is_told_before (found_places s) number ≡ true
  found_there at q lt is address same =
      one_told (is_same (get_or (found_places s) number no_place)) (found_places s) number at lt
      (omega (arith, lt, within, places_len s items))
      (ap₂ is_same here_is (place_seen s items at q (omega (arith, lt, within)) ∙ ap (found_place s) (sym is))
      ∙ same_address here q address ∙ same)

  pub found_nowhere : NoneFrom 0 → is_told_before (found_places s) number ≡ false
  found_nowhere none =
      none_told (is_same (get_or (found_places s) number no_place)) (found_places s) number
      (λ i lt long. none i (omega arith) lt)

-- ---- one place more

pub once_more : (before places : List CodePlace) (p : CodePlace)
    → told_once before (places ++ p ∷ [])
    ≡ told_once before places ++ (if list_any (is_same p) (before ++ places) then [] else p ∷ [])
once_more before [] p =
    append-nil (if list_any (is_same p) before then [] else p ∷ [])
    ∙ ap (λ (l : List CodePlace). if list_any (is_same p) l then [] else p ∷ []) (sym (append-nil before))
once_more before (q ∷ places) p =
    let first = if list_any (is_same q) before then [] else q ∷ [] in
    ap (λ (l : List CodePlace). first ++ l) (once_more (before ++ q ∷ []) places p
    ∙ ap (λ (l : List CodePlace). told_once (before ++ q ∷ []) places ++ (if list_any (is_same p) l then [] else p ∷ []))
    (append_assoc before (q ∷ []) places))
    ∙ sym (append_assoc first (told_once (before ++ q ∷ []) places)
    (if list_any (is_same p) (before ++ q ∷ places) then [] else p ∷ []))

abbrev line_of : CodePlace → List ℕ
line_of q = line (place_text q)

abbrev pub lines_upto : Search → ℕ → List ℕ
lines_upto s n = flat_map line_of (told_once [] (take n (found_places s)))

pub line_more : (s : Search) (n : ℕ) → n < length (found_places s)
    → lines_upto s (n + 1) ≡ lines_upto s n ++ once_text s n
line_more s n lt =
    let places = found_places s in
    let p = get_or places n no_place in
    ap (λ (l : List CodePlace). flat_map line_of (told_once [] l)) (take_more places n no_place lt)
    ∙ ap (flat_map line_of) (once_more [] (take n places) p)
    ∙ flat_map-append line_of (told_once [] (take n places)) (if is_told_before places n then [] else p ∷ [])
    ∙ ap (λ (l : List ℕ). lines_upto s n ++ l) (by (is_told_before places n) p) where
      by : (b : Bool) (p : CodePlace) → flat_map line_of (if b then [] else p ∷ []) ≡ (if b then [] else line_of p)
      by true p = refl
      by false p = append-nil (line_of p)

-- more of it
once_further : (before a b : List CodePlace)
    → told_once before (a ++ b) ≡ told_once before a ++ told_once (before ++ a) b
once_further before [] b = ap (λ (l : List CodePlace). told_once l b) (sym (append-nil before))
once_further before (q ∷ a) b =
    let first = if list_any (is_same q) before then [] else q ∷ [] in
    ap (λ (l : List CodePlace). first ++ l) (once_further (before ++ q ∷ []) a b
    ∙ ap (λ (l : List CodePlace). told_once (before ++ q ∷ []) a ++ told_once l b) (append_assoc before (q ∷ []) a))
    ∙ sym (append_assoc first (told_once (before ++ q ∷ []) a) (told_once (before ++ q ∷ a) b))

abbrev all_lines : Search → List ℕ
all_lines s = flat_map line_of (told_once [] (found_places s))

lines_rest : (s : Search) (n : ℕ)
    → all_lines s ≡ lines_upto s n ++ flat_map line_of (told_once (take n (found_places s)) (drop n (found_places s)))
lines_rest s n =
    let places = found_places s in
    ap (λ (l : List CodePlace). flat_map line_of (told_once [] l)) (sym (take-append-drop n places))
    ∙ ap (flat_map line_of) (once_further [] (take n places) (drop n places))
    ∙ flat_map-append line_of (told_once [] (take n places)) (told_once (take n places) (drop n places))

text_is : (s : Search) (n : ℕ) → n < length (found_places s) → search_text s ≡ all_lines s
text_is s n lt = by (found_places s) lt where
  by : (places : List CodePlace) → n < length places
      → Rattle.dl_lines.specs.Lines.places_text places ≡ flat_map line_of (told_once [] places)
  by [] lt = absurd (omega (arith, lt))
  by (p ∷ places) lt = refl

module _ (s : Search) (old mid new : Option (List ℕ)) (before between : Printed) (n : ℕ)
    (lt : n < length (found_places s)) (first : PrintsMore old mid before between (lines_upto s n)) where
  pub prints_once : (after : Printed) → PrintsMore mid new between after (once_text s n)
      → PrintsMore old new before after (lines_upto s (n + 1))
  prints_once after second =
      subst (PrintsMore old new before after) (sym (line_more s n lt))
      (more_then old mid new before between after (lines_upto s n) (once_text s n) first second)

  pub loses_once : (f : WriteFault) → Loses mid new between (once_text s n) f → Loses old new before (search_text s) f
  loses_once f second =
      let upto : Loses old new before (lines_upto s (n + 1)) f =
      subst (λ (l : List ℕ). Loses old new before l f) (sym (line_more s n lt))
      (loses_then old mid new before between (lines_upto s n) (once_text s n) f first second) in
      subst (λ (l : List ℕ). Loses old new before l f) (sym (text_is s n lt ∙ lines_rest s (n + 1)))
      (loses_front old new before (lines_upto s (n + 1))
      (flat_map line_of (told_once (take (n + 1) (found_places s)) (drop (n + 1) (found_places s)))) f upto)

pub prints_whole : (s : Search) (old new : Option (List ℕ)) (before after : Printed) (n : ℕ)
    → 0 < length (found_places s) → length (found_places s) ≤ n
    → PrintsMore old new before after (lines_upto s n) → PrintsMore old new before after (search_text s)
prints_whole s old new before after n some le prints =
    subst (PrintsMore old new before after)
    (ap (λ (l : List CodePlace). flat_map line_of (told_once [] l)) (take_all n (found_places s) le)
    ∙ sym (text_is s 0 some)) prints

-- ---- searches one after the other

module _ (searches : List Search) (old mid new : Option (List ℕ)) (before between : Printed) (n : ℕ) (d : Search)
    (lt : n < length searches) (first : PrintsMore old mid before between (searches_text (take n searches))) where
  more : searches_text (take (n + 1) searches) ≡ searches_text (take n searches) ++ search_text (get_or searches n d)
  more =
      ap searches_text (take_more searches n d lt)
      ∙ flat_map-append search_text (take n searches) (get_or searches n d ∷ [])
      ∙ ap (λ (l : List ℕ). searches_text (take n searches) ++ l) (append-nil (search_text (get_or searches n d)))

  pub prints_search : (after : Printed) → PrintsMore mid new between after (search_text (get_or searches n d))
      → PrintsMore old new before after (searches_text (take (n + 1) searches))
  prints_search after second =
      subst (PrintsMore old new before after) (sym more)
      (more_then old mid new before between after (searches_text (take n searches)) (search_text (get_or searches n d))
      first second)

  pub loses_search : (f : WriteFault) → Loses mid new between (search_text (get_or searches n d)) f
      → Loses old new before (searches_text searches) f
  loses_search f second =
      let upto : Loses old new before (searches_text (take (n + 1) searches)) f =
      subst (λ (l : List ℕ). Loses old new before l f) (sym more)
      (loses_then old mid new before between (searches_text (take n searches)) (search_text (get_or searches n d)) f
      first second) in
      subst (λ (l : List ℕ). Loses old new before l f)
      (sym (flat_map-append search_text (take (n + 1) searches) (drop (n + 1) searches))
      ∙ ap searches_text (take-append-drop (n + 1) searches))
      (loses_front old new before (searches_text (take (n + 1) searches)) (searches_text (drop (n + 1) searches)) f upto)

pub has_some : (s : Search) → not (length s.kept.places.items == 0) ≡ has_place s
has_some s = by s.kept.places.items where
  by : (items : List KeptPlace) → not (length items == 0)
      ≡ not (Rattle.dl_lines.specs.Answers.is_nothing (map (found_place s) items))
  by [] = refl
  by (p ∷ items) = grind (arith, nat_tests)

all_more : (searches : List Search) (s : Search)
    → list_all has_place (searches ++ s ∷ []) ≡ (list_all has_place searches && has_place s)
all_more [] s = by (has_place s) where
  by : (b : Bool) → (b && true) ≡ b
  by true = refl
  by false = refl
all_more (q ∷ searches) s =
    by (has_place q) (all_more searches s) where
      by : (b : Bool) → list_all has_place (searches ++ s ∷ []) ≡ (list_all has_place searches && has_place s)
          → (b && list_all has_place (searches ++ s ∷ [])) ≡ ((b && list_all has_place searches) && has_place s)
      by true e = e
      by false e = refl

pub found_more : (searches : List Search) (n : ℕ) (d : Search) (is_found : Bool) (before after : WhichFound)
    → n < length searches → is_found ≡ has_place (get_or searches n d) → before ≡ found_by (take n searches)
    → after ≡ (if is_found then before else found.NotAll) → after ≡ found_by (take (n + 1) searches)
found_more searches n d is_found before after lt is was now =
    now
    ∙ ap₂ (λ (b : Bool) (o : WhichFound). if b then o else found.NotAll) is was
    ∙ both (list_all has_place (take n searches)) (has_place (get_or searches n d))
    ∙ ap (λ (b : Bool). if b then found.All else found.NotAll)
    (sym (ap (list_all has_place) (take_more searches n d lt) ∙ all_more (take n searches) (get_or searches n d))) where
      both : (a b : Bool) → (if b then (if a then found.All else found.NotAll) else found.NotAll)
          ≡ (if a && b then found.All else found.NotAll)
      both true true = refl
      both true false = refl
      both false true = refl
      both false false = refl
