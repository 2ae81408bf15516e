-- The places of one line, which are told and not printed.
use Rattle.std.proofs.Common.{◌≡◌, ℕ, suc, ◌+◌, ◌<◌, ◌≤◌, Bool, true, false, List, [], ◌∷◌, ◌++◌, length, map, take, get_or}
use Rattle.std.proofs.Common.{Option, Some, None, Result, Ok, Err, slice_get, slice_index_or, refl, sym, ap, ◌∙◌, subst, append-nil}
use Rattle.std.proofs.Common.{arith, length-append}
use Rattle.std.specs.Global.{Vec}
use Rattle.std.specs.Prelude.{if◌then◌else◌, nat_le, IfOk, OnErr}
use Rattle.std.proofs.lemmas.List.{length-map, map-append, take_more}
use Rattle.dl_memory.specs.declared.memory.NoMemory.{NoMemory}
use Rattle.dl_memory.specs.Refusals.{IsRefused}
use Rattle.dl_sections.specs.Section.{Visit}
use Rattle.dl_addr.proofs.RoomLemmas.{refused_within}
use Rattle.dl_lines.specs.declared.places.LinePlace.{LinePlace}
use Rattle.dl_lines.specs.declared.question.Wanted.{Wanted}
use Rattle.dl_lines.specs.declared.search.Search.{Search}
use Rattle.dl_lines.specs.declared.seeker.LineSeeker.{LineSeeker}
use Rattle.dl_lines.specs.Answers.{by_address, insert, told_once}
use Rattle.dl_lines.specs.FoundPlaces.{place_told, places_told}
use Rattle.dl_lines.specs.Kept.{Rises, places_kept, place_kept}
use Rattle.dl_lines.specs.Places.{CodePlace}
use Rattle.dl_lines.specs.Printing.{AllRise, is_told_before, no_place}
use Rattle.dl_lines.specs.Room.{told_room}
use Rattle.dl_lines.specs.Searching.{AllBecome, IsOrdered, texts_of}
use Rattle.dl_lines.specs.Seeking.{IsMadeFor, Seeking, heard_after, known_of, nothing_heard}
use Rattle.dl_lines.specs.Telling.{once_place, search_places}
use Rattle.dl_lines.proofs.AnsweringLemmas.{all_tell, few}
use Rattle.dl_lines.proofs.LineLemmas.{once_more}

-- ---- one place more

module _ (places : List CodePlace) (n : ℕ) (old new : List LinePlace) (now : new ≡ old ++ map place_told (once_place places n)) where
  pub tells_more : n < length places → old ≡ map place_told (told_once [] (take n places))
      → new ≡ map place_told (told_once [] (take (n + 1) places))
  tells_more lt was =
      now
      ∙ ap (λ (l : List LinePlace). l ++ map place_told (once_place places n)) was
      ∙ sym (map-append place_told (told_once [] (take n places)) (once_place places n))
      ∙ ap (map place_told) (sym (once_more [] (take n places) (get_or places n no_place)))
      ∙ ap (λ (l : List CodePlace). map place_told (told_once [] l)) (sym (take_more places n no_place lt))

  pub few_more : length old ≤ n → length new ≤ n + 1
  few_more le = omega (arith, ap length now, length-append old (map place_told (once_place places n)), by (is_told_before places n), le) where
    by : (b : Bool) → length (map place_told (if b then [] else get_or places n no_place ∷ [])) ≤ 1
    by true = omega arith
    by false = omega arith

pub tells_none : (places : List CodePlace) (n : ℕ) (old : List LinePlace) → is_told_before places n ≡ true
    → old ≡ old ++ map place_told (once_place places n)
tells_none places n old is =
    sym (ap (λ (b : Bool). old ++ map place_told (if b then [] else get_or places n no_place ∷ [])) is ∙ append-nil old)

pub tells_one : (places : List CodePlace) (n : ℕ) (old : List LinePlace) (p : LinePlace) → is_told_before places n ≡ false
    → p ≡ place_told (get_or places n no_place) → old ++ p ∷ [] ≡ old ++ map place_told (once_place places n)
tells_one places n old p is same =
    ap (λ (q : LinePlace). old ++ q ∷ []) same
    ∙ sym (ap (λ (b : Bool). old ++ map place_told (if b then [] else get_or places n no_place ∷ [])) is)

-- ---- the first search

module _ (s : Search) where
  pub first_some : (searches : List Search) → Some s ≡ slice_get searches 0 → 0 < length searches
  first_some [] e = absurd cc
  first_some (t ∷ searches) e = omega arith

  pub first_is : (searches : List Search) (d : Search) → Some s ≡ slice_get searches 0 → slice_index_or searches 0 d ≡ s
  first_is [] d e = absurd cc
  first_is (t ∷ searches) d e = cc

  pub first_rises : (searches : List Search) → AllRise searches → Some s ≡ slice_get searches 0 → Rises s.kept.places.items
  first_rises searches all e =
      subst (λ (t : Search). Rises t.kept.places.items) (first_is searches s e) (all 0 s (first_some searches e))

  -- what is told of it is that of the first
  pub first_places : (searches : List Search) → Some s ≡ slice_get searches 0 → {E : Type 0} (r : Result (Vec LinePlace) E)
      → IfOk r (λ list. list.items ≡ search_places s)
      → IfOk r (λ list. (d : Search) → 0 < length searches → list.items ≡ search_places (slice_index_or searches 0 d))
  first_places searches e (Err refused) is = tt
  first_places searches e (Ok list) is = λ d lt. is ∙ ap search_places (sym (first_is searches d e))

  pub first_refused : (refuses : ℕ → Type 0) (searches : List Search) → Some s ≡ slice_get searches 0 → {A E : Type 0} (r : Result A E)
      → OnErr r (IsRefused refuses (length s.kept.places.items))
      → OnErr r ((0 < length searches)
      × ((d : Search) → IsRefused refuses (length (slice_index_or searches 0 d).kept.places.items)))
  first_refused refuses searches e (Ok a) refused = tt
  first_refused refuses searches e (Err f) refused = (
    first_some searches e,
    λ d. subst (λ (t : Search). IsRefused refuses (length t.kept.places.items)) (sym (first_is searches d e)) refused,
  )

pub none_first : (searches : List Search) → None ≡ slice_get searches 0 → 0 < length searches → ⊥
none_first [] e lt = omega (arith, lt)
none_first (t ∷ searches) e lt = absurd cc

inserted_len : (p : CodePlace) (l : List CodePlace) → length (insert p l) ≡ suc (length l)
inserted_len p [] = refl
inserted_len p (q ∷ l) = by (nat_le p.address q.address) (inserted_len p l) where
  by : (b : Bool) → length (insert p l) ≡ suc (length l) → length (if b then p ∷ q ∷ l else q ∷ insert p l) ≡ suc (suc (length l))
  by true e = refl
  by false e = ap suc e

ordered_len : (l : List CodePlace) → length (by_address l) ≡ length l
ordered_len [] = refl
ordered_len (p ∷ l) = inserted_len p (by_address l) ∙ ap suc (ordered_len l)

-- as many places are in order as there were
same_count : (old new : Search) → IsOrdered old new → length new.kept.places.items ≡ length old.kept.places.items
same_count old new told =
    let paths = texts_of old.paths in
    sym (length-map new.kept.places.items (place_kept paths new.kept.line))
    ∙ ap length (told.kept paths) ∙ ordered_len (places_kept paths old.kept)
    ∙ length-map old.kept.places.items (place_kept paths old.kept.line)

module _ {M : Type 0} (refuses : M → ℕ → Type 0) (first old : LineSeeker M) (start held : Option (List ℕ))
    (visits : List Visit) (w : Wanted) (exact : Bool) (s : Seeking refuses first old start held visits)
    (made_for : IsMadeFor first (w ∷ []) exact) (new : List Search) (whole : old.is_refused ≡ false)
    (all : AllBecome IsOrdered old.searches.items new) where
  some_search : 0 < length new
  some_search =
      let stands = (s.whole whole).searches (w ∷ []) exact made_for in
      omega (arith, all.count, stands.0)

  pub places_are : (list : List LinePlace)
      → ((d : Search) → 0 < length new → list ≡ search_places (slice_index_or new 0 d))
      → list ≡ places_told exact w (heard_after (known_of first) nothing_heard visits).ended
  places_are list is = by new refl where
    by : (l : List Search) → new ≡ l → list ≡ places_told exact w (heard_after (known_of first) nothing_heard visits).ended
    by [] none = absurd (omega (arith, ap length none, some_search))
    by (t ∷ l) e =
        is t some_search
        ∙ ap (λ (l : List CodePlace). map place_told (told_once [] l))
        (all_tell refuses first old start held visits (w ∷ []) exact s made_for new whole all 0 t w (omega arith))

  pub places_refused : (memory : M) → first.memory.now ≡ memory
      → ((0 < length new) × ((d : Search) → IsRefused (refuses memory) (length (slice_index_or new 0 d).kept.places.items)))
      → IsRefused (refuses memory) (told_room (known_of first) visits)
  places_refused memory same refused = by new refl where
    by : (l : List Search) → new ≡ l → IsRefused (refuses memory) (told_room (known_of first) visits)
    by [] none = absurd (omega (arith, ap length none, some_search))
    by (t ∷ l) e =
        let lt : 0 < length old.searches.items = omega (arith, all.count, some_search) in
        let count = same_count (slice_index_or old.searches.items 0 t) (slice_index_or new 0 t) (all.each 0 t lt) in
        let most = few refuses first old start held visits (w ∷ []) exact s made_for 0 t lt whole in
        refused_within (refuses memory) (length (slice_index_or new 0 t).kept.places.items) (told_room (known_of first) visits)
        (omega (arith, count, most)) (refused.1 t)

-- of an answer
module _ {M : Type 0} (refuses : M → ℕ → Type 0) (old : LineSeeker M) (new : List Search) (memory : M)
    (ordered : (old.is_refused ≡ false) × AllBecome IsOrdered old.searches.items new) (r : Result (Vec LinePlace) NoMemory) where
  pub answer_places : IfOk r (λ list. (d : Search) → 0 < length new → list.items ≡ search_places (slice_index_or new 0 d))
      → IfOk r (λ list. (first : LineSeeker M) (start held : Option (List ℕ)) (visits : List Visit) (w : Wanted) (exact : Bool)
      → Seeking refuses first old start held visits → IsMadeFor first (w ∷ []) exact
      → list.items ≡ places_told exact w (heard_after (known_of first) nothing_heard visits).ended)
  answer_places told = by r told where
    by : (r : Result (Vec LinePlace) NoMemory)
        → IfOk r (λ list. (d : Search) → 0 < length new → list.items ≡ search_places (slice_index_or new 0 d))
        → IfOk r (λ list. (first : LineSeeker M) (start held : Option (List ℕ)) (visits : List Visit) (w : Wanted) (exact : Bool)
        → Seeking refuses first old start held visits → IsMadeFor first (w ∷ []) exact
        → list.items ≡ places_told exact w (heard_after (known_of first) nothing_heard visits).ended)
    by (Err e) told = tt
    by (Ok list) told = λ first start held visits w exact s made_for.
        places_are refuses first old start held visits w exact s made_for new ordered.0 ordered.1 list.items told

  pub answer_refused : OnErr r ((0 < length new)
      × ((d : Search) → IsRefused (refuses memory) (length (slice_index_or new 0 d).kept.places.items)))
      → OnErr r ((first : LineSeeker M) (start held : Option (List ℕ)) (visits : List Visit) (w : Wanted) (exact : Bool)
      → first.memory.now ≡ memory → Seeking refuses first old start held visits → IsMadeFor first (w ∷ []) exact
      → IsRefused (refuses memory) (told_room (known_of first) visits))
  answer_refused refused = by r refused where
    by : (r : Result (Vec LinePlace) NoMemory)
        → OnErr r ((0 < length new)
        × ((d : Search) → IsRefused (refuses memory) (length (slice_index_or new 0 d).kept.places.items)))
        → OnErr r ((first : LineSeeker M) (start held : Option (List ℕ)) (visits : List Visit) (w : Wanted) (exact : Bool)
        → first.memory.now ≡ memory → Seeking refuses first old start held visits → IsMadeFor first (w ∷ []) exact
        → IsRefused (refuses memory) (told_room (known_of first) visits))
    by (Ok list) refused = tt
    by (Err e) refused = λ first start held visits w exact same s made_for.
        places_refused refuses first old start held visits w exact s made_for new ordered.0 ordered.1 memory same refused
