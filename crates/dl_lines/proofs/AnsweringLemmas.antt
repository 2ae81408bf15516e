-- What `lines` answers and writes.
use Rattle.std.proofs.Common.{◌≡◌, ◌⊎◌, inl, inr, ℕ, suc, ◌+◌, ◌<◌, ◌≤◌, Bool, true, false, not, List, [], ◌∷◌, ◌++◌, length, take, slice_index_or}
use Rattle.std.proofs.Common.{Option, Some, None, Result, Ok, Err, refl, sym, ap, ap₂, ◌∙◌, subst, append_assoc, append-nil, true≢false, arith}
use Rattle.std.specs.Prelude.{if◌then◌else◌, ◌&&◌, nat_le, IfOk, IsOk, OnOk}
use Rattle.std.specs.Io.KnownBytes.{Appends, Keeps}
use Rattle.std.specs.Global.{Vec}
use Rattle.std.specs.List.{list_all}
use Rattle.std.proofs.KnownBytes.{Appends-trans}
use Rattle.dl_head.specs.declared.dialect.Dialect.{Dialect}
use Rattle.dl_memory.specs.Refusals.{IsRefused}
use Rattle.dl_print.specs.declared.fault.WriteFault.{WriteFault}
use Rattle.dl_print.specs.declared.summary.Summary.{Summary}
use Rattle.dl_print.specs.ValueText.{Strings}
use Rattle.dl_sections.specs.declared.fault.RunFault.{RunFault}
use Rattle.dl_sections.specs.declared.fault.RunFault.TheVariants as fault
use Rattle.dl_sections.specs.Section.{EndsAs, HasBegun, Visit, section_visits}
use Rattle.dl_sections.specs.Visiting.{Ran, Settled, VisitorStops}
use Rattle.dl_addr.specs.declared.question.WhichFound.{WhichFound}
use Rattle.dl_addr.specs.declared.question.WhichFound.TheVariants as found
use Rattle.dl_addr.specs.Printing.{told}
use Rattle.dl_rows.specs.Runs.{Sound}
use Rattle.dl_look.specs.LiveRows.{Tells as LiveTells}
use Rattle.dl_addr.proofs.LocatedLemmas.{no_live_rows}
use Rattle.dl_addr.proofs.RoomLemmas.{refused_within}
use Rattle.dl_lines.specs.declared.question.LinesQuestion.{LinesQuestion}
use Rattle.dl_lines.specs.declared.question.Wanted.{Wanted}
use Rattle.dl_lines.specs.declared.search.Search.{Search}
use Rattle.dl_lines.specs.declared.seeker.LineSeeker.{LineSeeker}
use Rattle.dl_lines.specs.Answers.{answering, by_address, insert, is_nothing}
use Rattle.dl_lines.specs.Commands.{RefusesAnswers, TellsLines, answer_lines, found_in, known_by}
use Rattle.dl_lines.specs.Kept.{places_kept}
use Rattle.dl_lines.specs.Lines.{places_text}
use Rattle.dl_lines.specs.Places.{CodePlace, places_in}
use Rattle.dl_lines.specs.Printing.{AllRise, Answered, PrintsText, found_by, found_places, has_place, is_no_memory}
use Rattle.dl_lines.specs.Printing.{searches_text, wanted_found, wanted_text}
use Rattle.dl_lines.specs.Room.{told_room}
use Rattle.dl_lines.specs.Searching.{AllBecome, IsOrdered, Stands, texts_of}
use Rattle.dl_lines.specs.Runs.{TellsFirst}
use Rattle.dl_lines.specs.Seeking.{AllStand, Heard, IsMadeFor, Seeking, heard_after, known_of, no_path, nothing_heard, seek_story}
use Rattle.dl_lines.proofs.SearchLemmas.{made}
use Rattle.dl_lines.proofs.HeardLemmas.{counts_few, no_places, room_more}
use Rattle.dl_lines.proofs.UnitLemmas.{of_section}

-- ---- searches, one by one what is wanted

module _ (exact : Bool) (places : List CodePlace) where
  abbrev Tells : Search → Wanted → Type 0
  Tells s w = found_places s ≡ by_address (answering exact w places)

  abbrev AllTell : List Search → List Wanted → Type 0
  AllTell searches wanted =
      (i : ℕ) (d : Search) (w : Wanted) → i < length wanted → Tells (slice_index_or searches i d) (slice_index_or wanted i w)

  text_same : (searches : List Search) (wanted : List Wanted) → length searches ≡ length wanted → AllTell searches wanted
      → searches_text searches ≡ wanted_text exact places wanted
  text_same [] [] e tell = refl
  text_same [] (w ∷ wanted) e tell = absurd (omega (arith, e))
  text_same (s ∷ searches) [] e tell = absurd (omega (arith, e))
  text_same (s ∷ searches) (w ∷ wanted) e tell =
      ap₂ (λ (a b : List ℕ). a ++ b) (ap places_text (tell 0 s w (omega arith)))
      (text_same searches wanted (omega (arith, e)) (λ i d v lt. tell (suc i) d v (omega (arith, lt))))

  nothing_inserted : (p : CodePlace) (l : List CodePlace) → is_nothing (insert p l) ≡ false
  nothing_inserted p [] = refl
  nothing_inserted p (q ∷ l) = by (nat_le p.address q.address) where
    by : (b : Bool) → is_nothing (if b then p ∷ q ∷ l else q ∷ insert p l) ≡ false
    by true = refl
    by false = refl

  nothing_same : (l : List CodePlace) → is_nothing (by_address l) ≡ is_nothing l
  nothing_same [] = refl
  nothing_same (p ∷ l) = nothing_inserted p (by_address l)

  all_same : (searches : List Search) (wanted : List Wanted) → length searches ≡ length wanted → AllTell searches wanted
      → list_all has_place searches ≡ list_all (λ w. not (is_nothing (answering exact w places))) wanted
  all_same [] [] e tell = refl
  all_same [] (w ∷ wanted) e tell = absurd (omega (arith, e))
  all_same (s ∷ searches) [] e tell = absurd (omega (arith, e))
  all_same (s ∷ searches) (w ∷ wanted) e tell =
      ap₂ (λ (a b : Bool). a && b)
      (ap (λ (l : List CodePlace). not (is_nothing l)) (tell 0 s w (omega arith))
      ∙ ap not (nothing_same (answering exact w places)))
      (all_same searches wanted (omega (arith, e)) (λ i d v lt. tell (suc i) d v (omega (arith, lt))))

  pub found_same : (searches : List Search) (wanted : List Wanted) → length searches ≡ length wanted
      → AllTell searches wanted → found_by searches ≡ wanted_found exact places wanted
  found_same searches wanted e tell =
      ap (λ (b : Bool). if b then found.All else found.NotAll) (all_same searches wanted e tell)

-- ---- the answer of a seeker

pub all_rise : (old new : List Search) → AllBecome IsOrdered old new → AllRise new
all_rise old new all i d lt = (all.each i d (omega (arith, lt, all.count))).rises

module _ {M : Type 0} (refuses : M → ℕ → Type 0) (first old : LineSeeker M) (start held : Option (List ℕ))
    (visits : List Visit) (wanted : List Wanted) (exact : Bool) (s : Seeking refuses first old start held visits)
    (made_for : IsMadeFor first wanted exact) where
  abbrev heard : Heard
  heard = heard_after (known_of first) nothing_heard visits

  pub few : (i : ℕ) (d : Search) → i < length old.searches.items → old.is_refused ≡ false
      → length (slice_index_or old.searches.items i d).kept.places.items ≤ told_room (known_of first) visits
  few i d lt whole = by wanted ((s.whole whole).searches wanted exact made_for) where
    by : (wanted : List Wanted) → AllStand old.searches.items wanted exact (known_of first) heard
        → length (slice_index_or old.searches.items i d).kept.places.items ≤ told_room (known_of first) visits
    by [] stands = absurd (omega (arith, lt, stands.0))
    by (w ∷ wanted) stands =
        let here = stands.1 i d w (omega (arith, lt, stands.0)) in
        omega (arith, here.few_places, counts_few (known_of first) nothing_heard visits)

  pub order_refused : ((most : ℕ) → (old.is_refused ≡ true → IsRefused (refuses old.memory.now) most)
      → ((i : ℕ) (d : Search) → i < length old.searches.items → old.is_refused ≡ false
      → length (slice_index_or old.searches.items i d).kept.places.items ≤ most)
      → IsRefused (refuses old.memory.now) most)
      → IsRefused (refuses first.memory.now) (told_room (known_of first) visits)
  order_refused refused =
      let n = told_room (known_of first) visits in
      subst (λ (m : M). IsRefused (refuses m) n) s.memory
      (refused n (λ e. subst (λ (m : M). IsRefused (refuses m) n) (sym s.memory) (s.refused e wanted exact made_for)) few)

  pub all_tell : (new : List Search) → old.is_refused ≡ false → AllBecome IsOrdered old.searches.items new
      → AllTell exact heard.ended new wanted
  all_tell new whole all i d w lt =
      let stands = (s.whole whole).searches wanted exact made_for in
      let here = stands.1 i d w lt in
      let told = all.each i d (omega (arith, lt, stands.0)) in
      ap (λ (p : Vec (Vec ℕ)). places_kept (texts_of p)
      (slice_index_or new i d).kept) told.paths
      ∙ told.kept (texts_of (slice_index_or old.searches.items i d).paths) ∙ ap by_address here.kept

  pub prints : (new : List Search) → old.is_refused ≡ false → AllBecome IsOrdered old.searches.items new
      → (before after : Option (List ℕ)) (printed : Result WhichFound WriteFault)
      → PrintsText before after (searches_text new) (found_by new) printed
      → PrintsText before after (wanted_text exact heard.ended wanted) (wanted_found exact heard.ended wanted) printed
  prints new whole all before after printed p =
      let stands = (s.whole whole).searches wanted exact made_for in
      let e = all.count ∙ stands.0 in
      let tell = all_tell new whole all in
      subst (λ (f : WhichFound). PrintsText before after (wanted_text exact heard.ended wanted) f printed)
      (found_same exact heard.ended new wanted e tell)
      (subst (λ (t : List ℕ). PrintsText before after t (found_by new) printed) (text_same exact heard.ended new wanted e tell) p)

-- ---- the whole

keeps_same : (a : Option (List ℕ)) → Keeps a a
keeps_same None = tt
keeps_same (Some l) = refl

pub keeps_nothing : (a b : Option (List ℕ)) → Appends a b [] → Keeps a b
keeps_nothing None b e = tt
keeps_nothing (Some l) None e = e
keeps_nothing (Some l) (Some m) e = e ∙ append-nil l

module _ {M : Type 0} (refuses : M → ℕ → Type 0) (dialect : Dialect) (s : Strings) (q : LinesQuestion) (first new : LineSeeker M)
    (limit : ℕ) (bytes : List ℕ) (left start mid now : Option (List ℕ))
    (known : known_of first ≡ known_by s q) (made_for : IsMadeFor first q.wanted.now q.exact)
    (ended : Result Summary RunFault) (result : Result WhichFound RunFault)
    (refused : is_no_memory ended ≡ true → (result ≡ Err fault.NoMemory) × (now ≡ mid))
    (answered : (visits : List Visit) → is_no_memory ended ≡ false → Seeking refuses first new start mid visits
    → Answered (IsRefused (refuses first.memory.now) (told_room (known_of first) visits)) mid now
    (wanted_text q.exact (heard_after (known_of first) nothing_heard visits).ended q.wanted.now)
    (wanted_found q.exact (heard_after (known_of first) nothing_heard visits).ended q.wanted.now) ended result) where
  abbrev Refuses : ℕ → Type 0
  Refuses = refuses first.memory.now

  abbrev Told : Result WhichFound RunFault → Type 0
  Told r = TellsLines Refuses dialect s q limit bytes left start now r

  places_are : (units : List (List ℕ)) (b : List ℕ)
      → (heard_after (known_of first) nothing_heard (section_visits dialect units b)).ended
      ≡ places_in dialect (known_by s q) units
  places_are units b =
      of_section (known_of first) dialect units b ∙ ap (λ k. places_in dialect k units) known

  room_same : (units : List (List ℕ)) (b : List ℕ) (visits more : List Visit) → section_visits dialect units b ≡ visits ++ more
      → IsRefused Refuses (told_room (known_of first) visits) → RefusesAnswers Refuses dialect s q units b
  room_same units b visits more cut r =
      let is = ap (λ k. told_room k (section_visits dialect units b)) (sym known) in
      refused_within Refuses (told_room (known_of first) visits)
      (length q.wanted.now + told_room (known_by s q) (section_visits dialect units b))
      (omega (arith, is, ap (told_room (known_of first)) cut, room_more (known_of first) visits more)) r

  abbrev Printed : List (List ℕ) → Result WhichFound WriteFault → Type 0
  Printed units printed = PrintsText mid now (answer_lines dialect s q units) (found_in dialect s q units) printed

  -- what is told where the reading ended so, and no memory was refused before
  of_ending : (units : List (List ℕ)) (b back : List ℕ) → EndsAs dialect limit bytes left units b back ended
      → Seeking refuses first new start mid (section_visits dialect units b) → Appends start mid []
      → is_no_memory ended ≡ false → ((summary : Summary) → ended ≡ Ok summary → (b ≡ []) × (back ≡ [])) → Told result
  of_ending units b back ends stands out whole empty = by (answered (section_visits dialect units b) whole stands) where
    lines_are : (printed : Result WhichFound WriteFault)
        → PrintsText mid now (wanted_text q.exact (heard_after (known_of first) nothing_heard (section_visits dialect units b)).ended q.wanted.now)
        (wanted_found q.exact (heard_after (known_of first) nothing_heard (section_visits dialect units b)).ended q.wanted.now) printed
        → Printed units printed
    lines_are printed p =
        subst (λ (l : List CodePlace). PrintsText mid now (wanted_text q.exact l q.wanted.now)
        (wanted_found q.exact l q.wanted.now) printed) (places_are units b) p

    out_all : Appends mid now (answer_lines dialect s q units) → Appends start now (answer_lines dialect s q units)
    out_all more = Appends-trans start mid now [] (answer_lines dialect s q units) out more

    of_told : (e : Result Summary RunFault) (printed : Result WhichFound WriteFault) → ended ≡ e → Printed units printed
        → Told (told e printed)
    of_told e (Err lost) is p = (
      units,
      b,
      back,
      ended,
      ends,
      (
        p.0,
        record {
          within = p.1.within;
          written = Appends-trans start mid now [] (take lost.out (answer_lines dialect s q units)) out p.1.written;
        },
      ),
    )
    of_told (Ok summary) (Ok all_found) is p =
        let none = empty summary is in (
          units,
          summary,
          subst (λ (x : List ℕ). EndsAs dialect limit bytes left units [] x (Ok summary)) none.1
              (subst (λ (x : List ℕ). EndsAs dialect limit bytes left units x back (Ok summary)) none.0
              (subst (EndsAs dialect limit bytes left units b back) is ends)),
          p.0,
          out_all p.1,
        )
    of_told (Err (fault.Write out)) (Ok all_found) is p = absurd (subst (EndsAs dialect limit bytes left units b back) is ends)
    of_told (Err fault.NoMemory) (Ok all_found) is p =
        absurd (true≢false (ap is_no_memory (sym is) ∙ whole))
    of_told (Err (fault.Damage offset kind)) (Ok all_found) is p =
        (units, b, back, subst (EndsAs dialect limit bytes left units b back) is ends, out_all p.1)
    of_told (Err fault.Read) (Ok all_found) is p =
        (units, b, back, subst (EndsAs dialect limit bytes left units b back) is ends, out_all p.1)
    of_told (Err fault.SectionTooLong) (Ok all_found) is p =
        (units, b, back, subst (EndsAs dialect limit bytes left units b back) is ends, out_all p.1)
    of_told (Err fault.NotFound) (Ok all_found) is p =
        (units, b, back, subst (EndsAs dialect limit bytes left units b back) is ends, out_all p.1)
    of_told (Err fault.TwoSums) (Ok all_found) is p =
        (units, b, back, subst (EndsAs dialect limit bytes left units b back) is ends, out_all p.1)
    of_told (Err fault.NoUnit) (Ok all_found) is p =
        (units, b, back, subst (EndsAs dialect limit bytes left units b back) is ends, out_all p.1)
    of_told (Err (fault.ForeignUnit unit)) (Ok all_found) is p =
        (units, b, back, subst (EndsAs dialect limit bytes left units b back) is ends, out_all p.1)
    of_told (Err (fault.Emit unit f)) (Ok all_found) is p =
        (units, b, back, subst (EndsAs dialect limit bytes left units b back) is ends, out_all p.1)

    by : Answered (IsRefused Refuses (told_room (known_of first) (section_visits dialect units b))) mid now
        (wanted_text q.exact (heard_after (known_of first) nothing_heard (section_visits dialect units b)).ended q.wanted.now)
        (wanted_found q.exact (heard_after (known_of first) nothing_heard (section_visits dialect units b)).ended q.wanted.now)
        ended result → Told result
    by (inl (is, same, r)) =
        let told_none : Told (Err fault.NoMemory) = (
          keeps_nothing start now (subst (λ (o : Option (List ℕ)). Appends start o []) (sym same) out),
          inl (inr (
            units,
            b,
            back,
            room_same units b (section_visits dialect units b) []
                (sym (append-nil (section_visits dialect units b))) r,
            inr (ended, ends),
          )),
        ) in
        subst Told (sym is) told_none
    by (inr (printed, p, is)) = subst Told (sym is) (of_told ended printed refl (lines_are printed p))

  quiet : Keeps start mid → (now ≡ mid) → Keeps start now
  quiet keeps same = subst (Keeps start) (sym same) keeps

  -- memory was refused while it was read
  of_refusal : ended ≡ Err fault.NoMemory → Ran (seek_story refuses) dialect limit bytes left first new start mid (Err fault.NoMemory)
      → Told result
  of_refusal is (units, b, back, inl (ends, settled)) =
      let r = refused (ap is_no_memory is) in
      let told_none : Told (Err fault.NoMemory) = (
        quiet (keeps_nothing start mid settled.out) r.1,
        inr (units, b, back, ends),
      ) in
      subst Told (sym r.0) told_none
  of_refusal is (units, b, back, inr (has, sound, stops)) =
      let r = refused (ap is_no_memory is) in
      let told_none : Told (Err fault.NoMemory) = (
        quiet (keeps_nothing start mid stops.out) r.1,
        inl (inr (
          units,
          b,
          back,
          room_same units b (stops.before ++ stops.visit ∷ []) stops.more
              (stops.whole ∙ sym (append_assoc stops.before (stops.visit ∷ []) stops.more))
              (stops.reason.1 q.wanted.now q.exact made_for),
          inl (has, sound),
        )),
      ) in
      subst Told (sym r.0) told_none

  -- it ended with another fault
  of_fault : (f : RunFault) → ended ≡ Err f → is_no_memory {A = Summary} (Err f) ≡ false
      → (units : List (List ℕ)) × (b : List ℕ) × (back : List ℕ)
      × ((EndsAs dialect limit bytes left units b back (Err f)
      × Settled (seek_story refuses) first start mid (section_visits dialect units b)
      (Seeking refuses first new start mid))
      ⊎ (HasBegun dialect (take limit bytes) units b back
      × Sound dialect b
      × VisitorStops (seek_story refuses) first new start mid (section_visits dialect units b) f))
      → Told result
  of_fault f is whole (units, b, back, inl (ends, settled)) =
      of_ending units b back (subst (EndsAs dialect limit bytes left units b back) (sym is) ends) settled.tells settled.out
      (ap is_no_memory is ∙ whole) (λ summary e. absurd (let other = sym is ∙ e in cc))
  of_fault f is whole (units, b, back, inr (has, sound, stops)) =
      absurd (true≢false (ap (λ (x : RunFault). is_no_memory {A = Summary} (Err x)) (sym stops.reason.0) ∙ whole))

  of_ran : (e : Result Summary RunFault) → ended ≡ e → Ran (seek_story refuses) dialect limit bytes left first new start mid e
      → Told result
  of_ran (Ok summary) is (inl (units, ends, settled)) =
      of_ending units [] [] (subst (EndsAs dialect limit bytes left units [] []) (sym is) ends) settled.tells settled.out
      (ap is_no_memory is) (λ summary e. (refl, refl))
  of_ran (Ok summary) is (inr done) = absurd done.4.tells
  of_ran (Err (fault.Write out)) is (units, b, back, has, writes) = absurd (let below = writes.3.0 in omega arith)
  of_ran (Err fault.NoMemory) is ran = of_refusal is ran
  of_ran (Err (fault.Damage offset kind)) is ran = of_fault (fault.Damage offset kind) is refl ran
  of_ran (Err fault.Read) is ran = of_fault fault.Read is refl ran
  of_ran (Err fault.SectionTooLong) is ran = of_fault fault.SectionTooLong is refl ran
  of_ran (Err fault.NotFound) is ran = of_fault fault.NotFound is refl ran
  of_ran (Err fault.TwoSums) is ran = of_fault fault.TwoSums is refl ran
  of_ran (Err fault.NoUnit) is ran = of_fault fault.NoUnit is refl ran
  of_ran (Err (fault.ForeignUnit unit)) is ran = of_fault (fault.ForeignUnit unit) is refl ran
  of_ran (Err (fault.Emit unit f)) is ran = of_fault (fault.Emit unit f) is refl ran

  pub is_told : Ran (seek_story refuses) dialect limit bytes left first new start mid ended → Told result
  is_told ran = of_ran ended refl ran

-- ---- what is blamed

pub never_read : {M : Type 0} (refuses : M → ℕ → Type 0) (first : LineSeeker M) (visits : List Visit)
    → ¬ (seek_story refuses).refuses first visits fault.Read
never_read refuses first visits stops = let is = stops.0 in absurd cc

pub ok_over : {A B E F : Type 0} (P : Type 0) (result : Result A E) (ended : Result B F) → OnOk result (IsOk ended)
    → OnOk ended P → OnOk result P
ok_over P (Err e) ended ok over = tt
ok_over P (Ok a) (Ok b) ok over = over
ok_over P (Ok a) (Err f) ok over = absurd (true≢false (sym ok))

-- no visit was told yet
pub begins : {M : Type 0} (refuses : M → ℕ → Type 0) (first : LineSeeker M) (start : Option (List ℕ))
    → ((is_live : ℕ → Bool) → LiveTells first.live is_live []) → TellsFirst first.statements []
    → first.is_refused ≡ false → Appends start start [] → Seeking refuses first first start start []
begins refuses first start live statements whole nothing = record {
  code = refl;
  directories = refl;
  strings = refl;
  memory = refl;
  whole = λ e. record {
    live = live (known_of first).live;
    statements = subst (TellsFirst first.statements) (sym (no_live_rows (known_of first).live)) statements;
    searches = λ wanted exact made_for. (
      made_for.count,
      λ i d w lt. subst (λ (l : List CodePlace). Stands (slice_index_or first.searches.items i d) (slice_index_or wanted i w) exact [] l
          no_path 0 0)
          (sym (no_places (known_of first).live no_path))
          (made (slice_index_or first.searches.items i d) (slice_index_or wanted i w) exact (made_for.new i d w lt)),
    );
  };
  refused = λ e. absurd (true≢false (sym e ∙ whole));
  nothing = nothing;
}

pub begins_if : {M E : Type 0} (refuses : M → ℕ → Type 0) (r : Result (LineSeeker M) E)
    → IfOk r (λ l. (is_live : ℕ → Bool) → LiveTells l.live is_live []) → IfOk r (λ l. TellsFirst l.statements [])
    → IfOk r (λ l. l.is_refused ≡ false)
    → IfOk r (λ l. (start : Option (List ℕ)) → Appends start start [] → Seeking refuses l l start start [])
begins_if refuses (Err e) live statements whole = tt
begins_if refuses (Ok l) live statements whole = λ start nothing. begins refuses l start live statements whole nothing
