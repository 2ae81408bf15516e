-- What a visitor is told while a reader takes bytes of a program, and what it stands for then.
use Rattle.dl_sections.proofs.Names.{ends, ◌++◌, ◌+◌, ◌-◌, ◌^◌, ◌∙◌, ◌∷◌, ◌≡◌, ◌⊎◌, [], append-nil, append_assoc, arith, cond}
use Rattle.dl_sections.proofs.Names.{Counted, Err, Event, false, Fault, Fed, HeardItems, Hears, inl, inr, ItemsOf}
use Rattle.dl_sections.proofs.Names.{is_some, length-append, List, map, map-append, min, None, none_some, of_item, Ok, Option, Reader}
use Rattle.dl_sections.proofs.Names.{refl, Result, Row, RunFault, same_Some, SectionUnits, SinkAfter, SinkAt, SinkFed, Some, StopsIn}
use Rattle.dl_sections.proofs.Names.{StopsWithin, Story, subst, sum_by-append, sym, Told, told_story, true, Visit, ℕ, ⊤}
use Rattle.dl_sections.proofs.Names.{HeaderData}
use Rattle.dl_rows.specs.Items.{Item, a_row, rows_of_items}
use Rattle.dl_rows.proofs.ItemLemmas.{rows-append}
use Rattle.dl_rows.specs.Reading.{row_answered, row_told}
use Rattle.dl_sections.specs.Blaming.{BlamesWriter, IsBlamed}
use Rattle.dl_sections.specs.Told.{GoesOnAs}
use Rattle.dl_sections.specs.Visiting.{HearsRun}
use Rattle.std.proofs.Common.{Bool, MutBor, ap, length}
use Rattle.dl_sections.proofs.Names.event
use Rattle.dl_sections.proofs.Names.fault

pub ends-append : (xs ys : List Row) → ends (xs ++ ys) ≡ ends xs + ends ys
ends-append xs ys = sum_by-append (λ (r : Row). cond r.end_sequence 1 0) xs ys

-- one row more is counted
pub counts_more : (old_rows old_ends rows_now ends_now rows_new ends_new : ℕ) (rows : List Row) (r : Row)
    → Counted old_rows old_ends rows_now ends_now rows
    → rows_new ≡ min (rows_now + 1) (2 ^ 64 - 1) → ends_new ≡ min (ends_now + cond r.end_sequence 1 0) (2 ^ 64 - 1)
    → Counted old_rows old_ends rows_new ends_new (rows ++ r ∷ [])
counts_more old_rows old_ends rows_now ends_now rows_new ends_new rows r counts more_rows more_ends =
    let size = length-append rows (r ∷ []) in
    let ends_are = ends-append rows (r ∷ []) in
    record {
      of_rows = λ small. omega (arith, counts.of_rows (omega (arith, small, size)), more_rows, small);
      of_ends = λ small. omega (arith, counts.of_ends (omega (arith, small, ends_are)), more_ends, small);
    }

-- what items count
pub counts_row : (old_rows old_ends rows_now ends_now rows_new ends_new : ℕ) (items : List Item) (header : HeaderData)
    (r : Row) → Counted old_rows old_ends rows_now ends_now (rows_of_items items)
    → rows_new ≡ min (rows_now + 1) (2 ^ 64 - 1) → ends_new ≡ min (ends_now + cond r.end_sequence 1 0) (2 ^ 64 - 1)
    → Counted old_rows old_ends rows_new ends_new (rows_of_items (items ++ a_row header r ∷ []))
counts_row old_rows old_ends rows_now ends_now rows_new ends_new items header r counts more_rows more_ends =
    rw (rows-append items (a_row header r ∷ []))
    (counts_more old_rows old_ends rows_now ends_now rows_new ends_new (rows_of_items items) r counts more_rows more_ends)

-- what a run of them counts
counts_run : (old_rows old_ends rows_now ends_now rows_new ends_new : ℕ) (items more : List Item) (n : ℕ)
    → length (rows_of_items more) ≡ n → ends (rows_of_items more) ≡ 0
    → Counted old_rows old_ends rows_now ends_now (rows_of_items items)
    → rows_new ≡ min (rows_now + n) (2 ^ 64 - 1) → ends_new ≡ ends_now
    → Counted old_rows old_ends rows_new ends_new (rows_of_items (items ++ more))
counts_run old_rows old_ends rows_now ends_now rows_new ends_new items more n count no_end counts more_rows same_ends =
    let size = length-append (rows_of_items items) (rows_of_items more) in
    let ends_are = ends-append (rows_of_items items) (rows_of_items more) in
    rw (rows-append items more) (record {
      of_rows = λ small. omega (arith, counts.of_rows (omega (arith, small, size)), more_rows, small, size, count);
      of_ends = λ small. omega (arith, counts.of_ends (omega (arith, small, ends_are)), same_ends, ends_are, no_end);
    })

-- ---- items, one after the other

module _ {V : Type 0} (story : Story V) where
  -- where it stopped among some visits, it stopped among these and more
  pub stops_before_more : (first new : V) (start now : Option (List ℕ)) (visits heard more : List Visit) (f : RunFault)
      → StopsIn story first new start now visits heard f → StopsIn story first new start now visits (heard ++ more) f
  stops_before_more first new start now visits heard more f s =
      (s.0, s.1 ++ more, rw s.2 (append_assoc s.0 s.1 more), s.3)

  pub hears_join : (u v w : V) (a b c : Option (List ℕ)) (items more : List Item) (result : Result ⊤ RunFault)
      → Hears {A = ⊤} story u v a b (map of_item items) (Ok (tt {0}))
      → Hears {A = ⊤} story v w b c (map of_item more) result
      → Hears {A = ⊤} story u w a c (map of_item (items ++ more)) result
  hears_join u v w a b c items more (Ok t) told then first start visits tells =
      rw (map-append, ← append_assoc visits (map of_item items) (map of_item more))
      (then first start (visits ++ map of_item items) (told first start visits tells))
  hears_join u v w a b c items more (Err f) told stops first start visits tells =
      let s = stops first start (visits ++ map of_item items) (told first start visits tells) in (
        map of_item items ++ s.0,
        s.1,
        rw (map-append, s.2) (simp append_assoc),
        rw append_assoc at s.3,
      )

  -- it was told nothing since it stopped
  pub hears_past : (u v : V) (a b : Option (List ℕ)) (items more : List Item) (f : RunFault)
      → Hears {A = ⊤} story u v a b (map of_item items) (Err f)
      → Hears {A = ⊤} story u v a b (map of_item (items ++ more)) (Err f)
  hears_past u v a b items more f stopped first start visits tells =
      rw map-append
      (stops_before_more first v start b visits (map of_item items) (map of_item more) f (stopped first start visits tells))

module _ {W V : Type 0} (story : Story V) (Fails : Type 0) (contents : W → Option (List ℕ)) where
  -- no item was told
  pub told_start : (first : Told W V) → first.failed ≡ None → GoesOnAs story Fails contents first first [] first.failed
  told_start first none = rw none (
    record { of_rows = λ small. omega arith; of_ends = λ small. omega arith },
    record {
      output = refl;
      visitor = refl;
      hears = λ fst start visits tells. rw append-nil tells;
      blames = tt;
    },
  )

  -- more was told, in which there is no row, or the visitor stopped at it
  pub told_more : (first now new : Told W V) (items more : List Item) (result : Result ⊤ RunFault)
      → HeardItems story Fails contents first now items (Ok (tt {0}))
      → new.output.ghost_name ≡ now.output.ghost_name → new.visitor.ghost_name ≡ now.visitor.ghost_name
      → Hears {A = ⊤} story now.visitor.now new.visitor.now (contents now.output.now) (contents new.output.now)
      (map of_item more) result → BlamesWriter Fails result
      → HeardItems story Fails contents first new (items ++ more) result
  told_more first now new items more result told output visitor hears blames = record {
    output = output ∙ told.output;
    visitor = visitor ∙ told.visitor;
    hears = hears_join story first.visitor.now now.visitor.now new.visitor.now (contents first.output.now)
        (contents now.output.now) (contents new.output.now) items more result told.hears hears;
    blames = blames;
  }

  -- it stopped before
  pub told_past : (first now : Told W V) (items more : List Item) (f : RunFault)
      → HeardItems story Fails contents first now items (Err f)
      → HeardItems story Fails contents first now (items ++ more) (Err f)
  told_past first now items more f told = record {
    output = told.output;
    visitor = told.visitor;
    hears = hears_past story first.visitor.now now.visitor.now (contents first.output.now) (contents now.output.now) items
        more f told.hears;
    blames = told.blames;
  }

  not_failed : (first now : Told W V) (items : List Item) → now.failed ≡ None
      → GoesOnAs story Fails contents first now items now.failed → GoesOnAs story Fails contents first now items None
  not_failed first now items none told =
      subst (λ (o : Option RunFault). GoesOnAs story Fails contents first now items o) none told

  has_failed : (first now : Told W V) (items : List Item) (f : RunFault) → now.failed ≡ Some f
      → GoesOnAs story Fails contents first now items now.failed
      → GoesOnAs story Fails contents first now items (Some f)
  has_failed first now items f some told =
      subst (λ (o : Option RunFault). GoesOnAs story Fails contents first now items o) some told

  -- after a failed write it takes no notice of more
  pub stays_failed : (first now : Told W V) (items more : List Item) (failed : Option RunFault) → is_some failed ≡ true
      → GoesOnAs story Fails contents first now items failed → GoesOnAs story Fails contents first now (items ++ more) failed
  stays_failed first now items more None some told = absurd cc
  stays_failed first now items more (Some f) some told = (told.0, told.1, told_past first now items more f told.2)

  pub failed_before : (first now : Told W V) (items more : List Item) (failed : Option RunFault) → is_some failed ≡ true
      → GoesOnAs story Fails contents first now items failed
      → (f : RunFault) × (failed ≡ Some f) × HeardItems story Fails contents first now (items ++ more) (Err f)
  failed_before first now items more None some told = absurd cc
  failed_before first now items more (Some f) some told = (f, refl, told_past first now items more f told.2)

  -- before one it goes on
  pub told_before : (first now : Told W V) (items : List Item) (failed : Option RunFault) → is_some failed ≡ false
      → GoesOnAs story Fails contents first now items failed → GoesOnAs story Fails contents first now items None
  told_before first now items None none told = told
  told_before first now items (Some f) none told = absurd cc

  pub goes_on_as : (first now : Told W V) (items : List Item) (failed : Option RunFault) → is_some failed ≡ false
      → GoesOnAs story Fails contents first now items None → GoesOnAs story Fails contents first now items failed
  goes_on_as first now items None none told = told
  goes_on_as first now items (Some f) none told = absurd cc

  -- a run was told, which has so many rows and no end row
  pub told_run : (first now new : Told W V) (items more : List Item) (told : Bool) (n : ℕ) → length (rows_of_items more) ≡ n
      → ends (rows_of_items more) ≡ 0 → GoesOnAs story Fails contents first now items None → is_some new.failed ≡ false
      → new.output ≡ now.output → new.visitor.ghost_name ≡ now.visitor.ghost_name
      → new.rows ≡ min (now.rows + n) (2 ^ 64 - 1) → new.sequences ≡ now.sequences
      → HearsRun story now.visitor.now new.visitor.now (map of_item more) told → told ≡ true
      → GoesOnAs story Fails contents first new (items ++ more) new.failed
  told_run first now new items more told n count no_end before none output visitor rows sequences hears is =
      goes_on_as first new (items ++ more) new.failed none (
        counts_run first.rows first.sequences now.rows now.sequences new.rows new.sequences items more n count no_end before.0 rows sequences,
        told_more first now new items more (Ok (tt {0})) before.1 (ap (λ (o : MutBor W). o.ghost_name) output) visitor
            (λ fst start visits tells. subst (λ (o : MutBor W). story.tells fst new.visitor.now start (contents o.now) (visits ++ map of_item more))
            (sym output) (rw is at (hears fst start (contents now.output.now) visits tells))) tt,
      )

  -- or nothing was told
  pub told_nothing : (first now new : Told W V) (items : List Item) (more : List Visit) (told : Bool)
      → GoesOnAs story Fails contents first now items None → is_some new.failed ≡ false
      → new.output ≡ now.output → new.visitor.ghost_name ≡ now.visitor.ghost_name
      → new.rows ≡ now.rows → new.sequences ≡ now.sequences
      → HearsRun story now.visitor.now new.visitor.now more told → told ≡ false
      → GoesOnAs story Fails contents first new items new.failed
  told_nothing first now new items more told before none output visitor rows sequences hears is =
      goes_on_as first new items new.failed none (
        record { of_rows = rw rows before.0.of_rows; of_ends = rw sequences before.0.of_ends },
        record {
          output = ap (λ (o : MutBor W). o.ghost_name) output ∙ before.1.output;
          visitor = visitor ∙ before.1.visitor;
          hears = λ fst start visits tells.
              subst (λ (o : MutBor W). story.tells fst new.visitor.now start (contents o.now) (visits ++ map of_item items)) (sym output)
              (rw is at (hears fst start (contents now.output.now) (visits ++ map of_item items) (before.1.hears fst start visits tells)));
          blames = tt;
        },
      )

  -- ---- after the call

  -- where it didn't stop, no row is answered
  pub goes_on_without : (first now : Told W V) (items : List Item) (fed : Result Fed Fault) → now.failed ≡ None
      → SinkAfter (told_story story Fails contents first) now items fed
      → (row_answered fed ≡ []) × GoesOnAs story Fails contents first now items None
  goes_on_without first now items (Err fault) none heard = (refl, not_failed first now items none heard)
  goes_on_without first now items (Ok fed) none heard = at fed.event heard where
    told_on : GoesOnAs story Fails contents first now items now.failed → GoesOnAs story Fails contents first now items None
    told_on told = not_failed first now items none told

    at : (e : Event) → SinkAt (told_story story Fails contents first) now items e
        → (row_told e ≡ []) × GoesOnAs story Fails contents first now items None
    at (event.Row r) stopped = absurd (none_some none stopped.1)
    at event.More told = (refl, told_on told)
    at event.Header told = (refl, told_on told)
    at (event.Foreign version) told = (refl, told_on told)
    at event.End told = (refl, told_on told)
    at event.NoMemory told = (refl, told_on told)

  -- where it stopped: at the row that is answered, or a write failed
  pub stops_with : (first now : Told W V) (items : List Item) (f : RunFault) (fed : Result Fed Fault)
      → now.failed ≡ Some f → SinkAfter (told_story story Fails contents first) now items fed
      → HeardItems story Fails contents first now items (Err f)
      × (((g : Fed) × (fed ≡ Ok g)) ⊎ ((out : ℕ) × (f ≡ fault.Write out)))
  stops_with first now items f (Err g) some heard =
      (let h = has_failed first now items f some heard in (h.2, inr (h.0, h.1)))
  stops_with first now items f (Ok fed) some heard = (at fed.event heard, inl (fed, refl)) where
    lost : GoesOnAs story Fails contents first now items now.failed
        → HeardItems story Fails contents first now items (Err f)
    lost told = (has_failed first now items f some told).2

    at : (e : Event) → SinkAt (told_story story Fails contents first) now items e
        → HeardItems story Fails contents first now items (Err f)
    at (event.Row r) stopped = (let same = same_Some stopped.0 f (sym stopped.1 ∙ some) in rw same at stopped.2)
    at event.More told = lost told
    at event.Header told = lost told
    at (event.Foreign version) told = lost told
    at event.End told = lost told
    at event.NoMemory told = lost told

  -- w, after: what the visitor and the writer end as, where the sink still holds them
  pub all_told : (b piece : List ℕ) (old : SectionUnits) (reader : Reader) (first sink : Told W V) (w : V) (now : W)
      (fed : Result Fed Fault) → sink.failed ≡ None → reader.dialect ≡ old.reader.dialect
      → first.rows ≡ old.rows → first.sequences ≡ old.sequences
      → SinkFed (told_story story Fails contents first) old.reader.dialect b piece [] fed reader sink
      → (first.visitor.ghost_name ≡ sink.visitor.ghost_name → w ≡ sink.visitor.now)
      → (first.output.ghost_name ≡ sink.output.ghost_name → now ≡ sink.output.now)
      → ItemsOf story b piece old (record old {
        reader = reader;
        sequences = sink.sequences;
        rows =
            sink.rows;
      }) first.visitor.now w (contents first.output.now) (contents now) fed
  all_told b piece old reader first sink w now fed none dialect rows_are ends_are f w_is now_is =
      let so = goes_on_without first sink f.heard.items fed none f.heard.sink in
      let told = so.1.1 in
      let rows = f.heard.of_rows ∙ rw so.0 (append-nil f.rows) in
      record {
        rows = f.rows;
        used = f.used;
        items = f.heard.items;
        taken = record { dialect = dialect; fed_after = f.fed; grown = f.heard.grown; opening = f.heard.opening };
        same = refl;
        counts = rw (rows_are, ends_are, rows) at so.1.0;
        hears = rw (w_is (sym told.visitor), now_is (sym told.output)) told.hears;
        no_row = so.0;
      }

  pub stopped_told : (b piece : List ℕ) (old new : SectionUnits) (first sink : Told W V) (w : V) (now : W)
      (f : RunFault)
      (fed : Result Fed Fault) → sink.failed ≡ Some f → new.reader.dialect ≡ old.reader.dialect
      → SinkFed (told_story story Fails contents first) old.reader.dialect b piece [] fed new.reader sink
      → (first.visitor.ghost_name ≡ sink.visitor.ghost_name → w ≡ sink.visitor.now)
      → (first.output.ghost_name ≡ sink.output.ghost_name → now ≡ sink.output.now)
      → StopsWithin story b piece old new first.visitor.now w (contents first.output.now) (contents now) f
  stopped_told b piece old new first sink w now f fed some dialect rf w_is now_is =
      let so = stops_with first sink rf.heard.items f fed some rf.heard.sink in
      let told = so.0 in
      record {
        rows = rf.rows;
        used = rf.used;
        items = rf.heard.items;
        fed = fed;
        taken = record { dialect = dialect; fed_after = rf.fed; grown = rf.heard.grown; opening = rf.heard.opening };
        hears = rw (w_is (sym told.visitor), now_is (sym told.output)) told.hears;
        at = so.1;
      }

  -- why it stopped is no failed write, but where the writer fails
  pub stopped_blames : (b piece : List ℕ) (old : SectionUnits) (reader : Reader) (first sink : Told W V) (f : RunFault)
      (fed : Result Fed Fault) → sink.failed ≡ Some f
      → SinkFed (told_story story Fails contents first) old.reader.dialect b piece [] fed reader sink → IsBlamed Fails f
  stopped_blames b piece old reader first sink f fed some rf =
      (stops_with first sink rf.heard.items f fed some rf.heard.sink).0.blames
