-- How a seeker goes on, and what stops it.
use Rattle.dl_sections.proofs.Names.{◌++◌, ◌∙◌, ◌∷◌, ◌≡◌, [], answer, answer_under, Appends, Appends-nil, Err, false}
use Rattle.dl_sections.proofs.Names.{find_story, finds, Flow, Flushes, fold-append, found_text, HasFound, HasPrinted}
use Rattle.dl_sections.proofs.Names.{HasPrinted-nothing, HasPrinted-out, HeaderData, List, None, of_end, Ok, Option}
use Rattle.dl_sections.proofs.Names.{Printed, refl, Row, search_of, Seeker, Seeks, seeks, seen, Some, StopsIn}
use Rattle.dl_sections.proofs.Names.{strings_of, TellsOut, true, Visit, Write, WriteFault, ℕ, ⊤}
use Rattle.dl_sections.proofs.Names.fault
use Rattle.dl_sections.proofs.Names.flow
use Rattle.dl_look.specs.FinderRows.{StandsFor}
use Rattle.dl_sections.specs.Visiting.{GoesOn}

pub no_answer : (header : Option HeaderData) {a : Option Row} → a ≡ None → answer_under header a ≡ seeks []
no_answer None none = refl
no_answer (Some h) none = rw none refl

module _ {first old : Seeker} {start held : Option (List ℕ)} {visits : List Visit}
    (s : Seeks first old start held visits) where
  seen_more : (visit : Visit) → search_of first.place (visits ++ visit ∷ []) ≡ seen first.place (seeks s.rows) visit
  seen_more visit = rw (fold-append (seen first.place) (seeks []) visits (visit ∷ []), s.told) refl

  -- it was told one visit more, which gives no answer
  pub seeks_on : (new : Seeker) (visit : Visit) (rows : List Row) → new.place ≡ old.place
      → new.strings ≡ old.strings → new.found ≡ false
      → new.printer ≡ old.printer → seen first.place (seeks s.rows) visit ≡ seeks rows
      → StandsFor new.finder first.place rows → Seeks first new start held (visits ++ visit ∷ [])
  seeks_on new visit rows place strings not_found printer none stands = record {
    rows = rows;
    told = seen_more visit ∙ none;
    place = place ∙ s.place;
    strings = strings ∙ s.strings;
    not_found = not_found;
    stands = stands;
    printed = rw printer s.printed;
  }

  -- of which it takes no notice
  pub seeks_past : (visit : Visit) → seen first.place (seeks s.rows) visit ≡ seeks s.rows
      → Seeks first old start held (visits ++ visit ∷ [])
  seeks_past visit none =
      seeks_on old visit s.rows refl refl s.not_found refl none s.stands

  -- a unit ended that has the first answer
  module _ {header : Option HeaderData} {h : HeaderData} {r : Row} (has : header ≡ Some h)
      (row : answer s.rows first.place ≡ Some r) (new : Seeker) (after : Option (List ℕ)) where
    pub has_found : new.found ≡ true → HasPrinted start after (found_text (strings_of old.strings) h r) new.printer
        → HasFound first new start after (visits ++ of_end header ∷ [])
    has_found is printed = record {
      before = visits;
      rows = s.rows;
      told = s.told;
      h = h;
      r = r;
      row = row;
      whole = rw has refl;
      found = is;
      printed = rw s.strings at printed;
    }

    pub stops_printing : (out : ℕ) → TellsOut start after (found_text (strings_of old.strings) h r) (fault.Write out)
        → StopsIn find_story first new start after visits (of_end header ∷ []) (fault.Write out)
    stops_printing out t =
        (of_end header ∷ [], [], refl, rw (seen_more (of_end header), has, row) (rw s.strings at t))

-- where all that was printed goes out, or not
module _ (first old : Seeker) (printer : Printed) (start held after : Option (List ℕ)) (visits : List Visit) where
  found_at : (s : HasFound first old start held visits) → search_of first.place visits ≡ finds s.h s.r
  found_at s =
      rw (s.whole, fold-append (seen first.place) (seeks []) s.before (of_end (Some s.h) ∷ []), s.told, s.row) refl

  pub settles : (flow : Flow) → GoesOn find_story first old start held visits flow
      → Flushes {A = ⊤} held after old.printer printer (Ok tt) → printer.pending ≡ []
      → GoesOn find_story first (record old { printer = printer }) start after visits flow
      × Appends start after (find_story.text first visits)
  settles flow.On s flushes empty =
      let printed = flushes start [] s.printed in (
        record {
          rows = s.rows;
          told = s.told;
          place = s.place;
          strings = s.strings;
          not_found = s.not_found;
          stands = s.stands;
          printed = printed;
        },
        rw s.told (HasPrinted-out start after [] printer printed empty),
      )
  settles flow.Stop s flushes empty =
      let text = found_text (strings_of first.strings) s.h s.r in
      let printed = flushes start text s.printed in (
        record {
          before = s.before;
          rows = s.rows;
          told = s.told;
          h = s.h;
          r = s.r;
          row = s.row;
          whole = s.whole;
          found = s.found;
          printed = printed;
        },
        rw (found_at s) (HasPrinted-out start after text printer printed empty),
      )

  pub loses : (flow : Flow) (f : WriteFault) → GoesOn find_story first old start held visits flow
      → Flushes {A = ⊤} held after old.printer printer (Err f)
      → TellsOut start after (find_story.text first visits) (fault.Write f.out)
  loses flow.On f s flushes = rw s.told (flushes start [] s.printed)
  loses flow.Stop f s flushes =
      rw (found_at s) (flushes start (found_text (strings_of first.strings) s.h s.r) s.printed)

-- no visit was told yet
pub begins : (first : Seeker) (start : Option (List ℕ)) → first.printer.pending ≡ [] → first.printer.out ≡ 0
    → first.found ≡ false → StandsFor first.finder first.place [] → Seeks first first start start []
begins first start pending out not_found stands = record {
  rows = [];
  told = refl;
  place = refl;
  strings = refl;
  not_found = not_found;
  stands = stands;
  printed = HasPrinted-nothing start start first.printer (Appends-nil start) pending out;
}
