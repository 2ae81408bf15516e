-- One byte more of a header: what the reader answers, and the bytes that it stands for then.
use Rattle.std.proofs.Common.{◌≡◌, ◌≢◌, ℕ, ◌+◌, List, [], ◌∷◌, ◌++◌, length, Option, Some, None, refl, sym, ap, subst}
use Rattle.std.proofs.Common.{◌∙◌, arith, length-append}
use Rattle.dl_memory.specs.Refusals.{SystemRefuses, WasRefused}
use Rattle.dl_head.specs.declared.dialect.Dialect.{Dialect}
use Rattle.dl_num.specs.declared.partial_number.PartialNumber.{PartialNumber}
use Rattle.dl_num.specs.NumberBytes.{number_size, number_bytes}
use Rattle.dl_head.specs.declared.reader.Phase.{Phase}
use Rattle.dl_head.specs.declared.reader.Phase.TheVariants as phase
use Rattle.dl_field.specs.declared.field_step.FieldStep.TheVariants as byte_makes
use Rattle.dl_head.specs.declared.reader.HeadReader.{HeadReader}
use Rattle.dl_head.specs.declared.reader.HeadStep.{HeadStep}
use Rattle.dl_head.specs.declared.reader.HeadStep.TheVariants as answer
use Rattle.dl_table.specs.declared.fault.FaultKind.{FaultKind}
use Rattle.dl_table.specs.Value.{Judgement, bad}
use Rattle.dl_field.specs.Layout.{Item, following_all, field_spelt}
use Rattle.dl_head.specs.HeaderLayout.{header_layout}
use Rattle.dl_head.specs.Header.{Cut, cut, unit_end, unit_len, foreign_made}
use Rattle.dl_head.specs.Refusal.{or_else, bad_kind, header_overrun, cut_decided, header_decided, HeaderRefused}
use Rattle.dl_head.specs.Cells.{cells}
use Rattle.dl_table.specs.TableCells.{table_cells}
use Rattle.dl_field.specs.TablePlace.{IsFresh}
use Rattle.dl_head.specs.Place.{AtStart, AtPhase, At, SameCounts, SameUnit, PushFollows, end_of_unit, held_cells}
use Rattle.dl_head.specs.Standing.{Below, IsRead, Live, Unmade, ending, Stands, StandsFor, unit_known, Fails, Settles}
use Rattle.dl_head.specs.Reading.{Answers, RefusesCell, Steps}
use Rattle.dl_field.proofs.FieldLemmas.{none_some}
use Rattle.dl_head.proofs.CutLemmas.{cut_of, cut_bad}
use Rattle.dl_head.proofs.HeaderEnds.{UpTo, below_next, end_from}
use Rattle.dl_head.proofs.TakenBytes.{Place, in_field, in_padding, in_foreign, place_of, end_is, live_quiet, live_more}
use Rattle.dl_head.proofs.TakenBytes.{not_foreign}
use Rattle.dl_head.proofs.OneAnswer.{one_answer}
use Rattle.dl_head.proofs.StepCells.{cells_on}
use Rattle.dl_head.proofs.SamePlace.{Guards, counted}
use Rattle.dl_head.proofs.MovedReader.{nothing_on, moved_within, cells_taken}
use Rattle.dl_head.proofs.ByteCounted.{Counts, settled, failed, stands_so, unit_of, fits_of}

-- what the bytes c come to, by the dialect
pub by_dialect : {d e : Dialect} {fin : HeadReader} {c : List ℕ} (result : HeadStep) → d ≡ e
    → Answers d c result × StandsFor fin c → Answers e c result × StandsFor fin c
by_dialect {d} {e} {fin} {c} result dialect p = (subst (λ (d : Dialect). Answers d c result) dialect p.0, p.1)

answers_of : (r : HeadReader) (b : List ℕ) (a : HeadStep) → Stands r (Some a) b → Answers r.dialect b a
answers_of r b answer.Done t = (t.h, t.is)
answers_of r b (answer.Foreign v) t = t.0
answers_of r b (answer.Fault f) t = t.0
answers_of r b answer.More t = absurd t
answers_of r b answer.NoMemory t = absurd t

-- the header came to something before
pub ended_step : (r : HeadReader) (b : List ℕ) (x : ℕ) (a : HeadStep) → ending r.phase ≡ Some a → a ≢ answer.More
    → StandsFor r b → Steps r.dialect b x a r
ended_step r b x a is other s =
    let answers = answers_of r b a (subst (λ (o : Option HeadStep). Stands r o b) is s.stands) in
    record {
      ended = λ q c m. (one_answer r.dialect b a q answers c, s);
      unfed = λ e. absurd (subst (λ (q : HeadStep). Answers r.dialect b q) e answers);
      taken = λ more fed. absurd (other (one_answer r.dialect b a answer.More answers more));
    }

-- what has come of the bytes is what they come to
pub ended_as : (r : HeadReader) (b : List ℕ) (a q : HeadStep) → ending r.phase ≡ Some a → StandsFor r b
    → Answers r.dialect b q → a ≡ q
ended_as r b a q is s answers =
    one_answer r.dialect b a q (answers_of r b a (subst (λ (o : Option HeadStep). Stands r o b) is s.stands)) answers

-- a header that has come to something doesn't go on
pub ended_other : (r : HeadReader) (b : List ℕ) (a : HeadStep) → ending r.phase ≡ Some a → StandsFor r b
    → a ≢ answer.More
ended_other r b a is s more = subst (λ (o : Option HeadStep). Stands r o b) (is ∙ ap Some more) s.stands

pub ended_whole : (r : HeadReader) (b : List ℕ) (a : HeadStep) → ending r.phase ≡ Some a → StandsFor r b
    → Answers r.dialect b answer.More → ⊥
ended_whole r b a is s more = ended_other r b a is s (ended_as r b a answer.More is s more)

-- a header that came to nothing goes on
pub goes_more : (r : HeadReader) (b : List ℕ) → StandsFor r b → Answers r.dialect b answer.More → ending r.phase ≡ None
goes_more r b s more = on (ending r.phase) refl s.stands where
  on : (o : Option HeadStep) → ending r.phase ≡ o → Stands r o b → ending r.phase ≡ None
  on None e t = e
  on (Some a) e t = absurd (subst (λ (q : HeadStep). Stands r (Some q) b)
      (one_answer r.dialect b a answer.More (answers_of r b a t) more) t)

pub within_step : {r new fin : HeadReader} {b : List ℕ} {x : ℕ} (result : HeadStep) (g : Guards new) (t : ℕ)
    → Live r b × Unmade r b → PushFollows r x byte_makes.Within new → t ≡ length b + 1
    → Settles (counted new g new.start t) result fin
    → Answers r.dialect (b ++ x ∷ []) result × StandsFor fin (b ++ x ∷ [])
within_step {r} {new} {fin} {b} {x} result g t l f count s =
    by_dialect result f.counts.dialect (settled result (moved_within r new g b x t l.0 l.1 f count) s)

bad_decided : (dialect : Dialect) (b : List ℕ) (x : ℕ) (items : List Item) (rest : List ℕ) (kind : FaultKind)
    → cut dialect b ≡ cut_of items rest
    → field_spelt dialect.order (following_all (header_layout dialect) items) (rest ++ x ∷ []) ≡ bad kind
    → header_decided dialect (b ++ x ∷ []) ≡ Some kind
bad_decided dialect b x items rest kind e spelt =
    ap (λ (c : Cut). cut_decided dialect (length (b ++ x ∷ [])) c) (cut_bad dialect b x items rest kind e spelt)
    ∙ ap (λ (o : Judgement Item). or_else (bad_kind o)
    (header_overrun (length (b ++ x ∷ [])) items (following_all (header_layout dialect) items))) spelt

-- the byte ends a bad field
pub refused_step : {r new fin : HeadReader} {b : List ℕ} {x : ℕ} {kind : FaultKind} {result : HeadStep}
    (g : Guards new) (t : ℕ) → StandsFor r b → Live r b × Unmade r b → PushFollows r x (byte_makes.Refuses kind) new
    → SameUnit r new → t ≡ length b + 1 → Fails (counted new g new.start t) kind result fin
    → Answers r.dialect (b ++ x ∷ []) result × StandsFor fin (b ++ x ∷ [])
refused_step {r} {new} {fin} {b} {x} {kind} {result} g t stands l f unit count fails =
    let spelt = f.made l.0.items l.0.rest l.0.at in
    let cut_is = cut_bad r.dialect b x l.0.items l.0.rest kind l.0.read.cut_is spelt in
    let size = length-append b (x ∷ []) in
    let refused : HeaderRefused r.dialect (b ++ x ∷ []) new.start kind = record {
      place = rw cut_is (omega (arith, f.counts.start, l.0.start_is, size, length-append l.0.rest (x ∷ [])));
      decided = bad_decided r.dialect b x l.0.items l.0.rest kind l.0.read.cut_is spelt;
      shortest = nothing_on r.dialect b x l.0.read.nothing_before (live_quiet r b l.0);
    } in
    let up = subst (λ (n : ℕ). UpTo n (end_from l.0.items)) (sym size) (below_next (length b) (end_from l.0.items)
    (subst (λ (o : Option ℕ). Below (length b) o) (end_is r l.0.items l.0.rest l.0.at).end l.0.below)) in
    let mid = counted new g new.start t in
    let same : unit_known (end_of_unit new) new.end ≡ unit_known (end_of_unit r) r.end = cc in
    let counts : Counts r.dialect mid (b ++ x ∷ []) = record {
      taken = omega (arith, count, size);
      unit = same ∙ stands.unit ∙ ap (λ (c : Cut). unit_end c.items) l.0.read.cut_is
          ∙ sym (ap (λ (c : Cut). unit_end c.items) cut_is);
      within = fits_of r.dialect (b ++ x ∷ []) cut_is l.0.read.ends_within up;
    } in
    by_dialect result f.counts.dialect (failed {r = mid} (rw f.counts.dialect refused) (record {
      header = f.counts.header ∙ l.1.header;
      cells_are = cells_taken r new b x l.0 l.1 f.counts (f.cells l.0.items l.0.rest l.0.at);
    }) (subst (λ (d : Dialect). Counts d mid (b ++ x ∷ [])) (sym f.counts.dialect) counts) fails)

-- a reader that has taken nothing, though its vectors may have moved
pub kept_stands : (r new : HeadReader) (b : List ℕ) → ending r.phase ≡ None → StandsFor r b
    → (l : Live r b × Unmade r b) → At new l.0.items l.0.rest → SameCounts r new → held_cells new ≡ held_cells r
    → StandsFor new b
kept_stands r new b goes stands l at counts same_cells =
    stands_so None (ends_not (place_of new items rest at)) (live, unmade) counts.dialect (record {
      taken = counts.taken ∙ stands.taken;
      unit = unit_of new read (end_is new items rest at) ∙ ap (λ (d : Dialect). unit_len d b) counts.dialect;
      within = stands.within;
    }) where
      items : List Item
      items = l.0.items

      rest : List ℕ
      rest = l.0.rest

      ends_not : Place new new.phase items → ending new.phase ≡ None
      ends_not (in_field none out next) = none
      ends_not (in_padding is tail) = ap ending is
      ends_not (in_foreign v is follows) = absurd
          (none_some (not_foreign r r.phase items goes (place_of r items rest l.0.at))
          (ap (λ (d : Dialect). foreign_made (following_all (header_layout d) items)) (sym counts.dialect)
          ∙ ap foreign_made follows))

      end_same : new.end ≡ r.end
      end_same = (end_is new items rest at).end ∙ sym (end_is r items rest l.0.at).end

      read : IsRead new.dialect b items rest
      read = subst (λ (d : Dialect). IsRead d b items rest) (sym counts.dialect) l.0.read

      live : Live new b
      live = record {
        items = items;
        rest = rest;
        read = read;
        at = at;
        start_is = omega (arith, counts.start, l.0.start_is);
        below = subst (λ (o : Option ℕ). Below (length b) o) (sym end_same) l.0.below;
      }

      unmade : Unmade new b
      unmade = record {
        header = counts.header ∙ l.1.header;
        cells_are = same_cells ∙ l.1.cells_are ∙ ap (λ (d : Dialect). cells d b) (sym counts.dialect);
      }

-- memory was refused
pub unfed_step : (r new : HeadReader) (b : List ℕ) (x : ℕ) → ending r.phase ≡ None → StandsFor r b
    → Live r b × Unmade r b → PushFollows r x byte_makes.NoMemory new → WasRefused SystemRefuses
    → RefusesCell r.dialect b x × StandsFor new b
unfed_step r new b x goes stands l f refused = (
  (
    omega (arith, (f.cells l.0.items l.0.rest l.0.at).1, cells_on r.dialect b x l.0.items l.0.rest l.0.read.cut_is),
    refused,
  ),
  kept_stands r new b goes stands l (f.made l.0.items l.0.rest l.0.at) f.counts
      (f.cells l.0.items l.0.rest l.0.at).0,
)

pub live_of : (r : HeadReader) (b : List ℕ) → ending r.phase ≡ None → StandsFor r b → Live r b × Unmade r b
live_of r b goes s = subst (λ (o : Option HeadStep). Stands r o b) goes s.stands

-- a new reader
pub new_stands : (r : HeadReader) (n : PartialNumber) → r.phase ≡ phase.UnitLength n → number_bytes n ≡ []
    → number_size n ≡ 4
    → AtStart r [] → r.taken ≡ 0 → r.start ≡ 0 → r.header ≡ None
    → table_cells r.directories ≡ 0 → table_cells r.files ≡ 0 → StandsFor r []
new_stands r n is none size at taken start header directories files = record {
  stands = subst (λ (o : Option HeadStep). Stands r o []) (sym (ap ending is)) (
    record {
      items = [];
      rest = [];
      read = record {
        cut_is = refl;
        unjudged = refl;
        nothing_before = λ front x back e. absurd (no_front front x back e);
        ends_within = λ n e u h. absurd (none_some refl u);
      };
      at = subst (λ (p : Phase). AtPhase r p [] []) (sym is) (at, none, size);
      start_is = omega (arith, start);
      below = subst (λ (o : Option ℕ). Below 0 o) (sym at.end) tt;
    },
    record {
      header = header;
      cells_are = omega (
        arith,
        directories,
        files,
        ap length fresh.pairs,
        ap length fresh.values,
        ap length fresh.pool,
        ap length at.before.unlisted.pairs,
        ap length at.before.unlisted.values,
        ap length at.before.unlisted.pool,
      );
    },
  );
  taken = taken;
  unit = ap (λ (o : Option ℕ). unit_known (end_of_unit r) o) at.end;
  within = λ n e. absurd (none_some refl e);
} where
  fresh : IsFresh r.table
  fresh = at.before.fresh

  no_front : (front : List ℕ) (x : ℕ) (back : List ℕ) → ◌≡◌ {A = List ℕ} [] (front ++ x ∷ back) → ⊥
  no_front [] x back e = absurd cc
  no_front (y ∷ front) x back e = absurd cc

-- one that goes on has come to nothing
pub still_goes : (r : HeadReader) (b : List ℕ) (q : HeadStep) → ending r.phase ≡ None → StandsFor r b
    → Answers r.dialect b q → q ≢ answer.More → ⊥
still_goes r b q goes s answers other =
    other (one_answer r.dialect b q answer.More answers (live_more r b goes (live_of r b goes s).0))
