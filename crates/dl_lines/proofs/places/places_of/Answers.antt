use Rattle.std.proofs.Common.{[], ◌+◌, ◌<◌, ◌≤◌, List, length, map, ap, ◌∙◌, arith}
use Rattle.std.proofs.lemmas.List.{take_all}
use Rattle.std.proofs.lemmas.Result.{err_from_is_err_and}
use Rattle.dl_lines.specs.Answers.{told_once}
use Rattle.dl_lines.specs.FoundPlaces.{place_told}
use Rattle.dl_lines.specs.Places.{CodePlace}
use Rattle.dl_lines.specs.Printing.{found_places}
use Rattle.dl_lines.proofs.LineLemmas.{places_len}
use Rattle.dl_lines.proofs.PlacesLemmas.{few_more, tells_more}
use Rattle.dl_lines.proofs.places.places_of.Goals as goal

pub loop-number-preserved : goal.loop-number-preserved
loop-number-preserved g c =
    let s = c.args.search.now in
    let l = c.loop-number in
    let test = c.loop-number-test.true in
    let below : l.number < length s.kept.places.items = grind (arith, test) in
    let told = c.in_ok-tell_once.ensures.told in
    record {
      within = omega (arith, below);
      told = tells_more (found_places s) l.number l.told.items c.tell_once.new.told.items told
          (omega (arith, below, places_len s s.kept.places.items)) l.invariant.told;
      few = few_more (found_places s) l.number l.told.items c.tell_once.new.told.items told l.invariant.few;
    }

pub returns-clause-places : goal.returns-clause-places
returns-clause-places g c =
    let s = c.args.search.now in
    let l = c.loop-number in
    let test = c.loop-number-test.false in
    let all : length s.kept.places.items ≤ l.number = grind (arith, test) in
    l.invariant.told
    ∙ ap (λ (p : List CodePlace). map place_told (told_once [] p))
    (take_all l.number (found_places s) (omega (arith, all, places_len s s.kept.places.items)))

pub returns-in_err-tell_once-clause-refused : goal.returns-in_err-tell_once-clause-refused
returns-in_err-tell_once-clause-refused g c =
    let p = err_from_is_err_and c.from_residual.result c.from_residual.ensures.1 in
    let s = c.args.search.now in
    let l = c.loop-number in
    let test = c.loop-number-test.true in
    let below : l.number < length s.kept.places.items = grind (arith, test) in
    rw (p.1) (length l.told.items + 1, omega (arith, below, l.invariant.few), c.in_err-tell_once.ensures.refused)
