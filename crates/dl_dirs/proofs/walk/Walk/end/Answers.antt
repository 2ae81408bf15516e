use Rattle.std.proofs.Common.{List, ℕ, ◌≡◌, ◌+◌, ap, arith, length, refl, subst, sym}
use Rattle.dl_dirs.specs.declared.places.Places.{Places}
use Rattle.dl_dirs.specs.declared.walk.InfoStage.{InfoStage}
use Rattle.dl_dirs.specs.Holding.{Holds}
use Rattle.dl_dirs.specs.Standing.{GoesOn, StandsAt}
use Rattle.dl_dirs.specs.Units.{HasDirectory, entries, found_in}
use Rattle.dl_info.specs.Section.{section_of}
use Rattle.dl_info.specs.Units.{first_entry}
use Rattle.dl_num.specs.declared.fixed.Order.{Order}
use Rattle.dl_dirs.proofs.HoldLemmas.{has_more, if_err}
use Rattle.dl_dirs.proofs.KeepLemmas.{begun_keeps, fewer}
use Rattle.dl_dirs.proofs.WalkLemmas.{all_passed, all_told, moved, read_of}
use Rattle.dl_dirs.proofs.walk.Walk.end.Goals as goal
use Rattle.dl_dirs.proofs.walk.Walk.end.Goals.{in-Begun+in_ok-read, in_default}

pub returns-clause-places : goal.returns-clause-places
returns-clause-places g c order abbreviations b s =
    let walk = c.args.self in
    let front = walk.front.items in
    let es = entries order abbreviations b in
    elim c.match-state.branch [
      | in-Begun+in_ok-read w ↦
          let begun = subst (λ (x : InfoStage). StandsAt order abbreviations x front b s.es) w.in-Begun.is s.stands in
          let goes : GoesOn walk order abbreviations b front = record {
            order_is = s.order_is;
            abbreviations_are = s.abbreviations_are;
            es = s.es;
            holds = s.holds;
            onward = begun.1;
          } in
          let m = moved walk order abbreviations b front goes w.read.new.places front w.in_ok-read.field-0
          (read_of walk w.read.new.places w.deref.result.now front w.in_ok-read.field-0 w.in_ok-read.field-0
          w.deref.ensures.value refl w.read.ensures.order w.in_ok-read.ensures.length w.in_ok-read.ensures.holds) in
          subst (λ (p : Places). (p.order ≡ order) × Holds p es) (sym w.places-is) (
            m.order_is,
            subst (Holds w.read.new.places)
                (sym (all_told order abbreviations b front s.es w.in-Begun.field-0 begun.0 begun.1)) m.holds,
          )
      | in_default w ↦
          subst (λ (p : Places). (p.order ≡ order) × Holds p es) (sym w.places-is) (
            s.order_is,
            subst (Holds walk.places)
                (sym (all_passed order abbreviations front b s.es walk.state w.in_default.not-Begun s.stands)) s.holds,
          )
    ]

pub returns-in_err-read-clause-memory : goal.returns-in_err-read-clause-memory
returns-in_err-read-clause-memory g c order abbreviations b s =
    let walk = c.args.self in
    let front = walk.front.items in
    let begun = subst (λ (x : InfoStage). StandsAt order abbreviations x front b s.es) c.in-Begun.is s.stands in
    let of_front = subst
    (λ (u : List ℕ). HasDirectory (found_in (first_entry walk.places.order (section_of walk.abbreviations) u)))
    c.deref.ensures.value c.in_err-read.ensures.memory in
    let said = subst (λ (o : Order). HasDirectory (found_in (first_entry o abbreviations front))) s.order_is
    (subst (λ (a : List ℕ). HasDirectory (found_in (first_entry walk.places.order a front))) s.abbreviations_are
    of_front) in
    if_err c.from_residual.result _
    (subst HasDirectory (sym (all_told order abbreviations b front s.es c.in-Begun.field-0 begun.0 begun.1))
    (has_more s.es (found_in (first_entry order abbreviations front)) said))

pub returns-in_err-read-clause-refused : goal.returns-in_err-read-clause-refused
returns-in_err-read-clause-refused g c taken keeps =
    let k = begun_keeps c.args.self c.in-Begun.field-0 taken c.in-Begun.is keeps in
    if_err c.from_residual.result _
    (fewer (g.M.Memory.refuses c.args.memory.now) (k.over + length c.deref.result.now) taken
    (omega (arith, k.within, ap (λ (l : List ℕ). length l) c.deref.ensures.value))
    (c.in_err-read.ensures.refused k.over k.fits k.es k.holds))
