use Rattle.std.proofs.Common.{◌≡◌, ◌+◌, ◌-◌, ◌≤◌, ◌∙◌, [], List, ℕ, ap, arith, length, refl, rules, subst, sym}
use Rattle.dl_num.specs.declared.fixed.Order.{Order}
use Rattle.dl_info.specs.Section.{section_of}
use Rattle.dl_info.specs.declared.head.UnitLength.{UnitLength}
use Rattle.dl_info.specs.declared.unit.Answer.{Answer}
use Rattle.dl_info.specs.declared.unit.Answer.TheVariants.{Found, More, Unreadable}
use Rattle.dl_dirs.specs.declared.walk.InfoStage.{InfoStage}
use Rattle.dl_dirs.specs.declared.walk.InfoStage.TheVariants as state
use Rattle.dl_dirs.specs.declared.walk.Walk.{Walk}
use Rattle.dl_dirs.specs.Standing.{Awaits, KeepsWith, StandsAt, begun as begun_front, passed, told_length}
use Rattle.dl_dirs.proofs.UnitLemmas.{told_found, wants_more}
use Rattle.dl_dirs.proofs.KeepLemmas.{keeps_read}
use Rattle.dl_dirs.proofs.WalkLemmas.{after_more, after_unit, begun, ends_front, ends_over, more_in, moved, read_of}
use Rattle.dl_dirs.proofs.walk.Walk.read_front.Goals as goal
use Rattle.dl_dirs.proofs.walk.Walk.read_front.Goals.{in-Found, in-More, in-Unreadable}

pub awaited-requires : goal.awaited-requires
awaited-requires g c l is =
    let walk = c.args.self.now in
    let told : told_length walk.places.order (section_of walk.abbreviations) walk.front.items ≡ More =
    ap (told_length walk.places.order (section_of walk.abbreviations)) (sym c.deref.ensures.value)
    ∙ (sym c.in_ok-unit.ensures.length ∙ c.in-More.is) in
    rw c.deref-in-More.ensures.value
    (wants_more walk.places.order (section_of walk.abbreviations) walk.front.items told l
    (rw (← c.read.ensures.order, ← c.deref-in-More.ensures.value) is))

pub returns-clause-stands : goal.returns-clause-stands
returns-clause-stands g c order abbreviations b goes fits =
    let walk = c.args.self.now in
    let front = walk.front.items in
    let places = c.read.new.places in
    let new : Walk = record {
      abbreviations = c.read.new.abbreviations;
      state = c.match-branch-2.self;
      front = walk.front;
      places = places;
    } in
    let read = λ (answer : Answer UnitLength) (is : c.in_ok-unit.field-0 ≡ answer).
    read_of walk places c.deref.result.now front c.in_ok-unit.field-0 answer c.deref.ensures.value is
    c.read.ensures.order c.in_ok-unit.ensures.length c.in_ok-unit.ensures.holds in
    elim c.match-branch-2.branch [
      | in-Found w ↦
          let l = w.in-Found.unit in
          let m = moved walk order abbreviations b front goes places front (Found l) (read (Found l) w.in-Found.is) in
          let within = fits l (told_found order abbreviations front (Found l) (λ more. absurd cc) m.told).length in
          let left : w.saturating_sub.result ≡ l.size - length front = search rules in
          after_unit walk order abbreviations b front goes new c.read.ensures.abbreviations front b (Found l) m
          (subst
          (λ (x : InfoStage). StandsAt order abbreviations x front b (more_in walk order abbreviations b front goes front))
          (sym (w.self-is ∙ ap state.Body left))
          (ends_front order abbreviations b goes.es front front l goes.onward m.told within))
      | in-More w ↦
          let m = moved walk order abbreviations b front goes places front More (read More w.in-More.is) in
          let before : Walk = record {
            abbreviations = c.read.new.abbreviations;
            state = walk.state;
            front = walk.front;
            places = places;
          } in
          let awaits = subst (λ (v : List ℕ). Awaits places.order v w.awaited.result) w.deref-in-More.ensures.value
          w.awaited.ensures in
          begun before new order abbreviations b w.awaited.result refl refl w.self-is
          (subst (λ (o : Order). Awaits o front w.awaited.result) m.order_is awaits)
          (after_more walk order abbreviations b front goes before c.read.ensures.abbreviations front b More m front refl goes.onward)
      | in-Unreadable w ↦
          let m = moved walk order abbreviations b front goes places front Unreadable
          (read Unreadable w.in-Unreadable.is) in
          after_unit walk order abbreviations b front goes new c.read.ensures.abbreviations front b Unreadable m
          (subst
          (λ (x : InfoStage). StandsAt order abbreviations x front b (more_in walk order abbreviations b front goes front))
          (sym w.self-is) (ends_over order abbreviations b goes.es front front goes.onward m.told))
    ]

pub returns-clause-few : goal.returns-clause-few
returns-clause-few g c taken k =
    let front = c.args.self.now.front.items in
    let u = c.deref.result.now in
    let places = c.read.new.places in
    let answer = c.in_ok-unit.field-0 in
    let same : length u ≡ length front = ap (λ (l : List ℕ). length l) c.deref.ensures.value in
    let read : (left : List ℕ) → taken + passed answer u + length left ≤ taken + length front → KeepsWith places left taken =
    λ left le. keeps_read c.args.self.now.places places u answer _ c.in_ok-unit.ensures.few c.in_ok-unit.ensures.holds front left
    taken taken le k in
    elim c.match-branch-2.branch [
      | in-Found w ↦
          subst (λ (s : InfoStage). KeepsWith places (begun_front s front) taken) (sym w.self-is)
          (read [] (omega (arith, same, ap (λ a. passed a u) w.in-Found.is)))
      | in-More w ↦
          subst (λ (s : InfoStage). KeepsWith places (begun_front s front) taken) (sym w.self-is)
          (read front (omega (arith, same, ap (λ a. passed a u) w.in-More.is)))
      | in-Unreadable w ↦
          subst (λ (s : InfoStage). KeepsWith places (begun_front s front) taken) (sym w.self-is)
          (read [] (omega (arith, same, ap (λ a. passed a u) w.in-Unreadable.is)))
    ]
