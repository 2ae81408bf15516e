use Rattle.std.proofs.Common.{◌∙◌, ◌+◌, ◌++◌, ap, arith, length, refl, sym, take, []}
use Rattle.dl_info.specs.Section.{section_of}
use Rattle.dl_info.specs.declared.unit.Answer.TheVariants.{Found, More, Unreadable}
use Rattle.dl_dirs.specs.Standing.{passed}
use Rattle.dl_dirs.proofs.KeepLemmas.{keeps_read}
use Rattle.dl_dirs.proofs.UnitLemmas.{wants_more}
use Rattle.dl_dirs.proofs.WalkLemmas.{after_more, after_unit, begins, begins_more, begins_none, moved, some_size}
use Rattle.dl_dirs.proofs.walk.Walk.begin.Goals as goal

pub returns-in-Found-clause-stands : goal.returns-in-Found-clause-stands
returns-in-Found-clause-stands g c order abbreviations b goes =
    let walk = c.args.self.now in
    let piece = c.args.piece.now in
    let l = c.in-Found.unit in
    let used = c.min-used.result in
    let m = moved walk order abbreviations b [] goes c.read.new.places piece (Found l) (record {
      order = c.read.ensures.order;
      length = sym c.in-Found.is ∙ c.in_ok-unit.ensures.length;
      holds = c.in_ok-unit.ensures.holds;
    }) in
    let four = some_size order abbreviations piece l m.told in (
      omega (arith, four, c.requires, c.min-used.ensures),
      after_unit walk order abbreviations b [] goes _ c.read.ensures.abbreviations piece (b ++ take used piece) (Found l) m
          (begins order abbreviations b goes.es piece walk.front.items l used goes.onward m.told c.min-used.ensures),
    )

pub keep-requires : goal.keep-requires
keep-requires g c l is =
    wants_more c.args.self.now.places.order (section_of c.args.self.now.abbreviations) c.args.piece.now
    (sym c.in_ok-unit.ensures.length ∙ c.in-More.is) l (rw (← c.read.ensures.order) is)

pub returns-in_ok-keep-in-More-clause-stands : goal.returns-in_ok-keep-in-More-clause-stands
returns-in_ok-keep-in-More-clause-stands g c order abbreviations b goes =
    let walk = c.args.self.now in
    let piece = c.args.piece.now in
    let m = moved walk order abbreviations b [] goes c.read.new.places piece More (record {
      order = c.read.ensures.order;
      length = sym c.in-More.is ∙ c.in_ok-unit.ensures.length;
      holds = c.in_ok-unit.ensures.holds;
    }) in (
      c.requires,
      c.in_ok-keep-in-More.ensures.stands order abbreviations (b ++ take (length piece) piece)
          (after_more walk order abbreviations b [] goes
          (record {
            abbreviations = c.read.new.abbreviations;
            state = walk.state;
            front = walk.front;
            places = c.read.new.places;
          })
          c.read.ensures.abbreviations piece (b ++ take (length piece) piece) More m piece refl
          (begins_more order abbreviations b goes.es piece goes.onward)),
    )

pub returns-in-Unreadable-clause-stands : goal.returns-in-Unreadable-clause-stands
returns-in-Unreadable-clause-stands g c order abbreviations b goes =
    let walk = c.args.self.now in
    let piece = c.args.piece.now in
    let m = moved walk order abbreviations b [] goes c.read.new.places piece Unreadable (record {
      order = c.read.ensures.order;
      length = sym c.in-Unreadable.is ∙ c.in_ok-unit.ensures.length;
      holds = c.in_ok-unit.ensures.holds;
    }) in (
      c.requires,
      after_unit walk order abbreviations b [] goes _ c.read.ensures.abbreviations piece (b ++ take (length piece) piece) Unreadable m
          (begins_none order abbreviations b goes.es piece walk.front.items goes.onward m.told),
    )

pub returns-in-Found-clause-few : goal.returns-in-Found-clause-few
returns-in-Found-clause-few g c taken k =
    let piece = c.args.piece.now in
    keeps_read c.args.self.now.places c.read.new.places piece c.in_ok-unit.field-0 _ c.in_ok-unit.ensures.few
    c.in_ok-unit.ensures.holds [] [] taken (taken + c.min-used.result)
    (omega (arith, ap (λ u. passed u piece) c.in-Found.is, c.min-used.ensures)) k

pub returns-in_ok-keep-in-More-clause-few : goal.returns-in_ok-keep-in-More-clause-few
returns-in_ok-keep-in-More-clause-few g c taken k =
    let piece = c.args.piece.now in
    c.in_ok-keep-in-More.ensures.few (taken + length piece)
    (keeps_read c.args.self.now.places c.read.new.places piece c.in_ok-unit.field-0 _ c.in_ok-unit.ensures.few
    c.in_ok-unit.ensures.holds [] piece taken (taken + length piece) (omega (arith, ap (λ u. passed u piece) c.in-More.is)) k)

pub returns-in-Unreadable-clause-few : goal.returns-in-Unreadable-clause-few
returns-in-Unreadable-clause-few g c taken k =
    let piece = c.args.piece.now in
    keeps_read c.args.self.now.places c.read.new.places piece c.in_ok-unit.field-0 _ c.in_ok-unit.ensures.few
    c.in_ok-unit.ensures.holds [] [] taken (taken + length piece)
    (omega (arith, ap (λ u. passed u piece) c.in-Unreadable.is)) k
