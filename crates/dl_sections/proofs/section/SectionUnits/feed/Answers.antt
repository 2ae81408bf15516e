use Rattle.std.proofs.Common.{arith, refl, length-append}
use Rattle.std.proofs.lemmas.Result.{err_from_is_err_and}
use Rattle.dl_sections.proofs.FeedLemmas.{stops_within, damaged, turn, goes_on, goes_on_quietly, stops_told, idle, unmet, ended}
use Rattle.dl_sections.proofs.FeedLemmas.{next_unit, no_more, stops_at_end}
use Rattle.dl_sections.proofs.section.SectionUnits.feed.Goals as goal

pub events-init : goal.events-init
events-init g c = record {
  fed = λ dialect past t units b first start are short tells. record {
    read = t;
    whole = refl;
    short = omega (arith, length-append t c.args.piece.now);
    units = units;
    b = b;
    are = are;
    tells = tells;
  };
}

pub returns-in_err-fed-clause-fed : goal.returns-in_err-fed-clause-fed
returns-in_err-fed-clause-fed g c dialect past t units b first start are short tells =
    let p = err_from_is_err_and c.from_residual.result c.from_residual.ensures.1 in
    let so = c.events.invariant.fed dialect past t units b first start are short tells in
    rw (p.1, p.2) (stops_within so (c.in_err-fed.ensures.told so.b so.are.stands))

pub returns-in-Err-clause-fed : goal.returns-in-Err-clause-fed
returns-in-Err-clause-fed g c dialect past t units b first start are short tells =
    let so = c.events.invariant.fed dialect past t units b first start are short tells in
    damaged so (c.in_ok-fed.ensures.told so.b so.are.stands) c.in-Err.is c.damage.ensures

pub returns-in-More-clause-fed : goal.returns-in-More-clause-fed
returns-in-More-clause-fed g c dialect past t units b first start are short tells =
    let so = c.events.invariant.fed dialect past t units b first start are short tells in
    idle (turn so (c.in_ok-fed.ensures.told so.b so.are.stands) c.in-Ok.is) c.in-More.is c.if-fed-eq0.true

pub events-preserved-else-fed-eq0 : goal.events-preserved-else-fed-eq0
events-preserved-else-fed-eq0 g c = record {
  fed = λ dialect past t units b first start are short tells.
      let so = c.events.invariant.fed dialect past t units b first start are short tells in
      goes_on_quietly (turn so (c.in_ok-fed.ensures.told so.b so.are.stands) c.in-Ok.is) c.in-More.is;
}

pub returns-in-NoMemory-clause-fed : goal.returns-in-NoMemory-clause-fed
returns-in-NoMemory-clause-fed g c dialect past t units b first start are short tells =
    let so = c.events.invariant.fed dialect past t units b first start are short tells in
    unmet (turn so (c.in_ok-fed.ensures.told so.b so.are.stands) c.in-Ok.is) c.in-NoMemory.is

pub returns-in_err-end-in-End-clause-fed : goal.returns-in_err-end-in-End-clause-fed
returns-in_err-end-in-End-clause-fed g c dialect past t units b first start are short tells =
    let p = err_from_is_err_and c.from_residual-in_err-end-in-End.result c.from_residual-in_err-end-in-End.ensures.1 in
    let so = c.events.invariant.fed dialect past t units b first start are short tells in
    let t = turn so (c.in_ok-fed.ensures.told so.b so.are.stands) c.in-Ok.is in
    let e = ended t c.in-End.is in
    rw (p.1, p.2) (stops_at_end t e _ _ (c.in_err-end-in-End.ensures.heard _ t.stands first start t.visits t.tells e.header))

pub events-preserved-in-On : goal.events-preserved-in-On
events-preserved-in-On g c = record {
  fed = λ dialect past t units b first start are short tells.
      let so = c.events.invariant.fed dialect past t units b first start are short tells in
      let t = turn so (c.in_ok-fed.ensures.told so.b so.are.stands) c.in-Ok.is in
      let e = ended t c.in-End.is in
      let end = c.in_ok-end-in-End.ensures in
      next_unit t e c.in-On.is (end.units dialect past _ t.units _ e.are e.unit e.small)
      (end.heard _ t.stands first start t.visits t.tells e.header);
}

pub returns-in-Stop-clause-fed : goal.returns-in-Stop-clause-fed
returns-in-Stop-clause-fed g c dialect past t units b first start are short tells =
    let so = c.events.invariant.fed dialect past t units b first start are short tells in
    let t = turn so (c.in_ok-fed.ensures.told so.b so.are.stands) c.in-Ok.is in
    let e = ended t c.in-End.is in
    let end = c.in_ok-end-in-End.ensures in
    no_more t e c.in-Stop.is (end.units dialect past _ t.units _ e.are e.unit e.small)
    (end.heard _ t.stands first start t.visits t.tells e.header)

pub events-preserved : goal.events-preserved
events-preserved g c = record {
  fed = λ dialect past t units b first start are short tells.
      let so = c.events.invariant.fed dialect past t units b first start are short tells in
      let t = turn so (c.in_ok-fed.ensures.told so.b so.are.stands) c.in-Ok.is in
      goes_on t (c.in_ok-tell-in_default.ensures.heard _ t.stands first start t.visits t.tells)
      c.tell.ensures.counted;
}

pub returns-in_err-tell-in_default-clause-fed : goal.returns-in_err-tell-in_default-clause-fed
returns-in_err-tell-in_default-clause-fed g c dialect past t units b first start are short tells =
    let p = err_from_is_err_and c.from_residual-in_err-tell-in_default.result
    c.from_residual-in_err-tell-in_default.ensures.1 in
    let so = c.events.invariant.fed dialect past t units b first start are short tells in
    let t = turn so (c.in_ok-fed.ensures.told so.b so.are.stands) c.in-Ok.is in
    rw (p.1, p.2) (stops_told t _ _ (c.in_err-tell-in_default.ensures.heard _ t.stands first start t.visits t.tells))

pub returns-in_err-fed-clause-blames_writer : goal.returns-in_err-fed-clause-blames_writer
returns-in_err-fed-clause-blames_writer g c dialect past t units b first start are short tells =
    let p = err_from_is_err_and c.from_residual.result c.from_residual.ensures.1 in
    let so = c.events.invariant.fed dialect past t units b first start are short tells in
    rw (p.1, p.2) (c.in_err-fed.ensures.blames_writer so.b so.are.stands)
