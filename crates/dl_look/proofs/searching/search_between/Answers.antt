use Rattle.std.proofs.Common.{◌≡◌, ℕ, ◌+◌, ◌-◌, ◌/◌, ◌<◌, Bool, List, length, get_or, arith, sym, ap, ◌∙◌}
use Rattle.std.proofs.lemmas.List.{get_or_default}
use Rattle.dl_rows.specs.declared.row.Row.{Row}
use Rattle.dl_look.specs.declared.place.Place.{Place}
use Rattle.dl_look.specs.Answer.{place_of, is_at_most}
use Rattle.dl_look.proofs.LastUpto.{no_row, place_at}
use Rattle.dl_look.proofs.Halving.{starts, ends, goes_up, goes_down}
use Rattle.dl_look.proofs.searching.search_between.Goals as goal

-- the row that a probe gave
probed : (rows now : List Row) (i : ℕ) (r : Row) → now ≡ rows → i < length rows → r ≡ get_or now i r
    → r ≡ get_or rows i no_row
probed rows now i r same lt is = is ∙ ap (λ l. get_or l i r) same ∙ get_or_default rows i r no_row lt

-- what the test of its place says
tested : (rows : List Row) (i : ℕ) (r : Row) (p x : Place) (test is : Bool) → r ≡ get_or rows i no_row → p ≡ place_of r
    → test ≡ is_at_most p x → test ≡ is → is_at_most (place_at rows i) x ≡ is
tested rows i r p x test is row at says e =
    ap (λ q. is_at_most (place_of q) x) (sym row) ∙ ap (λ q. is_at_most q x) (sym at) ∙ sym says ∙ e

pub loop-high-init : goal.loop-high-init
loop-high-init g c =
    starts (g.T.Probed.list c.args.table.now) c.args.start c.args.len c.args.place c.requires.within _ c.requires.low
    c.requires.high

pub loop-high-preserved-then-is_at_most : goal.loop-high-preserved-then-is_at_most
loop-high-preserved-then-is_at_most g c =
    let l = c.loop-high in
    let a = l.invariant in
    let rows = g.T.Probed.list c.args.table.now in
    let row =
    probed rows _ (l.low + (l.high - l.low) / 2) c.row.result a.same
    (omega (arith, a.to, a.apart, c.requires.within)) c.row.ensures.value in
    let test =
    tested rows _ c.row.result _ c.args.place _ _ row c.of.ensures c.is_at_most.ensures c.if-is_at_most.true in
    rw c.row.ensures.counted (goes_up rows c.args.start c.args.len c.args.place c.requires.within _ _ _ _ _ a
    c.loop-high-test.true _ c.row.ensures.same test)

pub loop-high-preserved : goal.loop-high-preserved
loop-high-preserved g c =
    let l = c.loop-high in
    let a = l.invariant in
    let rows = g.T.Probed.list c.args.table.now in
    let row =
    probed rows _ (l.low + (l.high - l.low) / 2) c.row.result a.same
    (omega (arith, a.to, a.apart, c.requires.within)) c.row.ensures.value in
    let test =
    tested rows _ c.row.result _ c.args.place _ _ row c.of.ensures c.is_at_most.ensures c.if-is_at_most.false in
    rw c.row.ensures.counted (goes_down rows c.args.start c.args.len c.args.place c.requires.within _ _ _ _ _ a
    c.loop-high-test.true _ c.row.ensures.same test)

pub returns-clause-value : goal.returns-clause-value
returns-clause-value g c =
    let l = c.loop-high in
    let a = l.invariant in
    let rows = g.T.Probed.list c.args.table.now in
    let row =
    probed rows _ l.low c.row-2.result a.same (omega (arith, a.to, a.apart, c.requires.within))
    c.row-2.ensures.value in
    rw row (ends rows c.args.start c.args.len c.args.place c.requires.within _ _ _ _ _ a c.loop-high-test.false
    c.requires.rising)
