use Rattle.std.proofs.Common.{arith, sym, ap, ◌∙◌, ⊎_elim}
use Rattle.std.specs.Option.{option_map}
use Rattle.dl_index.specs.Shown.{bytes_of, told}
use Rattle.dl_index.proofs.FindLemmas.{finds, finds_nothing, finds_none, found_one}
use Rattle.dl_index.proofs.index.IndexRef.find.Goals as goal

pub returns-in_err-k-clause-told : goal.returns-in_err-k-clause-told
returns-in_err-k-clause-told c is =
    let b = bytes_of c.args.self.now in
    let a = c.args.address in
    ap (option_map told) c.from_residual.ensures
    ∙ sym (⊎_elim (finds_none b a) (finds_nothing b a) c.in_err-k.ensures.none)

pub returns-clause-told : goal.returns-clause-told
returns-clause-told c is =
    let b = bytes_of c.args.self.now in
    let k = c.in_ok-k.ensures in
    let last = k.last is.ordered.rise (is.ordered.first (let within = k.within.0 in omega arith)) in
    c.found.ensures.told ∙ sym (finds b c.args.address c.in_ok-k.k k.within.1 is.ordered.rise last)

pub returns-clause-stands : goal.returns-clause-stands
returns-clause-stands c = found_one (bytes_of c.args.self.now) c.in_ok-k.k c.found.result c.in_ok-k.ensures.within.0 c.found.ensures.told
