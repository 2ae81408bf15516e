use Rattle.std.proofs.Common.{sym, ◌∙◌, arith}
use Rattle.dl_index.specs.Shown.{bytes_of}
use Rattle.dl_index.proofs.FindLemmas.{finds, finds_nothing, found_one}
use Rattle.dl_index.proofs.index.IndexRef.found_from.Goals as goal

pub returns-then-address-self : goal.returns-then-address-self
returns-then-address-self c =
    let self = c.args.self.now in
    let based = self.laid_out.sizes.base in
    let below = c.if-address-self.true in
    record { exact = λ is. sym (finds_nothing (bytes_of self) c.args.address (omega arith)); stands = tt; places = tt }

pub returns : goal.returns
returns c =
    let self = c.args.self.now in
    let b = bytes_of self in
    let k = c.args.k in
    let based = self.laid_out.sizes.base in
    let above = c.if-address-self.false in
    let within = c.requires.within in
    record {
      exact = λ is.
          (let first = is.ordered.first (omega arith) in
          let rise = is.ordered.rise in
          c.found.ensures.told
          ∙ sym (finds b c.args.address k (omega arith) rise (c.requires.last rise (omega arith))));
      stands = found_one b k c.found.result within c.found.ensures.told;
      places = c.found.ensures.places;
    }
