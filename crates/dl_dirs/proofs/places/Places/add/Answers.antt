use Rattle.std.proofs.Common.{◌∙◌, ◌+◌, arith, length, refl, sym}
use Rattle.std.specs.BTreeMap.{get}
use Rattle.std.specs.Ordering.{nat_cmp}
use Rattle.dl_dirs.specs.declared.places.Places.{Places}
use Rattle.dl_info.specs.Entries.{entry}
use Rattle.dl_dirs.proofs.HoldLemmas.{added, holds_grown, holds_passed, if_err, none_of, one_says, says_directory, says_table, was_said, where_ok}
use Rattle.dl_dirs.proofs.KeepLemmas.{fewer_err}
use Rattle.dl_dirs.proofs.places.Places.add.Goals as goal

pub returns-in_default-clause-holds : goal.returns-in_default-clause-holds
returns-in_default-clause-holds g c es h =
    holds_passed c.args.self.now es (entry c.args.unit.now) h (λ n said. absurd (says_directory c.args.unit.now n c.in_default.is-1 said))

pub returns-in_default-2-clause-holds : goal.returns-in_default-2-clause-holds
returns-in_default-2-clause-holds g c es h =
    holds_passed c.args.self.now es (entry c.args.unit.now) h (λ n said. absurd (says_table c.args.unit.now n c.in_default.is-0 said))

pub returns-then-contains_key-clause-holds : goal.returns-then-contains_key-clause-holds
returns-then-contains_key-clause-holds g c es h =
    holds_passed c.args.self.now es (entry c.args.unit.now) h
    (was_said c.args.self.now es c.args.unit.now c.in-Some-Some.offset h c.in-Some-Some.is-0
    (sym c.contains_key.ensures ∙ c.if-contains_key.true))

pub returns-clause-holds : goal.returns-clause-holds
returns-clause-holds g c =
    let p = c.args.self.now in
    let u = c.args.unit.now in
    let q : Places = record {
      alloc = p.alloc;
      order = p.order;
      numbers = p.numbers;
      entries = p.entries;
      bytes = c.place_of.new.bytes;
    } in
    where_ok c.keep.result _ _
    (λ keeps. added p q c.keep.new.self u c.in-Some-Some.offset c.in_ok-place.place c.in-Some-Some.text refl refl
    c.in_ok-place.ensures.grows c.in-Some-Some.is-0 c.in-Some-Some.is-1 c.in_ok-place.ensures.placed
    (none_of (get nat_cmp p.numbers c.in-Some-Some.offset) (sym c.contains_key.ensures ∙ c.if-contains_key.false)) keeps)
    c.keep.ensures.holds

pub returns-in_err-place-clause-memory : goal.returns-in_err-place-clause-memory
returns-in_err-place-clause-memory g c =
    if_err c.from_residual.result _
    (one_says c.args.unit.now c.in-Some-Some.offset c.in-Some-Some.text c.in-Some-Some.is-0 c.in-Some-Some.is-1)

pub returns-clause-memory : goal.returns-clause-memory
returns-clause-memory g c =
    if_err c.keep.result _
    (one_says c.args.unit.now c.in-Some-Some.offset c.in-Some-Some.text c.in-Some-Some.is-0 c.in-Some-Some.is-1)

pub returns-clause-refused : goal.returns-clause-refused
returns-clause-refused g c over more fits some few es h =
    let p = c.args.self.now in
    let q : Places = record {
      alloc = p.alloc;
      order = p.order;
      numbers = p.numbers;
      entries = p.entries;
      bytes = c.place_of.new.bytes;
    } in
    fewer_err (g.M.Memory.refuses c.args.memory.now) (length p.entries.items + 1) (over + more)
    (omega (arith, fits.entries, some)) c.keep.result
    (c.keep.ensures.refused es (holds_grown p q es refl refl c.in_ok-place.ensures.grows h))
