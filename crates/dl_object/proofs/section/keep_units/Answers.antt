use Rattle.std.proofs.Common.{◌∙◌, length, arith}
use Rattle.std.proofs.lemmas.Result.{err_from_is_err_and}
use Rattle.std.proofs.lemmas.Slice.{between_to_end}
use Rattle.dl_object.proofs.SectionLemmas.{no_more, cell_wanted, unit_size, unit_within, unit_goes}
use Rattle.dl_object.proofs.section.keep_units.Goals as goal

pub returns-in_err-head-clause-memory : goal.returns-in_err-head-clause-memory
returns-in_err-head-clause-memory c =
    let bytes = c.loop-head.bytes in
    let error = err_from_is_err_and c.from_residual.result c.from_residual.ensures.1 in
    rw error.1
    (cell_wanted c.args.dialect c.args.wanted.now.places.now c.args.wanted.now.section c.args.bytes.now bytes
    c.loop-head.at
    c.loop-head.invariant.so_far _ (between_to_end bytes c.loop-head.at (length bytes) (omega arith))
    c.in_err-head.ensures.memory)

pub returns-in_default-clause-kept : goal.returns-in_default-clause-kept
returns-in_default-clause-kept c =
    let bytes = c.loop-head.bytes in
    no_more c.args.dialect c.args.wanted.now.places.now c.args.wanted.now.section c.args.bytes.now bytes c.loop-head.at
    c.loop-head.invariant.so_far _ (between_to_end bytes c.loop-head.at (length bytes) (omega arith))
    (rw c.in_default.is at c.in_ok-head.ensures.head)

pub loop-head-preserved : goal.loop-head-preserved
loop-head-preserved c =
    let is = rw c.in-Some.is at c.in_ok-head.ensures.head in
    let within = rw c.in-Some.is at c.in_ok-head.ensures.within in
    record {
      len = unit_size c.args.dialect c.args.wanted.now.places.now c.args.wanted.now.section c.args.bytes.now
          c.loop-head.bytes
          c.loop-head.at c.loop-head.invariant.so_far c.loop-head.invariant.within c.in-Some.head is within
          c.keep_unit.new.unit c.keep_unit.ensures c.keep_unit.auto.unit ∙ c.loop-head.invariant.len;
      within = unit_within c.args.dialect c.args.wanted.now.places.now c.args.wanted.now.section c.args.bytes.now
          c.loop-head.bytes
          c.loop-head.at c.loop-head.invariant.so_far c.loop-head.invariant.within c.in-Some.head is within
          c.keep_unit.new.unit c.keep_unit.ensures c.keep_unit.auto.unit;
      so_far = unit_goes c.args.dialect c.args.wanted.now.places.now c.args.wanted.now.section c.args.bytes.now
          c.loop-head.bytes
          c.loop-head.at c.loop-head.invariant.so_far c.loop-head.invariant.within c.in-Some.head is within
          c.keep_unit.new.unit c.keep_unit.ensures c.keep_unit.auto.unit;
    }
