use Rattle.std.proofs.Common.{◌+◌, ◌*◌, ap, ◌∙◌, sym, subst, refl, arith}
use Rattle.std.specs.Option.{option_copied}
use Rattle.dl_addr.specs.Room.{paths_room}
use Rattle.dl_addr.specs.Texts.{HasPath, path_of_file}
use Rattle.dl_addr.proofs.KeepLemmas.{on_err}
use Rattle.dl_addr.proofs.RoomLemmas.{keeps_within, put_within, refused_within}
use Rattle.dl_addr.proofs.TextLemmas.{file_added, path_clamped}
use Rattle.dl_addr.proofs.texts.number_of.Goals as goal

pub returns-in-Some-clause-right : goal.returns-in-Some-clause-right
returns-in-Some-clause-right g c are = are.last c.args.file c.in-Some.number c.in-Some.ensures

pub returns-in-Some-get-clause-right : goal.returns-in-Some-get-clause-right
returns-in-Some-get-clause-right g c are =
    let u = c.args.unit.now in
    subst (HasPath c.args.paths.now c.in-Some-get.number.now)
    (ap (path_of_file u) c.min-entry.ensures ∙ path_clamped u c.args.file c.files_end.result (omega (arith, c.ranges.file.fits)) c.files_end.ensures)
    (are.files c.min-entry.result c.in-Some-get.number.now (sym c.in-Some-get.ensures.value))

pub returns-clause-seen : goal.returns-clause-seen
returns-clause-seen g c are =
    file_added c.args.unit.now c.args.numbers.now (record {
      files = c.put.new.numbers;
      directories = c.add_file.new.directories;
      last = c.args.numbers.now.last;
    }) c.args.paths.now c.add_file.new.paths c.min-entry.result c.in_ok-number.number c.add_file.ensures.grows refl
    c.in_ok-put.ensures.updates (c.in_ok-number.ensures.right are.directories)
    (c.in_ok-number.ensures.directories are.directories) are

pub returns-clause-right : goal.returns-clause-right
returns-clause-right g c are =
    let u = c.args.unit.now in
    subst (HasPath c.add_file.new.paths c.in_ok-number.number)
    (ap (path_of_file u) c.min-entry.ensures ∙ path_clamped u c.args.file c.files_end.result (omega (arith, c.ranges.file.fits)) c.files_end.ensures)
    (c.in_ok-number.ensures.right are.directories)

pub returns-in-Some-clause-few : goal.returns-in-Some-clause-few
returns-in-Some-clause-few g c count few =
    keeps_within c.args.numbers.now c.args.paths.now count (count + 1) (omega arith) few

pub returns-in-Some-get-clause-few : goal.returns-in-Some-get-clause-few
returns-in-Some-get-clause-few g c count few =
    keeps_within c.args.numbers.now c.args.paths.now count (count + 1) (omega arith) few

pub returns-clause-few : goal.returns-clause-few
returns-clause-few g c count few = record {
  few = c.in_ok-number.ensures.few count few.few;
  files = c.in_ok-put.ensures.put count few.files;
  directories =
      put_within c.add_file.new.directories (2 * count + 2) (2 * (count + 1)) (omega arith)
      (c.in_ok-number.ensures.put (2 * count) few.directories);
}

pub returns-in_err-number-clause-refused : goal.returns-in_err-number-clause-refused
returns-in_err-number-clause-refused g c =
    on_err c.from_residual.result (λ count few. c.in_err-number.ensures.refused count few.few few.directories)

pub returns-in_err-put-clause-refused : goal.returns-in_err-put-clause-refused
returns-in_err-put-clause-refused g c =
    on_err c.from_residual-in_err-put.result (λ count few.
    refused_within (g.M.Memory.refuses c.args.memory.now) (count + 1)
    (paths_room (count + 1) (option_copied c.args.unit.now.header)) (omega arith)
    (c.in_err-put.ensures.refused count few.files))
