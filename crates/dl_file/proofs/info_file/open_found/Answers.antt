use Rattle.std.proofs.Common.{arith, Ok, refl}
use Rattle.dl_file.specs.InfoTable.{info_table}
use Rattle.dl_file.proofs.InfoLemmas.{no_units, some_units}
use Rattle.std.proofs.lemmas.Result.{err_from_is_err_and}
use Rattle.dl_file.specs.LineTable.{HoldsTooMuch}
use Rattle.dl_file.proofs.RefusedLemmas.{refused_within}
use Rattle.dl_file.proofs.info_file.open_found.Goals as goal

pub returns-in_default-clause-opens : goal.returns-in_default-clause-opens
returns-in_default-clause-opens g c = λ f is short.
    no_units {S = g.row.S.Denot} g.S.ReadAt.all_bytes g.S.ReadAt.fails_with (g.S.ReadAt.fails_with c.args.source.now) c.args.elf.now f c.args.found.now c.in_ok-info.field-0
    c.in_default.is (c.in_ok-info.ensures.opens f is short)

pub returns-clause-opens : goal.returns-clause-opens
returns-clause-opens g c = λ f is short.
    let e = c.args.elf.now in
    let found = c.args.found.now in
    let units = some_units {S = g.row.S.Denot} g.S.ReadAt.all_bytes g.S.ReadAt.fails_with (g.S.ReadAt.fails_with c.args.source.now) e f found c.in_ok-info.field-0 c.in-Some.info
    c.in-Some.is (c.in_ok-info.ensures.opens f is short) in (
      info_table e f found (Ok units.0),
      (Ok units.0, units.1, refl),
      record {
        order = refl;
        info = units.2;
        abbreviations = c.in_ok-open.ensures.opens f is short;
        str_offsets = c.in_ok-optional_reader.ensures.opens f is short;
        str = c.in_ok-optional_reader-2.ensures.opens f is short;
        line_str = c.in_ok-optional_reader-3.ensures.opens f is short;
      },
    )

pub returns-in_err-open-clause-most : goal.returns-in_err-open-clause-most
returns-in_err-open-clause-most g c = λ f is short.
    let p = err_from_is_err_and c.from_residual-in_err-open.result c.from_residual-in_err-open.ensures.1 in
    rw (p.1, p.2) (refused_within (HoldsTooMuch c.args.elf.now f c.args.found.now.info)
    (g.M.Memory.refuses c.args.memory.now) f 1 c.in_err-open.field-0.0 (omega arith) c.in_err-open.ensures.most)

pub returns-in_err-optional_reader-clause-most : goal.returns-in_err-optional_reader-clause-most
returns-in_err-optional_reader-clause-most g c = λ f is short.
    let p = err_from_is_err_and c.from_residual-in_err-optional_reader.result c.from_residual-in_err-optional_reader.ensures.1 in
    rw (p.1, p.2) (refused_within (HoldsTooMuch c.args.elf.now f c.args.found.now.info)
    (g.M.Memory.refuses c.args.memory.now) f 1 c.in_err-optional_reader.field-0.0 (omega arith) c.in_err-optional_reader.ensures.most)

pub returns-in_err-optional_reader-2-clause-most : goal.returns-in_err-optional_reader-2-clause-most
returns-in_err-optional_reader-2-clause-most g c = λ f is short.
    let p = err_from_is_err_and c.from_residual-in_err-optional_reader-2.result c.from_residual-in_err-optional_reader-2.ensures.1 in
    rw (p.1, p.2) (refused_within (HoldsTooMuch c.args.elf.now f c.args.found.now.info)
    (g.M.Memory.refuses c.args.memory.now) f 1 c.in_err-optional_reader-2.field-0.0 (omega arith) c.in_err-optional_reader-2.ensures.most)

pub returns-in_err-optional_reader-3-clause-most : goal.returns-in_err-optional_reader-3-clause-most
returns-in_err-optional_reader-3-clause-most g c = λ f is short.
    let p = err_from_is_err_and c.from_residual-in_err-optional_reader-3.result c.from_residual-in_err-optional_reader-3.ensures.1 in
    rw (p.1, p.2) (refused_within (HoldsTooMuch c.args.elf.now f c.args.found.now.info)
    (g.M.Memory.refuses c.args.memory.now) f 1 c.in_err-optional_reader-3.field-0.0 (omega arith) c.in_err-optional_reader-3.ensures.most)
