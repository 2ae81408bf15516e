use Rattle.std.proofs.Common.{arith, Ok, sym, ◌∙◌, refl}
use Rattle.dl_file.specs.LineTable.{line_table}
use Rattle.dl_file.proofs.LineTableLemmas.{line_stops, strings_lie, table_whole}
use Rattle.std.proofs.lemmas.Result.{err_from_is_err_and}
use Rattle.dl_file.specs.LineTable.{HoldsTooMuch, with_stream}
use Rattle.dl_file.proofs.RefusedLemmas.{refused_within}
use Rattle.dl_file.proofs.line_file.open_chosen.Goals as goal

pub returns-clause-opens : goal.returns-clause-opens
returns-clause-opens g c = λ f is short.
    let e = c.args.elf.now in
    let chosen = c.args.chosen.now in
    let checked = c.in_ok-line.ensures.checked f is short in
    let line_str = c.in_ok-debug_line_str.ensures.checked f is short in
    let str = c.in_ok-debug_str.ensures.checked f is short in
    let line = rw checked.1 at (c.in_ok-line_reader.ensures.opens f is short) in (
      line_table e f chosen line.0,
      table_whole e f chosen (Ok line.0) (sym (c.in_ok-part.ensures.part f is short) ∙ c.in_default.is)
          (rw (checked.0, line_str.0, str.0) refl) line.1,
      record {
        order = refl;
        class = refl;
        object = c.is_object.ensures;
        line = line.2;
        line_str = rw line_str.1 at (c.in_ok-optional_reader.ensures.opens f is short);
        str = rw str.1 at (c.in_ok-optional_reader-2.ensures.opens f is short);
        has_str = refl;
      },
    )

pub returns-in_err-line_reader-clause-opens : goal.returns-in_err-line_reader-clause-opens
returns-in_err-line_reader-clause-opens g c = λ f is short.
    let p = err_from_is_err_and c.from_residual-in_err-line_reader.result c.from_residual-in_err-line_reader.ensures.1 in
    let checked = c.in_ok-line.ensures.checked f is short in
    let line_str = c.in_ok-debug_line_str.ensures.checked f is short in
    let str = c.in_ok-debug_str.ensures.checked f is short in
    rw (p.1, p.2) (line_stops g.S.ReadAt g.S.ReadAt.all_bytes g.S.ReadAt.fails_with (g.S.ReadAt.fails_with c.args.source.now)
    c.args.elf.now f c.args.chosen.now c.in_ok-line.line c.in_err-line_reader.field-0.0
    (sym (c.in_ok-part.ensures.part f is short) ∙ c.in_default.is) (rw (checked.0, line_str.0, str.0) refl) checked.1
    (c.in_err-line_reader.ensures.opens f is short))

pub optional_reader-requires : goal.optional_reader-requires
optional_reader-requires g c = record {
  within = λ f is short. rw (c.in_ok-debug_line_str.ensures.checked f is short).1
      (strings_lie c.args.elf.now f c.args.chosen.now (sym (c.in_ok-part.ensures.part f is short) ∙ c.in_default.is)).0;
}

pub optional_reader-requires-2 : goal.optional_reader-requires-2
optional_reader-requires-2 g c = record {
  within = λ f is short. rw (c.in_ok-debug_str.ensures.checked f is short).1
      (strings_lie c.args.elf.now f c.args.chosen.now (sym (c.in_ok-part.ensures.part f is short) ∙ c.in_default.is)).1;
}

pub returns-in_err-optional_reader-clause-most : goal.returns-in_err-optional_reader-clause-most
returns-in_err-optional_reader-clause-most g c = λ f is short.
    let p = err_from_is_err_and c.from_residual-in_err-optional_reader.result
    c.from_residual-in_err-optional_reader.ensures.1 in
    rw (p.1, p.2) (refused_within (HoldsTooMuch c.args.elf.now f (with_stream c.args.elf.now f c.args.chosen.now.line))
    (g.M.Memory.refuses c.args.memory.now) f 1 c.in_err-optional_reader.field-0.0 (omega arith)
    c.in_err-optional_reader.ensures.most)

pub returns-in_err-optional_reader-2-clause-most : goal.returns-in_err-optional_reader-2-clause-most
returns-in_err-optional_reader-2-clause-most g c = λ f is short.
    let p = err_from_is_err_and c.from_residual-in_err-optional_reader-2.result
    c.from_residual-in_err-optional_reader-2.ensures.1 in
    rw (p.1, p.2) (refused_within (HoldsTooMuch c.args.elf.now f (with_stream c.args.elf.now f c.args.chosen.now.line))
    (g.M.Memory.refuses c.args.memory.now) f 1 c.in_err-optional_reader-2.field-0.0 (omega arith)
    c.in_err-optional_reader-2.ensures.most)
