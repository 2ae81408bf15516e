use Rattle.std.proofs.Common.{sym, ◌∙◌, arith}
use Rattle.dl_index.specs.IsIndex.{IsWhole, IsPlaced}
use Rattle.dl_index.proofs.HeaderLemmas.{no_widths, reads_all, placed_all, too_long_build_id, other_end}
use Rattle.dl_index.proofs.opening.layout_of.Goals as goal
use Rattle.dl_index.proofs.opening.layout_of.Goals.{then-front-gt32-via-then-front-gt32, then-front-gt32-via-else-front-gt32+then-whole_len-from}

pub returns-in_default-clause-header : goal.returns-in_default-clause-header
returns-in_default-clause-header c b same len =
    let header = c.in_ok-length_told.ensures.length b same in
    let whole : IsWhole b = record { header = header.0; len = sym header.1 ∙ c.if-branch-len.false ∙ len } in
    let not = no_widths c.args.front.now b same c.in_default.ensures in
    ((whole, not), λ is. not is.placed)

pub returns-then-front-gt32-clause-header : goal.returns-then-front-gt32-clause-header
returns-then-front-gt32-clause-header c b same len =
    let f = c.args.front.now in
    let header = c.in_ok-length_told.ensures.length b same in
    let whole : IsWhole b = record { header = header.0; len = sym header.1 ∙ c.if-branch-len.false ∙ len } in
    let not : ¬ (IsPlaced b) = elim c.then-front-gt32.branch [
      | then-front-gt32-via-then-front-gt32 w ↦ too_long_build_id f b same w.if-front-gt32.true
      | then-front-gt32-via-else-front-gt32+then-whole_len-from w ↦
          other_end f b same c.args.len c.in-Some.ensures len (λ e. w.if-whole_len-from.true (w.whole_len.ensures ∙ e ∙ sym w.from.ensures))
    ] in
    ((whole, not), λ is. not is.placed)

pub returns-clause-header : goal.returns-clause-header
returns-clause-header c b same len =
    let f = c.args.front.now in
    let header = c.in_ok-length_told.ensures.length b same in
    let small = c.if-front-gt32.false in (
      record {
        whole = record { header = header.0; len = sym header.1 ∙ c.if-branch-len.false ∙ len };
        placed = placed_all f b same c.in-Some.ensures (omega arith) (sym c.whole_len.ensures ∙ c.if-whole_len-from.false ∙ c.from.ensures ∙ len);
      },
      reads_all f b same c.in-Some.ensures,
    )
