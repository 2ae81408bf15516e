use Rattle.std.proofs.Common.{ℕ, ◌+◌, ◌/◌, ◌%◌, decimal, List, ◌++◌, [], ◌∷◌, sym, ap, ◌∙◌, append_assoc, arith}
use Rattle.std.proofs.lemmas.Fmt.{decimal_digit, decimal_step}
use Rattle.dl_buffers.specs.UnitCalls.{length_told, written_over}
use Rattle.dl_index_buffers.proofs.telling.+add_decimal.Goals as goal

pub returns-then-number-lt10-clause-written : goal.returns-then-number-lt10-clause-written
returns-then-number-lt10-clause-written t c first text is at =
    let less = c.if-number-lt10.true in
    c.add.ensures.written first text is at
    ∙ ap (λ (l : List ℕ). written_over first (text ++ l)) (sym (decimal_digit c.args.number less))

pub returns-then-number-lt10-clause-len : goal.returns-then-number-lt10-clause-len
returns-then-number-lt10-clause-len t c text at =
    let less = c.if-number-lt10.true in
    c.add.ensures.len text at ∙ ap (λ (l : List ℕ). length_told (text ++ l)) (sym (decimal_digit c.args.number less))

pub returns-clause-written : goal.returns-clause-written
returns-clause-written t c first text is at =
    let n = c.args.number in
    let w = c.add_decimal-at.ensures.written first text is at in
    let l = c.add_decimal-at.ensures.len text at in
    c.add-2.ensures.written first (text ++ decimal (n / 10)) w l
    ∙ ap (written_over first) (append_assoc text (decimal (n / 10)) ((48 + n % 10) ∷ [])
    ∙ ap (λ (l : List ℕ). text ++ l) (sym (decimal_step n c.if-number-lt10.false (omega arith))))

pub returns-clause-len : goal.returns-clause-len
returns-clause-len t c text at =
    let n = c.args.number in
    let l = c.add_decimal-at.ensures.len text at in
    c.add-2.ensures.len (text ++ decimal (n / 10)) l
    ∙ ap length_told (append_assoc text (decimal (n / 10)) ((48 + n % 10) ∷ [])
    ∙ ap (λ (l : List ℕ). text ++ l) (sym (decimal_step n c.if-number-lt10.false (omega arith))))
