use Rattle.std.proofs.Common.{◌≡◌, ◌∙◌, [], ◌∷◌, ap, length, sym}
use Rattle.dl_table_rules.proofs.SumLemmas.{some_told}
use Rattle.dl_table_rules.proofs.md5_sums.md5_missing.Goals as goal

pub returns : goal.returns
returns c =
    let without = c.without_sum-without in
    let count : c.len.result ≡ length c.args.header.now.files.entries = c.len.ensures ∙ ap (λ t. length t.entries) c.files.ensures in
    ap (λ f. f ∷ []) c.in_header.ensures
    ∙ some_told c.args.unit c.args.header.now without.result without.ensures c.if-without-eq0.false
    (λ e. c.if-without-len.false (e ∙ sym count))
