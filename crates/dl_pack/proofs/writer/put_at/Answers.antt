use Rattle.std.proofs.Common.{◌≡◌, ◌+◌, ◌-◌, ◌++◌, take, drop, ap, ap₂, sym, ◌∙◌, arith}
use Rattle.dl_num.specs.Fixed.{little_bytes}
use Rattle.dl_pack.proofs.ByteLemmas.{lowest_bytes}
use Rattle.dl_pack.proofs.ItemLemmas.{drop_sum}
use Rattle.dl_pack.proofs.writer.put_at.Goals as goal

pub returns : goal.returns
returns c =
    let a = c.args in
    let k : a.place + a.size - a.place ≡ a.size = omega arith in
    ap₂ (λ n m. take a.place a.bytes.now ++ (n ++ drop m (drop a.place a.bytes.now)))
    (c.copy_from_slice.ensures.after ∙ ap (take a.size) c.to_le_bytes.ensures ∙ lowest_bytes a.size a.number c.requires.small) k
    ∙ ap (λ l. take a.place a.bytes.now ++ (little_bytes a.size a.number ++ l)) (sym (drop_sum a.place a.size a.bytes.now))
