use Rattle.std.proofs.Common.{◌≡◌, [], length-take, sym, ◌∙◌, arith}
use Rattle.std.proofs.lemmas.Bool.Decides.{Decides-eqb}
use Rattle.dl_index.specs.IsIndex.{HeaderAgrees, summed_header}
use Rattle.dl_index.proofs.CheckLemmas.{judged}
use Rattle.dl_index.proofs.opening.header_agrees.Goals as goal

pub slice_bounds-update-end : goal.slice_bounds-update-end
slice_bounds-update-end c = let enough = c.requires in omega (arith, length-take 76 c.args.bytes.now)

pub returns : goal.returns
returns c =
    let b = c.args.bytes.now in
    let said = c.number_at.ensures in
    let is =
    c.finish.ensures (summed_header b) (c.update-3.ensures _ (c.update-2.ensures _ (c.update.ensures [] c.new-crc.ensures))) in
    judged
    _
    (c.number_at.result ≡ c.finish.result)
    (HeaderAgrees b)
    (Decides-eqb c.number_at.result c.finish.result)
    (λ same. sym said ∙ same ∙ is)
    (λ same. said ∙ same ∙ sym is)
