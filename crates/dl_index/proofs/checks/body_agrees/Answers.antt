use Rattle.std.proofs.Common.{◌≡◌, sym, ap, ◌∙◌}
use Rattle.std.proofs.lemmas.Bool.Decides.{Decides-eqb}
use Rattle.dl_crc.specs.Crc32.{crc_32}
use Rattle.dl_index.specs.IsIndex.{BodyAgrees}
use Rattle.dl_index.specs.Shown.{bytes_of}
use Rattle.dl_index.proofs.CheckLemmas.{judged}
use Rattle.dl_index.proofs.PartLemmas.{drop_whole}
use Rattle.dl_index.proofs.checks.body_agrees.Goals as goal

pub returns : goal.returns
returns c =
    let b = bytes_of c.args.index.now in
    let said = c.number_at.ensures in
    let is = c.crc_32.ensures ∙ ap crc_32 (drop_whole 128 b) in
    judged
    _
    (c.number_at.result ≡ c.crc_32.result)
    (BodyAgrees b)
    (Decides-eqb c.number_at.result c.crc_32.result)
    (λ same. sym said ∙ same ∙ is)
    (λ same. said ∙ same ∙ sym is)
