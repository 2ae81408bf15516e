use Rattle.std.proofs.Common.{[], ◌∷◌, ◌++◌, get_or, take, sym, ap, ◌∙◌, append-nil}
use Rattle.std.specs.List.{concat}
use Rattle.std.proofs.lemmas.List.{take_more, take_all}
use Rattle.std.proofs.lemmas.List.Folds.{concat-append}
use Rattle.dl_crc.specs.Crc32.{with_bytes}
use Rattle.dl_crc.proofs.CrcLemmas.{with_bytes-append}
use Rattle.dl_crc.proofs.crc.with_eights.Goals as goal

pub loop-eight-preserved : goal.loop-eight-preserved
loop-eight-preserved c =
    let eights = c.args.eights.now in
    let i = c.loop-eight.eight-index in
    let first = c.args.register in
    c.with_eight-register.ensures ∙ ap (λ r. with_bytes r (get_or eights i [])) c.loop-eight.invariant
    ∙ sym (with_bytes-append first (concat (take i eights)) (get_or eights i []))
    ∙ ap (with_bytes first) (sym (ap concat (take_more eights i [] c.loop-eight-test.true)
    ∙ concat-append (take i eights) (get_or eights i [] ∷ [])
    ∙ ap (λ l. concat (take i eights) ++ l) (append-nil (get_or eights i []))))

pub returns : goal.returns
returns c =
    let eights = c.args.eights.now in
    c.loop-eight.invariant ∙ ap (λ l. with_bytes c.args.register (concat l)) (take_all _ eights c.loop-eight-test.false)
