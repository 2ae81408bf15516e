use Rattle.std.proofs.Common.{◌≡◌, ◌+◌, ◌-◌, IfSome, ap, subst, ◌∙◌, arith}
use Rattle.dl_index.specs.Shown.{bytes_of}
use Rattle.dl_index.specs.Telling.{text_in}
use Rattle.dl_index.specs.TextsOf.{IsPlaceOf}
use Rattle.dl_index.specs.declared.index.PlacedText.{PlacedText}
use Rattle.dl_index.proofs.index.IndexRef.text.Goals as goal

pub returns-clause-told : goal.returns-clause-told
returns-clause-told c =
    let some = c.if-number-eq0.false in
    let same : c.args.number - 1 + 1 ≡ c.args.number = omega arith in
    c.text_at.ensures.told ∙ ap (text_in (bytes_of c.args.self.now)) same

pub returns-clause-place : goal.returns-clause-place
returns-clause-place c =
    let some = c.if-number-eq0.false in
    let same : c.args.number - 1 + 1 ≡ c.args.number = omega arith in
    subst
    (λ n. IfSome c.text_at.result (λ (placed : PlacedText). IsPlaceOf (bytes_of c.args.self.now) n placed.place))
    same c.text_at.ensures.place
