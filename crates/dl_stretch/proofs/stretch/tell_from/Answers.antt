use Rattle.std.proofs.Common.{[], ◌∷◌, sym, ◌∙◌}
use Rattle.dl_stretch.specs.declared.stretch.Stretch.{Stretch}
use Rattle.dl_stretch.proofs.RunLemmas.{same_option, other_option}
use Rattle.dl_stretch.proofs.StretchLemmas.{goes_on, one_more, last_told-push}
use Rattle.dl_stretch.proofs.TellLemmas.{tells_none}
use Rattle.dl_stretch.proofs.stretch.tell_from.Goals as goal

pub returns-then-is_same : goal.returns-then-is_same
returns-then-is_same g c = λ f list end is made less tells. (
    let same = same_option c.args.last c.args.told (sym c.is_same.ensures ∙ c.if-is_same.true) in
    tells_none g.S.StretchSink.hears c.args.sink.now f list end c.args.told
    (goes_on f list c.args.start end c.args.told made less tells (sym is ∙ same)) (sym same ∙ is))

pub returns : goal.returns
returns g c = λ f list end is made less tells. (
    let new : Stretch = record { start = c.args.start; told = c.args.told } in
    record {
      more = new ∷ [];
      heard = c.stretch.ensures;
      made = one_more f list c.args.start end c.args.told made less tells (λ e.
          other_option c.args.last c.args.told (sym c.is_same.ensures ∙ c.if-is_same.false) (is ∙ e));
      last = sym (last_told-push list new);
    })
