use Rattle.std.proofs.Common.{ℕ, List, [], ◌∷◌, ◌++◌, flat_map, rules, sym, ap, subst, ◌∙◌, map-id, append-nil}
use Rattle.std.specs.Fmt.{HasWritten}
use Rattle.std.proofs.Output.{has_written_append}
use Rattle.std.proofs.lemmas.Iterator.{YieldsList-from_chars}
use Rattle.std.proofs.lemmas.Iterator.Consumers.{YieldsList-end}
use Rattle.std.proofs.lemmas.Grind.{flat_map-append}
use Rattle.dl_open.specs.Shown.{shown_character}
use Rattle.dl_open.proofs.shown.ShownDisplay.fmt.Goals as goal

pub loop-character-preserved : goal.loop-character-preserved
loop-character-preserved g c = λ plain.
    let done = c.loop-character.yielded in
    let one = c.in-Some.character in
    let more = has_written_append _ _ _ _ _ _ (c.loop-character.invariant plain) (search rules) in
    subst (λ (l : List ℕ). HasWritten g.W.Write.write_str_gives c.args.f.now l c.fmt.new.f)
    (sym (flat_map-append shown_character done (one ∷ [])
    ∙ ap (λ (l : List ℕ). flat_map shown_character done ++ l) (append-nil (shown_character one)))) more

pub returns-clause-writes : goal.returns-clause-writes
returns-clause-writes g c = λ plain ok.
    let end = YieldsList-end (YieldsList-from_chars c.args.self.now.0.now (search rules) cc)
    c.loop-character.yielded _ c.loop-character.yielded_by _ _ c.in-None.is c.next.ensures.steps in
    subst (λ (l : List ℕ). HasWritten g.W.Write.write_str_gives c.args.f.now l c.loop-character.f)
    (ap (flat_map shown_character) (sym (map-id c.loop-character.yielded) ∙ end.0)) (c.loop-character.invariant plain)
