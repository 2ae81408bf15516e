use Rattle.std.proofs.Common.{◌∙◌, [], ℕ, List, Bor, Option, ap, map}
use Rattle.std.specs.Prelude.{unwrap_or}
use Rattle.clap.specs.Words.{Text, found_of}
use Rattle.clap.proofs.WalkLemmas.{raw_values-rows}
use Rattle.dl_cmd.proofs.CopiedLemmas.{texts_copied}
use Rattle.dl_cmd.proofs.values.texts.Goals as goal

pub returns-in-Some-clause-texts : goal.returns-in-Some-clause-texts
returns-in-Some-clause-texts c =
    let said = c.in-Some.ensures ∙ raw_values-rows (found_of c.args.matches.now) c.args.id.now in
    texts_copied _ _ c.copied.result c.copied.ensures.texts said

pub returns-in-None-clause-texts : goal.returns-in-None-clause-texts
returns-in-None-clause-texts c =
    let said = c.in-None.ensures ∙ raw_values-rows (found_of c.args.matches.now) c.args.id.now in
    ap (λ (l : List (Bor (List ℕ))). map (λ s. s.now) l) c.new.ensures.items
    ∙ ap (λ (o : Option (List Text)). unwrap_or o []) said
