use Rattle.std.proofs.Common.{◌∙◌, ap, codes}
use Rattle.std.specs.Prelude.{false}
use Rattle.std.specs.Option.{option_map_or}
use Rattle.std.specs.Str.{bytes_eq}
use Rattle.clap.specs.Words.{found_of}
use Rattle.clap.proofs.WalkLemmas.{first_value-rows}
use Rattle.dl_cmd.proofs.values.flag.Goals as goal

pub returns-in-Some : goal.returns-in-Some
returns-in-Some c =
    let said = c.in-Some.ensures ∙ first_value-rows (found_of c.args.matches.now) c.args.id.now in
    c.eq.ensures ∙ ap (λ o. option_map_or (λ t. bytes_eq t (codes "true")) o false) said

pub returns-in-None : goal.returns-in-None
returns-in-None c =
    let said = c.in-None.ensures ∙ first_value-rows (found_of c.args.matches.now) c.args.id.now in
    ap (λ o. option_map_or (λ t. bytes_eq t (codes "true")) o false) said
