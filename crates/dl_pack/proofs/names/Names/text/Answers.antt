use Rattle.std.proofs.Common.{ap, ◌∙◌, sym, ◌∷◌, []}
use Rattle.std.specs.Prelude.{slice_get}
use Rattle.std.specs.Option.{option_copied}
use Rattle.dl_pack.proofs.NameLemmas.{text_numbered}
use Rattle.dl_pack.proofs.names.Names.text.Goals as goal

pub returns : goal.returns
returns c =
    ap (λ text. text ∷ []) c.as_slice.ensures.value
    ∙ text_numbered c.args.self.now.texts.keys c.args.number c.in_ok-get_index.field-0.now c.in_ok-index.ensures.0
    (ap (slice_get c.args.self.now.texts.keys) (sym c.in_ok-index.ensures.1) ∙ sym c.get_index.ensures.key ∙ ap option_copied c.in_ok-get_index.was)
