use Rattle.std.proofs.Common.{Option, Some, sym, ap, ◌∙◌, subst}
use Rattle.std.specs.Prelude.{IfSome}
use Rattle.dl_field.specs.HeaderData.{HeaderData, header_cells}
use Rattle.dl_print.specs.ValueText.{strings_of}
use Rattle.std.specs.Option.{option_copied, option_map_or}
use Rattle.dl_path.specs.PathParts.{HeaderBytesWithin}
use Rattle.dl_path.specs.Paths.{path_of}
use Rattle.dl_path.proofs.PathTextLemmas.{seen_of_apart}
use Rattle.dl_path.proofs.parts.parts_of.Goals as goal

pub returns-clause-seen : goal.returns-clause-seen
returns-clause-seen c =
    let s = strings_of c.args.strings.now in
    seen_of_apart s (Some c.in_ok-header.field-0.now) c.args.file c.parts_under.result c.parts_under.ensures.apart
    ∙ ap (λ (h : Option HeaderData). path_of s h c.args.file) (sym (ap option_copied c.in_ok-header.was))

pub returns-clause-within : goal.returns-clause-within
returns-clause-within c =
    subst (λ (h : Option HeaderData). IfSome c.parts_under.result (HeaderBytesWithin (option_map_or header_cells h 0)))
    (sym (ap option_copied c.in_ok-header.was)) c.parts_under.ensures.within
