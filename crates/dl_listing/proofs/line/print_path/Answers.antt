use Rattle.std.proofs.Common.{◌∙◌, codes, sym}
use Rattle.std.specs.Prelude.{flat_map}
use Rattle.dl_index.specs.Shown.{texts_told}
use Rattle.dl_path.specs.Shown.{shown}
use Rattle.dl_path.proofs.PrintLemmas.{prints_same}
use Rattle.dl_listing.specs.Listing.{path_text}
use Rattle.dl_listing.proofs.TextLemmas.{known, unknown}
use Rattle.dl_listing.proofs.line.print_path.Goals as goal

pub returns-then-is_known-clause-printed : goal.returns-then-is_known-clause-printed
returns-then-is_known-clause-printed g c =
    let texts = texts_told c.args.texts in
    prints_same (g.W.Write.contents c.args.output.now) (g.W.Write.contents c.print_texts.new.output) c.args.printer.now
    c.print_texts.new.printer (flat_map shown texts) (path_text texts) c.print_texts.result
    (sym (known texts (sym c.is_known.ensures ∙ c.if-is_known.true))) c.print_texts.ensures.printed

pub returns-else-is_known-clause-printed : goal.returns-else-is_known-clause-printed
returns-else-is_known-clause-printed g c =
    let texts = texts_told c.args.texts in
    prints_same (g.W.Write.contents c.args.output.now) (g.W.Write.contents c.put.new.output) c.args.printer.now
    c.put.new.self (codes "??") (path_text texts) c.put.result
    (sym (unknown texts (sym c.is_known.ensures ∙ c.if-is_known.false))) c.put.ensures.printed
