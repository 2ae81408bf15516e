use Rattle.std.proofs.Common.{◌≡◌, ◌∙◌, ℕ, List, true, sym}
use Rattle.std.specs.List.{list_all}
use Rattle.dl_addr.specs.declared.style.AnswerForm.{AnswerForm}
use Rattle.dl_addr.specs.declared.style.AnswerForm.TheVariants.{Location, AddressAndLocation, Json}
use Rattle.dl_path.specs.Shown.{is_plain}
use Rattle.dl_addr.specs.Printing.{inner_text}
use Rattle.dl_path.proofs.FrontLemmas.{plain_json, plain_shown}
use Rattle.dl_path.proofs.PrintLemmas.{prints_same}
use Rattle.dl_addr.proofs.path_text.print_text.Goals as goal

plain_inner : (form : AnswerForm) (w : List ℕ) → list_all is_plain w ≡ true → w ≡ inner_text form w
plain_inner Location w all = plain_shown w all
plain_inner AddressAndLocation w all = plain_shown w all
plain_inner Json w all = plain_json w all

pub returns-then-is_plain-clause-printed : goal.returns-then-is_plain-clause-printed
returns-then-is_plain-clause-printed g c =
    let text = c.args.text.now in
    prints_same (g.W.Write.contents c.args.output.now) (g.W.Write.contents c.put.new.output) c.args.printer.now
    c.put.new.self c.bytes.result.now (inner_text c.args.form text) c.put.result
    (c.bytes.ensures ∙ plain_inner c.args.form text (sym c.is_plain.ensures ∙ c.if-is_plain.true))
    c.put.ensures.printed
