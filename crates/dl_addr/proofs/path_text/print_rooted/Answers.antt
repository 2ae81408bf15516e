use Rattle.std.proofs.Common.{◌≡◌, ◌++◌, ◌∙◌, ℕ, List, [], Option, Some, refl, sym, ap}
use Rattle.std.specs.Option.{option_copied}
use Rattle.std.specs.Prelude.{unwrap_or}
use Rattle.std.specs.Str.Lossy.{utf8_lossy}
use Rattle.std.proofs.lemmas.Result.{err_from_is_err_and}
use Rattle.json.specs.Print.{escape}
use Rattle.dl_addr.specs.declared.kept.KeptPath.{KeptPath}
use Rattle.dl_addr.specs.declared.style.AnswerForm.{AnswerForm}
use Rattle.dl_addr.specs.declared.style.AnswerForm.TheVariants.{Location, AddressAndLocation, Json}
use Rattle.dl_path.specs.Paths.{slash_after, under}
use Rattle.dl_path.specs.Shown.{shown}
use Rattle.dl_addr.specs.Printing.{inner_text}
use Rattle.dl_addr.specs.Texts.{path_in_table, path_named}
use Rattle.dl_path.proofs.FrontLemmas.{json_at_slash, json_nothing}
use Rattle.dl_path.proofs.PathLemmas.{apart}
use Rattle.dl_path.proofs.PrintLemmas.{loses_front, loses_same, prints_same, prints_then}
use Rattle.dl_path.proofs.ShownLemmas.{shown_at_slash}
use Rattle.dl_addr.proofs.path_text.print_rooted.Goals as goal

-- a directory and what is in it, one after the other
root_apart : (form : AnswerForm) (root path : List ℕ)
    → inner_text form (under root path) ≡ (inner_text form root ++ slash_after root) ++ inner_text form path
root_apart Location root path = apart shown refl shown_at_slash root path
root_apart AddressAndLocation root path = apart shown refl shown_at_slash root path
root_apart Json root path = apart (λ w. escape (utf8_lossy w)) json_nothing json_at_slash root path

-- by what was looked up
apart_by : (form : AnswerForm) (p : KeptPath) (name root : List ℕ) (kept : List ℕ) → Some root ≡ option_copied p.root
    → kept ≡ root → (inner_text form kept ++ slash_after kept) ++ inner_text form (path_in_table p name)
    ≡ inner_text form (path_named p name)
apart_by form p name root kept is same =
    ap (λ (r : List ℕ). (inner_text form r ++ slash_after r) ++ inner_text form (path_in_table p name)) same
    ∙ sym (root_apart form root (path_in_table p name))
    ∙ ap (λ (o : Option (List ℕ)). inner_text form (under (unwrap_or o []) (path_in_table p name))) is

pub returns-in_err-print_folder-clause-printed : goal.returns-in_err-print_folder-clause-printed
returns-in_err-print_folder-clause-printed g c start text h =
    let e = err_from_is_err_and c.from_residual.result c.from_residual.ensures.1 in
    let form = c.args.form in
    let p = c.args.path in
    let name = c.args.name.now in
    let root = c.new-root.result in
    let old = g.W.Write.contents c.args.output.now in
    let new = g.W.Write.contents c.print_folder.new.output in
    rw (e.1, e.2) (loses_same old new c.args.printer.now
    ((inner_text form root ++ slash_after root) ++ inner_text form (path_in_table p name))
    (inner_text form (path_named p name)) _
    (apart_by form p name c.in-Some.root.now root (sym (ap option_copied c.in-Some.is)) c.new-root.ensures)
    (loses_front old new c.args.printer.now (inner_text form root ++ slash_after root)
    (inner_text form (path_in_table p name)) _ c.in_err-print_folder.ensures.printed) start text h)

pub returns-clause-printed : goal.returns-clause-printed
returns-clause-printed g c =
    let form = c.args.form in
    let p = c.args.path in
    let name = c.args.name.now in
    let root = c.new-root.result in
    let old = g.W.Write.contents c.args.output.now in
    let mid = g.W.Write.contents c.print_folder.new.output in
    let new = g.W.Write.contents c.print_parts-2.new.output in
    let folder = inner_text form root ++ slash_after root in
    prints_same old new c.args.printer.now c.print_parts-2.new.printer (folder ++ inner_text form (path_in_table p name))
    (inner_text form (path_named p name)) c.print_parts-2.result
    (apart_by form p name c.in-Some.root.now root (sym (ap option_copied c.in-Some.is)) c.new-root.ensures)
    (prints_then old mid new c.args.printer.now c.print_folder.new.printer c.print_parts-2.new.printer folder
    (inner_text form (path_in_table p name)) c.print_parts-2.result c.in_ok-print_folder.ensures.printed c.print_parts-2.ensures.printed)
