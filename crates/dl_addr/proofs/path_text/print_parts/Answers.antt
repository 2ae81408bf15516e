use Rattle.std.proofs.Common.{◌≡◌, ◌++◌, ◌∙◌, ℕ, List, [], Option, refl, sym, ap₂}
use Rattle.std.specs.Option.{option_and_then, option_copied}
use Rattle.std.specs.Prelude.{unwrap_or}
use Rattle.std.proofs.lemmas.Result.{err_from_is_err_and}
use Rattle.json.specs.Print.{escape}
use Rattle.std.specs.Str.Lossy.{utf8_lossy}
use Rattle.dl_addr.specs.declared.kept.KeptPath.{KeptPath}
use Rattle.dl_addr.specs.declared.style.AnswerForm.{AnswerForm}
use Rattle.dl_addr.specs.declared.style.AnswerForm.TheVariants.{Location, AddressAndLocation, Json}
use Rattle.dl_path.specs.Paths.{slash_after}
use Rattle.dl_addr.specs.Printing.{inner_text}
use Rattle.dl_path.specs.Shown.{shown}
use Rattle.dl_addr.specs.Texts.{path_in_table, text_at, text_or_none}
use Rattle.dl_path.proofs.FrontLemmas.{json_at_slash, json_nothing}
use Rattle.dl_path.proofs.PathLemmas.{over_parts}
use Rattle.dl_path.proofs.PrintLemmas.{loses_front, loses_same, loses_then, more_then, prints_same, prints_then}
use Rattle.dl_path.proofs.ShownLemmas.{shown_at_slash}
use Rattle.dl_addr.proofs.path_text.print_parts.Goals as goal

abbrev folder : AnswerForm → List ℕ → List ℕ
folder form directory = inner_text form directory ++ slash_after directory

abbrev base_of : KeptPath → List ℕ
base_of p = text_or_none p.texts.now p.file.now.base

abbrev directory_of : KeptPath → List ℕ
directory_of p = text_or_none p.texts.now p.file.now.directory

apart : (form : AnswerForm) (p : KeptPath) (name : List ℕ)
    → inner_text form (path_in_table p name)
    ≡ (folder form (base_of p) ++ folder form (directory_of p)) ++ inner_text form name
apart Location p name = over_parts shown refl shown_at_slash (base_of p) (directory_of p) name
apart AddressAndLocation p name = over_parts shown refl shown_at_slash (base_of p) (directory_of p) name
apart Json p name =
    over_parts (λ w. escape (utf8_lossy w)) json_nothing json_at_slash (base_of p) (directory_of p) name

-- by what was looked up
apart_by : (form : AnswerForm) (p : KeptPath) (name : List ℕ) (base directory : Option (List ℕ))
    → base ≡ option_and_then (text_at p.texts.now) p.file.now.base
    → directory ≡ option_and_then (text_at p.texts.now) p.file.now.directory
    → (folder form (unwrap_or base []) ++ folder form (unwrap_or directory [])) ++ inner_text form name
    ≡ inner_text form (path_in_table p name)
apart_by form p name base directory e e' =
    ap₂ (λ (x y : Option (List ℕ)). (folder form (unwrap_or x []) ++ folder form (unwrap_or y [])) ++ inner_text form name)
    e e'
    ∙ sym (apart form p name)

pub returns-in_err-print_directory-clause-printed : goal.returns-in_err-print_directory-clause-printed
returns-in_err-print_directory-clause-printed g c start text h =
    let e = err_from_is_err_and c.from_residual.result c.from_residual.ensures.1 in
    let form = c.args.form in
    let p = c.args.path in
    let name = c.args.name.now in
    let base = option_copied c.text.result in
    let directory = option_and_then (text_at p.texts.now) p.file.now.directory in
    let a = folder form (unwrap_or base []) in
    let b = folder form (unwrap_or directory []) in
    let n = inner_text form name in
    let old = g.W.Write.contents c.args.output.now in
    let new = g.W.Write.contents c.print_directory.new.output in
    rw (e.1, e.2) (loses_same old new c.args.printer.now ((a ++ b) ++ n) (inner_text form (path_in_table p name)) _
    (apart_by form p name base directory c.text.ensures refl)
    (loses_front old new c.args.printer.now (a ++ b) n _
    (loses_front old new c.args.printer.now a b _ c.in_err-print_directory.ensures.printed)) start text h)

pub returns-in_err-print_directory-2-clause-printed : goal.returns-in_err-print_directory-2-clause-printed
returns-in_err-print_directory-2-clause-printed g c start text h =
    let e = err_from_is_err_and c.from_residual-in_err-print_directory-2.result
    c.from_residual-in_err-print_directory-2.ensures.1 in
    let form = c.args.form in
    let p = c.args.path in
    let name = c.args.name.now in
    let base = option_copied c.text.result in
    let directory = option_copied c.text-2.result in
    let a = folder form (unwrap_or base []) in
    let b = folder form (unwrap_or directory []) in
    let n = inner_text form name in
    let old = g.W.Write.contents c.args.output.now in
    let mid = g.W.Write.contents c.print_directory.new.output in
    let new = g.W.Write.contents c.print_directory-2.new.output in
    rw (e.1, e.2) (loses_same old new c.args.printer.now ((a ++ b) ++ n) (inner_text form (path_in_table p name)) _
    (apart_by form p name base directory c.text.ensures c.text-2.ensures)
    (loses_front old new c.args.printer.now (a ++ b) n _
    (loses_then old mid new c.args.printer.now c.print_directory.new.printer a b _ c.in_ok-print_directory.ensures.printed
    c.in_err-print_directory-2.ensures.printed)) start text h)

pub returns-clause-printed : goal.returns-clause-printed
returns-clause-printed g c =
    let form = c.args.form in
    let p = c.args.path in
    let name = c.args.name.now in
    let base = option_copied c.text.result in
    let directory = option_copied c.text-2.result in
    let a = folder form (unwrap_or base []) in
    let b = folder form (unwrap_or directory []) in
    let n = inner_text form name in
    let old = g.W.Write.contents c.args.output.now in
    let mid = g.W.Write.contents c.print_directory.new.output in
    let between = g.W.Write.contents c.print_directory-2.new.output in
    let new = g.W.Write.contents c.print_text.new.output in
    prints_same old new c.args.printer.now c.print_text.new.printer ((a ++ b) ++ n) (inner_text form (path_in_table p name))
    c.print_text.result (apart_by form p name base directory c.text.ensures c.text-2.ensures)
    (prints_then old between new c.args.printer.now c.print_directory-2.new.printer c.print_text.new.printer (a ++ b) n
    c.print_text.result
    (more_then old mid between c.args.printer.now c.print_directory.new.printer c.print_directory-2.new.printer a b
    c.in_ok-print_directory.ensures.printed c.in_ok-print_directory-2.ensures.printed) c.print_text.ensures.printed)
