use Rattle.std.proofs.Common.{sym, ap, ◌∙◌, List, ℕ, arith}
use Rattle.std.specs.Option.{option_copied}
use Rattle.dl_path.specs.Paths.{compiled_in, is_of_windows, under}
use Rattle.dl_path.specs.PathParts.{directory_seen, text_seen}
use Rattle.dl_path.specs.PathTexts.{joined}
use Rattle.dl_path.specs.Shown.{after_the_last, separates}
use Rattle.dl_path.proofs.HeaderTextLemmas.{alone_within}
use Rattle.dl_path.proofs.WindowsLemmas.{basename_compiled}
use Rattle.dl_path.proofs.component.basename_under.Goals as goal

pub returns-clause-seen : goal.returns-clause-seen
returns-clause-seen c =
    let p = c.args.parts in
    let root = option_copied c.args.root in
    let of_windows = c.compiled_in_windows.result in
    let sep = separates of_windows in
    let whole = c.path-whole.ensures in
    ap joined c.alone.ensures.apart
    ∙ c.text_from.ensures.seen
    ∙ ap (λ (w : List ℕ). Rattle.std.specs.Prelude.drop c.component_start-start.result w) (sym whole.name)
    ∙ c.component_start-start.ensures.seen
    ∙ ap (after_the_last sep) whole.name
    ∙ sym (basename_compiled root (under (directory_seen p.base) (directory_seen p.directory)) (text_seen p.name) of_windows
    (c.compiled_in_windows.ensures ∙ ap (λ (w : List ℕ). is_of_windows (compiled_in root w)) whole.seen))

pub returns-clause-within : goal.returns-clause-within
returns-clause-within c most few =
    alone_within most c.alone.result c.text_from.result c.alone.ensures.base c.alone.ensures.directory c.alone.ensures.name
    (omega (arith, c.text_from.ensures.within, few.name))
