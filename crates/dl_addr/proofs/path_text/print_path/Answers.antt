use Rattle.std.proofs.Common.{◌≡◌, ◌∙◌, ℕ, List, Option, Some, None, refl, sym, ap, subst}
use Rattle.std.specs.Prelude.{option_map}
use Rattle.std.specs.Option.{option_copied, option_and_then}
use Rattle.dl_print.specs.Output.{Prints}
use Rattle.dl_addr.specs.declared.kept.KeptPath.{KeptPath}
use Rattle.dl_addr.specs.Printing.{named_text}
use Rattle.dl_addr.specs.Texts.{path_in_table, path_kept, path_named, rooted, text_at}
use Rattle.dl_addr.proofs.path_text.print_path.Goals as goal

map_twice : {A B C : Type 0} (f : B → C) (g : A → B) (o : Option A) → option_map f (option_map g o) ≡ option_map (λ a. f (g a)) o
map_twice f g None = refl
map_twice f g (Some a) = refl

-- by the file's own path
named_by : (p : KeptPath) (name : Option (List ℕ)) → name ≡ option_and_then (text_at p.texts.now) p.file.now.name
    → option_map (path_named p) name ≡ path_kept p
unfolding path_kept
named_by p name is =
    ap (option_map (path_named p)) is
    ∙ sym (map_twice (rooted (option_copied p.root)) (path_in_table p) (option_and_then (text_at p.texts.now)
    p.file.now.name))

pub returns-in-Some-clause-printed : goal.returns-in-Some-clause-printed
returns-in-Some-clause-printed g c =
    let old = g.W.Write.contents c.args.output.now in
    let new = g.W.Write.contents c.print_known.new.output in
    subst (λ (o : Option (List ℕ)). Prints old new c.args.printer.now c.print_known.new.printer
    (named_text c.args.form o) c.print_known.result)
    (ap (option_map (path_named c.args.path)) (sym (ap option_copied c.in-Some.is))
    ∙ named_by c.args.path (option_copied c.text.result) c.text.ensures) c.print_known.ensures.printed

pub returns-in-None-clause-printed : goal.returns-in-None-clause-printed
returns-in-None-clause-printed g c =
    let old = g.W.Write.contents c.args.output.now in
    let new = g.W.Write.contents c.print_no_path.new.output in
    subst (λ (o : Option (List ℕ)). Prints old new c.args.printer.now c.print_no_path.new.printer
    (named_text c.args.form o) c.print_no_path.result)
    (ap (option_map (path_named c.args.path)) (sym (ap option_copied c.in-None.is))
    ∙ named_by c.args.path (option_copied c.text.result) c.text.ensures) c.print_no_path.ensures.printed
