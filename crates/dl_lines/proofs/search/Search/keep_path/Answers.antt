use Rattle.std.proofs.Common.{◌∙◌, ◌∷◌, ◌++◌, [], ℕ, List, ap, map}
use Rattle.std.proofs.lemmas.List.{map-append}
use Rattle.std.specs.Global.{Vec}
use Rattle.dl_lines.specs.Searching.{texts_of}
use Rattle.dl_lines.proofs.search.Search.keep_path.Goals as goal

pub returns-clause-paths : goal.returns-clause-paths
returns-clause-paths g c =
    let old = c.args.self.now.paths in
    ap (map (λ (v : Vec ℕ). v.items)) c.in_ok-push.ensures.items
    ∙ map-append (λ (v : Vec ℕ). v.items) old.items (c.extend_from_slice.new.list ∷ [])
    ∙ ap (λ (l : List ℕ). texts_of old ++ l ∷ []) (c.in_ok-extend_from_slice.ensures.items
    ∙ ap (λ (l : List ℕ). l ++ c.args.path.now) c.in_ok-copy.ensures.items)
