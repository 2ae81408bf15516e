use Rattle.std.proofs.Common.{◌+◌, ◌∷◌, [], ℕ, List, length, length-append, slice_index_or, arith, sym, ap, subst, ◌∙◌}
use Rattle.std.proofs.lemmas.List.{get_or_default}
use Rattle.dl_lines.specs.declared.question.Wanted.{Wanted}
use Rattle.dl_lines.specs.declared.search.Search.{Search}
use Rattle.dl_lines.specs.Kept.{is_exact}
use Rattle.dl_lines.specs.Searching.{IsNew}
use Rattle.dl_lines.proofs.EachLemmas.{made_more}
use Rattle.dl_lines.proofs.searches.searches_for.Goals as goal

pub loop-each-preserved : goal.loop-each-preserved
loop-each-preserved g c =
    let lt = c.loop-each-test.true in
    let l = c.loop-each in
    let exact = is_exact c.args.lines in
    let wanted = c.args.wanted.now in
    let items = c.push_reserved.ensures.items in
    record {
      capacity = omega (arith, l.invariant.capacity, c.push_reserved.ensures.capacity);
      count = ap length items ∙ length-append l.searches.items (c.new.result ∷ []) ∙ ap (λ (n : ℕ). n + 1) l.invariant.count;
      new = λ i d w below. subst (λ (s : List Search). IsNew (slice_index_or s i d) (slice_index_or wanted i w) exact) (sym items)
          (made_more l.searches.items c.new.result wanted exact l.each-index l.invariant.count l.invariant.new
          (λ v. subst (λ (x : Wanted). IsNew c.new.result x exact) (get_or_default wanted l.each-index _ v lt) c.new.ensures) i d w
          below);
    }
