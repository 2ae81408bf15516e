use Rattle.std.proofs.Common.{◌≡◌, sym, ap, ◌∙◌, arith, subst, ⊎_elim}
use Rattle.std.proofs.lemmas.Result.{IfOk-weaker}
use Rattle.dl_index.specs.IsIndex.{IsIndex}
use Rattle.dl_index.specs.Telling.{told_in, find_in}
use Rattle.dl_index.proofs.FindLemmas.{finds, finds_nothing, finds_none}
use Rattle.dl_index_file.specs.Opening.{source_of}
use Rattle.dl_index_file.specs.Steps.{IsLastStart, StretchTells}
use Rattle.dl_index_file.specs.FindsIn.{FindsIn}
use Rattle.dl_index_file.proofs.FileLemmas.{finds_stretch}
use Rattle.dl_index_file.proofs.finder.FileFinder.find.Goals as goal

pub returns-in-Some-clause-finds : goal.returns-in-Some-clause-finds
returns-in-Some-clause-finds g c b is short =
    let a = c.args.address in
    let k = c.in-Some.k in
    let last = subst (IsLastStart b a) c.in-Some.is (c.in_ok-k.ensures.last b is short) in
    let exact : IsIndex b → find_in b a ≡ told_in b k =
    λ index.
    (let some = last.1.within in
    let base = last.0 in
    let first = index.ordered.first (omega arith) in
    finds b a k base index.ordered.rise (last.1.last index.ordered.rise (omega arith))) in
    IfOk-weaker c.found.result (StretchTells b k) (FindsIn b a)
    (λ found tells. finds_stretch b a k found last.1.within tells exact)
    (c.found.ensures.tells b (ap (λ i. g.S.ReadAt.all_bytes (source_of i)) c.in_ok-k.ensures.index ∙ is) short)

pub returns-in-None-clause-finds : goal.returns-in-None-clause-finds
returns-in-None-clause-finds g c b is short =
    let a = c.args.address in
    let last = subst (IsLastStart b a) c.in-None.is (c.in_ok-k.ensures.last b is short) in
    record {
      exact = λ index. sym (⊎_elim (finds_none b a) (finds_nothing b a) last);
      stands = tt;
      lie = tt;
    }
