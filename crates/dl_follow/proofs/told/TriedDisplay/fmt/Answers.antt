use Rattle.std.proofs.Common.{◌∙◌, ℕ, List, [], ◌∷◌, ◌++◌, refl, sym, ap, subst, arith, append_assoc}
use Rattle.std.specs.Borrow.{Bor}
use Rattle.std.specs.Fmt.{HasWritten}
use Rattle.std.proofs.lemmas.Bool.{ne_eqb}
use Rattle.std.proofs.Output.{has_written_append}
use Rattle.dl_follow.specs.Left.{left}
use Rattle.dl_follow.specs.NotFoundText.{listed_first, tried}
use Rattle.dl_follow.proofs.ToldLemmas.{length-more, listed_cut, listed_more}
use Rattle.dl_follow.proofs.told.TriedDisplay.fmt.Goals as goal
use Rattle.dl_follow.proofs.told.TriedDisplay.fmt.Goals.{then-told-eq0, else-told-eq0}

pub returns-then-told-eq-TOLD-clause-writes : goal.returns-then-told-eq-TOLD-clause-writes
returns-then-told-eq-TOLD-clause-writes g c = λ plain ok.
    let (done, cut, len, few, written) = c.loop-path.invariant in
    let three = len ∙ c.if-told-eq-TOLD.true in
    subst (λ (l : List ℕ). HasWritten g.W.Write.write_str_gives c.args.f.now l c.write.new.self)
    (sym (ap listed_first (cut ∙ ap (λ (l : List (List ℕ)). done ++ l) c.in-Some.ensures)
    ∙ listed_cut done c.in-Some.path.items (tried (left c.next_path.new.candidates)) three))
    (has_written_append _ _ _ _ _ _ (written plain) (c.write.ensures.writes (written plain).plain ok))

pub loop-path-preserved : goal.loop-path-preserved
loop-path-preserved g c =
    let (done, cut, len, few, written) = c.loop-path.invariant in
    let path = c.in-Some.path.items in (
      done ++ path ∷ [],
      cut ∙ ap (λ (l : List (List ℕ)). done ++ l) c.in-Some.ensures
          ∙ sym (append_assoc done (path ∷ []) (tried (left c.next_path.new.candidates))),
      length-more done path c.loop-path.told len,
      omega (arith, few, c.if-told-eq-TOLD.false),
      λ plain. subst (λ (l : List ℕ). HasWritten g.W.Write.write_str_gives c.args.f.now l c.write-in-Some.new.self)
          (sym (listed_more done path))
          (has_written_append _ _ _ _ _ _ (written plain) (subst (λ (l : List ℕ). HasWritten g.W.Write.write_str_gives c.loop-path.f l c.write-in-Some.new.self)
          (elim c.if-told-eq0.branch [
            | then-told-eq0 w ↦ rw (ap (λ (b : Bor (List ℕ)). b.now) w.before-is, c.as_slice.ensures.value, len ∙ w.if-told-eq0.true) refl
            | else-told-eq0 w ↦ rw (ap (λ (b : Bor (List ℕ)). b.now) w.before-is, c.as_slice.ensures.value, len, ne_eqb c.loop-path.told 0 w.if-told-eq0.false) refl
          ]) (c.write-in-Some.ensures.writes (written plain).plain (rw c.in_ok-write.was refl)))),
    )
