use Rattle.std.proofs.Common.{◌≡◌, Some, ap, sym, ◌∙◌, subst, arith}
use Rattle.dl_index.specs.Layout.{count_in, start_in}
use Rattle.dl_index.specs.LookUp.{FindsLast}
use Rattle.dl_index_file.specs.Finder.{index_of}
use Rattle.dl_index_file.specs.Opening.{source_of}
use Rattle.dl_index_file.specs.Narrowed.{Narrowed}
use Rattle.dl_index_file.proofs.finder.FileFinder.last_upto.Goals as goal
use Rattle.dl_index_file.proofs.finder.FileFinder.last_upto.Goals.{then-not-holds+in_ok-read_starts, else-not-holds}

pub returns-clause-last : goal.returns-clause-last
returns-clause-last g c f is short =
    let st = c.args.self.now.index.now.stands f is short in
    let x = c.in-Some.offset in
    let known = g.S.ReadAt.all_bytes in
    let standing : (known (source_of (index_of c.if-not-holds.self)) ≡ Some f)
    × Narrowed (start_in f) (count_in f) x c.if-not-holds.self.first c.if-not-holds.self.count =
    elim c.if-not-holds.branch [
      | then-not-holds+in_ok-read_starts w ↦
          subst
          (λ s. (known (source_of (index_of s)) ≡ Some f) × Narrowed (start_in f) (count_in f) x s.first s.count)
          (sym w.self-is)
          (ap (λ i. known (source_of i)) w.in_ok-read_starts.ensures.index ∙ is, w.in_ok-read_starts.ensures.narrowed f is short)
      | else-not-holds w ↦
          subst
          (λ s. (known (source_of (index_of s)) ≡ Some f) × Narrowed (start_in f) (count_in f) x s.first s.count)
          (sym w.self-is)
          (is, c.holds.ensures.narrowed w.if-not-holds.false f is short)
    ] in
    let base = st.reads.base in
    let offset = c.in-Some.ensures in (
      (omega arith),
      subst (λ n. FindsLast (start_in f) (count_in f) n c.last_held.result) (omega arith)
          (c.last_held.ensures.last f standing.0 short standing.1),
    )
