use Rattle.std.proofs.Common.{◌+◌, ◌-◌, ◌/◌, ◌≤◌, ◌<◌, sym, arith, subst}
use Rattle.dl_elf.specs.Elf.{bytes_at}
use Rattle.dl_index.specs.Columns.{number_at, size_of}
use Rattle.dl_index_file.specs.Narrowed.{Narrowed}
use Rattle.dl_index_file.proofs.NarrowLemmas.{goes_up, goes_down}
use Rattle.dl_index_file.proofs.search.narrow.Goals as goal
use Rattle.dl_index_file.proofs.search.narrow.Goals.{then-branch-x, else-branch-x}

pub loop-left-preserved : goal.loop-left-preserved
loop-left-preserved g c =
    let l = c.loop-left in
    let inv = l.invariant in
    let more = c.loop-left-test.true in
    let some = inv.2 in
    let half = l.left / 2 in
    let s = size_of c.args.width in
    let low : c.if-branch-x.low + (l.left - half) ≤ c.args.count = elim c.if-branch-x.branch [
      | then-branch-x w ↦ (let is = w.low-is in let within = inv.1 in omega arith)
      | else-branch-x w ↦ (let is = w.low-is in let within = inv.1 in omega arith)
    ] in (
      omega arith,
      low,
      inv.2,
      inv.3,
      λ f is short.
          (let start = number_at s (bytes_at c.args.starts.now.offset c.args.starts.now.size f) in
          let read = c.in_ok-number_at.ensures.value f is short in
          let n = inv.4 f is short in
          elim c.if-branch-x.branch [
            | then-branch-x w ↦
                subst
                (λ k. Narrowed start c.args.count c.args.x k (l.left - half))
                (sym w.low-is)
                (goes_up start c.args.count c.args.x l.low l.left inv.1 inv.0 n half (omega arith) (subst (λ m. m ≤ c.args.x) read w.if-branch-x.true))
            | else-branch-x w ↦
                subst
                (λ k. Narrowed start c.args.count c.args.x k (l.left - half))
                (sym w.low-is)
                (goes_down start c.args.count c.args.x l.low l.left inv.1 inv.0 n half (omega arith) (subst (λ m. c.args.x < m) read (let no = w.if-branch-x.false in omega arith)))
          ]),
    )
