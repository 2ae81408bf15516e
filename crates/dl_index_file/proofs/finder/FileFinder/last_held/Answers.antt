use Rattle.std.proofs.Common.{ℕ, ◌≤◌, ap₂, arith, subst}
use Rattle.dl_index.specs.Columns.{number_at, size_of}
use Rattle.dl_index.specs.LookUp.{Rise, IsLastUpto}
use Rattle.dl_index_file.proofs.FinderLemmas.{last_of_held}
use Rattle.dl_index_file.proofs.finder.FileFinder.last_held.Goals as goal

pub returns-clause-last : goal.returns-clause-last
returns-clause-last g c f is short narrowed =
    let self = c.args.self.now in
    let st = self.index.now.stands f is short in
    let n = c.numbers.ensures in
    let s = size_of self.index.now.header.widths.starts in
    let k = c.last_upto.result in
    let read : ℕ → ℕ = number_at (size_of c.numbers.result.width) c.numbers.result.bytes.now in
    last_of_held f self.starts self.first self.count s c.args.x st.reads.widths.starts (self.holds f is short) c.requires.some
    k (let within = self.within in let count = st.reads.count in omega arith) narrowed
    (let less = c.last_upto.ensures.within in let len = n.len in omega arith)
    (subst (λ (t : ℕ → ℕ). Rise t self.count → t 0 ≤ c.args.x → IsLastUpto t self.count c.args.x k)
    (ap₂ (λ w b. number_at (size_of w) b) n.width n.bytes)
    (subst (λ m. Rise read m → read 0 ≤ c.args.x → IsLastUpto read m c.args.x k) n.len c.last_upto.ensures.last))
