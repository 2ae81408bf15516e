use Rattle.std.proofs.Common.{◌≡◌, ◌-◌, ◌<◌, ◌≤◌, ap₂, ◌∙◌, arith, subst}
use Rattle.std.proofs.lemmas.Bool.{ltb-true}
use Rattle.dl_index.specs.Columns.{number_at, size_of}
use Rattle.dl_index_file.proofs.FinderLemmas.{narrowed_at_end, narrowed_within}
use Rattle.dl_index_file.proofs.finder.FileFinder.holds.Goals as goal

pub returns-then-is_last-clause-narrowed : goal.returns-then-is_last-clause-narrowed
returns-then-is_last-clause-narrowed g c told f is short =
    let self = c.args.self.now in
    let st = self.index.now.stands f is short in
    let n = c.numbers-starts.ensures in
    let s = size_of self.index.now.header.widths.starts in
    let first : c.get.result ≡ number_at s self.starts 0 = c.get.ensures ∙ ap₂ (λ w b. number_at (size_of w) b 0) n.width n.bytes in
    narrowed_at_end f self.starts self.first self.count s c.args.x st.reads.widths.starts (self.holds f is short)
    (let none = c.if-count-eq0.false in omega arith) (subst (λ n. n ≤ c.args.x) first c.if-get-x.true)
    (let end = c.if-is_last.true in end ∙ st.reads.count)

pub returns-else-is_last-clause-narrowed : goal.returns-else-is_last-clause-narrowed
returns-else-is_last-clause-narrowed g c told f is short =
    let self = c.args.self.now in
    let st = self.index.now.stands f is short in
    let n = c.numbers-starts.ensures in
    let s = size_of self.index.now.header.widths.starts in
    let first : c.get.result ≡ number_at s self.starts 0 = c.get.ensures ∙ ap₂ (λ w b. number_at (size_of w) b 0) n.width n.bytes in
    let last : c.get-else-is_last.result ≡ number_at s self.starts (self.count - 1) =
    c.get-else-is_last.ensures ∙ ap₂ (λ w b. number_at (size_of w) b (self.count - 1)) n.width n.bytes in
    narrowed_within f self.starts self.first self.count s c.args.x st.reads.widths.starts (self.holds f is short)
    (let none = c.if-count-eq0.false in omega arith) (subst (λ n. n ≤ c.args.x) first c.if-get-x.true)
    (subst (λ n. c.args.x < n) last (ltb-true c.args.x c.get-else-is_last.result told))
