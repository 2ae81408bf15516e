use Rattle.std.proofs.Common.{◌+◌, Some, subst}
use Rattle.dl_index.specs.Shown.{bytes_of}
use Rattle.dl_index.specs.Telling.{IsStart, told_in}
use Rattle.dl_index_buffers.specs.IndexRecords.{Answers}
use Rattle.dl_index_buffers.proofs.listing.stretch.Goals as goal

pub returns : goal.returns
returns c =
    let same = c.in-Some.ensures.bytes in
    let is = c.in-Some-stretch.ensures in
    let listed = c.in-Some-stretch.listed in
    let k = c.args.k in
    let start = subst (λ b. IsStart b k (Some listed.start)) same is.start in
    let own = bytes_of c.in-Some.index in
    let answers = subst (λ told. Answers own told c.of.result) is.told (c.of.ensures own is.places) in (
      c.in-Some.ensures.laid_out,
      start.0,
      start.1,
      (listed.end, subst (λ b. IsStart b (k + 1) listed.end) same is.end, c.last_before.ensures),
      subst (λ b. Answers b (told_in b k) c.of.result) same answers,
    )
