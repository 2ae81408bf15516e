use Rattle.std.proofs.Common.{Some, subst}
use Rattle.dl_index.specs.Shown.{told}
use Rattle.dl_index_buffers.specs.IndexFindCalls.{IsTold}
use Rattle.dl_index_buffers.specs.IndexRecords.{Tells}
use Rattle.dl_index_buffers.proofs.finding.find.Goals as goal

pub returns-in-Some-find : goal.returns-in-Some-find
returns-in-Some-find c =
    let same = c.in-Some.ensures.bytes in
    let is = c.in-Some-find.ensures in
    let found = c.in-Some-find.found in
    let a = c.args.address in (
      c.in-Some.ensures.laid_out,
      (
        told found,
        subst (λ b. IsTold b a (Some (told found))) same (record { exact = is.told; stands = is.stands }),
        subst (λ b. Tells b (told found) c.found.result) same (c.found.ensures _ is.places),
      ),
    )
