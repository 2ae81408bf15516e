use Rattle.std.proofs.Common.{◌≡◌, ◌^◌, ◌<◌, ◌≤◌, [], length, ap, arith}
use Rattle.std.proofs.lemmas.Bool.{le-leb}
use Rattle.std.proofs.KnownBytes.{Appends-nil}
use Rattle.dl_field.specs.declared.params.Params.{Params}
use Rattle.dl_table.specs.Writing.{IsOut}
use Rattle.dl_head.specs.Written.{header_bytes, header_length_of, unit_length_of, written_limit}
use Rattle.dl_head.proofs.OrderLemmas.{length-header, written_limit-le, initial_size-le}
use Rattle.dl_head.proofs.WriteLemmas.{writes_header}
use Rattle.dl_head.proofs.write.write_header.Goals as goal

pub returns-clause-written : goal.returns-clause-written
returns-clause-written g c =
    let h = c.args.header.now in
    let n = c.args.program_len in
    let limit = written_limit-le h.params.format in
    let same = ap (λ (p : Params). written_limit p.format) c.params.ensures.value in
    let unit : c.saturating_add-unit.result ≡ unit_length_of h n = omega arith in
    let rest : c.header_length.result ≡ header_length_of h = omega arith in
    let within : unit_length_of h n ≤ written_limit h.params.format = omega arith in
    let short : length (header_bytes c.args.order h n) < 2 ^ 64 =
    omega (arith, length-header c.args.order h n, initial_size-le h.params.format) in
    let none : IsOut (g.W.Write.contents c.args.output.now) (g.W.Write.contents c.args.output.now) [] 0 =
    record { written = Appends-nil (g.W.Write.contents c.args.output.now); counted = omega arith } in
    writes_header c.args.order h n _ _ c.put_header.result c.saturating_add-unit.result c.header_length.result
    (le-leb _ _ within) short unit rest
    (c.put_header.ensures.written (g.W.Write.contents c.args.output.now) [] none)
