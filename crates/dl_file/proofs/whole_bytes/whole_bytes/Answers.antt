use Rattle.std.proofs.Common.{◌∙◌, ap, arith, length}
use Rattle.dl_file.proofs.SectionBytesLemmas.{bytes_of_section}
use Rattle.dl_file.proofs.WholeLemmas.{inflated_had, section_few}
use Rattle.dl_file.proofs.whole_bytes.whole_bytes.Goals as goal

pub returns-clause-bytes : goal.returns-clause-bytes
returns-clause-bytes g c = λ f is short.
    let r = c.args.readable.now in
    let s = r.section in
    let within = c.requires.within f is short in
    let read = rw c.in-Some.is at (c.in_ok-bytes.ensures.bytes f is short) in
    let section = c.as_slice.ensures.value ∙ bytes_of_section f s.header c.in-Some.bytes.items within read in
    inflated_had f r c.in-Some-stream.header _ c.inflate_whole.result c.in-Some-stream.is within
    section
    (c.inflate_whole.ensures.bytes (omega (arith, short, ap length section, section_few f s.header)))
