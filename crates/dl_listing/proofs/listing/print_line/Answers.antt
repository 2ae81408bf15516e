use Rattle.std.proofs.Common.{◌^◌}
use Rattle.std.specs.Prelude.{unwrap_or}
use Rattle.std.specs.Option.{option_map}
use Rattle.dl_index.specs.Shown.{bytes_of, told}
use Rattle.dl_path.proofs.PrintLemmas.{prints_same}
use Rattle.dl_listing.specs.Lines.{line_of}
use Rattle.dl_listing.specs.Listing.{stretch_line}
use Rattle.dl_listing.proofs.StretchLemmas.{stretch_is}
use Rattle.dl_listing.proofs.listing.print_line.Goals as goal

pub returns-in-Some-clause-printed : goal.returns-in-Some-clause-printed
returns-in-Some-clause-printed g c index lt =
    let b = bytes_of c.args.index.now in
    let s = c.in-Some.stretch in
    let is = c.in-Some.ensures in
    prints_same (g.W.Write.contents c.args.output.now) (g.W.Write.contents c.print_stretch.new.output)
    c.args.printer.now c.print_stretch.new.printer
    (stretch_line s.start (unwrap_or s.end (2 ^ 64)) (option_map told s.found)) (line_of b c.args.k)
    c.print_stretch.result
    (stretch_is b c.args.k s.start s.end (option_map told s.found) index lt is.start is.end is.told)
    c.print_stretch.ensures.printed
