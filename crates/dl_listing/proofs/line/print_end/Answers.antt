use Rattle.std.proofs.Common.{◌∙◌, ◌^◌, ℕ, Option, codes, sym, ap}
use Rattle.std.specs.Prelude.{unwrap_or}
use Rattle.dl_path.proofs.PrintLemmas.{prints_same}
use Rattle.dl_listing.specs.Listing.{address_text}
use Rattle.dl_listing.proofs.TextLemmas.{last_end}
use Rattle.dl_listing.proofs.line.print_end.Goals as goal

pub returns-in-None-clause-printed : goal.returns-in-None-clause-printed
returns-in-None-clause-printed g c =
    prints_same (g.W.Write.contents c.args.output.now) (g.W.Write.contents c.put.new.output) c.args.printer.now
    c.put.new.self (codes "0x10000000000000000") (address_text (unwrap_or c.args.end (2 ^ 64))) c.put.result
    (last_end ∙ ap (λ (o : Option ℕ). address_text (unwrap_or o (2 ^ 64))) (sym c.in-None.is)) c.put.ensures.printed
