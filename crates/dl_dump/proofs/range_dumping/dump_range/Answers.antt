use Rattle.std.proofs.Common.{refl}
use Rattle.std.proofs.KnownBytes.{Appends-nil}
use Rattle.dl_print.proofs.Outs.{HasPrinted-nothing}
use Rattle.dl_sections.proofs.BlameLemmas.{blames_where}
use Rattle.dl_sections.proofs.EndLemmas.{only_over}
use Rattle.dl_dump.proofs.RangeCommandLemmas.{dumps}
use Rattle.dl_dump.proofs.RangeLemmas.{begins}
use Rattle.dl_dump.proofs.range_dumping.dump_range.Goals as goal

pub returns : goal.returns
returns g c =
    let start = g.W.Write.contents c.args.output.now in
    let read = c.read_units.ensures.ran in
    let nothing = HasPrinted-nothing start start c.new.result (Appends-nil start) c.new.ensures.nothing_pending
    c.new.ensures.nothing_out in
    let begun = begins nothing tt refl refl refl c.new-2.ensures.items in
    record {
      ran = (read.0, read.1, rw c.new-strings.ensures at (dumps _ _ _ _ _ _ _ _ _ _ _ (read.2 begun (Appends-nil start))));
      blames = blames_where c.read_units.ensures.blames (λ e. (
        record { tells = begun; out = Appends-nil start; never = λ visits no. (let e = no.0 in absurd cc) },
        e,
      ));
      blames_writer = c.read_units.ensures.blames_writer begun (Appends-nil start);
      over = only_over (g.R.Source.over c.read_units.new.input) c.read_units.result
          (c.read_units.ensures.over begun (Appends-nil start));
    }
