use Rattle.std.proofs.Common.{refl}
use Rattle.std.proofs.KnownBytes.{Appends-nil}
use Rattle.dl_print.proofs.Outs.{HasPrinted-nothing}
use Rattle.dl_sections.proofs.BlameLemmas.{blames_where}
use Rattle.dl_sections.proofs.EndLemmas.{only_over}
use Rattle.dl_dump_json.proofs.DumpingLemmas.{dumps}
use Rattle.dl_dump_json.proofs.dumping.dump_json.Goals as goal

pub returns : goal.returns
returns g c =
    let start = g.W.Write.contents c.args.output.now in
    let read = c.read_units.ensures.ran in
    let nothing = HasPrinted-nothing start start c.new.result (Appends-nil start) c.new.ensures.nothing_pending
    c.new.ensures.nothing_out in
    let ran = read.2 (record { strings = refl; damages = refl; heard = tt; printed = nothing }) (Appends-nil start) in
    record {
      ran = (read.0, read.1, rw c.new-strings.ensures at (dumps _ _ _ _ _ _ _ _ _ _ ran));
      blames = blames_where c.read_units.ensures.blames (λ e. (
        record {
          tells = record { strings = refl; damages = refl; heard = tt; printed = nothing };
          out = Appends-nil start;
          never = λ visits no. no;
        },
        e,
      ));
      blames_writer = c.read_units.ensures.blames_writer
          (record { strings = refl; damages = refl; heard = tt; printed = nothing }) (Appends-nil start);
      over = only_over (g.R.Source.over c.read_units.new.input) c.read_units.result (c.read_units.ensures.over
          (record { strings = refl; damages = refl; heard = tt; printed = nothing }) (Appends-nil start));
    }
