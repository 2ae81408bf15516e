use Rattle.std.proofs.Common.{refl}
use Rattle.std.proofs.KnownBytes.{Appends-nil}
use Rattle.dl_print.proofs.Outs.{HasPrinted-nothing}
use Rattle.dl_sections.proofs.BlameLemmas.{blames_where}
use Rattle.dl_sections.proofs.EndLemmas.{only_where}
use Rattle.dl_dump_json.proofs.DumpingLemmas.{dumps_around}
use Rattle.dl_dump_json.proofs.dumping.dump_json_around.Goals as goal

pub returns : goal.returns
returns g c =
    let start = g.W.Write.contents c.args.output.now in
    let read = c.read_units_around.ensures.ran in
    let nothing = HasPrinted-nothing start start c.new-printer.result (Appends-nil start) c.new-printer.ensures.nothing_pending
    c.new-printer.ensures.nothing_out in
    record {
      ran = (
        read.0,
        read.1,
        λ none. rw (← c.new-strings.ensures) (dumps_around _ _ _ _ _ _ _ _ _ _ (search) c.read_units_around.result
            (read.2 (record { strings = refl; damages = refl; heard = none; printed = nothing }) (Appends-nil start))),
      );
      blames = blames_where c.read_units_around.ensures.blames (λ e. (
        record {
          tells = record { strings = refl; damages = refl; heard = e.0; printed = nothing };
          out = Appends-nil start;
          never = λ visits no. no;
        },
        e.1,
      ));
      blames_writer = λ none. c.read_units_around.ensures.blames_writer
          (record { strings = refl; damages = refl; heard = none; printed = nothing }) (Appends-nil start);
      over = λ none. only_where (g.R.Source.over c.read_units_around.new.input) c.read_units_around.result (c.read_units_around.ensures.over
          (record { strings = refl; damages = refl; heard = none; printed = nothing }) (Appends-nil start));
    }
