use Rattle.std.proofs.Common.{refl}
use Rattle.std.proofs.KnownBytes.{Appends-nil}
use Rattle.dl_print.proofs.Outs.{HasPrinted-nothing}
use Rattle.dl_sections.proofs.BlameLemmas.{blames_where}
use Rattle.dl_dump.proofs.CommandLemmas.{dumps_around}
use Rattle.dl_dump.proofs.dumping.show_around.Goals as goal

pub returns-clause-ran : goal.returns-clause-ran
returns-clause-ran g c =
    let start = g.W.Write.contents c.args.output.now in
    let read = c.read_units_around.ensures.ran in
    let nothing = HasPrinted-nothing start start c.new-printer.result (Appends-nil start) c.new-printer.ensures.nothing_pending
    c.new-printer.ensures.nothing_out in (
      read.0,
      read.1,
      λ none. rw (← c.new-strings.ensures) (dumps_around _ _ _ _ _ _ _ _ _ refl _ (search) c.read_units_around.result
          (read.2 (record { style = refl; damages = refl; heard = none; reached = refl; printed = nothing }) (Appends-nil start))),
    )

pub returns-clause-blames : goal.returns-clause-blames
returns-clause-blames g c =
    let start = g.W.Write.contents c.args.output.now in
    let nothing = HasPrinted-nothing start start c.new-printer.result (Appends-nil start) c.new-printer.ensures.nothing_pending
    c.new-printer.ensures.nothing_out in
    blames_where c.read_units_around.ensures.blames (λ e. (
      record {
        tells = record { style = refl; damages = refl; heard = e.0; reached = refl; printed = nothing };
        out = Appends-nil start;
        never = λ visits never. never;
      },
      e.1,
    ))
