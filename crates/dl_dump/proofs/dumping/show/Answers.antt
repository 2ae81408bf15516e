use Rattle.std.proofs.Common.{refl}
use Rattle.std.proofs.KnownBytes.{Appends-nil}
use Rattle.dl_print.proofs.Outs.{HasPrinted-nothing}
use Rattle.dl_sections.proofs.BlameLemmas.{blames_where}
use Rattle.dl_dump.proofs.CommandLemmas.{dumps}
use Rattle.dl_dump.proofs.dumping.show.Goals as goal

pub returns-clause-ran : goal.returns-clause-ran
returns-clause-ran g c =
    let start = g.W.Write.contents c.args.output.now in
    let read = c.read_units.ensures.ran in
    let nothing = HasPrinted-nothing start start c.new.result (Appends-nil start) c.new.ensures.nothing_pending
    c.new.ensures.nothing_out in
    let ran = read.2 (record { style = refl; damages = refl; heard = tt; reached = refl; printed = nothing }) (Appends-nil start) in
    (read.0, read.1, rw c.new-strings.ensures at (dumps _ _ _ _ _ _ _ _ _ refl _ ran))

pub returns-clause-blames : goal.returns-clause-blames
returns-clause-blames g c =
    let start = g.W.Write.contents c.args.output.now in
    let nothing = HasPrinted-nothing start start c.new.result (Appends-nil start) c.new.ensures.nothing_pending
    c.new.ensures.nothing_out in
    blames_where c.read_units.ensures.blames (λ e. (
      record {
        tells = record { style = refl; damages = refl; heard = tt; reached = refl; printed = nothing };
        out = Appends-nil start;
        never = λ visits never. never;
      },
      e,
    ))
