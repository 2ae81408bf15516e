use Rattle.dl_sections.proofs.Names.{Appends-nil, directory_by, made_by}
use Rattle.dl_sections.proofs.CopierLemmas.{begins}
use Rattle.dl_sections.proofs.CopyingAnswers.{copies}
use Rattle.dl_sections.proofs.RangeLemmas.{KeepsRanges, to_5_keeps}
use Rattle.dl_sections.proofs.BlameLemmas.{blames_where, copies_never_read}
use Rattle.dl_sections.proofs.EndLemmas.{only_over}
use Rattle.dl_sections.proofs.copying.copy_to_5.Goals as goal

pub returns : goal.returns
returns g c =
    let options = c.args.options.now in
    let copier = c.new-copier in
    let read = c.read_units.ensures.ran in
    let ran = read.2 (begins copier.result _ copier.ensures.no_row copier.ensures.nothing_pending copier.ensures.nothing_out)
    (Appends-nil _) in
    let keeps : KeepsRanges options.dialect (made_by copier.result.becomes) =
    rw copier.ensures.becomes (to_5_keeps options.dialect (directory_by c.args.directories)) in record {
      ran = (
        read.0,
        read.1,
        rw (copier.ensures.memory, copier.ensures.becomes) at
            (copies g.M.Memory.refuses _ _ _ _ copier.result _ _ _ copier.ensures.order keeps _ ran),
      );
      blames = blames_where c.read_units.ensures.blames (λ e. (
        record {
          tells = begins copier.result _ copier.ensures.no_row copier.ensures.nothing_pending copier.ensures.nothing_out;
          out = Appends-nil _;
          never = copies_never_read g.M.Memory.refuses copier.result;
        },
        e,
      ));
      blames_writer = c.read_units.ensures.blames_writer
          (begins copier.result _ copier.ensures.no_row copier.ensures.nothing_pending copier.ensures.nothing_out) (Appends-nil _);
      over = only_over (g.R.Source.over c.read_units.new.input) c.read_units.result (c.read_units.ensures.over
          (begins copier.result _ copier.ensures.no_row copier.ensures.nothing_pending copier.ensures.nothing_out) (Appends-nil _));
    }
