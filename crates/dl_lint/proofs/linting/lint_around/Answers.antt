use Rattle.std.proofs.Common.{refl}
use Rattle.std.proofs.KnownBytes.{Appends-nil}
use Rattle.dl_print.proofs.Outs.{HasPrinted-nothing}
use Rattle.dl_sections.proofs.BlameLemmas.{blames_where}
use Rattle.dl_lint.proofs.CommandLemmas.{never_wanted, reads_around}
use Rattle.dl_lint.proofs.LintingLemmas.{begins}
use Rattle.dl_lint.proofs.linting.lint_around.Goals as goal

pub returns : goal.returns
returns g c =
    let start = g.W.Write.contents c.args.output.now in
    let result = c.read_around.result in
    let read = c.read_around.ensures in
    let nothing = HasPrinted-nothing start start c.new-printer.result (Appends-nil start) c.new-printer.ensures.nothing_pending
    c.new-printer.ensures.nothing_out in
    record {
      ran = reads_around _ _ _ _ _ _ _ _ _ c.read_around.new.visitor
          (λ hears. begins hears refl c.at_start.ensures (c.before_units-files.ensures c.args.question.now.rules) (c.before_units-sequences.ensures c.args.question.now) c.ends_of.ensures c.none.ensures nothing)
          _ (search) result read.ran;
      blames = blames_where read.blames (λ e. (
        record {
          tells = begins e.0 refl c.at_start.ensures (c.before_units-files.ensures c.args.question.now.rules) (c.before_units-sequences.ensures c.args.question.now) c.ends_of.ensures c.none.ensures nothing;
          out = Appends-nil start;
          never = λ visits no. (let e = no.0 in absurd cc);
        },
        e.1,
      ));
      blames_writer = λ hears. read.blames_writer
          (begins hears refl c.at_start.ensures (c.before_units-files.ensures c.args.question.now.rules) (c.before_units-sequences.ensures c.args.question.now) c.ends_of.ensures c.none.ensures nothing)
          (Appends-nil start);
      over = λ hears. never_wanted _ _ result (λ done. done.2.1) (read.over
          (begins hears refl c.at_start.ensures (c.before_units-files.ensures c.args.question.now.rules) (c.before_units-sequences.ensures c.args.question.now) c.ends_of.ensures c.none.ensures nothing)
          (Appends-nil start));
    }
