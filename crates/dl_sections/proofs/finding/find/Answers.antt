use Rattle.dl_look.specs.declared.finder.Finder.{Finder}
use Rattle.dl_print.specs.declared.output.string_sections.StringSections.{StringSections}
use Rattle.dl_sections.proofs.Names.{◌≡◌, ◌∙◌, Appends-nil, err_from_is_err_and, false, find_story, Place, Printed, refl, Seeker, true}
use Rattle.std.proofs.Common.{sym}
use Rattle.dl_sections.proofs.SeekerLemmas.{begins}
use Rattle.dl_sections.proofs.FindingAnswers.{failed, found, not_found}
use Rattle.dl_sections.proofs.BlameLemmas.{blames_where}
use Rattle.dl_sections.proofs.EndLemmas.{none_unfound, only_left, unfound}
use Rattle.dl_sections.proofs.finding.find.Goals as goal

-- the seeker that reads the section
abbrev first_of : Place → Printed → StringSections → Finder → Seeker
first_of place printer strings finder =
    record { printer = printer; strings = strings; place = place; finder = finder; found = false }

pub returns-in_err-summary : goal.returns-in_err-summary
returns-in_err-summary g c =
    let p = err_from_is_err_and c.from_residual.result c.from_residual.ensures.1 in
    let first = first_of c.args.place c.new.result c.new-strings.result c.new-2.result in
    let begun = begins first (g.W.Write.contents c.args.output.now) c.new.ensures.nothing_pending
    c.new.ensures.nothing_out refl c.new-2.ensures in
    let read = c.in_err-summary.ensures.ran in
    rw (p.1, p.2) (record {
      ran = (read.0, read.1, failed _ _ _ _ _ first _ _ _ c.new-strings.ensures _ (read.2 begun (Appends-nil _)));
      blames = blames_where c.in_err-summary.ensures.blames (λ e. (
        record { tells = begun; out = Appends-nil _; never = λ visits no. no },
        e,
      ));
      blames_writer = c.in_err-summary.ensures.blames_writer begun (Appends-nil _);
      over = λ e. absurd (none_unfound find_story first _ _ _ _ _ _ _ _ (λ visits no. no) (read.2 begun (Appends-nil _)) (unfound _ e));
    })

pub returns-then-seeker : goal.returns-then-seeker
returns-then-seeker g c =
    let first = first_of c.args.place c.new.result c.new-strings.result c.new-2.result in
    let begun = begins first (g.W.Write.contents c.args.output.now) c.new.ensures.nothing_pending
    c.new.ensures.nothing_out refl c.new-2.ensures in
    let read = c.in_ok-summary.ensures.ran in record {
      ran = (
        read.0,
        read.1,
        found _ _ _ _ _ first _ _ _ c.new-strings.ensures _ c.if-seeker.true (read.2 begun (Appends-nil _)),
      );
      blames = blames_where c.in_ok-summary.ensures.blames (λ e. absurd cc);
      blames_writer = tt;
      over = λ e. absurd (cc e);
    }

pub returns-else-seeker : goal.returns-else-seeker
returns-else-seeker g c =
    let first = first_of c.args.place c.new.result c.new-strings.result c.new-2.result in
    let begun = begins first (g.W.Write.contents c.args.output.now) c.new.ensures.nothing_pending
    c.new.ensures.nothing_out refl c.new-2.ensures in
    let read = c.in_ok-summary.ensures.ran in record {
      ran = (
        read.0,
        read.1,
        not_found _ _ _ _ _ first _ _ _ c.new-strings.ensures _ c.if-seeker.false (read.2 begun (Appends-nil _)),
      );
      blames = blames_where c.in_ok-summary.ensures.blames (λ e. absurd cc);
      blames_writer = tt;
      over = λ e. only_left (λ done. (let bad : true ≡ false = sym done.1.found ∙ c.if-seeker.false in cc bad))
          (c.in_ok-summary.ensures.over begun (Appends-nil _));
    }
