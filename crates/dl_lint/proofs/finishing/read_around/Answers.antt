use Rattle.std.proofs.Common.{◌⊎◌, ℕ, List, Option, inl, inr}
use Rattle.dl_sections.specs.Ending.{WantsNoMore}
use Rattle.dl_sections.specs.Visiting.{Story}
use Rattle.dl_lint.specs.Finishing.{WantedNoMore}
use Rattle.std.proofs.lemmas.Result.{err_from_is_err_and}
use Rattle.dl_sections.proofs.BlameLemmas.{blames_where, same_answer}
use Rattle.dl_lint.proofs.finishing.read_around.Goals as goal

-- it wanted nothing more
wanted : {S : Type 0} (Over : Type 0) (story : Story S) (first : S) (start : Option (List ℕ)) (read : S) (held : Option (List ℕ))
    → Over ⊎ WantsNoMore story first read start held → Over ⊎ WantedNoMore story first start
wanted Over story first start read held (inl over) = inl over
wanted Over story first start read held (inr done) = inr (read, held, done)

pub returns-in_err-survey : goal.returns-in_err-survey
returns-in_err-survey g c =
    let p = err_from_is_err_and c.from_residual.result c.from_residual.ensures.1 in
    let read = c.in_err-survey.ensures in
    rw (p.1, p.2) (record {
      ran = (read.ran.0, read.ran.1, λ begun out. inl (read.ran.2 begun out));
      blames = blames_where read.blames (λ e. (e.0, same_answer _ e.1));
      blames_writer = λ begun out. read.blames_writer begun out;
      over = λ begun out. tt;
    })

pub returns-in_err-counts : goal.returns-in_err-counts
returns-in_err-counts g c =
    let p = err_from_is_err_and c.from_residual-in_err-counts.result c.from_residual-in_err-counts.ensures.1 in
    let read = c.in_ok-survey.ensures in
    rw (p.1, p.2) (record {
      ran = (
        read.ran.0,
        read.ran.1,
        λ begun out. inr (c.in_ok-survey.survey, c.read_units_around.new.visitor, _, read.ran.2 begun out, c.in_err-counts.ensures.told),
      );
      blames = blames_where read.blames (λ e. absurd (c.in_err-counts.ensures.unread (same_answer _ e.1)));
      blames_writer = λ begun out. c.in_err-counts.ensures.blames_writer;
      over = λ begun out. tt;
    })

pub returns : goal.returns
returns g c =
    let read = c.in_ok-survey.ensures in
    record {
      ran = (
        read.ran.0,
        read.ran.1,
        λ begun out. (c.read_units_around.new.visitor, _, read.ran.2 begun out, c.in_ok-counts.ensures.told),
      );
      blames = blames_where read.blames (λ e. absurd (let e = e.1 in cc));
      blames_writer = λ begun out. tt;
      over = λ begun out whole. wanted (g.R.Source.over c.read_units_around.new.input) g.V.Visitor.story c.args.visitor.now
          (g.W.Write.contents c.args.output.now) c.read_units_around.new.visitor (g.W.Write.contents c.read_units_around.new.output)
          (read.over begun out whole);
    }
