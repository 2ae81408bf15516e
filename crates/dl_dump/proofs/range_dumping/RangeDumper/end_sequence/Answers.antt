use Rattle.std.proofs.Common.{◌∙◌, ◌++◌, Bool, Ok, ap, refl, sym}
use Rattle.std.specs.Prelude.{⊤, None, if◌then◌else◌}
use Rattle.dl_path.proofs.PrintLemmas.{prints_same}
use Rattle.dl_dump.specs.DetailText.{shown_after}
use Rattle.dl_dump.specs.RangeDumping.{ended_lines, style_held}
use Rattle.dl_dump.specs.RangeText.{unit_lines, visits_held}
use Rattle.dl_dump.proofs.RangeItemLemmas.{lines_unwanted, lines_wanted}
use Rattle.dl_dump.proofs.RangeLemmas.{nothing_printed}
use Rattle.dl_dump.proofs.range_dumping.RangeDumper.end_sequence.Goals as goal
use Rattle.dl_dump.proofs.range_dumping.RangeDumper.end_sequence.Goals.{then-covers_between+in_ok-self, else-covers_between}

pub returns-clause-ended : goal.returns-clause-ended
returns-clause-ended g c =
    let old = c.args.self.now in
    let h = c.args.header.now in
    elim c.if-covers_between.branch [
      | then-covers_between+in_ok-self w ↦
          let is = rw (c.first_place_of.ensures, c.as_slice-items.ensures.value) at
          (sym c.covers_between.ensures ∙ w.if-covers_between.true) in
          rw (w.self-is, w.output-is) (record {
            printed = prints_same {A = ⊤} _ _ _ _ (unit_lines (style_held old) old.at h old.unit
                ++ shown_after (style_held old) old.at (visits_held h old.items.now.items)) (ended_lines old h c.args.end) (Ok tt)
                (lines_wanted old h c.args.end is)
                (rw c.as_slice-items.ensures.value at w.in_ok-self.ensures.printed);
            ended = λ e. record {
              style = refl;
              damages = refl;
              memory = refl;
              range = refl;
              at = rw c.as_slice-items.ensures.value at w.in_ok-self.ensures.reached;
              unit = sym (ap (λ (b : Bool). if b then None else old.unit) is);
              none = c.clear.ensures.items;
              whole = refl;
            };
          })
      | else-covers_between w ↦
          let is = rw (c.first_place_of.ensures, c.as_slice-items.ensures.value) at
          (sym c.covers_between.ensures ∙ w.if-covers_between.false) in
          rw (w.self-is, w.output-is) (record {
            printed = nothing_printed _ old.printer.now (ended_lines old h c.args.end) (lines_unwanted old h c.args.end is);
            ended = λ e. record {
              style = refl;
              damages = refl;
              memory = refl;
              range = refl;
              at = rw c.as_slice-items.ensures.value at (w.pass_items-self.ensures (style_held old).strings);
              unit = sym (ap (λ (b : Bool). if b then None else old.unit) is);
              none = c.clear.ensures.items;
              whole = refl;
            };
          })
    ]
