use Rattle.std.proofs.Common.{◌≡◌, ◌+◌, ◌<◌, ℕ, List, Option, length, slice_index_or, arith, refl, sym, ap₂, subst, ◌∙◌}
use Rattle.std.specs.Option.{option_copied}
use Rattle.std.proofs.lemmas.Bool.{eqb-false, eqb-true}
use Rattle.dl_look.specs.FindersRows.{answered_count, told_count}
use Rattle.dl_look.specs.Ledgers.{no_answer}
use Rattle.dl_path.specs.Paths.{beside_table, path_of}
use Rattle.dl_print.specs.ValueText.{strings_of}
use Rattle.dl_addr.specs.Keeping.{directory_under, path_under}
use Rattle.dl_addr.specs.Texts.{IsKept, named, unit_place}
use Rattle.dl_addr.proofs.KeepLemmas.{is_kept, is_other, none_kept, numbers, on_err, on_ok, some_first}
use Rattle.dl_addr.specs.Room.{paths_room}
use Rattle.dl_addr.proofs.RoomLemmas.{err_map, few_within, refused_within}
use Rattle.dl_addr.proofs.TextLemmas.{grows_none}
use Rattle.dl_addr.proofs.locating.Locator.keep.Goals as goal

pub returns-then-is_empty-clause-keeps : goal.returns-then-is_empty-clause-keeps
returns-then-is_empty-clause-keeps g c =
    let old = c.args.self.now in
    let answered = c.answered_so_far-answered.result.now in
    let empty : length answered ≡ 0 = eqb-true (length answered) 0 (sym c.is_empty.ensures ∙ c.if-is_empty.true) in
    record {
      code = refl;
      directories = refl;
      style = refl;
      strings = refl;
      memory = refl;
      unit = refl;
      live = refl;
      finders = refl;
      grows = grows_none c.args.self.now.paths;
      count = refl;
      others = λ places units rows st i none. refl;
      right = λ places units rows st count i r f.
          absurd (none_kept places units rows answered (c.answered_so_far-answered.ensures.answered places units rows st) empty i
          r f);
      some = tt;
      few = few_within old.paths (answered_count old.finders) (told_count old.finders)
          (omega (arith, c.answered_so_far-answered.ensures.count));
      no_more = tt;
    }

pub returns-clause-keeps : goal.returns-clause-keeps
returns-clause-keeps g c =
    let answered = c.answered_so_far-answered.result.now in
    let old = c.args.self.now in
    let h = option_copied c.args.header in
    let some : 0 < length answered =
    let not_zero = eqb-false (length answered) 0 (sym c.is_empty.ensures ∙ c.if-is_empty.false) in
    omega (arith, not_zero) in
    let directory_is : option_copied c.beside_table.result ≡ directory_under old h =
    c.beside_table.ensures ∙ ap₂ beside_table c.has_directory_0.ensures c.of.ensures in
    record {
      code = refl;
      directories = refl;
      style = refl;
      strings = refl;
      memory = refl;
      unit = refl;
      live = refl;
      finders = refl;
      grows = c.keep_all.ensures.grows;
      count = c.keep_all.ensures.len;
      others =
          λ places units rows st i none. c.keep_all.ensures.others i
          (is_other places units rows answered (c.answered_so_far-answered.ensures.answered places units rows st) i none);
      right = on_ok c.keep_all.result c.keep_all.ensures.right (λ each places units rows st count.
          is_kept places units rows answered (c.answered_so_far-answered.ensures.answered places units rows st)
          c.keep_all.new.paths c.keep_all.new.kept.items (path_under old h)
          (λ j lt. subst (λ (d : Option (List ℕ)). IsKept c.keep_all.new.paths c.keep_all.new.kept.items
          (slice_index_or answered j no_answer).number (
            named old.style d (path_of (strings_of old.strings.now) h (slice_index_or answered j no_answer).row.file),
            unit_place h old.unit,
          )) directory_is
          (each (numbers places units rows answered (c.answered_so_far-answered.ensures.answered places units rows st)
          old.kept.items count) j lt)));
      some = on_err c.keep_all.result (λ places units rows st. some_first places units rows answered
          (c.answered_so_far-answered.ensures.answered places units rows st) some);
      few = on_ok c.keep_all.result c.keep_all.ensures.few (λ more few.
          few_within c.keep_all.new.paths (answered_count old.finders + length answered) (told_count old.finders)
          (omega (arith, c.answered_so_far-answered.ensures.count)) (more (answered_count old.finders) few));
      no_more = c.keep_all.ensures.no_more;
    }

pub returns-clause-refused : goal.returns-clause-refused
returns-clause-refused g c =
    let answered = c.answered_so_far-answered.result.now in
    let old = c.args.self.now in
    let h = option_copied c.args.header in
    err_map c.keep_all.result c.keep_all.ensures.refused (λ refused places units rows st few.
    refused_within (g.M.Memory.refuses old.memory.now) (paths_room (answered_count old.finders + length answered) h)
    (paths_room (length places) h)
    (omega (arith, c.answered_so_far-answered.ensures.count, c.answered_so_far-answered.ensures.few places units rows st))
    (refused (answered_count old.finders) few))
