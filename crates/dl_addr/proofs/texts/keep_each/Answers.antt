use Rattle.std.proofs.Common.{◌≡◌, ◌+◌, length, slice_index_or, refl, ◌∙◌, subst, arith, ⊎_elim}
use Rattle.std.proofs.Common.{ℕ, ◌*◌, [], None, ap}
use Rattle.std.specs.BTreeMap.{BTreeMap, get, is_at}
use Rattle.std.specs.Map.{lookup}
use Rattle.std.specs.Ordering.{nat_cmp}
use Rattle.std.specs.Option.{option_copied}
use Rattle.std.proofs.lemmas.Bool.{cases_lt}
use Rattle.dl_look.specs.Ledgers.{no_answer}
use Rattle.dl_addr.specs.Texts.{IsKept, path_of_file}
use Rattle.dl_addr.specs.Room.{paths_room}
use Rattle.dl_addr.proofs.KeepLemmas.{on_err}
use Rattle.dl_addr.proofs.RoomLemmas.{few_within, keeps_within, put_none, refused_within}
use Rattle.dl_addr.proofs.TextLemmas.{grows_none, grows_on, kept_stays, none_is_some, none_seen}
use Rattle.dl_addr.proofs.texts.keep_each.Goals as goal

-- nothing is found where there are no entries
none_get : (m : BTreeMap ℕ ℕ) → m.entries ≡ [] → (n : ℕ) → get nat_cmp m n ≡ None
none_get m none n = ap (lookup (is_at (nat_cmp n))) none

pub loop-answer-init : goal.loop-answer-init
loop-answer-init g c = record {
  grows = grows_none c.args.paths.now;
  seen = record {
    files = λ file k at. absurd (none_seen c.new.result c.new.ensures.empty file k at);
    directories = λ n k at. absurd (none_seen c.new-2.result c.new-2.ensures.empty n k at);
    last = λ file k at. absurd (none_is_some at);
  };
  few = λ count few. record {
    few = few_within c.args.paths.now count (count + 0) (omega arith) few;
    files = put_none c.new.result (count + 0) (λ n. none_get c.new.result c.new.ensures.empty n);
    directories = put_none c.new-2.result (2 * (count + 0)) (λ n. none_get c.new-2.result c.new-2.ensures.empty n);
  };
  len = refl;
  others = λ i other. refl;
  right = λ numbers j lt. absurd (omega arith);
}

pub loop-answer-preserved : goal.loop-answer-preserved
loop-answer-preserved g c =
    let l = c.loop-answer in
    let answered = c.args.answered.now in
    let at = l.answer-index in
    let u = c.args.unit.now in
    let lt = c.loop-answer-test.true in
    record {
      grows = grows_on c.args.paths.now l.paths c.keep.new.paths l.invariant.grows c.keep.ensures.grows;
      seen = c.in_ok-keep.ensures.seen l.invariant.seen;
      few =
          λ count few. keeps_within c.keep.new.numbers c.keep.new.paths (count + at + 1) (count + (at + 1)) (omega arith)
          (c.in_ok-keep.ensures.few (count + at) (l.invariant.few count few));
      len = c.keep.ensures.len ∙ l.invariant.len;
      others =
          λ i other. c.keep.ensures.others i (other at (omega arith))
          ∙ l.invariant.others i (λ j less. other j (omega arith));
      right = λ numbers j less. ⊎_elim
          (λ before. kept_stays l.paths c.keep.new.paths l.kept.items c.keep.new.kept.items
          (slice_index_or answered j no_answer).number
          (path_of_file u (slice_index_or answered j no_answer).row.file) c.keep.ensures.grows
          (c.keep.ensures.others (slice_index_or answered j no_answer).number (λ same. let e =
          numbers.once at j (omega arith) (omega arith) same in omega arith))
          (l.invariant.right numbers j before))
          (λ from. let e : at ≡ j = omega arith in
          subst (λ n. IsKept c.keep.new.paths c.keep.new.kept.items (slice_index_or answered n no_answer).number
          (path_of_file u (slice_index_or answered n no_answer).row.file)) e
          (c.in_ok-keep.ensures.right l.invariant.seen (let w = numbers.within at (omega arith) in
          omega (arith, l.invariant.len))))
          (cases_lt j at);
    }

pub returns-in_err-keep-clause-grows : goal.returns-in_err-keep-clause-grows
returns-in_err-keep-clause-grows g c =
    grows_on c.args.paths.now c.loop-answer.paths c.keep.new.paths c.loop-answer.invariant.grows c.keep.ensures.grows

pub returns-in_err-keep-clause-others : goal.returns-in_err-keep-clause-others
returns-in_err-keep-clause-others g c i other =
    let at = c.loop-answer.answer-index in
    let lt = c.loop-answer-test.true in
    c.keep.ensures.others i (other at (omega arith))
    ∙ c.loop-answer.invariant.others i (λ j less. other j (omega arith))

pub returns-clause-others : goal.returns-clause-others
returns-clause-others g c i other = c.loop-answer.invariant.others i (λ j less. other j (omega arith))

pub returns-clause-right : goal.returns-clause-right
returns-clause-right g c numbers j less = c.loop-answer.invariant.right numbers j (omega arith)

pub returns-clause-few : goal.returns-clause-few
returns-clause-few g c count few =
    let l = c.loop-answer in
    few_within l.paths (count + l.answer-index) (count + length c.args.answered.now) (omega arith)
    (l.invariant.few count few).few

pub returns-in_err-keep-clause-refused : goal.returns-in_err-keep-clause-refused
returns-in_err-keep-clause-refused g c =
    let l = c.loop-answer in
    let lt = c.loop-answer-test.true in
    let h = option_copied c.args.unit.now.header in
    on_err c.from_residual.result (λ count few.
    refused_within (g.M.Memory.refuses c.args.memory.now) (paths_room (count + l.answer-index + 1) h)
    (paths_room (count + length c.args.answered.now) h) (omega arith)
    (c.in_err-keep.ensures.refused (count + l.answer-index) (l.invariant.few count few)))
