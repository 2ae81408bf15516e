use Rattle.std.proofs.Common.{◌≡◌, ◌-◌, true, Some, arith, ap, sym, ◌∙◌}
use Rattle.std.proofs.lemmas.Result.{err_from_is_err_and}
use Rattle.dl_elf.specs.Elf.{is_object}
use Rattle.dl_elf.specs.Source.{ForBytes}
use Rattle.dl_file.specs.OneByOne.{relocations_at, relocations_upto}
use Rattle.dl_file.specs.Relocations.{relocations_of}
use Rattle.dl_file.proofs.AnswerLemmas.{fault_counted}
use Rattle.dl_file.proofs.ListedLemmas.{counted_in_object}
use Rattle.dl_file.proofs.RelocationLemmas.{counted_to_end, counted_whole, next_counted, none_before}
use Rattle.dl_file.proofs.relocating.find_relocations.Goals as goal
use Rattle.dl_file.proofs.relocating.find_relocations.Goals.{then-count-eq0, else-count-eq0}

pub loop-at-init : goal.loop-at-init
loop-at-init g c =
    let told = c.relocations_from-first.ensures in
    let first = c.relocations_from-first.result in
    let none : ForBytes (g.S.ReadAt.all_bytes c.args.source.now)
    (λ f. relocations_upto c.args.elf.now f c.args.number (first - 1) ≡ Some 0) = λ f is short.
    none_before c.args.elf.now f c.args.number (first - 1) (λ k from less. (
      c.requires.forward f is short k from (omega (arith, less, told.from, told.most)),
      told.before k from (omega (arith, less, told.from)),
    )) in
    record {
      from = told.from;
      upto = omega (arith, told.from, told.most, c.requires.within);
      few = omega arith;
      past = told.from;
      before = omega (arith, told.from, told.most, c.requires.within);
      shows = c.new-window.ensures (g.S.ReadAt.all_bytes c.args.source.now);
      counted = none;
      none = none;
    }

pub loop-at-preserved : goal.loop-at-preserved
loop-at-preserved g c =
    let from = c.loop-at.invariant.from in
    let few = c.loop-at.invariant.few in
    let more = c.in_ok-count.ensures.most in
    let within = c.loop-at-test.true in
    let past = c.loop-at.invariant.past in
    let before = c.loop-at.invariant.before in
    record {
      from = omega (arith, from);
      upto = omega (arith, from, within);
      few = omega (arith, few, more, from);
      past = elim c.if-count-eq0.branch [
        | then-count-eq0 w ↦ rw w.first-is from
        | else-count-eq0 w ↦ rw w.first-is past
      ];
      before = elim c.if-count-eq0.branch [
        | then-count-eq0 w ↦ rw w.first-is (omega (arith, from, within))
        | else-count-eq0 w ↦ rw w.first-is before
      ];
      shows = c.count_at.ensures.shows;
      counted = λ f is short. next_counted c.args.elf.now f c.args.number c.loop-at.at c.loop-at.count
          c.in_ok-count.field-0 from (c.loop-at.invariant.counted f is short)
          (c.in_ok-count.ensures.count f is short);
      none = λ f is short. elim c.if-count-eq0.branch [
        | then-count-eq0 w ↦ rw w.first-is (c.loop-at.invariant.counted f is short ∙ ap Some w.if-count-eq0.true)
        | else-count-eq0 w ↦ rw w.first-is (c.loop-at.invariant.none f is short)
      ];
    }

pub returns-in_err-count-clause-found : goal.returns-in_err-count-clause-found
returns-in_err-count-clause-found g c = λ f is short.
    let p = err_from_is_err_and c.from_residual.result c.from_residual.ensures.1 in
    let e = c.args.elf.now in
    let number = c.args.number in
    let object : is_object e.header ≡ true = sym c.is_object.ensures ∙ c.if-not-is_object.false in
    rw (p.1, p.2) (fault_counted (relocations_at e f number c.loop-at.at) (relocations_of e f number)
    c.in_err-count.field-0.0 (λ none. counted_in_object e f number object
    ∙ counted_to_end e f number c.loop-at.at c.loop-at.count c.loop-at.invariant.from c.loop-at-test.true
    (c.loop-at.invariant.counted f is short) none) (c.in_err-count.ensures.count f is short))

pub returns-clause-found : goal.returns-clause-found
returns-clause-found g c = λ f is short.
    let e = c.args.elf.now in
    let object : is_object e.header ≡ true = sym c.is_object.ensures ∙ c.if-not-is_object.false in (
      counted_in_object e f c.args.number object
          ∙ counted_whole e f c.args.number c.loop-at.at c.loop-at.count c.loop-at.invariant.upto c.loop-at-test.false
          (c.loop-at.invariant.counted f is short),
      c.loop-at.invariant.none f is short,
    )
