use Rattle.std.proofs.Common.{length, sym, ap, rules, ◌∙◌, ◌++◌}
use Rattle.dl_info.specs.Front.{seen}
use Rattle.dl_info.specs.Abbreviations.{attributes_in}
use Rattle.dl_info.specs.Kept.{with_bytes}
use Rattle.std.proofs.lemmas.List.{append-nil}
use Rattle.dl_info.proofs.KeptLemmas.{one_kept, passed_by}
use Rattle.dl_info.proofs.RemainLemmas.{at_end, never_runs_out, never_stops, one_less, remain_so}
use Rattle.dl_info.proofs.abbreviations.with_bytes.Goals as goal
use Rattle.dl_info.proofs.abbreviations.with_bytes.Goals.{else-has_bytes-via-then-has_bytes+else-is_err, else-has_bytes-via-else-has_bytes}

pub returns-in_default : goal.returns-in_default
returns-in_default c =
    absurd (never_stops _ (length c.args.declared.now) c.loop.counter c.loop.left.now c.loop.invariant
    c.in_default.field-0 c.loop-test.true
    (ap (seen (λ x. (x.0, x.1.now))) (sym c.in_default.is) ∙ c.attribute_at.ensures))

pub returns-then-is_end : goal.returns-then-is_end
returns-then-is_end c =
    sym (append-nil c.loop.kept.items)
    ∙ at_end _ (length c.args.declared.now) c.loop.counter c.loop.left.now c.loop.invariant c.in-Ok.others.now
    c.in-Ok.attribute c.loop-test.true c.in-Ok.ensures (sym c.is_end.ensures ∙ c.if-is_end.true)

pub loop-preserved : goal.loop-preserved
loop-preserved c =
    let before =
    one_less _ (length c.args.declared.now) c.loop.counter c.loop.left.now c.loop.invariant c.in-Ok.others.now
    c.in-Ok.attribute c.loop-test.true c.in-Ok.ensures (sym c.is_end.ensures ∙ c.if-is_end.false) in
    remain_so _ _ _ c.in-Ok.others.now
    (λ others so_far. elim c.else-has_bytes.branch [
      | else-has_bytes-via-then-has_bytes+else-is_err w ↦
          one_kept c.loop.kept.items c.else-has_bytes.kept.items c.in-Ok.attribute others
          (with_bytes (attributes_in c.args.declared.now)) (sym c.has_bytes.ensures ∙ w.if-has_bytes.true)
          (ap (λ v. v.items) w.kept-is ∙ search rules) so_far
      | else-has_bytes-via-else-has_bytes w ↦
          ap (λ v. v.items ++ with_bytes others) w.kept-is
          ∙ passed_by c.loop.kept.items c.in-Ok.attribute others (with_bytes (attributes_in c.args.declared.now))
          (sym c.has_bytes.ensures ∙ w.if-has_bytes.false) so_far
    ]) before

pub returns : goal.returns
returns c =
    absurd (never_runs_out _ (length c.args.declared.now) c.loop.counter c.loop.left.now c.loop.invariant
    c.loop-test.false)
