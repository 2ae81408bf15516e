use Rattle.std.proofs.Common.{arith, refl, Some, None, subst}
use Rattle.dl_index_file.specs.Shown.{text_shown}
use Rattle.dl_index_file.specs.Steps.{TextIs}
use Rattle.dl_index.proofs.TellLemmas.{texts_by}
use Rattle.dl_index_file.proofs.FileLemmas.{text_by}
use Rattle.dl_index_file.proofs.index.IndexFile.texts.Goals as goal

pub returns-in_default-clause-texts : goal.returns-in_default-clause-texts
returns-in_default-clause-texts g c b is short f row =
    let first = subst (TextIs b c.get.result) c.in_default.is (c.in_ok-first.ensures.text b is short) in
    record {
      told = texts_by b f None _ _ (text_by b _ f 0 _ 8 None first c.get.ensures row (omega arith) (omega arith)) refl refl;
      lie = tt;
    }

pub returns-in_default-2-clause-texts : goal.returns-in_default-2-clause-texts
returns-in_default-2-clause-texts g c b is short f row =
    let x = c.in-Some.first in
    let first = subst (TextIs b c.get.result) c.in-Some.is (c.in_ok-first.ensures.text b is short) in
    let second = subst (TextIs b c.get-2.result) c.in_default-2.is (c.in_ok-second.ensures.text b is short) in
    record {
      told =
          texts_by b f (Some (text_shown b x)) None _
          (text_by b _ f 0 _ 8 (Some x) first c.get.ensures row (omega arith) (omega arith))
          (text_by b _ f 1 _ 12 None second c.get-2.ensures row (omega arith) (omega arith)) refl;
      lie = tt;
    }

pub returns-in_default-3-clause-texts : goal.returns-in_default-3-clause-texts
returns-in_default-3-clause-texts g c b is short f row =
    let x = c.in-Some.first in
    let y = c.in-Some-2.second in
    let first = subst (TextIs b c.get.result) c.in-Some.is (c.in_ok-first.ensures.text b is short) in
    let second = subst (TextIs b c.get-2.result) c.in-Some-2.is (c.in_ok-second.ensures.text b is short) in
    let third = subst (TextIs b c.get-3.result) c.in_default-3.is (c.in_ok-third.ensures.text b is short) in
    record {
      told =
          texts_by b f (Some (text_shown b x)) (Some (text_shown b y)) None
          (text_by b _ f 0 _ 8 (Some x) first c.get.ensures row (omega arith) (omega arith))
          (text_by b _ f 1 _ 12 (Some y) second c.get-2.ensures row (omega arith) (omega arith))
          (text_by b _ f 2 _ 16 None third c.get-3.ensures row (omega arith) (omega arith));
      lie = tt;
    }

pub returns-clause-texts : goal.returns-clause-texts
returns-clause-texts g c b is short f row =
    let x = c.in-Some.first in
    let y = c.in-Some-2.second in
    let z = c.in-Some-3.third in
    let first = subst (TextIs b c.get.result) c.in-Some.is (c.in_ok-first.ensures.text b is short) in
    let second = subst (TextIs b c.get-2.result) c.in-Some-2.is (c.in_ok-second.ensures.text b is short) in
    let third = subst (TextIs b c.get-3.result) c.in-Some-3.is (c.in_ok-third.ensures.text b is short) in
    record {
      told =
          texts_by b f (Some (text_shown b x)) (Some (text_shown b y)) (Some (text_shown b z))
          (text_by b _ f 0 _ 8 (Some x) first c.get.ensures row (omega arith) (omega arith))
          (text_by b _ f 1 _ 12 (Some y) second c.get-2.ensures row (omega arith) (omega arith))
          (text_by b _ f 2 _ 16 (Some z) third c.get-3.ensures row (omega arith) (omega arith));
      lie = record { first = first.lie; second = second.lie; third = third.lie };
    }
