use Rattle.std.proofs.Common.{arith, ◌∙◌, ap, get_or, length, subst}
use Rattle.dl_pack.specs.Numbering.{mentioned}
use Rattle.dl_pack.specs.Tables.{no_file}
use Rattle.dl_pack.specs.IndexOf.{file_places}
use Rattle.dl_pack.specs.Shown.{files_of, texts_of}
use Rattle.dl_pack.specs.Mentioned.{order_of}
use Rattle.dl_pack.specs.Faults.{AreTooMany}
use Rattle.dl_pack.specs.Fits.{IsKnown}
use Rattle.dl_pack.proofs.OrderLemmas.{mentioned_items, all_items, many_texts}
use Rattle.dl_pack.proofs.FaultLemmas.{on_err}
use Rattle.dl_pack.proofs.making.mention_texts.Goals as goal

pub loop-file-preserved : goal.loop-file-preserved
loop-file-preserved c = record {
  order = mentioned_items (λ place. file_places (get_or (files_of c.args.names.now) place no_file))
      c.order-file-items.result.now (order_of c.args.files.now) c.loop-file.file-index _ (order_of c.loop-file.texts) _
      c.order-file-items.ensures.order c.loop-file-test.true c.loop-file.invariant.order
      (c.in_ok-mention_file.ensures.order
      ∙ ap (λ f. mentioned (order_of c.loop-file.texts) (file_places f)) c.file_at.ensures.file);
  known = all_items (λ place. IsKnown (length (texts_of c.args.names.now)) (get_or (files_of c.args.names.now) place no_file))
      c.order-file-items.result.now (order_of c.args.files.now) c.loop-file.file-index _ c.order-file-items.ensures.order
      c.loop-file-test.true c.loop-file.invariant.known
      (subst (IsKnown (length (texts_of c.args.names.now))) c.file_at.ensures.file
      (record { unit = omega arith; texts = c.file_at.ensures.within }));
  count = c.mention_file.ensures.count ∙ c.loop-file.invariant.count;
}

pub returns-in_err-mention_file-clause-many : goal.returns-in_err-mention_file-clause-many
returns-in_err-mention_file-clause-many c =
    on_err c.from_residual.result (many_texts (λ place. file_places (get_or (files_of c.args.names.now) place no_file)) c.order-file-items.result.now
    (order_of c.args.files.now) c.loop-file.file-index _ (order_of c.loop-file.texts) c.order-file-items.ensures.order
    c.loop-file-test.true c.loop-file.invariant.order
    (subst (λ f. AreTooMany (mentioned (order_of c.loop-file.texts) (file_places f))) c.file_at.ensures.file
    c.in_err-mention_file.ensures.many))
