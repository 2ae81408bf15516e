use Rattle.std.proofs.Common.{◌≡◌, take, length}
use Rattle.dl_pack.specs.IndexOf.{text_order}
use Rattle.dl_pack.specs.Shown.{files_of, texts_of}
use Rattle.dl_pack.specs.Mentioned.{order_of, count_of}
use Rattle.dl_pack.specs.Fits.{AreKnown}
use Rattle.dl_pack.proofs.making.mention_texts.Given as goal

abbrev pub invariant-loop-file : goal.invariant-loop-file
invariant-loop-file l = record {
  order : order_of l.texts ≡ text_order (files_of l.names) (take l.file-index (order_of l.files));
  known : AreKnown (files_of l.names) (length (texts_of l.names)) (take l.file-index (order_of l.files));
  count : count_of l.texts ≡ length (texts_of l.names);
}
