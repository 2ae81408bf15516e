use Rattle.std.proofs.Common.{◌≡◌, ◌+◌, ◌*◌, ◌<◌, ◌^◌, ◌++◌, length, min, take}
use Rattle.dl_pack.specs.Shown.{texts_of}
use Rattle.dl_pack.specs.Tables.{texts_at, text_entries, total_len}
use Rattle.dl_pack.specs.Mentioned.{order_of}
use Rattle.dl_pack.proofs.tables.put_entries.Given as goal

abbrev pub invariant-loop-text : goal.invariant-loop-text
invariant-loop-text g l = record {
  place : l.place ≡ min (total_len (texts_at (texts_of l.names) (take l.text-index (order_of l.texts)))) 0xffffffffffffffff;
  out : total_len (texts_at (texts_of l.names) (take l.text-index (order_of l.texts))) < 2 ^ 64 → l.out.items ≡ l.fn.out.items
      ++ text_entries 0 (texts_at (texts_of l.names) (take l.text-index (order_of l.texts)));
  longer : length l.out.items ≡ length l.fn.out.items + 16 * l.text-index;
}
