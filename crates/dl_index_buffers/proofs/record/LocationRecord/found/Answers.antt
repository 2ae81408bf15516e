use Rattle.std.proofs.Common.{refl, ap, ◌∙◌}
use mir.Val.{bool_byte}
use Rattle.dl_index_buffers.proofs.TellsLemmas.{byte_is, has_path_is, texts_are}
use Rattle.dl_index_buffers.proofs.record.LocationRecord.found.Goals as goal

pub returns : goal.returns
returns c b at =
    let first = c.span_of-first.ensures b at.first in
    let second = c.span_of-second.ensures b at.second in
    let third = c.span_of-third.ensures b at.third in
    let texts = c.args.found.now.texts in
    record {
      unit = refl;
      line = refl;
      column = refl;
      discriminator = refl;
      is_stmt = c.from.ensures ∙ byte_is c.args.found.now.is_stmt;
      first = first.within;
      second = second.within;
      third = third.within;
      texts = texts_are texts _ _ _ first.bytes second.bytes third.bytes;
      has_path = c.from-2.ensures ∙ ap bool_byte c.has_path.ensures ∙ has_path_is texts;
      is_found = refl;
    }
