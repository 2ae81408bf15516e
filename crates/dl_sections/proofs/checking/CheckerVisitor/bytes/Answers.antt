use Rattle.std.proofs.Common.{append-nil, map}
use Rattle.dl_rows.specs.Items.{a_byte}
use Rattle.dl_sections.specs.Section.{of_item}
use Rattle.dl_sections.proofs.DamageLemmas.{none_in_items, told-append}
use Rattle.dl_sections.proofs.checking.CheckerVisitor.bytes.Goals as goal

pub returns-clause-heard : goal.returns-clause-heard
returns-clause-heard g c first start visits s =
    let told = map a_byte c.args._bytes.now in
    record {
      damages = s.damages;
      heard = rw (told-append visits (map of_item told), none_in_items told, append-nil) s.heard;
      nothing = s.nothing;
    }
