use Rattle.std.proofs.Common.{[], ◌∷◌, append-nil}
use Rattle.dl_rows.specs.Items.{an_operation}
use Rattle.dl_sections.specs.Section.{of_item}
use Rattle.dl_sections.proofs.DamageLemmas.{told-append}
use Rattle.dl_sections.proofs.checking.CheckerVisitor.operation.Goals as goal

pub returns-clause-heard : goal.returns-clause-heard
returns-clause-heard g c first start visits s =
    record {
      damages = s.damages;
      heard = rw (told-append visits (of_item (an_operation c.args._header.now c.args._operation) ∷ []), append-nil) s.heard;
      nothing = s.nothing;
    }
