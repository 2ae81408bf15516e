-- Where neither operations nor paths are shown, the text is that of `dump`.
use Rattle.std.proofs.Common.{◌≡◌, ◌++◌, ◌∷◌, ℕ, List, [], false, Option, Result, Ok, Err, refl, ap₂}
use Rattle.dl_head.specs.declared.dialect.Dialect.{Dialect}
use Rattle.dl_print.specs.declared.summary.Summary.{Summary}
use Rattle.dl_rows.specs.Items.{a_byte, a_row, an_operation}
use Rattle.dl_sections.specs.AroundCommands.{DumpsAround}
use Rattle.dl_sections.specs.Commands.{Dumps}
use Rattle.dl_sections.specs.declared.around.Damage.{Damage}
use Rattle.dl_sections.specs.declared.around.Survey.{Survey}
use Rattle.dl_sections.specs.declared.fault.RunFault.{RunFault}
use Rattle.dl_sections.specs.declared.fault.RunFault.TheVariants as fault
use Rattle.dl_sections.specs.Section.{Visit, of_damage, of_end, of_header, of_item, of_open, of_version}
use Rattle.dl_sections.specs.SectionText.{DumpStyle, visit_text, visits_text}
use Rattle.dl_dump.specs.Commands.{DumpsDetails, DumpsDetailsAround}
use Rattle.dl_dump.specs.DetailText.{DetailStyle, details_text, reached, shown_after}
use Rattle.dl_dump.specs.DetailText.{shown_visit}
use Rattle.dl_dump.specs.declared.reached.Opcode.TheVariants as opcode
use Rattle.dl_dump.specs.declared.reached.Reached.{Reached}
use Rattle.dl_dump.specs.Reached.{before_units}

-- what `dump` shows of it
abbrev pub plain : DetailStyle → DumpStyle
plain style = record { detail = record { header = style.details.header }; strings = style.strings }

module _ (style : DetailStyle) (operations : style.details.operations ≡ false) (paths : style.details.paths ≡ false) where
  text_of : (at : Reached) → at.opcode ≡ opcode.Unread → (v : Visit) → visit_text (plain style) v ≡ shown_visit style at v
  text_of at unread (of_header offset lengths h) =
      rw unread refl
  text_of at unread (of_version offset version) = rw unread refl
  text_of at unread (of_item (a_byte b)) = rw operations refl
  text_of at unread (of_item (an_operation h o)) = rw operations refl
  text_of at unread (of_item (a_row h r)) = rw paths refl
  text_of at unread of_open = refl
  text_of at unread (of_end h) = refl
  text_of at unread (of_damage unit offset kind) = refl

  stays : (at : Reached) → at.opcode ≡ opcode.Unread → (v : Visit) → (reached style at v).opcode ≡ opcode.Unread
  stays at unread (of_header offset lengths h) = refl
  stays at unread (of_version offset version) = refl
  stays at unread (of_item (a_byte b)) = rw operations unread
  stays at unread (of_item (an_operation h o)) = rw operations unread
  stays at unread (of_item (a_row h r)) = unread
  stays at unread of_open = unread
  stays at unread (of_end h) = unread
  stays at unread (of_damage unit offset kind) = unread

  texts_of : (at : Reached) → at.opcode ≡ opcode.Unread → (visits : List Visit)
      → visits_text (plain style) visits ≡ shown_after style at visits
  texts_of at unread [] = refl
  texts_of at unread (v ∷ visits) =
      ap₂ (λ (a b : List ℕ). a ++ b) (text_of at unread v) (texts_of (reached style at v) (stays at unread v) visits)

  pub plain_text : (visits : List Visit) → visits_text (plain style) visits ≡ details_text style visits
  plain_text visits = texts_of before_units refl visits

  module _ (dialect : Dialect) (limit : ℕ) (bytes : List ℕ) (left start now : Option (List ℕ)) where
    pub plain_dumps : (result : Result Summary RunFault) → Dumps dialect (plain style) limit bytes left start now result
        → DumpsDetails dialect style limit bytes left start now result
    plain_dumps (Ok summary) (units, b, back, ends, out) = (units, b, back, ends, rw plain_text at out)
    plain_dumps (Err (fault.Write out)) (units, b, back, has, tells) = (units, b, back, has, rw plain_text at tells)
    plain_dumps (Err f) (units, b, back, ends, out) = (units, b, back, ends, rw plain_text at out)

    pub plain_around : (hears : List Damage → Type 0) (result : Result Survey RunFault)
        → DumpsAround dialect (plain style) limit bytes left start now hears result
        → DumpsDetailsAround dialect style limit bytes left start now hears result
    plain_around hears (Ok survey) (blocks, rest, ends, out, heard) = (blocks, rest, ends, rw plain_text at out, heard)
    plain_around hears (Err (fault.Write out)) (blocks, rest, others, cut, tells) =
        (blocks, rest, others, cut, rw plain_text at tells)
    plain_around hears (Err f) (blocks, rest, ends, out, heard) = (blocks, rest, ends, rw plain_text at out, heard)
