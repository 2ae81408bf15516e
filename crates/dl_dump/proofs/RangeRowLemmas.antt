-- A row that a dump of a range is told.
use Rattle.std.proofs.Common.{◌≡◌, ◌∙◌, ◌++◌, ◌∷◌, ◌+◌, ℕ, List, [], Option, Ok, Err, refl, sym, ap, subst, length, arith, Bool, true, false}
use Rattle.std.specs.Prelude.{⊤, ◌&&◌, if◌then◌else◌}
use Rattle.dl_field.specs.HeaderData.{HeaderData}
use Rattle.dl_look.specs.Answer.{place_of}
use Rattle.dl_look.specs.declared.place.Place.{Place}
use Rattle.dl_memory.specs.Refusals.{IsRefused}
use Rattle.dl_path.proofs.PrintLemmas.{prints_same}
use Rattle.dl_print.specs.Output.{Prints}
use Rattle.dl_print.specs.Printed.{Printed}
use Rattle.dl_print.specs.declared.fault.WriteFault.{WriteFault}
use Rattle.dl_rows.specs.Items.{a_row}
use Rattle.dl_rows.specs.declared.row.Row.{Row}
use Rattle.dl_sections.specs.Section.{Visit, of_item}
use Rattle.dl_sections.specs.Visiting.{StopsIn}
use Rattle.dl_sections.specs.declared.around.Damage.{Damage}
use Rattle.dl_sections.specs.declared.fault.RunFault.{RunFault}
use Rattle.dl_sections.specs.declared.fault.RunFault.TheVariants as fault
use Rattle.dl_dump.specs.declared.held_sequence.HeldItem.{HeldItem}
use Rattle.dl_dump.specs.declared.held_sequence.HeldItem.TheVariants as held
use Rattle.dl_dump.specs.declared.range_dumping.RangeDumper.{RangeDumper}
use Rattle.dl_dump.specs.RangeDumping.{HasEnded, HasRanged, HasSequence, ended_lines, range_story, style_held}
use Rattle.dl_dump.specs.RangeText.{Sequence, covers_some, range_shown, rows_held, sequence_lines, sequence_over, with_item}
use Rattle.dl_dump.proofs.RangeItemLemmas.{has_after_end, has_more, lines_of_end}
use Rattle.dl_dump.proofs.RangeLemmas.{goes_on_one, loses_one, nothing_printed, refused_more, seen}

module _ {M D : Type 0} {hears : D → D → List Damage → Type 0} {refuses : M → ℕ → Type 0} {first old : RangeDumper M D}
    {start before : Option (List ℕ)} {visits : List Visit}
    (ranged : HasRanged hears refuses first old start before visits) (h : HeaderData) (r : Row) (mid : RangeDumper M D)
    (others : mid ≡ record old { items = mid.items }) where
  abbrev pub v : Visit
  v = of_item (a_row h r)

  -- memory is refused for it
  module _ (same : mid.items.now.items ≡ old.items.now.items)
      (row : old.is_refused ≡ false → IsRefused (refuses old.memory.now) (length old.items.now.items + 1)) where
    still : HasRanged hears refuses first mid start before visits
    still = subst (λ (d : RangeDumper M D). HasRanged hears refuses first d start before visits) (sym others) (record {
      style = ranged.style;
      damages = ranged.damages;
      heard = ranged.heard;
      memory = ranged.memory;
      range = ranged.range;
      has = record {
        at = ranged.has.at;
        unit = ranged.has.unit;
        whole = λ e. same ∙ ranged.has.whole e;
        refused = ranged.has.refused;
      };
      printed = ranged.printed;
    })

    refused_by : (b : Bool) → old.is_refused ≡ b
        → IsRefused (refuses old.memory.now) (length (seen first visits).items + 1)
    refused_by true is =
        refused_more (refuses old.memory.now) (length (seen first visits).items) (length (seen first visits).items + 1)
        (omega arith) (ranged.has.refused is)
    refused_by false is =
        subst (λ (l : List HeldItem). IsRefused (refuses old.memory.now) (length l + 1)) (ranged.has.whole is) (row is)

    pub row_refused : (f : RunFault) → f ≡ fault.NoMemory
        → StopsIn (range_story hears refuses) first mid start before visits (v ∷ []) f
    row_refused f is =
        subst (λ (x : RunFault). StopsIn (range_story hears refuses) first mid start before visits (v ∷ []) x) (sym is) (
          v ∷ [],
          [],
          refl,
          (
            visits,
            v,
            refl,
            still,
            (
              refl,
              (
                visits,
                v,
                refl,
                subst (λ (m : M). IsRefused (refuses m) (length (seen first visits).items + 1)) ranged.memory
                    (refused_by old.is_refused refl),
              ),
            ),
          ),
        )

  -- it is held
  module _ (whole : old.is_refused ≡ false) (items : mid.items.now.items ≡ old.items.now.items ++ held.Row r ∷ []) where
    mid_at : mid.at ≡ old.at
    mid_at = ap (λ (d : RangeDumper M D). d.at) others

    mid_unit : mid.unit ≡ old.unit
    mid_unit = ap (λ (d : RangeDumper M D). d.unit) others

    mid_whole : mid.is_refused ≡ false
    mid_whole = ap (λ (d : RangeDumper M D). d.is_refused) others ∙ whole

    mid_printer : mid.printer.now ≡ old.printer.now
    mid_printer = ap (λ (d : RangeDumper M D). d.printer.now) others

    pub row_held : r.end_sequence ≡ false → HasRanged hears refuses first mid start before (visits ++ v ∷ [])
    row_held goes =
        goes_on_one ranged mid before v
        (subst (λ (p : Printed). Prints {A = ⊤} before before old.printer.now p
        (range_shown (style_held first) first.range (seen first visits) v) (Ok tt)) (sym mid_printer)
        (nothing_printed before old.printer.now (range_shown (style_held first) first.range (seen first visits) v)
        (ap (λ (b : Bool). if b && covers_some first.range (rows_held ((seen first visits).items ++ held.Row r ∷ []))
        then sequence_lines (style_held first) (with_item (seen first visits) (held.Row r)) h else []) goes)))
        (ap style_held others) (ap (λ (d : RangeDumper M D). d.damages) others) refl
        (ap (λ (d : RangeDumper M D). d.memory) others) (ap (λ (d : RangeDumper M D). d.range) others)
        (subst (λ (s : Sequence). HasSequence refuses mid s)
        (sym (ap (λ (b : Bool). if b
        then sequence_over (style_held first) first.range (with_item (seen first visits) (held.Row r)) h
        else with_item (seen first visits) (held.Row r)) goes))
        (has_more ranged.has (held.Row r ∷ []) mid mid_at mid_unit whole mid_whole items))

    style_is : style_held mid ≡ style_held first
    style_is = ap style_held others ∙ ranged.style

    range_is : mid.range ≡ first.range
    range_is = ap (λ (d : RangeDumper M D). d.range) others ∙ ranged.range

    held_is : mid.items.now.items ≡ (seen first visits).items ++ held.Row r ∷ []
    held_is = items ∙ ap (λ (l : List HeldItem). l ++ held.Row r ∷ []) (ranged.has.whole whole)

    -- and ends its sequence
    module _ (ends : r.end_sequence ≡ true) (new : RangeDumper M D) (after : Option (List ℕ)) (end : Place)
        (is : end ≡ place_of r) where
      lines_are : ended_lines mid h end ≡ range_shown (style_held first) first.range (seen first visits) v
      lines_are =
          ap (ended_lines mid h) is
          ∙ lines_of_end (style_held first) first.range (seen first visits) h r ends mid style_is range_is
          (mid_at ∙ ranged.has.at) (mid_unit ∙ ranged.has.unit) held_is

      pub row_ended : Prints {A = ⊤} before after mid.printer.now new.printer.now (ended_lines mid h end) (Ok tt)
          → HasEnded mid new h end → HasRanged hears refuses first new start after (visits ++ v ∷ [])
      row_ended prints ended =
          goes_on_one ranged new after v
          (subst (λ (p : Printed). Prints {A = ⊤} before after p new.printer.now
          (range_shown (style_held first) first.range (seen first visits) v) (Ok tt)) mid_printer
          (prints_same {A = ⊤} before after mid.printer.now new.printer.now (ended_lines mid h end)
          (range_shown (style_held first) first.range (seen first visits) v) (Ok tt) lines_are prints))
          (ended.style ∙ ap style_held others) (ended.damages ∙ ap (λ (d : RangeDumper M D). d.damages) others) refl
          (ended.memory ∙ ap (λ (d : RangeDumper M D). d.memory) others)
          (ended.range ∙ ap (λ (d : RangeDumper M D). d.range) others)
          (has_after_end (style_held first) first.range (seen first visits) h r ends mid style_is range_is
          (mid_at ∙ ranged.has.at) (mid_unit ∙ ranged.has.unit) held_is refuses new mid_whole
          (subst (λ (p : Place). HasEnded mid new h p) is ended))

      pub row_lost : (f : WriteFault)
          → Prints {A = ⊤} before after mid.printer.now new.printer.now (ended_lines mid h end) (Err f)
          → StopsIn (range_story hears refuses) first new start after visits (v ∷ []) (fault.Write f.out)
      row_lost f lost =
          loses_one ranged new after v f
          (subst (λ (p : Printed). Prints {A = ⊤} before after p new.printer.now
          (range_shown (style_held first) first.range (seen first visits) v) (Err f)) mid_printer
          (prints_same {A = ⊤} before after mid.printer.now new.printer.now (ended_lines mid h end)
          (range_shown (style_held first) first.range (seen first visits) v) (Err f) lines_are lost))
