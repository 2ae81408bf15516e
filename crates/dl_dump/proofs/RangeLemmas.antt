-- How a dump of a range goes on.
use Rattle.std.proofs.Common.{◌≡◌, ◌∙◌, ◌++◌, ◌∷◌, ◌≤◌, ℕ, List, [], Option, None, Ok, Err, refl, sym, ap, subst}
use Rattle.std.proofs.Common.{append-nil, append_assoc, arith, Bool, true, false}
use Rattle.std.specs.Prelude.{⊤}
use Rattle.std.proofs.lemmas.List.Concat.{flat_map-append}
use Rattle.std.specs.Io.KnownBytes.{Appends}
use Rattle.dl_look.specs.declared.code_ranges.AddressRange.{AddressRange}
use Rattle.dl_memory.specs.Refusals.{IsRefused}
use Rattle.dl_print.proofs.Outs.{HasPrinted-out}
use Rattle.dl_print.specs.Printed.{Printed}
use Rattle.dl_print.specs.Output.{Flushes, HasPrinted, Prints}
use Rattle.dl_print.specs.declared.fault.WriteFault.{WriteFault}
use Rattle.dl_rows.specs.declared.sink.Flow.{Flow}
use Rattle.dl_rows.specs.declared.sink.Flow.TheVariants as flow
use Rattle.dl_sections.specs.declared.around.Damage.{Damage}
use Rattle.dl_sections.specs.declared.fault.RunFault.TheVariants as fault
use Rattle.dl_sections.specs.DamageTold.{damage_of_visit, damages_told}
use Rattle.dl_sections.specs.RunOutput.{TellsOut}
use Rattle.dl_sections.specs.Section.{Visit}
use Rattle.dl_sections.specs.Visiting.{GoesOn, StopsIn}
use Rattle.dl_dump.specs.declared.range_dumping.RangeDumper.{RangeDumper}
use Rattle.dl_dump.specs.DetailText.{DetailStyle}
use Rattle.dl_dump.specs.RangeDumping.{HasRanged, HasSequence, range_story, style_held}
use Rattle.dl_dump.specs.RangeText.{Sequence, before_sequences, range_along, range_shown, range_text}
use Rattle.dl_dump.specs.RangeText.{sequence_after, sequence_along}
use Rattle.dl_dump.specs.Reached.{before_units}

pub not_both : (b : Bool) → b ≡ false → b ≡ true → ⊥
not_both true a b = absurd cc
not_both false a b = absurd cc

module _ (style : DetailStyle) (range : AddressRange) where
  pub sequence-append : (s : Sequence) (a b : List Visit)
      → sequence_along style range s (a ++ b) ≡ sequence_along style range (sequence_along style range s a) b
  sequence-append s [] b = refl
  sequence-append s (v ∷ a) b = sequence-append (sequence_after style range s v) a b

  pub range-append : (s : Sequence) (a b : List Visit)
      → range_along style range s (a ++ b)
      ≡ range_along style range s a ++ range_along style range (sequence_along style range s a) b
  range-append s [] b = refl
  range-append s (v ∷ a) b =
      ap (λ (l : List ℕ). range_shown style range s v ++ l) (range-append (sequence_after style range s v) a b)
      ∙ sym (append_assoc (range_shown style range s v) (range_along style range (sequence_after style range s v) a)
      (range_along style range (sequence_along style range (sequence_after style range s v) a) b))

-- where the sequences are of a dumper
abbrev pub seen : {M D : Type 0} → RangeDumper M D → List Visit → Sequence
seen first visits = sequence_along (style_held first) first.range before_sequences visits

-- nothing is printed
pub nothing_printed : (before : Option (List ℕ)) (p : Printed) (more : List ℕ) → more ≡ []
    → Prints {A = ⊤} before before p p more (Ok tt)
nothing_printed before p more none start text h =
    subst (λ (l : List ℕ). HasPrinted start before l p) (sym (ap (λ (l : List ℕ). text ++ l) none ∙ append-nil text)) h

module _ {M D : Type 0} {hears : D → D → List Damage → Type 0} {refuses : M → ℕ → Type 0} {first old : RangeDumper M D}
    {start before : Option (List ℕ)} {visits : List Visit}
    (ranged : HasRanged hears refuses first old start before visits) (new : RangeDumper M D) (after : Option (List ℕ)) where
  text_more : (more : List Visit) → range_text (style_held first) first.range visits
      ++ range_along (style_held first) first.range (seen first visits) more
      ≡ range_text (style_held first) first.range (visits ++ more)
  text_more more = sym (range-append (style_held first) first.range before_sequences visits more)

  -- the text of more visits is printed
  pub goes_on : (more : List Visit)
      → Prints {A = ⊤} before after old.printer.now new.printer.now
      (range_along (style_held first) first.range (seen first visits) more) (Ok tt)
      → style_held new ≡ style_held old → new.damages ≡ old.damages → damages_told more ≡ []
      → new.memory ≡ old.memory → new.range ≡ old.range
      → HasSequence refuses new (sequence_along (style_held first) first.range (seen first visits) more)
      → HasRanged hears refuses first new start after (visits ++ more)
  goes_on more prints style damages quiet memory range has = record {
    style = style ∙ ranged.style;
    damages = rw damages ranged.damages;
    heard = rw (damages, flat_map-append damage_of_visit visits more, quiet, append-nil) ranged.heard;
    memory = rw memory ranged.memory;
    range = range ∙ ranged.range;
    has = subst (λ (s : Sequence). HasSequence refuses new s)
        (sym (sequence-append (style_held first) first.range before_sequences visits more)) has;
    printed = subst (λ (l : List ℕ). HasPrinted start after l new.printer.now) (text_more more)
        (prints start (range_text (style_held first) first.range visits) ranged.printed);
  }

  -- of one visit
  pub goes_on_one : (v : Visit)
      → Prints {A = ⊤} before after old.printer.now new.printer.now
      (range_shown (style_held first) first.range (seen first visits) v) (Ok tt)
      → style_held new ≡ style_held old → new.damages ≡ old.damages → damage_of_visit v ≡ []
      → new.memory ≡ old.memory → new.range ≡ old.range
      → HasSequence refuses new (sequence_after (style_held first) first.range (seen first visits) v)
      → HasRanged hears refuses first new start after (visits ++ v ∷ [])
  goes_on_one v prints style damages quiet memory range has =
      goes_on (v ∷ []) (subst (λ (l : List ℕ). Prints {A = ⊤} before after old.printer.now new.printer.now l (Ok tt))
      (sym (append-nil (range_shown (style_held first) first.range (seen first visits) v))) prints) style damages
      (ap (λ (l : List Damage). l ++ []) quiet) memory range has

  -- or a write failed
  pub loses_one : (v : Visit) (f : WriteFault)
      → Prints {A = ⊤} before after old.printer.now new.printer.now
      (range_shown (style_held first) first.range (seen first visits) v) (Err f)
      → StopsIn (range_story hears refuses) first new start after visits (v ∷ []) (fault.Write f.out)
  loses_one v f lost = (
    v ∷ [],
    [],
    refl,
    subst (λ (l : List ℕ). TellsOut start after l (fault.Write f.out))
        (ap (λ (l : List ℕ). range_text (style_held first) first.range visits ++ l)
        (sym (append-nil (range_shown (style_held first) first.range (seen first visits) v))) ∙ text_more (v ∷ []))
        (lost start (range_text (style_held first) first.range visits) ranged.printed),
  )

-- a visit that is told nothing of
pub tells_nothing : {M D : Type 0} {hears : D → D → List Damage → Type 0} {refuses : M → ℕ → Type 0}
    {first old : RangeDumper M D} {start before : Option (List ℕ)} {visits : List Visit}
    (ranged : HasRanged hears refuses first old start before visits) (v : Visit)
    → range_shown (style_held first) first.range (seen first visits) v ≡ [] → damage_of_visit v ≡ []
    → sequence_after (style_held first) first.range (seen first visits) v ≡ seen first visits
    → HasRanged hears refuses first old start before (visits ++ v ∷ [])
tells_nothing {refuses = refuses} {old = old} {before = before} ranged v none quiet same =
    goes_on_one ranged old before v (nothing_printed before old.printer.now _ none) refl refl quiet refl refl
    (subst (λ (s : Sequence). HasSequence refuses old s) (sym same) ranged.has)

-- all that was printed goes out
module _ {M D : Type 0} (hears : D → D → List Damage → Type 0) (refuses : M → ℕ → Type 0) (first old : RangeDumper M D)
    (printer : Printed) (start before after : Option (List ℕ)) (visits : List Visit) where
  abbrev pub with_printer : RangeDumper M D
  with_printer =
      record old { printer = record old.printer { now = printer } }

  pub settles : (flow : Flow) → GoesOn (range_story hears refuses) first old start before visits flow
      → Flushes {A = ⊤} before after old.printer.now printer (Ok tt) → printer.pending ≡ []
      → GoesOn (range_story hears refuses) first with_printer start after visits flow
      × Appends start after (range_text (style_held first) first.range visits)
  settles flow.On ranged flushes empty =
      let text = range_text (style_held first) first.range visits in
      let printed = flushes start text ranged.printed in (
        record {
          style = ranged.style;
          damages = ranged.damages;
          heard = ranged.heard;
          memory = ranged.memory;
          range = ranged.range;
          has = record {
            at = ranged.has.at;
            unit = ranged.has.unit;
            whole = ranged.has.whole;
            refused = ranged.has.refused;
          };
          printed = printed;
        },
        HasPrinted-out start after text printer printed empty,
      )
  settles flow.Stop goes flushes empty = absurd goes

-- of no more items memory was refused, so it was of more
pub refused_more : (refuses : ℕ → Type 0) (m n : ℕ) → m ≤ n → IsRefused refuses m → IsRefused refuses n
refused_more refuses m n most refused =
    let few = refused.1 in (refused.0, omega (arith, few, most), refused.2)

-- before the first visit
pub begins : {M D : Type 0} {hears : D → D → List Damage → Type 0} {refuses : M → ℕ → Type 0} {first : RangeDumper M D}
    {start : Option (List ℕ)} → HasPrinted start start [] first.printer.now
    → hears first.damages.now first.damages.now [] → first.at ≡ before_units → first.unit ≡ None
    → first.is_refused ≡ false → first.items.now.items ≡ [] → HasRanged hears refuses first first start start []
begins {first = first} nothing heard at unit whole none = record {
  style = refl;
  damages = refl;
  heard = heard;
  memory = refl;
  range = refl;
  has = record { at = at; unit = unit; whole = λ e. none; refused = λ e. absurd (not_both first.is_refused whole e) };
  printed = nothing;
}
