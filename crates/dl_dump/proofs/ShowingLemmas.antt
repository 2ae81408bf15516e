-- How a dump with details goes on, and what it comes to.
use Rattle.std.proofs.Common.{◌≡◌, ◌∙◌, ◌++◌, ◌∷◌, ℕ, List, [], Option, Ok, Err, refl, sym, ap, ap₂, subst}
use Rattle.std.proofs.Common.{append-nil, append_assoc, Bool, true, false}
use Rattle.std.proofs.Common.{arith, length}
use Rattle.std.proofs.lemmas.Bool.{eqb-true, eqb-false}
use Rattle.std.specs.List.{fold}
use Rattle.std.specs.Prelude.{⊤, map, ◌==◌, if◌then◌else◌, nat_lt}
use Rattle.std.proofs.lemmas.List.Concat.{flat_map-append}
use Rattle.std.specs.Io.KnownBytes.{Appends}
use Rattle.dl_head.specs.declared.fault.FaultKind.{FaultKind}
use Rattle.dl_print.proofs.Outs.{HasPrinted-out}
use Rattle.dl_print.specs.Printed.{Printed}
use Rattle.dl_rows.specs.declared.sink.Flow.{Flow}
use Rattle.dl_rows.specs.declared.sink.Flow.TheVariants as flow
use Rattle.dl_print.specs.Output.{Flushes, HasPrinted, Prints}
use Rattle.dl_print.specs.Digits.{hexadecimal_bytes, hexadecimal_of}
use Rattle.dl_print.specs.declared.fault.WriteFault.{WriteFault}
use Rattle.dl_path.proofs.PrintLemmas.{prints_same}
use Rattle.dl_rows.specs.Items.{a_byte}
use Rattle.dl_sections.specs.declared.around.Damage.{Damage}
use Rattle.dl_sections.specs.declared.fault.RunFault.TheVariants as fault
use Rattle.dl_sections.specs.DamageTold.{damage_of_visit, damages_told}
use Rattle.dl_sections.specs.RunOutput.{TellsOut}
use Rattle.dl_sections.specs.Section.{Visit, of_damage, of_item}
use Rattle.dl_sections.specs.Visiting.{GoesOn, StopsIn}
use Rattle.dl_dump.specs.declared.dumping.Dumper.{Dumper}
use Rattle.dl_dump.specs.declared.reached.Opcode.{Opcode}
use Rattle.dl_dump.specs.declared.reached.Opcode.TheVariants as opcode
use Rattle.dl_dump.specs.declared.reached.Reached.{Reached}
use Rattle.dl_dump.specs.DetailText.{DetailStyle, reached, reached_after, shown_after, shown_visit}
use Rattle.dl_dump.specs.Dumping.{HasShown, dump_story, style_of}
use Rattle.dl_dump.specs.OperationText.{byte_text, start_text}
use Rattle.dl_dump.specs.Reached.{opcode_with, with_byte}

module _ (style : DetailStyle) where
  pub reached-append : (at : Reached) (a b : List Visit)
      → reached_after style at (a ++ b) ≡ reached_after style (reached_after style at a) b
  reached-append at [] b = refl
  reached-append at (v ∷ a) b = reached-append (reached style at v) a b

  pub shown-append : (at : Reached) (a b : List Visit)
      → shown_after style at (a ++ b) ≡ shown_after style at a ++ shown_after style (reached_after style at a) b
  shown-append at [] b = refl
  shown-append at (v ∷ a) b =
      ap (λ (l : List ℕ). shown_visit style at v ++ l) (shown-append (reached style at v) a b)
      ∙ sym (append_assoc (shown_visit style at v) (shown_after style (reached style at v) a)
      (shown_after style (reached_after style (reached style at v) a) b))

module _ {D : Type 0} {hears : D → D → List Damage → Type 0} {first old : Dumper D} {start before : Option (List ℕ)}
    {visits : List Visit} (showed : HasShown hears first old start before visits) (new : Dumper D) (after : Option (List ℕ))
  where
    text_more : (more : List Visit) → shown_after (style_of first) first.at visits ++ shown_after (style_of old) old.at more
        ≡ shown_after (style_of first) first.at (visits ++ more)
    text_more more =
        ap₂ (λ (s : DetailStyle) (at : Reached). shown_after (style_of first) first.at visits ++ shown_after s at more)
        showed.style showed.reached
        ∙ sym (shown-append (style_of first) first.at visits more)

    -- the text of more visits is printed
    pub shows : (more : List Visit)
        → Prints {A = ⊤} before after old.printer.now new.printer.now (shown_after (style_of old) old.at more) (Ok tt)
        → style_of new ≡ style_of old → new.damages ≡ old.damages → damages_told more ≡ []
        → new.at ≡ reached_after (style_of old) old.at more → HasShown hears first new start after (visits ++ more)
    shows more prints style damages quiet at = record {
      style = style ∙ showed.style;
      damages = rw damages showed.damages;
      heard = rw (damages, flat_map-append damage_of_visit visits more, quiet, append-nil) showed.heard;
      reached = at
          ∙ ap₂ (λ (s : DetailStyle) (at : Reached). reached_after s at more) showed.style showed.reached
          ∙ sym (reached-append (style_of first) first.at visits more);
      printed = subst (λ (l : List ℕ). HasPrinted start after l new.printer.now) (text_more more)
          (prints start (shown_after (style_of first) first.at visits) showed.printed);
    }

    -- or a write failed
    pub loses : (more : List Visit) (f : WriteFault)
        → Prints {A = ⊤} before after old.printer.now new.printer.now (shown_after (style_of old) old.at more) (Err f)
        → StopsIn (dump_story hears) first new start after visits more (fault.Write f.out)
    loses more f lost = (
      more,
      [],
      sym (append-nil more),
      subst (λ (l : List ℕ). TellsOut start after l (fault.Write f.out)) (text_more more)
          (lost start (shown_after (style_of first) first.at visits) showed.printed),
    )

    -- of one visit
    pub shows_one : (v : Visit)
        → Prints {A = ⊤} before after old.printer.now new.printer.now (shown_visit (style_of old) old.at v) (Ok tt)
        → style_of new ≡ style_of old → new.damages ≡ old.damages → damage_of_visit v ≡ []
        → new.at ≡ reached (style_of old) old.at v → HasShown hears first new start after (visits ++ v ∷ [])
    shows_one v prints style damages quiet at =
        shows (v ∷ []) (prints_same {A = ⊤} before after old.printer.now new.printer.now (shown_visit (style_of old) old.at v)
        (shown_visit (style_of old) old.at v ++ []) (Ok tt) (sym (append-nil (shown_visit (style_of old) old.at v))) prints)
        style damages (ap (λ (l : List Damage). l ++ []) quiet) at

    pub loses_one : (v : Visit) (f : WriteFault)
        → Prints {A = ⊤} before after old.printer.now new.printer.now (shown_visit (style_of old) old.at v) (Err f)
        → StopsIn (dump_story hears) first new start after visits (v ∷ []) (fault.Write f.out)
    loses_one v f lost =
        loses (v ∷ []) f (prints_same {A = ⊤} before after old.printer.now new.printer.now (shown_visit (style_of old) old.at v)
        (shown_visit (style_of old) old.at v ++ []) (Err f) (sym (append-nil (shown_visit (style_of old) old.at v))) lost)

-- visits without text
pub shows_nothing : {D : Type 0} {hears : D → D → List Damage → Type 0} {first old : Dumper D} {start held : Option (List ℕ)}
    {visits : List Visit} → HasShown hears first old start held visits → (more : List Visit)
    → shown_after (style_of old) old.at more ≡ [] → damages_told more ≡ []
    → old.at ≡ reached_after (style_of old) old.at more → HasShown hears first old start held (visits ++ more)
shows_nothing {old = old} {held = held} showed more none quiet at =
    shows showed old held more (λ start text h.
    subst (λ (l : List ℕ). HasPrinted start held l old.printer.now)
    (sym (ap (λ (l : List ℕ). text ++ l) none ∙ append-nil text)) h) refl refl quiet at

-- of a damaged unit nothing is
pub shown_damage : (style : DetailStyle) (at : Reached) (visits : List Visit) (unit offset : ℕ) (kind : FaultKind)
    → shown_after style at (visits ++ of_damage unit offset kind ∷ []) ≡ shown_after style at visits
shown_damage style at visits unit offset kind =
    shown-append style at visits (of_damage unit offset kind ∷ []) ∙ append-nil (shown_after style at visits)

module _ {D : Type 0} {hears : D → D → List Damage → Type 0} {first old : Dumper D} {start held : Option (List ℕ)}
    {visits : List Visit} (showed : HasShown hears first old start held visits) where
  -- it is told
  pub tells_damage : (new : D) (unit : ℕ) (damage : Damage)
      → hears first.damages.now new (damages_told visits ++ damage ∷ [])
      → HasShown hears first (record old { damages = record old.damages { now = new } }) start held
      (visits ++ of_damage unit damage.offset damage.kind ∷ [])
  tells_damage new unit damage heard = record {
    style = showed.style;
    damages = showed.damages;
    heard = subst (λ (l : List Damage). hears first.damages.now new l)
        (sym (flat_map-append damage_of_visit visits (of_damage unit damage.offset damage.kind ∷ []))) heard;
    reached = showed.reached
        ∙ sym (reached-append (style_of first) first.at visits (of_damage unit damage.offset damage.kind ∷ []));
    printed = subst (λ (l : List ℕ). HasPrinted start held l old.printer.now)
        (sym (shown_damage (style_of first) first.at visits unit damage.offset damage.kind)) showed.printed;
  }

-- all that was printed goes out
module _ {D : Type 0} (hears : D → D → List Damage → Type 0) (first old : Dumper D) (printer : Printed)
    (start before after : Option (List ℕ)) (visits : List Visit) where
  pub settles : (flow : Flow) → GoesOn (dump_story hears) first old start before visits flow
      → Flushes {A = ⊤} before after old.printer.now printer (Ok tt) → printer.pending ≡ []
      → GoesOn (dump_story hears) first (record old { printer = record old.printer { now = printer } }) start after visits flow
      × Appends start after (shown_after (style_of first) first.at visits)
  settles flow.On showed flushes empty =
      let text = shown_after (style_of first) first.at visits in
      let printed = flushes start text showed.printed in (
        record {
          style = showed.style;
          damages = showed.damages;
          heard = showed.heard;
          reached = showed.reached;
          printed = printed;
        },
        HasPrinted-out start after text printer printed empty,
      )
  settles flow.Stop goes flushes empty = absurd goes

-- ---- the bytes of an operation

-- its line has begun
abbrev pub IsBegun : Opcode → Type 0
IsBegun o = (offset : ℕ) → start_text o offset ≡ []

begun_after : (o : Opcode) (b : ℕ) → IsBegun (opcode_with o b)
begun_after opcode.Unread b = by (b == 0) where
  by : (is : Bool) → IsBegun (if is then opcode.Length else opcode.Single b)
  by true offset = refl
  by false offset = refl
begun_after opcode.Length b = by (nat_lt b 128) where
  by : (is : Bool) → IsBegun (if is then opcode.Number else opcode.Length)
  by true offset = refl
  by false offset = refl
begun_after opcode.Number b = λ offset. refl
begun_after (opcode.Single n) b = λ offset. refl
begun_after (opcode.Extended n) b = λ offset. refl

-- whether there are any
pub no_bytes : (bytes : List ℕ) → (length bytes == 0) ≡ true → bytes ≡ []
no_bytes [] none = refl
no_bytes (b ∷ bytes) none = absurd (omega (arith, eqb-true (length (b ∷ bytes)) 0 none))

abbrev pub byte_visits : List ℕ → List Visit
byte_visits bytes = map of_item (map a_byte bytes)

pub no_damage : (bytes : List ℕ) → damages_told (byte_visits bytes) ≡ []
no_damage [] = refl
no_damage (b ∷ bytes) = no_damage bytes

module _ (style : DetailStyle) where
  -- where operations aren't shown
  module _ (unshown : style.details.operations ≡ false) where
    stays : (at : Reached) (b : ℕ) → reached style at (of_item (a_byte b)) ≡ at
    stays at b = ap (λ (is : Bool). if is then with_byte at b else at) unshown

    pub reached_nowhere : (at : Reached) (bytes : List ℕ) → at ≡ reached_after style at (byte_visits bytes)
    reached_nowhere at [] = refl
    reached_nowhere at (b ∷ bytes) =
        reached_nowhere at bytes
        ∙ sym (ap (λ (a : Reached). reached_after style a (byte_visits bytes)) (stays at b))

    pub shown_nothing : (at : Reached) (bytes : List ℕ) → shown_after style at (byte_visits bytes) ≡ []
    shown_nothing at [] = refl
    shown_nothing at (b ∷ bytes) =
        ap₂ (λ (l : List ℕ) (a : Reached). l ++ shown_after style a (byte_visits bytes))
        (ap (λ (is : Bool). if is then byte_text at b else []) unshown) (stays at b)
        ∙ shown_nothing at bytes

  -- where they are
  module _ (shown : style.details.operations ≡ true) where
    moves : (at : Reached) (b : ℕ) → reached style at (of_item (a_byte b)) ≡ with_byte at b
    moves at b = ap (λ (is : Bool). if is then with_byte at b else at) shown

    tells : (at : Reached) (b : ℕ) → shown_visit style at (of_item (a_byte b)) ≡ byte_text at b
    tells at b = ap (λ (is : Bool). if is then byte_text at b else []) shown

    pub reached_bytes : (at : Reached) (bytes : List ℕ)
        → fold with_byte at bytes ≡ reached_after style at (byte_visits bytes)
    reached_bytes at [] = refl
    reached_bytes at (b ∷ bytes) =
        reached_bytes (with_byte at b) bytes
        ∙ sym (ap (λ (a : Reached). reached_after style a (byte_visits bytes)) (moves at b))

    byte_first : (at : Reached) (b : ℕ) (bytes : List ℕ)
        → byte_text at b ++ shown_after style (with_byte at b) (byte_visits bytes)
        ≡ shown_after style at (byte_visits (b ∷ bytes))
    byte_first at b bytes =
        sym (ap₂ (λ (l : List ℕ) (a : Reached). l ++ shown_after style a (byte_visits bytes)) (tells at b) (moves at b))

    shown_further : (at : Reached) → IsBegun at.opcode → (bytes : List ℕ)
        → hexadecimal_bytes bytes ≡ shown_after style at (byte_visits bytes)
    shown_further at begun [] = refl
    shown_further at begun (b ∷ bytes) =
        ap₂ (λ (front l : List ℕ). (front ++ hexadecimal_of 2 b) ++ l) (sym (begun at.offset))
        (shown_further (with_byte at b) (begun_after at.opcode b) bytes)
        ∙ byte_first at b bytes

    pub shown_bytes : (at : Reached) (b : ℕ) (bytes : List ℕ)
        → start_text at.opcode at.offset ++ hexadecimal_bytes (b ∷ bytes) ≡ shown_after style at (byte_visits (b ∷ bytes))
    shown_bytes at b bytes =
        sym (append_assoc (start_text at.opcode at.offset) (hexadecimal_of 2 b) (hexadecimal_bytes bytes))
        ∙ ap (λ (l : List ℕ). byte_text at b ++ l) (shown_further (with_byte at b) (begun_after at.opcode b) bytes)
        ∙ byte_first at b bytes

    pub shown_some : (at : Reached) (bytes : List ℕ) → (length bytes == 0) ≡ false
        → start_text at.opcode at.offset ++ hexadecimal_bytes bytes ≡ shown_after style at (byte_visits bytes)
    shown_some at [] some = absurd (eqb-false 0 0 some refl)
    shown_some at (b ∷ bytes) some = shown_bytes at b bytes
