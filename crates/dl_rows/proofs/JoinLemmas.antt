-- The bytes of a header, one more at a time, and the step to what is after it.
use Rattle.std.proofs.Common.{◌≡◌, ℕ, List, [], ◌∷◌, ◌++◌, Option, Some, None, refl, sym, ap, ◌∙◌, append-nil}
use Rattle.dl_head.specs.declared.dialect.Dialect.{Dialect}
use Rattle.dl_num.specs.Laws.{AllBytes}
use Rattle.dl_field.specs.HeaderData.{HeaderData}
use Rattle.dl_head.specs.Header.{IsHeader, foreign_in, header_in}
use Rattle.dl_field.proofs.FieldLemmas.{none_some}
use Rattle.dl_head.proofs.HeaderLaws.{header_is_found}
use Rattle.dl_head.proofs.QuietLemmas.{header_is_not_refused}
use Rattle.dl_rows.specs.declared.reader.Event.{Event}
use Rattle.dl_rows.specs.declared.reader.Event.TheVariants as event
use Rattle.dl_rows.specs.declared.unit_body.UnitBody.{UnitBody}
use Rattle.dl_rows.specs.LineUnit.{events}
use Rattle.dl_rows.specs.Programs.{ProgramStands}
use Rattle.dl_rows.specs.UnitBodies.{Counts, AfterHeader, InProgram}
use Rattle.dl_rows.proofs.HeaderParams.{header_fits}
use Rattle.dl_rows.proofs.UnitBodyLemmas.{events_at}
use Rattle.dl_rows.proofs.UnitLemmas.{header_on, refused_in_header}
use Rattle.dl_rows.proofs.UnitWhole.{NoneRefused}

-- in a header there is no event
pub no_events : (dialect : Dialect) (b : List ℕ) → header_in dialect b ≡ None → foreign_in dialect b ≡ None
    → ◌≡◌ {A = List Event} (events dialect b) []
no_events dialect b none own = rw (own, none)

-- ---- the header's last byte

-- no front of a header is refused
pub header_sound : (dialect : Dialect) (h : HeaderData) (w : List ℕ) → IsHeader dialect h w → NoneRefused dialect w
header_sound dialect h w is front back at kind e r = on (header_in dialect front) refl where
  on : (o : Option (HeaderData × List ℕ)) → header_in dialect front ≡ o → ⊥
  on None none =
      header_is_not_refused dialect h w [] front back at kind is (append-nil w ∙ e)
      ((refused_in_header dialect front at kind none).0 r)
  on (Some (g, [])) found = none_some {a = kind} (rw found) r.decided
  on (Some (g, x ∷ begun)) found =
      let all : ◌≡◌ {A = Option (HeaderData × List ℕ)} (Some (g, x ∷ (begun ++ back))) (Some (h, [])) =
      sym (header_on dialect front back g (x ∷ begun) found) ∙ ap (header_in dialect) (sym e ∙ sym (append-nil w))
      ∙ header_is_found dialect h w [] is in
      let none : x ∷ (begun ++ back) ≡ [] =
      ap (λ (o : Option (HeaderData × List ℕ)). elim o [ Some p ↦ p.1 | None ↦ [] ]) all in
      absurd cc

-- bytes that are a header
abbrev whole_header : {dialect : Dialect} {h : HeaderData} {w : List ℕ} → IsHeader dialect h w → AfterHeader dialect h w
whole_header {w = w} is = record { header = w; program = []; whole = sym (append-nil w); spells = is }

pub after_the_header : (dialect : Dialect) (h : HeaderData) (t : UnitBody) (w : List ℕ)
    → IsHeader dialect h w → AllBytes w
    → Counts dialect t.bytes w → ProgramStands dialect.order h.params t.program [] → InProgram dialect h t w
after_the_header dialect h t w is all counts stands =
    let fits = header_fits dialect h w all is in
    record {
      counts = counts;
      at = whole_header is;
      fits = record { usable = fits.0; line_base = fits.1 };
      stands = stands;
      sound = header_sound dialect h w is;
    }

pub header_event : (dialect : Dialect) (h : HeaderData) (w : List ℕ) → IsHeader dialect h w
    → events dialect w ≡ event.Header ∷ []
header_event dialect h w is = (let a : AfterHeader dialect h w = whole_header is in events_at a)
