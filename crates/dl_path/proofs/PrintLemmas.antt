-- Texts that are printed one after the other.
use Rattle.std.proofs.Common.{◌≡◌, ℕ, List, ◌++◌, Option, Result, [], append_assoc, append-nil, refl, sym, ap, ◌∙◌}
use Rattle.std.proofs.Common.{subst}
use Rattle.std.specs.Prelude.{MatchResult}
use Rattle.dl_print.specs.Printed.{Printed}
use Rattle.dl_print.specs.declared.fault.WriteFault.{WriteFault}
use Rattle.dl_print.specs.Output.{HasPrinted, Prints, PrintsMore, TellsOut}
use Rattle.dl_print.proofs.Outs.{TellsOut-front}

-- a text was printed, and then another
pub prints_then : {A : Type 0} (old mid new : Option (List ℕ)) (before between after : Printed) (a b : List ℕ)
    (result : Result A WriteFault) → PrintsMore old mid before between a → Prints mid new between after b result
    → Prints old new before after (a ++ b) result
prints_then old mid new before between after a b result first second start text h =
    subst (λ (l : List ℕ). MatchResult result (λ _. HasPrinted start new l after) (λ f. TellsOut start new l f))
    (append_assoc text a b) (second start (text ++ a) (first start text h))

-- a text wasn't printed whole
abbrev pub Loses : (old new : Option (List ℕ)) (before : Printed) (more : List ℕ) → WriteFault → Type 0
Loses old new before more f =
    (start : Option (List ℕ)) (text : List ℕ) → HasPrinted start old text before → TellsOut start new (text ++ more) f

pub loses_front : (old new : Option (List ℕ)) (before : Printed) (a b : List ℕ) (f : WriteFault)
    → Loses old new before a f → Loses old new before (a ++ b) f
loses_front old new before a b f lost start text h = TellsOut-front start new text a b f (lost start text h)

pub loses_then : (old mid new : Option (List ℕ)) (before between : Printed) (a b : List ℕ) (f : WriteFault)
    → PrintsMore old mid before between a → Loses mid new between b f → Loses old new before (a ++ b) f
loses_then old mid new before between a b f first lost start text h =
    subst (λ (l : List ℕ). TellsOut start new l f) (append_assoc text a b) (lost start (text ++ a) (first start text h))

pub more_then : (old mid new : Option (List ℕ)) (before between after : Printed) (a b : List ℕ)
    → PrintsMore old mid before between a → PrintsMore mid new between after b
    → PrintsMore old new before after (a ++ b)
more_then old mid new before between after a b first second start text h =
    subst (λ (l : List ℕ). HasPrinted start new l after) (append_assoc text a b)
    (second start (text ++ a) (first start text h))

pub loses_same : (old new : Option (List ℕ)) (before : Printed) (a b : List ℕ) (f : WriteFault) → a ≡ b
    → Loses old new before a f → Loses old new before b f
loses_same old new before a b f e lost = subst (λ (l : List ℕ). Loses old new before l f) e lost

pub prints_same : {A : Type 0} (old new : Option (List ℕ)) (before after : Printed) (a b : List ℕ)
    (result : Result A WriteFault) → a ≡ b → Prints old new before after a result → Prints old new before after b result
prints_same old new before after a b result e p = subst (λ (l : List ℕ). Prints old new before after l result) e p

-- ---- a text that is printed front after front

-- a front was printed
pub record Fronts (old new : Option (List ℕ)) (before after : Printed) (whole rest : List ℕ) : Type 0 where
  pub front : List ℕ
  pub cut : whole ≡ front ++ rest
  pub printed : PrintsMore old new before after front

pub nothing_yet : (old : Option (List ℕ)) (before : Printed) (whole : List ℕ)
    → Fronts old old before before whole whole
nothing_yet old before whole = record {
  front = [];
  cut = refl;
  printed = λ start text h. subst (λ (l : List ℕ). HasPrinted start old l before) (sym (append-nil text)) h;
}

-- all of it
pub all_fronts : (old new : Option (List ℕ)) (before after : Printed) (whole rest : List ℕ)
    → Fronts old new before after whole rest → rest ≡ [] → PrintsMore old new before after whole
all_fronts old new before after whole rest f none =
    subst (PrintsMore old new before after)
    (sym (f.cut ∙ ap (λ (l : List ℕ). f.front ++ l) none ∙ append-nil f.front)) f.printed

module _ (old mid new : Option (List ℕ)) (before between : Printed) (whole rest next rest' : List ℕ)
    (f : Fronts old mid before between whole rest) (e : rest ≡ next ++ rest') where
  longer : whole ≡ (f.front ++ next) ++ rest'
  longer = f.cut ∙ ap (λ (l : List ℕ). f.front ++ l) e ∙ sym (append_assoc f.front next rest')

  -- and then more
  pub front_more : (after : Printed) → PrintsMore mid new between after next → Fronts old new before after whole rest'
  front_more after more = record {
    front = f.front ++ next;
    cut = longer;
    printed = more_then old mid new before between after f.front next f.printed more;
  }

  -- and then not all of it
  pub front_lost : (fault : WriteFault) → Loses mid new between next fault → Loses old new before whole fault
  front_lost fault lost =
      subst (λ (l : List ℕ). Loses old new before l fault) (sym longer)
      (loses_front old new before (f.front ++ next) rest' fault
      (loses_then old mid new before between f.front next fault f.printed lost))
