-- How what is out grows with each write and each text.
use Rattle.std.proofs.Common.{◌≡◌, ℕ, ◌+◌, ◌-◌, ◌≤◌, List, [], ◌++◌, length, take, drop, Option, arith, sym, ap, subst}
use Rattle.std.proofs.Common.{◌∙◌, append_assoc, length-append, length-drop, append-nil, take-append-drop, Some, None, Result, Ok, Err}
use Rattle.std.proofs.Math.Seq.{take-add}
use Rattle.std.proofs.lemmas.List.{take_all, take-append-le, drop-append-le}
use Rattle.std.proofs.Math.ListN.{drop_of_length-le}
use Rattle.std.specs.Prelude.{MatchResult, OnOk}
use Rattle.std.specs.Io.KnownBytes.{Appends, Keeps}
use Rattle.std.proofs.KnownBytes.{Appends-trans}
use Rattle.dl_print.specs.Printed.{Printed}
use Rattle.dl_print.specs.Output.{HasOut, HasPrinted, Prints, PrintsMore, TellsOut}
use Rattle.dl_print.specs.declared.fault.WriteFault.{WriteFault}

module _ (start a b : Option (List ℕ)) (text : List ℕ) (out : ℕ) where
  -- k more bytes went out
  pub HasOut-write : (k : ℕ) → HasOut start a text out → out + k ≤ length text → Appends a b (take k (drop out text))
      → HasOut start b text (out + k)
  HasOut-write k h fits p = record {
    within = fits;
    written = subst (Appends start b) (sym (take-add out k text)) (Appends-trans start a b _ _ h.written p);
  }

  -- the buffer was written in part
  pub HasOut-pending : (pending : List ℕ) (k : ℕ) → HasPrinted start a text (record { pending = pending; out = out })
      → HasOut a b pending k → HasOut start b text (out + k)
  HasOut-pending pending k h p =
      let w = h.first.within in
      let n = ap length h.rest in
      HasOut-write k h.first (let m = p.within in
      omega (arith, length-drop {A = ℕ})) (subst (λ l. Appends a b (take k l)) (sym h.rest) p.written)

  -- the buffer was written
  pub HasPrinted-flushed : (pending : List ℕ) → HasPrinted start a text (record { pending = pending; out = out })
      → Appends a b pending → HasPrinted start b text (record { pending = []; out = out + length pending })
  HasPrinted-flushed pending h p =
      let w = h.first.within in
      let n : length text - out ≡ length pending = sym (length-drop out text) ∙ ap length h.rest in
      let all : take (length pending) (drop out text) ≡ pending =
      take_all (length pending) (drop out text) (omega (arith, length-drop {A = ℕ})) ∙ h.rest in
      record {
        first = HasOut-write (length pending) h.first (omega arith) (subst (Appends a b) (sym all) p);
        rest = drop_of_length-le text (omega arith);
      }

module _ (start now : Option (List ℕ)) (text more : List ℕ) where
  pub HasOut-more : (out : ℕ) → HasOut start now text out → HasOut start now (text ++ more) out
  HasOut-more out h = record {
    within = let w = h.within in omega (arith, length-append text more);
    written = subst (Appends start now) (sym (take-append-le out text more h.within)) h.written;
  }

  pub HasPrinted-more : (out : ℕ) (pending : List ℕ)
      → HasPrinted start now text (record { pending = pending; out = out })
      → HasPrinted start now (text ++ more) (record { pending = pending ++ more; out = out })
  HasPrinted-more out pending h = record {
    first = HasOut-more out h.first;
    rest = drop-append-le out text more h.first.within ∙ ap (λ l. l ++ more) h.rest;
  }

  pub HasPrinted-held : (old new : Printed) → HasPrinted start now text old → new.pending ≡ old.pending ++ more
      → new.out ≡ old.out → HasPrinted start now (text ++ more) new
  HasPrinted-held old new h pending out = rw (pending, out) (HasPrinted-more old.out old.pending h)

  pub TellsOut-more : (f : WriteFault) → TellsOut start now text f → TellsOut start now (text ++ more) f
  TellsOut-more f t = (let below = t.0 in omega (arith, length-append text more), HasOut-more f.out t.1)

-- what is said of the front of a text holds of the text
pub TellsOut-front : (start now : Option (List ℕ)) (text a b : List ℕ) (f : WriteFault)
    → TellsOut start now (text ++ a) f → TellsOut start now (text ++ (a ++ b)) f
TellsOut-front start now text a b f t =
    subst (λ l. TellsOut start now l f) (append_assoc text a b) (TellsOut-more start now (text ++ a) b f t)

-- one text was printed, and then another
pub PrintsMore-then : (old mid new : Option (List ℕ)) (before between after : Printed) (a b c : List ℕ) → c ≡ a ++ b
    → PrintsMore old mid before between a → PrintsMore mid new between after b
    → PrintsMore old new before after c
PrintsMore-then old mid new before between after a b c e first second start text h =
    subst (λ t. HasPrinted start new t after) (append_assoc text a b ∙ ap (λ (l : List ℕ). text ++ l) (sym e))
    (second start (text ++ a) (first start text h))

-- one text was printed, and then another, or a write failed
pub Prints-both : {A : Type 0} (old mid new : Option (List ℕ)) (before between after : Printed) (result : Result A WriteFault)
    (a b : List ℕ) → PrintsMore old mid before between a → Prints mid new between after b result
    → Prints old new before after (a ++ b) result
Prints-both old mid new before between after result a b first second = λ start text h.
    subst (λ l. MatchResult result (λ _. HasPrinted start new l after) (λ f. TellsOut start new l f))
    (append_assoc text a b) (second start (text ++ a) (first start text h))

-- what is said of the first part of a text holds of the text
pub TellsOut-first : (start now : Option (List ℕ)) (text a rest c : List ℕ) (f : WriteFault) → c ≡ a ++ rest
    → TellsOut start now (text ++ a) f → TellsOut start now (text ++ c) f
TellsOut-first start now text a rest c f e t =
    subst (λ l. TellsOut start now l f) (ap (λ (l : List ℕ). text ++ l) (sym e)) (TellsOut-front start now text a rest f t)

-- what is said of two parts of a text holds of the text
pub TellsOut-part : (start now : Option (List ℕ)) (text a b rest c : List ℕ) (f : WriteFault) → c ≡ a ++ b ++ rest
    → TellsOut start now (text ++ a ++ b) f → TellsOut start now (text ++ c) f
TellsOut-part start now text a b rest c f e t =
    subst (λ l. TellsOut start now l f) (ap (λ (l : List ℕ). text ++ l) (sym e))
    (TellsOut-front start now text (a ++ b) rest f (subst (λ l. TellsOut start now l f) (append_assoc text a b) t))

pub HasPrinted-same : (start now : Option (List ℕ)) (text same : List ℕ) (p : Printed) → text ≡ same
    → HasPrinted start now text p → HasPrinted start now same p
HasPrinted-same start now text same p e h = subst (λ t. HasPrinted start now t p) e h

-- a printer that printed nothing
pub HasPrinted-nothing : (start now : Option (List ℕ)) (p : Printed) → Appends start now [] → p.pending ≡ [] → p.out ≡ 0
    → HasPrinted start now [] p
HasPrinted-nothing start now p kept pending out = record {
  first = record {
    within = omega (arith, out);
    written = subst (λ (n : ℕ). Appends start now (take n [])) (sym out) kept;
  };
  rest = ap (λ (n : ℕ). drop n []) out ∙ sym pending;
}

-- a printer that holds nothing
pub HasPrinted-out : (start now : Option (List ℕ)) (text : List ℕ) (p : Printed) → HasPrinted start now text p
    → p.pending ≡ [] → Appends start now text
HasPrinted-out start now text p h empty =
    let whole : take p.out text ≡ text =
    sym (append-nil (take p.out text)) ∙ ap (λ (l : List ℕ). take p.out text ++ l) (sym (h.rest ∙ empty))
    ∙ take-append-drop p.out text in
    subst (Appends start now) whole h.first.written

-- all that was printed is out, or a write failed
pub flushed : {A : Type 0} (start now : Option (List ℕ)) (text : List ℕ) (p : Printed) (r : Result A WriteFault)
    → MatchResult r (λ _. HasPrinted start now text p) (λ f. TellsOut start now text f) → OnOk r (p.pending ≡ [])
    → MatchResult r (λ _. Appends start now text) (TellsOut start now text)
flushed start now text p (Ok x) printed empty = HasPrinted-out start now text p printed empty
flushed start now text p (Err f) lost empty = lost

-- nothing was written
pub keeps_by_nothing : (a b : Option (List ℕ)) (text : List ℕ) → text ≡ [] → Appends a b text → Keeps a b
keeps_by_nothing None b text e out = tt
keeps_by_nothing (Some xs) None text e out = absurd out
keeps_by_nothing (Some xs) (Some ys) text e out = out ∙ ap (λ (l : List ℕ). xs ++ l) e ∙ append-nil xs
