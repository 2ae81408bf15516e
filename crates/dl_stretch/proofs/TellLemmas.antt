-- What sinks are told while stretches are made.
use Rattle.std.proofs.Common.{◌≡◌, ℕ, List, [], ◌++◌, Option, sym, ap, subst, ◌∙◌, append_assoc}
use Rattle.std.proofs.lemmas.List.{append-nil}
use Rattle.dl_stretch.specs.declared.told.Told.{Told}
use Rattle.dl_stretch.specs.declared.stretch.Stretch.{Stretch}
use Rattle.dl_stretch.specs.Hearing.{HearsMore}
use Rattle.dl_stretch.specs.Made.{AreMade, TellsOn, last_told}

module _ {S : Type 0} (hears : S → S → List Stretch → Type 0) where
  pub nothing_heard : (s : S) → HearsMore hears s s []
  nothing_heard s first told h = subst (hears first s) (sym (append-nil told)) h

  pub both_heard : (a b c : S) (m n : List Stretch) → HearsMore hears a b m → HearsMore hears b c n
      → HearsMore hears a c (m ++ n)
  both_heard a b c m n x y first told h =
      subst (hears first c) (append_assoc told m n) (y first (told ++ m) (x first told h))

  pub tells_both : (a b c : S) (f : ℕ → Option Told) (list : List Stretch) (e e' : ℕ) (t t' : Option Told)
      → (x : TellsOn hears a b f list e t) → TellsOn hears b c f (list ++ x.more) e' t' → TellsOn hears a c f list e' t'
  tells_both a b c f list e e' t t' x y = record {
    more = x.more ++ y.more;
    heard = both_heard a b c x.more y.more x.heard y.heard;
    made = subst (λ l. AreMade f l e') (append_assoc list x.more y.more) y.made;
    last = y.last ∙ ap last_told (append_assoc list x.more y.more);
  }

  -- it was told nothing more
  pub tells_none : (s : S) (f : ℕ → Option Told) (list : List Stretch) (e : ℕ) (t : Option Told) → AreMade f list e
      → t ≡ last_told list → TellsOn hears s s f list e t
  tells_none s f list e t made last = record {
    more = [];
    heard = nothing_heard s;
    made = subst (λ l. AreMade f l e) (sym (append-nil list)) made;
    last = last ∙ ap last_told (sym (append-nil list));
  }

  pub tells_same : (a b : S) (f : ℕ → Option Told) (list : List Stretch) (e e' : ℕ) (t : Option Told) → e ≡ e'
      → TellsOn hears a b f list e t → TellsOn hears a b f list e' t
  tells_same a b f list e e' t is x = subst (λ n. TellsOn hears a b f list n t) is x
