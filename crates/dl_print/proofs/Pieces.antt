-- A text that is printed piece by piece.
use Rattle.std.proofs.Common.{◌≡◌, ℕ, ◌+◌, ◌-◌, ◌≤◌, List, ◌++◌, Option, take, drop, flat_map, arith, sym, ap, subst}
use Rattle.std.proofs.Common.{◌∙◌, append_assoc}
use Rattle.std.proofs.lemmas.List.{take-append-drop}
use Rattle.std.proofs.lemmas.Grind.{flat_map-append}
use Rattle.std.proofs.Math.Seq.{take-add}
use Rattle.dl_print.specs.Printed.{Printed}
use Rattle.dl_print.specs.Output.{HasPrinted, PrintsMore, TellsOut}
use Rattle.dl_print.specs.declared.fault.WriteFault.{WriteFault}
use Rattle.dl_print.proofs.Outs.{TellsOut-more}

module _ (f : ℕ → List ℕ) (w : List ℕ) (i j : ℕ) (forward : i ≤ j) where
  piece : List ℕ
  piece = flat_map f (take (j - i) (drop i w))

  -- the first j are the first i and those between
  upto : flat_map f (take j w) ≡ flat_map f (take i w) ++ flat_map f (take (j - i) (drop i w))
  upto =
      let e : i + (j - i) ≡ j = omega arith in
      ap (λ n. flat_map f (take n w)) (sym e) ∙ ap (flat_map f) (take-add i (j - i) w)
      ∙ flat_map-append f (take i w) (take (j - i) (drop i w))

  regroup : (text : List ℕ) → text ++ flat_map f (take i w) ++ flat_map f (take (j - i) (drop i w))
      ≡ text ++ flat_map f (take j w)
  regroup text = append_assoc text _ _ ∙ ap (λ l. text ++ l) (sym upto)

  -- the next piece was printed
  pub PrintsMore-piece : (old mid new : Option (List ℕ)) (before between after : Printed)
      → PrintsMore old mid before between (flat_map f (take i w))
      → PrintsMore mid new between after (flat_map f (take (j - i) (drop i w)))
      → PrintsMore old new before after (flat_map f (take j w))
  PrintsMore-piece old mid new before between after first second start text h =
      subst (λ t. HasPrinted start new t after) (regroup text)
      (second start (text ++ flat_map f (take i w)) (first start text h))

  -- the writer failed in the next piece
  pub TellsOut-piece : (start now : Option (List ℕ)) (text : List ℕ) (fault : WriteFault)
      → TellsOut start now (text ++ flat_map f (take i w) ++ flat_map f (take (j - i) (drop i w))) fault
      → TellsOut start now (text ++ flat_map f w) fault
  TellsOut-piece start now text fault t =
      let first = subst (λ l. TellsOut start now l fault) (regroup text) t in
      let all : text ++ flat_map f (take j w) ++ flat_map f (drop j w) ≡ text ++ flat_map f w =
      append_assoc text _ _ ∙ ap (λ l. text ++ l) (sym (flat_map-append f (take j w) (drop j w))
      ∙ ap (flat_map f) (take-append-drop j w)) in
      subst (λ l. TellsOut start now l fault) all (TellsOut-more start now _ (flat_map f (drop j w)) fault first)
