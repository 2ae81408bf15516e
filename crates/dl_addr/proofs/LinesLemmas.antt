-- Lines that are printed one after the other.
use Rattle.std.proofs.Common.{◌≡◌, ℕ, ◌+◌, ◌<◌, ◌≤◌, Bool, true, false, List, [], ◌∷◌, ◌++◌, length, take, drop, get_or}
use Rattle.std.proofs.Common.{Option, Some, None, refl, sym, ap, ap₂, ◌∙◌, subst, append-nil}
use Rattle.std.specs.Prelude.{if◌then◌else◌, ◌&&◌, is_some, option_map}
use Rattle.std.specs.Io.KnownBytes.{Appends}
use Rattle.std.specs.List.{list_all}
use Rattle.std.proofs.lemmas.List.{take-append-drop, take_more, take_all}
use Rattle.std.proofs.lemmas.Grind.{flat_map-append}
use Rattle.dl_print.specs.declared.fault.WriteFault.{WriteFault}
use Rattle.dl_print.specs.Printed.{Printed}
use Rattle.dl_print.specs.Output.{HasPrinted, PrintsMore, TellsOut}
use Rattle.dl_print.proofs.Outs.{HasPrinted-out, TellsOut-more}
use Rattle.dl_look.specs.declared.asked.Asked.{Asked}
use Rattle.dl_addr.specs.declared.question.WhichFound.{WhichFound}
use Rattle.dl_addr.specs.declared.question.WhichFound.TheVariants as found
use Rattle.dl_addr.specs.declared.style.Style.{Style}
use Rattle.dl_addr.specs.Location.{Location}
use Rattle.dl_addr.specs.Commands.{is_answered}
use Rattle.dl_addr.specs.Printing.{found_by, seen_line, seen_lines}
use Rattle.dl_path.proofs.PrintLemmas.{Loses, loses_then, more_then}

module _ (style : Style) (f : Asked → Option Location) (asked : List Asked) where
  abbrev line_of : Asked → List ℕ
  line_of a = seen_line style a (f a)

  -- one line more
  lines_more : (n : ℕ) (d : Asked) → n < length asked
      → seen_lines style f (take (n + 1) asked) ≡ seen_lines style f (take n asked) ++ line_of (get_or asked n d)
  lines_more n d lt =
      ap (seen_lines style f) (take_more asked n d lt)
      ∙ flat_map-append line_of (take n asked) (get_or asked n d ∷ [])
      ∙ ap (λ (l : List ℕ). seen_lines style f (take n asked) ++ l) (append-nil (line_of (get_or asked n d)))

  lines_rest : (n : ℕ)
      → seen_lines style f asked ≡ seen_lines style f (take n asked) ++ seen_lines style f (drop n asked)
  lines_rest n =
      ap (seen_lines style f) (sym (take-append-drop n asked)) ∙ flat_map-append line_of (take n asked) (drop n asked)

  pub prints_line : (old mid new : Option (List ℕ)) (before between after : Printed) (n : ℕ) (d : Asked)
      (seen : Option Location) → n < length asked → seen ≡ f (get_or asked n d)
      → PrintsMore old mid before between (seen_lines style f (take n asked))
      → PrintsMore mid new between after (seen_line style (get_or asked n d) seen)
      → PrintsMore old new before after (seen_lines style f (take (n + 1) asked))
  prints_line old mid new before between after n d seen lt is first second =
      subst (PrintsMore old new before after)
      (ap (λ (o : Option Location). seen_lines style f (take n asked) ++ seen_line style (get_or asked n d) o) is
      ∙ sym (lines_more n d lt))
      (more_then old mid new before between after (seen_lines style f (take n asked))
      (seen_line style (get_or asked n d) seen) first second)

  -- a line wasn't printed whole
  pub loses_line : (old mid new : Option (List ℕ)) (before between : Printed) (n : ℕ) (d : Asked)
      (seen : Option Location) (lost : WriteFault) → n < length asked → seen ≡ f (get_or asked n d)
      → HasPrinted old old [] before → PrintsMore old mid before between (seen_lines style f (take n asked))
      → Loses mid new between (seen_line style (get_or asked n d) seen) lost
      → TellsOut old new (seen_lines style f asked) lost
  loses_line old mid new before between n d seen lost lt is nothing first second =
      let some = loses_then old mid new before between (seen_lines style f (take n asked))
      (seen_line style (get_or asked n d) seen) lost first second old [] nothing in
      let so_far = subst (λ (l : List ℕ). TellsOut old new l lost)
      (ap (λ (o : Option Location). seen_lines style f (take n asked) ++ seen_line style (get_or asked n d) o) is
      ∙ sym (lines_more n d lt)) some in
      subst (λ (l : List ℕ). TellsOut old new l lost) (sym (lines_rest (n + 1)))
      (TellsOut-more old new (seen_lines style f (take (n + 1) asked)) (seen_lines style f (drop (n + 1) asked))
      lost so_far)

  all_lines : (n : ℕ) → length asked ≤ n → seen_lines style f (take n asked) ≡ seen_lines style f asked
  all_lines n le = ap (seen_lines style f) (take_all n asked le)

  -- all lines are printed, and not out
  pub loses_all : (old mid new : Option (List ℕ)) (before between : Printed) (n : ℕ) (lost : WriteFault)
      → length asked ≤ n → HasPrinted old old [] before
      → PrintsMore old mid before between (seen_lines style f (take n asked))
      → ((start : Option (List ℕ)) (text : List ℕ) → HasPrinted start mid text between → TellsOut start new text lost)
      → TellsOut old new (seen_lines style f asked) lost
  loses_all old mid new before between n lost le nothing first second =
      subst (λ (l : List ℕ). TellsOut old new l lost) (all_lines n le)
      (second old (seen_lines style f (take n asked)) (first old [] nothing))

  -- all lines are out
  pub all_out : (old mid new : Option (List ℕ)) (before between after : Printed) (n : ℕ) → length asked ≤ n
      → HasPrinted old old [] before → PrintsMore old mid before between (seen_lines style f (take n asked))
      → ((start : Option (List ℕ)) (text : List ℕ) → HasPrinted start mid text between
      → HasPrinted start new text after) → after.pending ≡ [] → Appends old new (seen_lines style f asked)
  all_out old mid new before between after n le nothing first second empty =
      subst (Appends old new) (all_lines n le) (HasPrinted-out old new (seen_lines style f (take n asked)) after
      (second old (seen_lines style f (take n asked)) (first old [] nothing)) empty)

  -- ---- whether all are found

  and_true : (b : Bool) → (b && true) ≡ b
  and_true true = refl
  and_true false = refl

  abbrev is_fine : Asked → Bool
  is_fine a = is_answered a (is_some (f a))

  all_more : (xs : List Asked) (a : Asked) → list_all is_fine (xs ++ a ∷ []) ≡ (list_all is_fine xs && is_fine a)
  all_more [] a = and_true (is_fine a)
  all_more (x ∷ xs) a =
      ap (λ (b : Bool). is_fine x && b) (all_more xs a) ∙ and_same (is_fine x) (list_all is_fine xs) (is_fine a) where
        and_same : (a b c : Bool) → (a && (b && c)) ≡ ((a && b) && c)
        and_same true b c = refl
        and_same false b c = refl

  both_found : (before this : Bool)
      → (if before && this then found.All else found.NotAll) ≡ (if this
      then (if before then found.All else found.NotAll) else found.NotAll)
  both_found true true = refl
  both_found true false = refl
  both_found false true = refl
  both_found false false = refl

  pub found_more : (n : ℕ) (d : Asked) (is_found : Bool) (before after : WhichFound) → n < length asked
      → is_found ≡ is_fine (get_or asked n d) → before ≡ found_by f (take n asked)
      → after ≡ (if is_found then before else found.NotAll) → after ≡ found_by f (take (n + 1) asked)
  found_more n d is_found before after lt is was now =
      now
      ∙ ap₂ (λ (b : Bool) (o : WhichFound). if b then o else found.NotAll) is was
      ∙ sym (both_found (list_all is_fine (take n asked)) (is_fine (get_or asked n d)))
      ∙ ap (λ (b : Bool). if b then found.All else found.NotAll) (sym (all_more (take n asked) (get_or asked n d)))
      ∙ ap (found_by f) (sym (take_more asked n d lt))

  pub found_all : (n : ℕ) (result : WhichFound) → length asked ≤ n → result ≡ found_by f (take n asked)
      → result ≡ found_by f asked
  found_all n result le is = is ∙ ap (found_by f) (take_all n asked le)

pub some_mapped : {A B : Type 0} (g : A → B) (o : Option A) → is_some o ≡ is_some (option_map g o)
some_mapped g None = refl
some_mapped g (Some a) = refl
