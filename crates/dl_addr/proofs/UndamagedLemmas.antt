-- Sections of which no unit is damaged.
use Rattle.std.proofs.Common.{◌≡◌, ℕ, ◌+◌, List, [], ◌∷◌, ◌++◌, length, map, take, Option, Some, None, refl, sym}
use Rattle.std.proofs.Common.{ap, ap₂, ◌∙◌, subst, append-nil, Bool, true, Ok}
use Rattle.std.proofs.lemmas.List.{take_all}
use Rattle.std.specs.Io.KnownBytes.{Appends}
use Rattle.std.specs.Option.{option_and_then, option_copied, option_or}
use Rattle.dl_head.specs.declared.dialect.Dialect.{Dialect}
use Rattle.dl_look.specs.declared.asked.Asked.{Asked}
use Rattle.dl_look.specs.declared.place.Place.{Place}
use Rattle.dl_look.specs.Asked.{place_of}
use Rattle.dl_print.specs.ValueText.{Strings}
use Rattle.dl_sections.specs.declared.around.Damage.{Damage}
use Rattle.dl_sections.specs.declared.around.Survey.{Survey}
use Rattle.dl_sections.specs.Around.{Block, whole, damaged, bytes_of, units_around, faults_in, Rest, begun, cut_off, broken}
use Rattle.dl_sections.specs.Around.{rest_faults, damaged_units, faults_of, survey_of, IsCut, IsLast}
use Rattle.dl_sections.specs.Section.{summary_of}
use Rattle.dl_sections.proofs.BlockLemmas.{all_whole, bytes_of_units, each_unit, no_faults, units_of_units}
use Rattle.dl_sections.proofs.Fronts.{empty_both}
use Rattle.dl_sections.proofs.SectionLemmas.{none_begins, none_refused}
use Rattle.dl_addr.specs.declared.question.WhichFound.{WhichFound}
use Rattle.dl_addr.specs.declared.question.Question.{Question}
use Rattle.dl_dirs.specs.Compilation.{directory_by}
use Rattle.dl_addr.specs.AroundCommands.{LocatesAround, lines_around, located_along, located_around}
use Rattle.dl_addr.specs.AroundLaws.{SameWithoutDamage}
use Rattle.dl_addr.specs.Code.{is_code}
use Rattle.dl_addr.specs.Commands.{Locates, answer_lines, found_in}
use Rattle.dl_addr.specs.Locations.{asked_line, located, located_from, located_in}
use Rattle.dl_addr.proofs.AnsweringLemmas.{flat_same}

-- ---- no fault

no_damage : (faults : List Damage) → damaged_units faults ≡ None → faults ≡ []
no_damage [] e = refl
no_damage (fault ∷ faults) e = absurd cc

all_are_whole : (offset : ℕ) (blocks : List Block) → faults_in offset blocks ≡ []
    → blocks ≡ map whole (units_around blocks)
all_are_whole offset [] e = refl
all_are_whole offset (whole u ∷ blocks) e =
    ap (λ (l : List Block). whole u ∷ l) (all_are_whole (offset + length u) blocks e)
all_are_whole offset (damaged front back at kind ∷ blocks) e = absurd cc

is_begun : (offset : ℕ) (rest : Rest) → rest_faults offset rest ≡ [] → (b : List ℕ) × (rest ≡ begun b)
is_begun offset (begun b) e = (b, refl)
is_begun offset (cut_off b) e = absurd cc
is_begun offset (broken front back at kind) e = absurd cc

-- ---- units, as blocks, answer the same

module _ (dialect : Dialect) (live : ℕ → Bool) (x : Place) where
  along_units : (offset : ℕ) (units : List (List ℕ))
      → located_along dialect live offset (map whole units) x ≡ located_from dialect live offset units x
  along_units offset [] = refl
  along_units offset (u ∷ units) =
      ap (option_or (located_in dialect live offset u x)) (along_units (offset + length u) units)

module _ (dialect : Dialect) (s : Strings) (q : Question) (units : List (List ℕ)) where
  abbrev live : ℕ → Bool
  live = is_code (option_copied q.code)

  answer_is : (o : Option Place)
      → option_and_then (located_around dialect live (map whole units)) o
      ≡ option_and_then (located dialect live units) o
  answer_is None = refl
  answer_is (Some x) = along_units dialect live x 0 units

  lines_are : lines_around dialect s q (map whole units) ≡ answer_lines dialect s q units
  lines_are =
      flat_same _ _ (λ (a : Asked). ap (asked_line q.style (directory_by q.directories) s a)
      (answer_is (place_of q.base a))) q.asked.now

-- ---- sections

module _ (refuses : ℕ → Type 0) (dialect : Dialect) (s : Strings) (q : Question) (limit : ℕ) (bytes : List ℕ)
    (left start now : Option (List ℕ)) (all_found : WhichFound) where
  abbrev Around : Type 0
  Around = LocatesAround refuses dialect s q limit bytes left start now (Ok (record { found = all_found; damaged = None }))

  around : Locates refuses dialect s q limit bytes left start now (Ok all_found) → Around
  around (units, summary, (has, b, back, within, at_end, is), found_is, out) = (
    map whole units,
    begun [],
    survey_of dialect (map whole units) (begun []),
    (
      record {
        whole =
            take_all limit bytes within ∙ has.whole
            ∙ ap (λ (l : List ℕ). l ++ []) (sym (bytes_of_units units));
        each = all_whole dialect units has.each;
        rest_is = (none_refused dialect, none_begins dialect);
      },
      (refl, (within, at_end)),
      refl,
    ),
    sym (ap damaged_units (append-nil (faults_in 0 (map whole units)) ∙ no_faults 0 units)),
    found_is ∙ ap (found_in dialect q) (sym (units_of_units units)),
    subst (Appends start now) (sym (lines_are dialect s q units)) out,
  )

  ended : (blocks : List Block) (rest : Rest) (survey : Survey)
      → IsCut dialect (take limit bytes) blocks rest → IsLast dialect limit bytes left rest
      → faults_in 0 blocks ≡ [] → (b : List ℕ) → rest ≡ begun b
      → all_found ≡ found_in dialect q (units_around blocks) → Appends start now (lines_around dialect s q blocks)
      → Locates refuses dialect s q limit bytes left start now (Ok all_found)
  ended blocks rest survey cut last none b is found_is out =
      let units = units_around blocks in
      let all = all_are_whole 0 blocks none in
      let at_end : IsLast dialect limit bytes left (begun b) = subst (IsLast dialect limit bytes left) is last in
      let cut_here : IsCut dialect (take limit bytes) blocks (begun b) =
      subst (IsCut dialect (take limit bytes) blocks) is cut in (
        units,
        summary_of dialect units,
        (
          record {
            whole =
                sym (take_all limit bytes at_end.1.0) ∙ cut_here.whole
                ∙ ap₂ (λ (l m : List ℕ). l ++ m) (ap bytes_of all ∙ bytes_of_units units) at_end.0;
            each = each_unit dialect blocks cut.each;
          },
          refl,
          refl,
          at_end.1.0,
          at_end.1.1,
          refl,
        ),
        found_is,
        subst (Appends start now) (ap (lines_around dialect s q) all ∙ lines_are dialect s q units) out,
      )

  plain : Around → Locates refuses dialect s q limit bytes left start now (Ok all_found)
  plain (blocks, rest, survey, (cut, last, survey_is), damaged_is, found_is, out) =
      let none = no_damage (faults_of blocks rest) (sym (damaged_is ∙ ap (λ (x : Survey). x.damaged) survey_is)) in
      let both = empty_both (faults_in 0 blocks) (rest_faults (length (bytes_of blocks)) rest) none in
      let begins = is_begun (length (bytes_of blocks)) rest both.1 in
      ended blocks rest survey cut last both.0 begins.0 begins.1 found_is out

pub same_without_damage : SameWithoutDamage
same_without_damage refused dialect s q limit bytes left start now all_found = (
  around (λ n. refused n ≡ true) dialect s q limit bytes left start now all_found,
  plain (λ n. refused n ≡ true) dialect s q limit bytes left start now all_found,
)
