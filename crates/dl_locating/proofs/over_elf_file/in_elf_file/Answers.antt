use Rattle.std.proofs.Common.{◌==◌, ◌≡◌, false, ℕ, rules, arith, length, vec_len, [], ap, inl, inr, refl, sym, subst, ◌∙◌}
use Rattle.std.specs.Option.{option_copied}
use Rattle.std.proofs.KnownBytes.{Consumes-nil, Keeps-refl}
use Rattle.std.proofs.lemmas.Bool.{eqb-true}
use Rattle.std.proofs.lemmas.Grind.{common_steps}
use Rattle.dl_dialogue.proofs.AnswerLemmas.{some_mapped}
use Rattle.dl_dirs.specs.Directories.{directory_at}
use Rattle.dl_open.specs.Code.{AreLive}
use Rattle.dl_locating.specs.Compiled.{AreFound}
use Rattle.dl_sections.proofs.BlameLemmas.{blames_where}
use Rattle.dl_locating.proofs.BlameLemmas.{no_read}
use Rattle.dl_locating.proofs.AnsweringLemmas.{no_items}
use Rattle.dl_locating.proofs.LocateLemmas.{some_asked}
use Rattle.dl_locating.proofs.over_elf_file.in_elf_file.Goals as goal

pub returns-then-is_some-clause-located : goal.returns-then-is_some-clause-located
returns-then-is_some-clause-located g c = (
  [],
  Consumes-nil _,
  λ understood f known short. inl (
    sym (some_mapped _ c.args.words.now.made_of) ∙ (sym c.is_some.ensures ∙ c.if-is_some.true),
    (refl, refl, Keeps-refl _),
  ),
)

pub returns-then-is_empty-clause-located : goal.returns-then-is_empty-clause-located
returns-then-is_empty-clause-located g c =
    let u = c.args.understood.now in
    let none : vec_len u.asked ≡ 0 = eqb-true (vec_len u.asked) 0 (sym c.is_empty.ensures ∙ c.if-is_empty.true) in
    let empty : length u.asked.items ≡ 0 = first_of (omega arith, search rules, grind (arith, common_steps)) in
    let e = c.by_index.ensures.located in (
      e.0,
      e.1,
      λ understood f known short.
          let k = c.in-Ok.ensures.code f known short in
          inr (inr (
            k.0,
            option_copied c.as_ref-code.result,
            directory_at c.in-Ok.directories,
            sym (some_mapped _ c.args.words.now.made_of) ∙ (sym c.is_some.ensures ∙ c.if-is_some.false),
            k.1,
            subst (λ ranges. AreLive ranges k.0) (sym c.as_ref-code.ensures.value) k.2,
            subst (λ wanted. AreFound wanted f (directory_at c.in-Ok.directories)) c.wants_directories-wanted.ensures
                (c.in-Ok.ensures.directories f known short),
            inr (sym understood.asked ∙ no_items u.asked.items empty, e.2 understood f known short),
          )),
    )

pub returns-in-Ok-clause-located : goal.returns-in-Ok-clause-located
returns-in-Ok-clause-located g c =
    let u = c.args.understood.now in
    let len : vec_len u.asked ≡ length u.asked.items = first_of (omega arith, search rules, grind (arith, common_steps)) in
    let some : (length u.asked.items == 0) ≡ false = ap (λ (n : ℕ). n == 0) (sym len) ∙ (sym c.is_empty.ensures
    ∙ c.if-is_empty.false) in (
      [],
      Consumes-nil _,
      λ understood f known short.
          let k = c.in-Ok.ensures.code f known short in
          inr (inr (
            k.0,
            option_copied c.as_ref-code.result,
            directory_at c.in-Ok.directories,
            sym (some_mapped _ c.args.words.now.made_of) ∙ (sym c.is_some.ensures ∙ c.if-is_some.false),
            k.1,
            subst (λ ranges. AreLive ranges k.0) (sym c.as_ref-code.ensures.value) k.2,
            subst (λ wanted. AreFound wanted f (directory_at c.in-Ok.directories)) c.wants_directories-wanted.ensures
                (c.in-Ok.ensures.directories f known short),
            inl (λ none. some_asked u.asked.items some (understood.asked ∙ none), refl, c.given.ensures.located understood f known short),
          )),
    )

pub returns-then-is_some-clause-blames : goal.returns-then-is_some-clause-blames
returns-then-is_some-clause-blames g c first is = (is, λ e. absurd (let e = e.0 in cc))

pub returns-in-Ok-clause-blames : goal.returns-in-Ok-clause-blames
returns-in-Ok-clause-blames g c first is = (is, λ e. absurd (no_read c.given.result c.given.ensures.reads e.0))

pub returns-clause-blames : goal.returns-clause-blames
returns-clause-blames g c = blames_where c.answer_asked.ensures.blames (λ e. absurd (let e = e.0 in cc))
