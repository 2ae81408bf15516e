use Rattle.std.proofs.Common.{Ok, Err, ap, inl, sym, ◌∙◌}
use Rattle.std.specs.Prelude.{if◌then◌else◌}
use Rattle.std.specs.Option.{option_map}
use Rattle.dl_elf.specs.Notes.{build_id_bytes}
use Rattle.dl_locating.specs.OverIndex.{has_id}
use Rattle.dl_program.specs.declared.stop.Stop.TheVariants.{OtherFile}
use Rattle.dl_locating.proofs.over_index.check_made_of.Goals as goal

pub returns-then-has_id-clause-made : goal.returns-then-has_id-clause-made
returns-then-has_id-clause-made g c =
    let own = option_map build_id_bytes c.in-Ok.own in
    let is = ap (λ o. has_id (option_map build_id_bytes o) c.args.id.now) (sym c.as_ref.ensures.value)
    ∙ (sym c.has_id.ensures ∙ c.if-has_id.true) in
    rw c.in-Some.is (λ f known short. inl (
      own,
      c.in-Ok.ensures f known short,
      sym (ap (λ b. if b then Ok tt else Err (OtherFile c.args.path)) is),
    ))

pub returns-else-has_id-clause-made : goal.returns-else-has_id-clause-made
returns-else-has_id-clause-made g c =
    let own = option_map build_id_bytes c.in-Ok.own in
    let is = ap (λ o. has_id (option_map build_id_bytes o) c.args.id.now) (sym c.as_ref.ensures.value)
    ∙ (sym c.has_id.ensures ∙ c.if-has_id.false) in
    rw c.in-Some.is (λ f known short. inl (
      own,
      c.in-Ok.ensures f known short,
      sym (ap (λ b. if b then Ok tt else Err (OtherFile c.args.path)) is),
    ))
