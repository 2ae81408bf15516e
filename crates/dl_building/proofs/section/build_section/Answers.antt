use Rattle.std.proofs.Common.{inr, ap, ◌∙◌, refl}
use Rattle.dl_addr.specs.Code.{is_code}
use Rattle.dl_building.proofs.section.build_section.Goals as goal

pub returns : goal.returns
returns g c =
    rw (← c.goes_on.ensures, ← c.dialect_of.ensures) (inr (
      _,
      record {
        code = λ a. ap (λ code. is_code code a) c.as_ref.ensures.value ∙ c.in-Ok.ensures.code a;
        directories = λ unit. refl;
        says_all = refl;
        build_id = refl;
      },
      c.put_section.ensures,
    ))
