-- What comes of a member.
use Rattle.std.proofs.Common.{◌≡◌, ℕ, List, Option, subst}
use Rattle.std.specs.declared.io.Error.{Error}
use Rattle.dl_cmd.specs.Job.{Request, Text}
use Rattle.dl_sections.specs.declared.around.Damage.{Damage}
use Rattle.dl_program.specs.declared.stop.Stop.{Stop}
use Rattle.dl_member.specs.Walking.{IsStep}
use Rattle.dl_member.specs.declared.step.Step.{Step}

-- the same step, of a path and of bytes that are these
pub same_step : {T : Type 0} (refuses : ℕ → Type 0) (held : Text → Option (List ℕ)) (fails : Text → Error → Type 0) (writes : Type 0) (request : Request)
    (hears : T → T → List Damage → Type 0) (tells : T → T → Stop → Type 0) (own shown : Text) (known bytes : Option (List ℕ))
    (fails_own : Error → Type 0) (start now : Option (List ℕ)) (old new : T) (step : Step) → own ≡ shown → known ≡ bytes
    → IsStep refuses held fails writes request hears tells own known fails_own start now old new step
    → IsStep refuses held fails writes request hears tells shown bytes fails_own start now old new step
same_step refuses held fails writes request hears tells own shown known bytes fails_own start now old new step is are done =
    subst (λ k. IsStep refuses held fails writes request hears tells shown k fails_own start now old new step) are
    (subst (λ p. IsStep refuses held fails writes request hears tells p known fails_own start now old new step) is done)
