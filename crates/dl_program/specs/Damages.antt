-- Which damaged units and stops were told of. contents: what a writer holds; fails: a write of it may fail.
use Rattle.std.specs.Prelude.{⊤, ◌≡◌, ◌⊎◌, ℕ, false, true, List, Option, IfSome, flat_map}
use Rattle.std.specs.Io.KnownBytes.{Appends}
use Rattle.dl_sections.specs.declared.around.Damage.{Damage}
use Rattle.dl_sections.specs.declared.fault.RunFault.TheVariants as fault
use Rattle.dl_sections.specs.RunText.{run_fault_text}
use Rattle.dl_open.specs.Stops.{stop_line}
use Rattle.dl_program.specs.Stops.{MayFail, stop_text}
use Rattle.dl_program.specs.declared.stop.Stop.{Stop}
use Rattle.dl_program.specs.declared.damages.StopLines.{StopLines}

-- the line of a damaged unit: that of the fault with which a command ends there that doesn't go on
abbrev pub damage_line : Damage → List ℕ
damage_line damage = stop_line (run_fault_text (fault.Damage damage.offset damage.kind))

-- nobody hears which
abbrev pub unheard : List Damage → Type 0
unheard damages = ⊤

-- unless a write failed, exactly the lines of these were written, in order; one failed only where it may
abbrev pub DamagesTold : {E : Type 0} → (contents : E → Option (List ℕ)) → (fails : Type 0) → (first now : StopLines E) → List Damage
    → Type 0
DamagesTold contents fails first now damages =
    (now.failed ≡ false → (first.failed ≡ false)
    × Appends (contents first.errors) (contents now.errors) (flat_map damage_line damages))
    × (now.failed ≡ true → (first.failed ≡ true) ⊎ fails)

-- unless a write failed, exactly the line of the stop was, where its text is known; it failed only where it may
abbrev pub StopTold : {E : Type 0} → (contents : E → Option (List ℕ)) → (fails : Type 0) → (old new : StopLines E) → Stop → Type 0
StopTold contents fails old new stop =
    (new.failed ≡ false → (old.failed ≡ false)
    × IfSome (stop_text stop) (λ text. Appends (contents old.errors) (contents new.errors) (stop_line text)))
    × (new.failed ≡ true → (old.failed ≡ true) ⊎ MayFail fails stop)
