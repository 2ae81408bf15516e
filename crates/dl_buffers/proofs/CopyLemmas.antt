-- The command `copy` over bytes in memory.
use Rattle.std.proofs.Common.{◌≡◌, ◌+◌, ◌<◌, ◌^◌, ℕ, List, [], length, Option, Some, Result, Ok, Err, IfOk, arith, ap, ◌∙◌, subst}
use Rattle.std.specs.Prelude.{OnErr}
use Rattle.std.proofs.lemmas.List.{length-take-le}
use Rattle.std.specs.Global.{Vec}
use Rattle.dl_memory.specs.declared.memory.NoMemory.{NoMemory}
use Rattle.dl_held.specs.Holding.{CannotHold}
use Rattle.dl_print.specs.Output.{HasOut}
use Rattle.dl_sections.specs.Blaming.{BlamesWriter}
use Rattle.dl_sections.specs.declared.fault.RunFault.TheVariants as run
use Rattle.std.specs.Io.KnownBytes.{Consumes}
use Rattle.dl_head.specs.declared.dialect.Dialect.{Dialect}
use Rattle.dl_head.specs.Dialect.{version_5}
use Rattle.dl_print.specs.declared.summary.Summary.{Summary}
use Rattle.dl_sections.specs.declared.fault.RunFault.{RunFault}
use Rattle.dl_sections.specs.Commands as commands
use Rattle.dl_buffers.specs.declared.status.Status.TheVariants as status
use Rattle.dl_buffers.specs.CopyCalls.{Copies, IsHeld, Runs}

-- the command, under its options and over an empty vector
pub runs : (refuses : ℕ → Type 0) (dialect d : Dialect) → dialect ≡ d → (s v start : List ℕ) → start ≡ [] → (left : Option (List ℕ))
    (result : Result Summary RunFault)
    → ((bytes : List ℕ) × Consumes (Some s) left bytes
    × commands.Copies refuses (version_5 dialect.order) (2 ^ 44) bytes left (Some start) (Some v) result)
    → Runs refuses d s v result
runs refuses dialect d is s v start none left result ran =
    subst (λ (x : Dialect). Runs refuses x s v result) is (
      ran.0,
      left,
      ran.1,
      subst (λ (l : List ℕ). commands.Copies refuses (version_5 dialect.order) (2 ^ 44) ran.0 left (Some l) (Some v) result) none ran.2,
    )

-- what was written where a write failed
written_len : (text v : List ℕ) (out : ℕ) → HasOut (Some []) (Some v) text out → length v ≡ out
written_len text v out has = ap length has.written ∙ length-take-le out text has.within

-- no write of what is held fails before more bytes are out than a list can have
pub held_is : (refuses again : ℕ → Type 0) (dialect : Dialect) (s v : List ℕ) (end : Result Summary RunFault)
    (bytes : Result (Vec ℕ) NoMemory) → Runs again dialect s v end → BlamesWriter ⊥ end → IfOk bytes (λ list. list.items ≡ v)
    → OnErr bytes (CannotHold refuses v) → IsHeld refuses v end bytes
held_is refuses again dialect s v end (Err e) ran blames held refused = (tt, refused, λ out is. refused)
held_is refuses again dialect s v end (Ok list) ran blames held refused = (
  held,
  tt,
  λ out is. absurd (
      let ended : Runs again dialect s v (Err (run.Write out)) = subst (Runs again dialect s v) is ran in
      let blamed : out + 2 ^ 64 < 2 ^ 128 → ⊥ = subst (BlamesWriter ⊥) is blames in
      let len = written_len _ v out ended.3.4.1 in
      blamed (omega (arith, list.ok.0, list.ok.1, list.small, ap length held, len))
      ),
)
