-- Where an entry wants memory. refuses: for how many items memory is refused.
use Rattle.std.specs.Prelude.{ℕ, ◌^◌, ◌≤◌, ◌⊎◌, List}
use Rattle.std.specs.List.{sum_by}
use Rattle.dl_memory.specs.Refusals.{WasRefused}
use Rattle.dl_table.specs.declared.table.held.ValueRef.{ValueRef}
use Rattle.dl_table.specs.Held.{pooled}

-- memory was refused, or the texts and blocks are longer than any memory
abbrev pub RefusesEntry : (refuses : ℕ → Type 0) (values : List ValueRef) → Type 0
RefusesEntry refuses values = WasRefused refuses ⊎ (2 ^ 64 ≤ sum_by pooled values)
