use Rattle.std.proofs.Common.{◌≡◌, ◌+◌, ℕ, List, length}
use Rattle.std.specs.Io.KnownBytes.{Consumes}
use Rattle.dl_input.specs.Failing.{Became}
use Rattle.dl_forms.specs.Standing.{StandsFor}
use Rattle.dl_sections.specs.declared.options.TheConstants.{SECTION_LIMIT}
use Rattle.dl_open.proofs.named.names_str.Given as goal

abbrev pub invariant-loop-buffer : goal.invariant-loop-buffer
invariant-loop-buffer g l = record {
  dialect : l.walk.dialect ≡ l.fn.dialect;
  follows : (first : _) → Became g.R.Source.follows first l.initial.input → Became g.R.Source.follows first l.input;
  read : (bs : List ℕ) × Consumes (g.R.Read.remaining l.initial.input) (g.R.Read.remaining l.input) bs
      × StandsFor l.walk bs × (length bs + l.left ≡ SECTION_LIMIT);
}

abbrev pub decreases-loop-buffer : goal.decreases-loop-buffer
decreases-loop-buffer g l = l.left
