-- For which stretches runs stand. No promise rests on how this is said.
use Rattle.std.specs.Prelude.{List}
use Rattle.dl_stretch.specs.declared.stretch.Stretch.{Stretch}
use Rattle.dl_stretch.specs.declared.stretching.RunStretches.{RunStretches}
use Rattle.dl_stretch.specs.Laws.{AtAddresses}
use Rattle.dl_stretch.specs.Spans.{answer_of}
use Rattle.dl_stretch.specs.Stretches.{AreStretches}

-- the stretches of what the spans answer
abbrev pub StandFor : RunStretches → List Stretch → Type 0
StandFor s list = AreStretches (answer_of s.runs.now s.spans.now) list × AtAddresses list
