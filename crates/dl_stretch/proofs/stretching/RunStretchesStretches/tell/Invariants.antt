use Rattle.std.proofs.Common.{[]}
use Rattle.dl_stretch.specs.Made.{TellsOn, cut_start}
use Rattle.dl_stretch.specs.Spans.{answer_of}
use Rattle.dl_stretch.proofs.stretching.RunStretchesStretches.tell.Given as goal

abbrev pub invariant-loop-i : goal.invariant-loop-i
invariant-loop-i g l =
    TellsOn g.S.StretchSink.hears l.fn.sink l.sink (answer_of l.self.runs.now l.self.spans.now) []
    (cut_start l.self.cuts.items l.i) l.last
