use Rattle.std.proofs.Common.{take}
use Rattle.dl_stretch.specs.Hearing.{HearsMore}
use Rattle.dl_stretch.proofs.sink.RefSliceStretchStretches.tell.Given as goal

abbrev pub invariant-loop-stretch : goal.invariant-loop-stretch
invariant-loop-stretch g l =
    HearsMore g.S.StretchSink.hears l.fn.sink l.sink (take l.stretch-index l.stretch-items)
