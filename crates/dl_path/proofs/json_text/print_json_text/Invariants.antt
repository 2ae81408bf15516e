-- The chunks so far were printed.
use Rattle.std.specs.Str.Chunks.{utf8_chunks_rest}
use Rattle.std.specs.Str.Lossy.{utf8_lossy}
use Rattle.json.specs.Print.{escape}
use Rattle.dl_path.proofs.PrintLemmas.{Fronts}
use Rattle.dl_path.proofs.json_text.print_json_text.Given as goal

abbrev pub invariant-loop-chunk : goal.invariant-loop-chunk
invariant-loop-chunk g l =
    Fronts (g.W.Write.contents l.initial.output) (g.W.Write.contents l.output) l.initial.printer l.printer
    (escape (utf8_lossy l.text)) (escape (utf8_lossy (utf8_chunks_rest l.chunk-iterator)))
