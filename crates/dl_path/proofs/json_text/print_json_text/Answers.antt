use Rattle.std.proofs.Common.{◌++◌, ℕ, List, [], ap, ◌∙◌, sym, subst, length}
use Rattle.std.specs.Prelude.{if◌then◌else◌, ◌==◌}
use Rattle.std.specs.declared.str.Utf8Chunks.{Utf8Chunks}
use Rattle.std.specs.Str.Chunks.{utf8_chunks_rest}
use Rattle.std.specs.Str.Lossy.{replacement_bytes, utf8_lossy}
use Rattle.std.proofs.lemmas.Result.{err_from_is_err_and}
use Rattle.std.proofs.lemmas.Str.{utf8_lossy_empty}
use Rattle.json.specs.Print.{escape}
use Rattle.dl_path.proofs.FrontLemmas.{chunk_text, plain_json}
use Rattle.dl_path.proofs.PrintLemmas.{Fronts, all_fronts, front_lost, front_more, loses_front, loses_then, more_then}
use Rattle.dl_path.proofs.PrintLemmas.{prints_same}
use Rattle.dl_path.proofs.PrintLemmas.{nothing_yet}
use Rattle.dl_path.proofs.json_text.print_json_text.Goals as goal

pub loop-chunk-init : goal.loop-chunk-init
loop-chunk-init g c =
    let old = g.W.Write.contents c.args.output.now in
    let all = escape (utf8_lossy c.args.text.now) in
    subst (λ (w : List ℕ). Fronts old old c.args.printer.now c.args.printer.now all (escape (utf8_lossy w)))
    (sym (ap (λ (s : Utf8Chunks). utf8_chunks_rest s) c.into_iter-chunk-iterator.ensures.into_iter_gives
    ∙ c.utf8_chunks-chunk-items.ensures.rest))
    (nothing_yet old c.args.printer.now all)

pub returns-in_err-print_escaped-clause-printed : goal.returns-in_err-print_escaped-clause-printed
returns-in_err-print_escaped-clause-printed g c start text h =
    let p = err_from_is_err_and c.from_residual.result c.from_residual.ensures.1 in
    let l = c.loop-chunk in
    let s = c.in-Some.ensures.steps in
    let valid = c.in-Some.chunk.valid.now in
    let invalid = c.in-Some.chunk.invalid.now in
    let rest = utf8_chunks_rest c.next.new.self in
    let b = if length invalid == 0 then [] else replacement_bytes in
    let mid = g.W.Write.contents l.output in
    let new = g.W.Write.contents c.print_escaped.new.output in
    rw (p.1, p.2) (front_lost (g.W.Write.contents c.args.output.now) mid new c.args.printer.now l.printer
    (escape (utf8_lossy c.args.text.now)) (escape (utf8_lossy (utf8_chunks_rest l.chunk-iterator))) (escape valid ++ b)
    (escape (utf8_lossy rest)) l.invariant
    (chunk_text (utf8_chunks_rest l.chunk-iterator) valid invalid rest s.0 s.3.0 s.3.1 s.2) _
    (loses_front mid new l.printer (escape valid) b _
    (rw (c.as_bytes.ensures.value, c.valid.ensures) at c.in_err-print_escaped.ensures.printed)) start text h)

pub loop-chunk-preserved : goal.loop-chunk-preserved
loop-chunk-preserved g c =
    let l = c.loop-chunk in
    let s = c.in-Some.ensures.steps in
    let valid = c.in-Some.chunk.valid.now in
    let invalid = c.in-Some.chunk.invalid.now in
    let rest = utf8_chunks_rest c.next.new.self in
    let b = if length invalid == 0 then [] else replacement_bytes in
    let mid = g.W.Write.contents l.output in
    let between = g.W.Write.contents c.print_escaped.new.output in
    let new = g.W.Write.contents c.print_replacement.new.output in
    front_more (g.W.Write.contents c.args.output.now) mid new c.args.printer.now l.printer
    (escape (utf8_lossy c.args.text.now)) (escape (utf8_lossy (utf8_chunks_rest l.chunk-iterator))) (escape valid ++ b)
    (escape (utf8_lossy rest)) l.invariant
    (chunk_text (utf8_chunks_rest l.chunk-iterator) valid invalid rest s.0 s.3.0 s.3.1 s.2)
    c.print_replacement.new.printer
    (more_then mid between new l.printer c.print_escaped.new.printer c.print_replacement.new.printer (escape valid) b
    (rw (c.as_bytes.ensures.value, c.valid.ensures) at c.in_ok-print_escaped.ensures.printed)
    (rw c.invalid.ensures at c.in_ok-print_replacement.ensures.printed))

pub returns-in_err-print_replacement-clause-printed : goal.returns-in_err-print_replacement-clause-printed
returns-in_err-print_replacement-clause-printed g c start text h =
    let p = err_from_is_err_and c.from_residual-in_err-print_replacement.result
    c.from_residual-in_err-print_replacement.ensures.1 in
    let l = c.loop-chunk in
    let s = c.in-Some.ensures.steps in
    let valid = c.in-Some.chunk.valid.now in
    let invalid = c.in-Some.chunk.invalid.now in
    let rest = utf8_chunks_rest c.next.new.self in
    let b = if length invalid == 0 then [] else replacement_bytes in
    let mid = g.W.Write.contents l.output in
    let between = g.W.Write.contents c.print_escaped.new.output in
    let new = g.W.Write.contents c.print_replacement.new.output in
    rw (p.1, p.2) (front_lost (g.W.Write.contents c.args.output.now) mid new c.args.printer.now l.printer
    (escape (utf8_lossy c.args.text.now)) (escape (utf8_lossy (utf8_chunks_rest l.chunk-iterator))) (escape valid ++ b)
    (escape (utf8_lossy rest)) l.invariant
    (chunk_text (utf8_chunks_rest l.chunk-iterator) valid invalid rest s.0 s.3.0 s.3.1 s.2) _
    (loses_then mid between new l.printer c.print_escaped.new.printer (escape valid) b _
    (rw (c.as_bytes.ensures.value, c.valid.ensures) at c.in_ok-print_escaped.ensures.printed)
    (rw c.invalid.ensures at c.in_err-print_replacement.ensures.printed)) start text h)

pub returns-clause-printed : goal.returns-clause-printed
returns-clause-printed g c =
    let l = c.loop-chunk in
    all_fronts (g.W.Write.contents c.args.output.now) (g.W.Write.contents l.output) c.args.printer.now l.printer
    (escape (utf8_lossy c.args.text.now)) (escape (utf8_lossy (utf8_chunks_rest l.chunk-iterator))) l.invariant
    (ap escape (utf8_lossy_empty (utf8_chunks_rest l.chunk-iterator) c.in-None.ensures.steps.0))

pub returns-then-is_all_plain-clause-printed : goal.returns-then-is_all_plain-clause-printed
returns-then-is_all_plain-clause-printed g c =
    let text = c.args.text.now in
    prints_same (g.W.Write.contents c.args.output.now) (g.W.Write.contents c.put.new.output) c.args.printer.now
    c.put.new.self text (escape (utf8_lossy c.args.text.now)) c.put.result
    (plain_json text (sym c.is_all_plain.ensures ∙ c.if-is_all_plain.true)) c.put.ensures.printed
