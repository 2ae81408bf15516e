use Rattle.std.proofs.Common.{◌≡◌, ◌+◌, ◌-◌, ℕ, List, ◌++◌, arith, sym, ap, ◌∙◌, drop, length, length-drop, take}
use Rattle.std.proofs.lemmas.List.{drop-drop, drop_all, take_all}
use Rattle.std.proofs.lemmas.Result.{err_from_is_err_and}
use Rattle.dl_path.specs.Fronts.{front_text, shown_byte}
use Rattle.dl_path.specs.Shown.{shown}
use Rattle.dl_path.proofs.FrontLemmas.{plain_shown}
use Rattle.dl_path.proofs.PrintLemmas.{all_fronts, front_lost, front_more, nothing_yet, prints_same}
use Rattle.dl_path.proofs.shown.print_shown.Goals as goal

-- what is left, as it is lent
left : (text : List ℕ) (at : ℕ) → take (length text - at) (drop at text) ≡ drop at text
left text at = take_all (length text - at) (drop at text) (omega (arith, length-drop at text))

pub loop-at-init : goal.loop-at-init
loop-at-init g c = record {
  within = omega arith;
  printed = nothing_yet (g.W.Write.contents c.args.output.now) c.args.printer.now (shown c.args.text.now);
}

pub returns-in_err-print_front-clause-printed : goal.returns-in_err-print_front-clause-printed
returns-in_err-print_front-clause-printed g c start text h =
    let p = err_from_is_err_and c.from_residual.result c.from_residual.ensures.1 in
    let l = c.loop-at in
    let all = c.args.text.now in
    let w = take (length all - l.at) (drop l.at all) in
    let len = c.front_len-len.result in
    rw (p.1, p.2) (front_lost (g.W.Write.contents c.args.output.now) (g.W.Write.contents l.output)
    (g.W.Write.contents c.print_front.new.output) c.args.printer.now l.printer (shown all) (shown (drop l.at all))
    (front_text shown_byte (take len w)) (shown (drop len w)) l.invariant.printed
    (ap shown (sym (left all l.at)) ∙ c.front_len-len.ensures.cut) _ c.in_err-print_front.ensures.printed start text h)

pub loop-at-preserved : goal.loop-at-preserved
loop-at-preserved g c =
    let l = c.loop-at in
    let all = c.args.text.now in
    let w = take (length all - l.at) (drop l.at all) in
    let len = c.front_len-len.result in
    let within = c.front_len-len.ensures.within in
    record {
      within = omega (arith, within, ap length (left all l.at), length-drop l.at all);
      printed = front_more (g.W.Write.contents c.args.output.now) (g.W.Write.contents l.output)
          (g.W.Write.contents c.print_front.new.output) c.args.printer.now l.printer (shown all)
          (shown (drop l.at all)) (front_text shown_byte (take len w)) (shown (drop (l.at + len) all))
          l.invariant.printed
          (ap shown (sym (left all l.at))
          ∙ c.front_len-len.ensures.cut
          ∙ ap (λ (x : List ℕ). front_text shown_byte (take len w) ++ shown x)
          (ap (drop len) (left all l.at) ∙ drop-drop len l.at all))
          c.print_front.new.printer c.in_ok-print_front.ensures.printed;
    }

pub returns-clause-printed : goal.returns-clause-printed
returns-clause-printed g c =
    let l = c.loop-at in
    all_fronts (g.W.Write.contents c.args.output.now) (g.W.Write.contents l.output) c.args.printer.now l.printer
    (shown c.args.text.now) (shown (drop l.at c.args.text.now)) l.invariant.printed
    (ap shown (drop_all l.at c.args.text.now c.loop-at-test.false))

pub returns-then-is_all_plain-clause-printed : goal.returns-then-is_all_plain-clause-printed
returns-then-is_all_plain-clause-printed g c =
    let text = c.args.text.now in
    prints_same (g.W.Write.contents c.args.output.now) (g.W.Write.contents c.put.new.output) c.args.printer.now
    c.put.new.self text (shown c.args.text.now) c.put.result
    (plain_shown text (sym c.is_all_plain.ensures ∙ c.if-is_all_plain.true)) c.put.ensures.printed
