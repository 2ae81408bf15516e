use Rattle.std.proofs.Common.{◌+◌, ◌∙◌, drop, map, subst, sym, take}
use Rattle.dl_lines.specs.Words.{AsksFor}
use Rattle.dl_locating.specs.SourceWords.{AreAsked}
use Rattle.dl_locating.proofs.WordsLemmas.{now}
use Rattle.dl_locating.proofs.LineWordLemmas.{lines_refused, parted, read_on, unless_failed}
use Rattle.dl_locating.proofs.source_lines.wanted_lines.Goals as goal

pub returns-in_default-clause-stops : goal.returns-in_default-clause-stops
returns-in_default-clause-stops g c = (
  map now (take c.loop-word.word-index c.args.words.now),
  map now (drop (c.loop-word.word-index + 1) c.args.words.now),
  c.loop-word.wanted.items,
  parted c.args.words.now c.loop-word.word-index _ c.loop-word-test.true,
  c.loop-word.invariant.asked,
  λ path line few asks. c.in_default.ensures.none path line few (subst (λ w. AsksFor w path line) (sym c.as_bytes.ensures.value) asks),
)

pub returns-then-is_err-clause-stops : goal.returns-then-is_err-clause-stops
returns-then-is_err-clause-stops g c =
    lines_refused (g.M.Memory.refuses c.args.memory.now) c.args.words.now c.loop-word.word-index c.loop-word.wanted.items
    c.push.result c.loop-word-test.true c.loop-word.invariant.asked (sym c.is_err.ensures.value ∙ c.if-is_err.true)
    c.push.ensures.refused

pub loop-word-preserved : goal.loop-word-preserved
loop-word-preserved g c = record {
  asked = subst (λ items. AreAsked (map now (take (c.loop-word.word-index + 1) c.args.words.now)) items)
      (sym (unless_failed _ c.push.result c.push.ensures.items (sym c.is_err.ensures.value ∙ c.if-is_err.false)))
      (read_on c.args.words.now c.loop-word.word-index _ c.loop-word.wanted.items c.in-Some.line c.loop-word-test.true
      c.loop-word.invariant.asked (subst (λ w. AsksFor w c.in-Some.line.path.now c.in-Some.line.line) c.as_bytes.ensures.value c.in-Some.ensures.some));
}
