use Rattle.std.proofs.Common.{◌∙◌, ap, arith, map, sym, true, false}
use Rattle.std.specs.Prelude.{is_some}
use Rattle.std.specs.List.{list_all}
use Rattle.std.proofs.lemmas.List.{take_all}
use Rattle.std.proofs.lemmas.Grind.{common_steps}
use Rattle.dl_cmd.specs.Address.{address_by}
use Rattle.dl_locating.proofs.WordsLemmas.{asked_by, is_told, now, read_on, stops_at, words_refused}
use Rattle.dl_locating.proofs.addr_words.addresses.Goals as goal

pub returns-then-is_none-clause-stops : goal.returns-then-is_none-clause-stops
returns-then-is_none-clause-stops g c =
    stops_at c.args.hex c.args.words.now c.loop-word.word-index _ c.loop-word-test.true
    (is_told _ _ _ true c.read_address-address.ensures c.is_none.ensures c.if-is_none.true) c.loop-word.invariant.none

pub loop-word-preserved : goal.loop-word-preserved
loop-word-preserved g c = record {
  asked = grind (arith, common_steps);
  none = read_on c.args.hex c.args.words.now c.loop-word.word-index _ c.loop-word-test.true
      (is_told _ _ _ false c.read_address-address.ensures c.is_none.ensures c.if-is_none.false) c.loop-word.invariant.none;
  understood = grind (arith, common_steps);
}

pub returns-clause-asked : goal.returns-clause-asked
returns-clause-asked g c =
    c.loop-word.invariant.asked ∙ ap (map (λ s. asked_by c.args.hex (now s))) (take_all _ c.args.words.now c.loop-word-test.false)

pub returns-clause-understood : goal.returns-clause-understood
returns-clause-understood g c =
    ap (list_all (λ s. is_some (address_by c.args.hex (now s)))) (sym (take_all _ c.args.words.now c.loop-word-test.false))
    ∙ c.loop-word.invariant.understood

pub returns-then-is_err-clause-stops : goal.returns-then-is_err-clause-stops
returns-then-is_err-clause-stops g c =
    words_refused (g.M.Memory.refuses c.args.memory.now) c.args.hex c.args.words.now c.loop-word.word-index c.loop-word.asked.items
    c.push.result c.loop-word-test.true c.loop-word.invariant.asked (sym c.is_err.ensures.value ∙ c.if-is_err.true)
    c.push.ensures.refused
