use Rattle.std.proofs.Common.{refl}
use Rattle.std.proofs.lemmas.Result.{err_from_is_err_and}
use Rattle.dl_cmd.specs.Job.{addr_words_made}
use Rattle.dl_locating.proofs.WordsLemmas.{base_stops, words_asked, words_stop, words_understood}
use Rattle.dl_locating.proofs.addr_words.asked_words.Goals as goal

pub returns-in_err-base-clause-stops : goal.returns-in_err-base-clause-stops
returns-in_err-base-clause-stops g c =
    let p = err_from_is_err_and c.from_residual.result c.from_residual.ensures.1 in
    rw (p.1, p.2) (base_stops (g.M.Memory.refuses c.args.memory.now) (addr_words_made c.args.words.now) _ c.in_err-base.ensures)

pub returns-in_err-asked-clause-stops : goal.returns-in_err-asked-clause-stops
returns-in_err-asked-clause-stops g c =
    let p = err_from_is_err_and c.from_residual-in_err-asked.result c.from_residual-in_err-asked.ensures.1 in
    let w = c.args.words.now in
    rw (p.1, p.2) (words_stop (g.M.Memory.refuses c.args.memory.now) (addr_words_made w) _ c.as_slice.result.now w.addresses.items _ c.in_ok-base.ensures
    c.as_slice.ensures.value refl c.in_err-asked.ensures.stops)

pub returns-clause-asked : goal.returns-clause-asked
returns-clause-asked g c =
    let w = c.args.words.now in
    words_asked w.hex c.as_slice.result.now w.addresses.items c.in_ok-asked.asked.items c.as_slice.ensures.value
    c.in_ok-asked.ensures.asked

pub returns-clause-understood : goal.returns-clause-understood
returns-clause-understood g c =
    let w = c.args.words.now in
    words_understood w.hex c.as_slice.result.now w.addresses.items _ c.as_slice.ensures.value
    c.in_ok-asked.ensures.understood
