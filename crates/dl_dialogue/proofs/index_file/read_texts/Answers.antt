use Rattle.std.proofs.Common.{length, arith, ap}
use Rattle.std.proofs.lemmas.Result.{err_from_is_err_and}
use Rattle.dl_index_file.specs.Opening.{source_of}
use Rattle.dl_index_file.specs.Shown.{text_shown}
use Rattle.dl_dialogue.proofs.TellingLemmas.{last_fails, path_fails, read_three, text_more}
use Rattle.dl_dialogue.proofs.index_file.read_texts.Goals as goal

pub returns-in_err-read_text-clause-fails : goal.returns-in_err-read_text-clause-fails
returns-in_err-read_text-clause-fails g c = λ lie.
    let p = err_from_is_err_and c.from_residual.result c.from_residual.ensures.1 in
    let known = g.S.ReadAt.all_bytes (source_of c.args.index.now) in
    rw (p.1, p.2) (path_fails known (g.S.ReadAt.fails_with (source_of c.args.index.now)) (g.M.Memory.refuses c.args.memory.now)
    c.in_err-read_text.field-0.0 (length c.clear.new.self.items)
    (λ b is below. omega (arith, ap length c.clear.ensures.items))
    (c.in_err-read_text.ensures.fails (λ b is below. (lie b is below).first)))

pub returns-in_err-read_text-2-clause-fails : goal.returns-in_err-read_text-2-clause-fails
returns-in_err-read_text-2-clause-fails g c = λ lie.
    let p = err_from_is_err_and c.from_residual-in_err-read_text-2.result c.from_residual-in_err-read_text-2.ensures.1 in
    let known = g.S.ReadAt.all_bytes (source_of c.args.index.now) in
    rw (p.1, p.2) (path_fails known (g.S.ReadAt.fails_with (source_of c.args.index.now)) (g.M.Memory.refuses c.args.memory.now)
    c.in_err-read_text-2.field-0.0 (length c.read_text.new.path.items)
    (λ b is below. (let one = text_more b c.clear.new.self.items c.read_text.new.path.items c.args.texts.first 0
    (omega (arith, ap length c.clear.ensures.items)) (c.in_ok-read_text.ensures.text b is below) in omega (arith, one)))
    (c.in_err-read_text-2.ensures.fails (λ b is below. (lie b is below).second)))

pub returns-clause-texts : goal.returns-clause-texts
returns-clause-texts g c = λ f is below.
    read_three c.read_text-3.result (text_shown f c.args.texts.first) (text_shown f c.args.texts.second)
    (text_shown f c.args.texts.third) c.clear.new.self.items c.read_text.new.path.items c.read_text-2.new.path.items
    c.read_text-3.new.path.items c.clear.ensures.items
    (c.in_ok-read_text.ensures.text f is below) (c.in_ok-read_text-2.ensures.text f is below)
    (c.read_text-3.ensures.text f is below)

pub returns-clause-fails : goal.returns-clause-fails
returns-clause-fails g c = λ lie.
    let known = g.S.ReadAt.all_bytes (source_of c.args.index.now) in
    last_fails known (g.S.ReadAt.fails_with (source_of c.args.index.now)) (g.M.Memory.refuses c.args.memory.now)
    c.read_text-3.result (length c.read_text-2.new.path.items)
    (λ b is below. (let one = text_more b c.clear.new.self.items c.read_text.new.path.items c.args.texts.first 0
    (omega (arith, ap length c.clear.ensures.items)) (c.in_ok-read_text.ensures.text b is below) in
    let two = text_more b c.read_text.new.path.items c.read_text-2.new.path.items c.args.texts.second (length b)
    (omega (arith, one)) (c.in_ok-read_text-2.ensures.text b is below) in omega (arith, two)))
    (c.read_text-3.ensures.fails (λ b is below. (lie b is below).third))
