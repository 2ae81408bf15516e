use Rattle.std.proofs.Common.{List, ℕ, ◌*◌, ◌≤◌, length, arith, Option, Some, ap, ◌∙◌}
use Rattle.std.proofs.lemmas.Result.{err_from_is_err_and}
use Rattle.std.specs.List.{concat}
use Rattle.std.specs.Option.{option_map}
use Rattle.dl_addr.specs.Location.{Location}
use Rattle.dl_index.specs.Shown.{bytes_of, texts_told}
use Rattle.dl_making.specs.Telling.{location_told}
use Rattle.dl_dialogue.proofs.TellingLemmas.{asks_fewer, path_is, path_len}
use Rattle.dl_dialogue.proofs.index_in_memory.IndexRefTell.tell.Goals as goal

pub returns-clause-tells : goal.returns-clause-tells
returns-clause-tells g c = λ is_index.
    let found = c.in-Some.found in
    let with_path : Option (List ℕ) → Option Location = λ path. Some (record {
      unit = found.unit;
      path = path;
      line = found.line;
      column = found.column;
      discriminator = found.discriminator;
      is_stmt = found.is_stmt;
    }) in
    ap with_path (c.path_if.ensures ∙ path_is (texts_told found.texts) c.is_known.result c.as_slice.result.now
    c.is_known.ensures (c.as_slice.ensures.value ∙ c.in_ok-put_texts.ensures.texts))
    ∙ ap (option_map location_told) (c.in-Some.ensures.told is_index)

pub returns-in_err-put_texts-clause-fails : goal.returns-in_err-put_texts-clause-fails
returns-in_err-put_texts-clause-fails g c =
    let p = err_from_is_err_and c.from_residual.result c.from_residual.ensures.1 in
    let b = bytes_of c.args.self.now in
    let found = c.in-Some.found in
    let within = path_len b found c.in-Some.ensures.places in
    rw (p.1, p.2) (asks_fewer (λ _. ⊥) (λ n. n ≤ length (concat (texts_told found.texts))) (λ n. n ≤ 3 * length b)
    (g.M.Memory.refuses c.args.memory.now) c.in_err-put_texts.field-0.0 (λ n few. omega (arith, few, within))
    c.in_err-put_texts.ensures.fails)
