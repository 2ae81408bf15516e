use Rattle.std.proofs.Common.{List, ℕ, Option, Some, IfSome, ap, ◌∙◌, subst}
use Rattle.std.proofs.lemmas.Result.{err_from_is_err_and}
use Rattle.std.specs.Option.{option_map}
use Rattle.dl_addr.specs.Location.{Location}
use Rattle.dl_index_file.specs.FindsIn.{FindsIn}
use Rattle.dl_index_file.specs.Shown.{texts_shown, TextsLie}
use Rattle.dl_making.specs.Telling.{location_told}
use Rattle.dl_dialogue.proofs.TellingLemmas.{path_is}
use Rattle.dl_dialogue.proofs.index_file.located.Goals as goal

pub returns-in_default-clause-tells : goal.returns-in_default-clause-tells
returns-in_default-clause-tells g c = λ b is below address finds index.
    ap (option_map location_told) ((subst (FindsIn b address) c.in_default.is finds).exact index)

pub returns-in_err-read_texts-clause-fails : goal.returns-in_err-read_texts-clause-fails
returns-in_err-read_texts-clause-fails g c = λ lie.
    let p = err_from_is_err_and c.from_residual.result c.from_residual.ensures.1 in
    rw (p.1, p.2) (c.in_err-read_texts.ensures.fails (λ b is below.
    subst (λ o. IfSome o (λ f. TextsLie b f.texts)) c.in-Some.is (lie b is below)))

pub returns-clause-tells : goal.returns-clause-tells
returns-clause-tells g c = λ f is below address finds index.
    let found = c.in-Some.found in
    let with_path : Option (List ℕ) → Option Location = λ path. Some (record {
      unit = found.unit;
      path = path;
      line = found.line;
      column = found.column;
      discriminator = found.discriminator;
      is_stmt = found.is_stmt;
    }) in
    ap with_path (c.path_if.ensures ∙ path_is (texts_shown f found.texts) c.is_known.result c.as_slice.result.now
    (c.is_known.ensures f) (c.as_slice.ensures.value ∙ c.in_ok-read_texts.ensures.texts f is below))
    ∙ ap (option_map location_told) ((subst (FindsIn f address) c.in-Some.is finds).exact index)
