use Rattle.std.proofs.Common.{◌-◌, ◌*◌, inl, inr, refl, sym, ap, ◌<◌, ◌∙◌, arith}
use Rattle.std.specs.Option.{option_map}
use Rattle.dl_index.specs.Layout.{field, file_in}
use Rattle.dl_index.specs.Shown.{bytes_of, told}
use Rattle.dl_index.specs.TextsOf.{path_told}
use Rattle.dl_index.specs.Telling.{told_of, texts_of}
use Rattle.dl_index.proofs.LayoutLemmas.{in_files, in_lines, in_columns, in_discriminators}
use Rattle.dl_index.proofs.TellLemmas.{tells_nothing, tells, tells_these}
use Rattle.dl_index.proofs.PlaceLemmas.{texts_are_at}
use Rattle.dl_index.proofs.index.IndexRef.found.Goals as goal
use Rattle.dl_index.proofs.index.IndexRef.found.Goals.{then-file-eq0-via-then-file-eq0, then-file-eq0-via-else-file-eq0+then-file-self}

pub number_in-file-requires-clause-there : goal.number_in-file-requires-clause-there
number_in-file-requires-clause-there c =
    let self = c.args.self.now in
    let count = self.laid_out.sizes.count in
    (in_files self.layout (bytes_of self) self.laid_out c.args.k (omega (arith, c.requires))).0

pub number_in-requires-clause-there : goal.number_in-requires-clause-there
number_in-requires-clause-there c =
    let self = c.args.self.now in
    let count = self.laid_out.sizes.count in
    (in_lines self.layout (bytes_of self) self.laid_out c.args.k (omega (arith, c.requires))).0

pub number_in-requires-2-clause-there : goal.number_in-requires-2-clause-there
number_in-requires-2-clause-there c =
    let self = c.args.self.now in
    let count = self.laid_out.sizes.count in
    (in_columns self.layout (bytes_of self) self.laid_out c.args.k (omega (arith, c.requires))).0

pub number_in-requires-3-clause-there : goal.number_in-requires-3-clause-there
number_in-requires-3-clause-there c =
    let self = c.args.self.now in
    let count = self.laid_out.sizes.count in
    (in_discriminators self.layout (bytes_of self) self.laid_out c.args.k (omega (arith, c.requires))).0

pub returns-then-file-eq0-clause-told : goal.returns-then-file-eq0-clause-told
returns-then-file-eq0-clause-told c =
    let self = c.args.self.now in
    let b = bytes_of self in
    let k = c.args.k in
    let count = self.laid_out.sizes.count in
    let files = self.laid_out.sizes.files in
    let file = c.number_in-file.ensures ∙ (in_files self.layout b self.laid_out k (omega (arith, c.requires))).1 in
    sym (tells_nothing b k (elim c.then-file-eq0.branch [
      | then-file-eq0-via-then-file-eq0 w ↦ inl (sym file ∙ w.if-file-eq0.true)
      | then-file-eq0-via-else-file-eq0+then-file-self w ↦ inr (let above = w.if-file-self.true in omega arith)
    ]))

pub returns-in_err-path-clause-told : goal.returns-in_err-path-clause-told
returns-in_err-path-clause-told c =
    let self = c.args.self.now in
    let b = bytes_of self in
    let k = c.args.k in
    let count = self.laid_out.sizes.count in
    let files = self.laid_out.sizes.files in
    let file = c.number_in-file.ensures ∙ (in_files self.layout b self.laid_out k (omega (arith, c.requires))).1 in
    let some = c.if-file-eq0.false in
    let within = c.if-file-self.false in
    let none =
    sym (ap (option_map path_told) c.in_err-path.was) ∙ c.path.ensures.told ∙ ap (λ f. texts_of b (f - 1)) file in
    ap (option_map told) c.from_residual.ensures ∙ ap (option_map (told_of b k (file_in b k - 1))) none
    ∙ sym (tells b k (omega arith) (omega arith))

pub returns-clause-told : goal.returns-clause-told
returns-clause-told c =
    let self = c.args.self.now in
    let b = bytes_of self in
    let k = c.args.k in
    let f = c.number_in-file.result in
    let count = self.laid_out.sizes.count in
    let within_count : k < self.layout.count = omega (arith, c.requires) in
    let files = self.laid_out.sizes.files in
    let file = c.number_in-file.ensures ∙ (in_files self.layout b self.laid_out k within_count).1 in
    let some = c.if-file-eq0.false in
    let within = c.if-file-self.false in
    tells_these b k (f - 1) _ (omega arith) (omega arith) (ap (λ n. n - 1) file)
    (sym (ap (option_map path_told) c.in_ok-path.was) ∙ c.path.ensures.told)
    (c.long_at.ensures ∙ ap (field ((f - 1) * 24) 8) self.cut.file_table)
    (c.number_in.ensures ∙ (in_lines self.layout b self.laid_out k within_count).1)
    (c.number_in-2.ensures ∙ (in_columns self.layout b self.laid_out k within_count).1)
    (c.number_in-3.ensures ∙ (in_discriminators self.layout b self.laid_out k within_count).1) c.is_stmt.ensures

pub returns-clause-places : goal.returns-clause-places
returns-clause-places c =
    texts_are_at (bytes_of c.args.self.now) (c.number_in-file.result - 1) _ c.in_ok-path.path.texts c.in_ok-path.ensures.each
    c.in_ok-path.ensures.places refl
