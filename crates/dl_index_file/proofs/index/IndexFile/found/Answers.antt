use Rattle.std.proofs.Common.{◌≡◌, ◌+◌, ◌-◌, ◌*◌, inl, inr, sym, ap, ◌∙◌, arith, subst}
use Rattle.std.specs.Option.{option_map}
use Rattle.dl_index.specs.Layout.{field, part, file_in}
use Rattle.dl_index.specs.Telling.{told_of, texts_of}
use Rattle.dl_index.proofs.TellLemmas.{tells_nothing, tells, tells_these}
use Rattle.dl_index_file.specs.Steps.{TextsAre}
use Rattle.dl_index_file.proofs.FileLemmas.{row_number}
use Rattle.dl_index_file.proofs.index.IndexFile.found.Goals as goal
use Rattle.dl_index_file.proofs.index.IndexFile.found.Goals.{then-file-eq0-via-then-file-eq0, then-file-eq0-via-else-file-eq0+then-file-self}

pub returns-then-file-eq0-clause-tells : goal.returns-then-file-eq0-clause-tells
returns-then-file-eq0-clause-tells g c b is short =
    let k = c.args.k in
    let st = c.args.self.now.stands b is short in
    let count = st.reads.files in
    let file = c.in_ok-file.ensures.file b is short in
    record {
      told = sym (tells_nothing b k (elim c.then-file-eq0.branch [
        | then-file-eq0-via-then-file-eq0 w ↦ inl (sym file ∙ w.if-file-eq0.true)
        | then-file-eq0-via-else-file-eq0+then-file-self w ↦ inr (let above = w.if-file-self.true in omega arith)
      ]));
      lie = tt;
    }

pub returns-in_default-clause-tells : goal.returns-in_default-clause-tells
returns-in_default-clause-tells g c b is short =
    let k = c.args.k in
    let st = c.args.self.now.stands b is short in
    let count = st.reads.files in
    let file = c.in_ok-file.ensures.file b is short in
    let some = c.if-file-eq0.false in
    let within = c.if-file-self.false in
    let row = c.in_ok-row.ensures.row b is short in
    let texts = subst (TextsAre b (c.in_ok-file.file - 1)) c.in_default.is (c.in_ok-texts.ensures.texts b is short _ row) in
    let none = texts.told ∙ ap (λ f. texts_of b (f - 1)) file in
    record {
      told =
          ap (option_map (told_of b k (file_in b k - 1))) none ∙ sym (tells b k (omega arith) (omega arith));
      lie = tt;
    }

pub returns-clause-tells : goal.returns-clause-tells
returns-clause-tells g c b is short =
    let k = c.args.k in
    let n = c.in_ok-file.file in
    let st = c.args.self.now.stands b is short in
    let count = st.reads.files in
    let file = c.in_ok-file.ensures.file b is short in
    let some = c.if-file-eq0.false in
    let within = c.if-file-self.false in
    let row = c.in_ok-row.ensures.row b is short in
    let texts = subst (TextsAre b (n - 1)) c.in-Some.is (c.in_ok-texts.ensures.texts b is short _ row) in
    let numbers = c.in_ok-numbers.ensures.numbers b is short in
    let place0 : (n - 1) * 24 + 0 ≡ (n - 1) * 24 = omega arith in
    let unit = row_number (part b 6) _ ((n - 1) * 24) 24 0 8 _ row (omega arith) c.get.ensures ∙ ap (λ p. field p 8 (part b 6)) place0 in
    record {
      told =
          tells_these b k (n - 1) _ (omega arith) (omega arith) (ap (λ m. m - 1) file) texts.told unit numbers.line
          numbers.column numbers.discriminator numbers.is_stmt;
      lie = texts.lie;
    }
