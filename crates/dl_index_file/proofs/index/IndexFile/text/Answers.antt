use Rattle.std.proofs.Common.{◌≡◌, ◌+◌, ◌-◌, ◌*◌, ap, ◌∙◌, arith, refl}
use Rattle.dl_index.specs.Layout.{field, part}
use Rattle.dl_index_file.proofs.FileLemmas.{row_number, text_outside, text_inside}
use Rattle.dl_index_file.proofs.index.IndexFile.text.Goals as goal
use Rattle.dl_index_file.proofs.index.IndexFile.text.Goals.{then-place-texts-via-then-place-texts, then-place-texts-via-else-place-texts+then-len-texts}

pub returns-then-place-texts-clause-text : goal.returns-then-place-texts-clause-text
returns-then-place-texts-clause-text g c f is short =
    let self = c.args.self.now in
    let st = self.stands f is short in
    let n = c.args.number in
    let row = c.in_ok-row.ensures.row f is short in
    let some = c.if-number-eq0.false in
    let within = c.if-number-self.false in
    let count = st.reads.texts in
    let place0 : (n - 1) * 16 + 0 ≡ (n - 1) * 16 = omega arith in
    let place = row_number (part f 7) _ ((n - 1) * 16) 16 0 8 _ row (omega arith) c.get-place.ensures ∙ ap (λ p. field p 8 (part f 7)) place0 in
    let len = row_number (part f 7) _ ((n - 1) * 16) 16 8 8 _ row (omega arith) c.get-len.ensures in
    text_outside f n c.get-place.result c.get-len.result self.places.texts.size (omega arith) (omega arith) place len
    (self.kept.places.texts.size ∙ st.reads.text_bytes)
    (elim c.then-place-texts.branch [
      | then-place-texts-via-then-place-texts w ↦ (let above = w.if-place-texts.true in omega arith)
      | then-place-texts-via-else-place-texts+then-len-texts w ↦
          (let upto = w.if-place-texts.false in let above = w.if-len-texts.true in omega arith)
    ])

pub returns-clause-text : goal.returns-clause-text
returns-clause-text g c f is short =
    let self = c.args.self.now in
    let st = self.stands f is short in
    let n = c.args.number in
    let row = c.in_ok-row.ensures.row f is short in
    let some = c.if-number-eq0.false in
    let within = c.if-number-self.false in
    let count = st.reads.texts in
    let upto = c.if-place-texts.false in
    let fits = c.if-len-texts.false in
    let place0 : (n - 1) * 16 + 0 ≡ (n - 1) * 16 = omega arith in
    let place = row_number (part f 7) _ ((n - 1) * 16) 16 0 8 _ row (omega arith) c.get-place.ensures ∙ ap (λ p. field p 8 (part f 7)) place0 in
    let len = row_number (part f 7) _ ((n - 1) * 16) 16 8 8 _ row (omega arith) c.get-len.ensures in
    text_inside f n c.get-place.result c.get-len.result self.places.texts.size (omega arith) (omega arith) place len
    (self.kept.places.texts.size ∙ st.reads.text_bytes) self.places.texts (omega arith) refl st.parts.texts st.end.texts
