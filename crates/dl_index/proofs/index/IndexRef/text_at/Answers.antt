use Rattle.std.proofs.Common.{◌≡◌, ◌-◌, ◌+◌, ◌*◌, ◌<◌, [], ◌∷◌, Some, length, take, drop, sym, ap, subst, ◌∙◌, arith}
use Rattle.std.proofs.lemmas.List.{take-take}
use Rattle.dl_index.specs.Layout.{field, part, text_bytes_in, text_place_in, text_len_in}
use Rattle.dl_index.specs.Shown.{bytes_of}
use Rattle.dl_index.specs.TextPlaces.{StandsAt}
use Rattle.dl_index.proofs.PlaceLemmas.{bytes_of_part, no_text_of, some_text, text_of}
use Rattle.dl_index.proofs.index.IndexRef.text_at.Goals as goal
use Rattle.dl_index.proofs.index.IndexRef.text_at.Goals.{then-place-all-via-then-place-all, then-place-all-via-else-place-all+then-len-all}

pub returns-then-place-all-clause-told : goal.returns-then-place-all-clause-told
returns-then-place-all-clause-told c =
    let self = c.args.self.now in
    let b = bytes_of self in
    let i = c.args.index in
    let all = self.cut.texts_len in
    let place = c.long_at-place.ensures ∙ ap (field (i * 16) 8) self.cut.text_table in
    let len = c.long_at-len.ensures ∙ ap (field (i * 16 + 8) 8) self.cut.text_table in
    let outside : text_bytes_in b < text_place_in b i + text_len_in b i = elim c.then-place-all.branch [
      | then-place-all-via-then-place-all w ↦ (let above = w.if-place-all.true in omega arith)
      | then-place-all-via-else-place-all+then-len-all w ↦
          (let upto = w.if-place-all.false in let above = w.if-len-all.true in omega arith)
    ] in
    sym (no_text_of b i (i + 1) (omega arith) (omega arith) outside)

pub returns-clause-told : goal.returns-clause-told
returns-clause-told c =
    let self = c.args.self.now in
    let b = bytes_of self in
    let i = c.args.index in
    let texts = self.parts.texts.now in
    let all = self.cut.texts_len in
    let rows = self.laid_out.sizes.texts in
    let there = c.if-index-self.false in
    let upto = c.if-place-all.false in
    let within = c.if-len-all.false in
    let place = c.long_at-place.result in
    let len = c.long_at-len.result in
    let place_is : place ≡ text_place_in b i = c.long_at-place.ensures ∙ ap (field (i * 16) 8) self.cut.text_table in
    let len_is : len ≡ text_len_in b i = c.long_at-len.ensures ∙ ap (field (i * 16 + 8) 8) self.cut.text_table in
    let bytes = take-take len (length texts - place) (drop place texts) (omega arith) in
    ap (λ t. Some (t ∷ [])) (bytes ∙ ap (λ t. take len (drop place t)) self.cut.texts
    ∙ ap (λ n. take n (drop place (part b 8))) len_is
    ∙ ap (λ n. take (text_len_in b i) (drop n (part b 8))) place_is)
    ∙ sym (text_of b i (i + 1) (omega arith) (omega arith) (omega arith) (omega arith))

pub returns-clause-place : goal.returns-clause-place
returns-clause-place c text told =
    let self = c.args.self.now in
    let b = bytes_of self in
    let i = c.args.index in
    let n = i + 1 in
    let is = some_text b n text told in
    let at = self.parts.texts_at in
    let row : i ≡ n - 1 = omega arith in
    let place : c.long_at-place.result ≡ text_place_in b (n - 1) =
    c.long_at-place.ensures ∙ ap (field (i * 16) 8) self.cut.text_table ∙ ap (text_place_in b) row in
    let stands =
    bytes_of_part b (part b 8) at (text_bytes_in b) (text_place_in b (n - 1)) (text_len_in b (n - 1)) self.cut.texts_there
    self.cut.texts_within is.2 in
    let there : at + text_place_in b (n - 1) ≡ at + c.long_at-place.result = omega arith in
    subst (λ p. StandsAt b p text) there (subst (StandsAt b (at + text_place_in b (n - 1))) (sym is.3) stands)
