use Rattle.std.proofs.Common.{ℕ, ◌+◌, ◌*◌, refl, sym, ap, subst, ◌∙◌, arith, None, Some}
use Rattle.dl_index.specs.Layout.{field, part}
use Rattle.dl_index.specs.Shown.{bytes_of}
use Rattle.dl_index.specs.TextsOf.{IsPlaceOf, path_told, placed_told}
use Rattle.std.specs.Option.{option_map}
use Rattle.dl_index.proofs.TellLemmas.{text_by, texts_by}
use Rattle.dl_index.proofs.index.IndexRef.path.Goals as goal

pub returns-in_err-first-clause-told : goal.returns-in_err-first-clause-told
returns-in_err-first-clause-told c =
    let self = c.args.self.now in
    let b = bytes_of self in
    let f = c.args.file in
    let first =
    text_by b f 0 (f * 24 + 8) _ self.parts.file_table.now _ _ c.in_err-first.was c.text.ensures.told c.number_at.ensures
    self.cut.file_table (omega arith) in
    ap (option_map path_told) c.from_residual.ensures ∙ texts_by b f None _ _ first refl refl

pub returns-in_err-second-clause-told : goal.returns-in_err-second-clause-told
returns-in_err-second-clause-told c =
    let self = c.args.self.now in
    let b = bytes_of self in
    let f = c.args.file in
    let table = self.parts.file_table.now in
    let is = self.cut.file_table in
    let first =
    text_by b f 0 (f * 24 + 8) _ table _ _ c.in_ok-first.was c.text.ensures.told c.number_at.ensures is (omega arith) in
    let second =
    text_by b f 1 (f * 24 + 12) _ table _ _ c.in_err-second.was c.text-2.ensures.told c.number_at-2.ensures is (omega arith) in
    ap (option_map path_told) c.from_residual-in_err-second.ensures
    ∙ texts_by b f (Some (placed_told c.in_ok-first.first)) None _ first second refl

pub returns-in_err-third-clause-told : goal.returns-in_err-third-clause-told
returns-in_err-third-clause-told c =
    let self = c.args.self.now in
    let b = bytes_of self in
    let f = c.args.file in
    let table = self.parts.file_table.now in
    let is = self.cut.file_table in
    let first =
    text_by b f 0 (f * 24 + 8) _ table _ _ c.in_ok-first.was c.text.ensures.told c.number_at.ensures is (omega arith) in
    let second =
    text_by b f 1 (f * 24 + 12) _ table _ _ c.in_ok-second.was c.text-2.ensures.told c.number_at-2.ensures is (omega arith) in
    let third =
    text_by b f 2 (f * 24 + 16) _ table _ _ c.in_err-third.was c.text-3.ensures.told c.number_at-3.ensures is (omega arith) in
    ap (option_map path_told) c.from_residual-in_err-third.ensures
    ∙ texts_by b f (Some (placed_told c.in_ok-first.first)) (Some (placed_told c.in_ok-second.second)) None first second third

pub returns-clause-told : goal.returns-clause-told
returns-clause-told c =
    let self = c.args.self.now in
    let b = bytes_of self in
    let f = c.args.file in
    let table = self.parts.file_table.now in
    let is = self.cut.file_table in
    let first =
    text_by b f 0 (f * 24 + 8) _ table _ _ c.in_ok-first.was c.text.ensures.told c.number_at.ensures is (omega arith) in
    let second =
    text_by b f 1 (f * 24 + 12) _ table _ _ c.in_ok-second.was c.text-2.ensures.told c.number_at-2.ensures is (omega arith) in
    let third =
    text_by b f 2 (f * 24 + 16) _ table _ _ c.in_ok-third.was c.text-3.ensures.told c.number_at-3.ensures is (omega arith) in
    texts_by b f (Some (placed_told c.in_ok-first.first)) (Some (placed_told c.in_ok-second.second)) (Some (placed_told c.in_ok-third.third)) first second third

pub returns-clause-each : goal.returns-clause-each
returns-clause-each c =
    let self = c.args.self.now in
    let b = bytes_of self in
    let f = c.args.file in
    let table = self.parts.file_table.now in
    let is = self.cut.file_table in
    record {
      first = sym (text_by b f 0 (f * 24 + 8) _ table _ _ c.in_ok-first.was c.text.ensures.told c.number_at.ensures is (omega arith));
      second = sym (text_by b f 1 (f * 24 + 12) _ table _ _ c.in_ok-second.was c.text-2.ensures.told c.number_at-2.ensures is (omega arith));
      third = sym (text_by b f 2 (f * 24 + 16) _ table _ _ c.in_ok-third.was c.text-3.ensures.told c.number_at-3.ensures is (omega arith));
    }

pub returns-clause-places : goal.returns-clause-places
returns-clause-places c =
    let b = bytes_of c.args.self.now in
    let is = c.args.self.now.cut.file_table in
    let f = c.args.file in
    let number = λ (p : ℕ). ap (field p 4) is in
    record {
      first = subst (λ n. IsPlaceOf b n c.in_ok-first.first.place) (c.number_at.ensures ∙ number (f * 24 + 8) ∙ ap (λ p. field p 4 (part b 6)) (omega arith)) c.in_ok-first.ensures.place;
      second = subst (λ n. IsPlaceOf b n c.in_ok-second.second.place) (c.number_at-2.ensures ∙ number (f * 24 + 12) ∙ ap (λ p. field p 4 (part b 6)) (omega arith)) c.in_ok-second.ensures.place;
      third = subst (λ n. IsPlaceOf b n c.in_ok-third.third.place) (c.number_at-3.ensures ∙ number (f * 24 + 16) ∙ ap (λ p. field p 4 (part b 6)) (omega arith)) c.in_ok-third.ensures.place;
    }
