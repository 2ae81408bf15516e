use Rattle.std.proofs.Common.{◌≡◌, ◌+◌, ◌-◌, ℕ, length, Option, ap, arith, refl, ◌∙◌, unwrap_or}
use Rattle.dl_field.specs.HeaderData.{HeaderData}
use Rattle.dl_field.specs.declared.params.Params.{Params}
use Rattle.dl_head.specs.Header.{IsHeader, unit_len}
use Rattle.dl_head.specs.HeaderLayout.{fixed_part, initial_size}
use Rattle.dl_head.proofs.HeaderGiven.{done_at}
use Rattle.dl_head.proofs.HeaderLaws.{lengths_are}
use Rattle.dl_head.proofs.reader.HeadReader.lengths.Goals as goal

pub returns-in_default : goal.returns-in_default
returns-in_default c = c.in_default.ensures

pub returns : goal.returns
returns c = λ b s.
    let d = c.args.self.now.dialect in
    let h = c.in-Some.header.now in
    let is : IsHeader d h b = c.in-Some.ensures b s in
    let initial : c.initial_size-initial.result ≡ initial_size h.params.format = c.initial_size-initial.ensures
    ∙ ap (λ (p : Params). initial_size p.format) c.params-params.ensures.value in
    let fixed : c.fixed_part-fixed.result ≡ fixed_part h.params.format h.params.version = c.fixed_part-fixed.ensures
    ∙ ap (λ (p : Params). fixed_part p.format p.version) c.params-params.ensures.value in
    let unit : c.saturating_sub.result ≡ unwrap_or (unit_len d b) 0 - initial_size h.params.format =
    omega (arith, initial, c.unwrap_or.ensures ∙ ap (λ (o : Option ℕ). unwrap_or o 0) (c.unit_len.ensures.unit b s), c.saturating_sub.ensures) in
    let header : c.saturating_sub-3.result
    ≡ length b - (initial_size h.params.format + fixed_part h.params.format h.params.version) =
    omega (arith, initial, fixed, s.taken, c.saturating_sub-2.ensures, c.saturating_sub-3.ensures) in
    let padding : c.saturating_sub-4.result ≡ length b - c.args.self.now.start =
    omega (arith, s.taken, c.saturating_sub-4.ensures) in (
      h,
      is,
      rw (unit, header, padding, lengths_are d h b c.args.self.now.start is (done_at c.args.self.now b h s is).start_is) refl,
    )
