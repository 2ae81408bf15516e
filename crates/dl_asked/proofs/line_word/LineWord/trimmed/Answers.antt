use Rattle.std.proofs.Common.{◌≡◌, ◌∙◌, ◌-◌, ◌+◌, ◌<◌, arith, refl, sym, ap, take, length, get_or}
use Rattle.dl_asked.specs.AskedLines.{trim_end}
use Rattle.dl_asked.proofs.WordLemmas.{none_fewer, one_fewer}
use Rattle.dl_asked.proofs.line_word.LineWord.trimmed.Goals as goal
use Rattle.dl_asked.proofs.line_word.LineWord.trimmed.Goals.{then-loop-len-test+else-is_blank, else-loop-len-test}

pub loop-len-preserved : goal.loop-len-preserved
loop-len-preserved c =
    let i = c.loop-len.invariant in
    let n = c.loop-len.len - 1 in
    let bytes = c.self.inside.bytes in
    let more : n + 1 ≡ c.loop-len.len = omega (arith, c.loop-len-test.true) in
    let lt : n < length bytes = omega (arith, c.loop-len-test.true, i.0, c.self.invariant, c.self.told) in (
      omega (arith, i.0),
      sym (one_fewer bytes n (get_or bytes n 0) lt refl (sym c.if-is_blank.ensures))
          ∙ (ap (λ m. trim_end (take m bytes)) more ∙ i.1),
    )

pub returns : goal.returns
returns c =
    let i = c.loop-len.invariant in
    let n = c.loop-len.len - 1 in
    let bytes = c.self.inside.bytes in
    elim c.loop-len-test.branch [
      | then-loop-len-test+else-is_blank w ↦
          let more : n + 1 ≡ c.loop-len.len = omega (arith, w.loop-len-test.true) in
          let lt : n < length bytes = omega (arith, w.loop-len-test.true, i.0, c.self.invariant, c.self.told) in
          ap (λ m. take m bytes) (sym more)
          ∙ (sym (none_fewer bytes n (get_or bytes n 0) lt refl (sym w.if-is_blank.ensures))
          ∙ (ap (λ m. trim_end (take m bytes)) more ∙ i.1))
      | else-loop-len-test w ↦
          let none : c.loop-len.len ≡ 0 = omega (arith, w.loop-len-test.false) in
          ap (λ m. take m bytes) none ∙ (ap (λ m. trim_end (take m bytes)) (sym none) ∙ i.1)
    ]
