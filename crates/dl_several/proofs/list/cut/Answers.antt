use Rattle.std.proofs.Common.{◌≡◌, ℕ, ◌+◌, Bool, true, false, ◌==◌, length, take, drop, sym, ap, ◌∙◌, ⊎_elim, arith, take_all}
use Rattle.std.proofs.lemmas.Bool.{cases_Bool}
use Rattle.std.proofs.lemmas.List.Sums.{position_or_len_is}
use Rattle.std.proofs.lemmas.List.{take_rest, drop_all}
use Rattle.dl_several.proofs.list.cut.Goals as goal

is_false : (b : Bool) → ¬ (b ≡ true) → b ≡ false
is_false b other = ⊎_elim (λ yes. absurd (other yes)) (λ no. no) (cases_Bool b)

pub returns-in-Some : goal.returns-in-Some
returns-in-Some c =
    let list = c.args.list.now in
    let ends = λ (byte : ℕ). byte == c.args.end in
    let at = c.in-Some.at in
    let is = c.in-Some.ensures in
    let found = position_or_len_is ends list at 0 (omega (arith, is.0.high))
    (λ k lt. is_false _ (is.0.before k (omega arith) lt)) (λ lt. is.1) in
    record {
      before = ap (λ n. take n list) (sym found);
      behind = take_rest list _ ∙ ap (λ n. drop (n + 1) list) (sym found);
    }

pub returns-in-None : goal.returns-in-None
returns-in-None c =
    let list = c.args.list.now in
    let ends = λ (byte : ℕ). byte == c.args.end in
    let none = position_or_len_is ends list (length list) 0 (omega arith)
    (λ k lt. is_false _ (c.in-None.ensures k (omega arith) lt)) (λ lt. absurd (omega (arith, lt))) in
    record {
      before = sym (ap (λ n. take n list) none ∙ take_all (length list) list (omega arith));
      behind = sym (ap (λ n. drop (n + 1) list) none ∙ drop_all (length list + 1) list (omega arith));
    }
