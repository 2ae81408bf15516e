use Rattle.std.proofs.Common.{◌≡◌, ap, ◌∙◌, ◌-◌, ◌<◌, ◌^◌, min, ℕ, arith, length, vec_len, rules}
use Rattle.std.specs.Global.{Vec}
use Rattle.std.proofs.lemmas.List.Elements.{All-set}
use Rattle.dl_pack.specs.Shown.{named_files}
use Rattle.std.proofs.Common.{refl}
use Rattle.dl_making.specs.Few.{unit_text}
use Rattle.dl_making.proofs.FewLemmas.{adds_none}
use Rattle.dl_making.proofs.NumberLemmas.{seen_set, numbered_set, others_set, numbered_seen, any_default}
use Rattle.dl_making.proofs.numbers.number_file.Goals as goal

len_of : (v : Vec ℕ) → vec_len v ≡ length v.items
len_of v = search rules

pub returns-in_ok-numbers-clause-seen : goal.returns-in_ok-numbers-clause-seen
returns-in_ok-numbers-clause-seen g c =
    seen_set c.args.unit.now (named_files c.args.names.now) (named_files c.file_number.new.names) c.args.numbers.now.items c.min-entry.result
    c.in_ok-numbers.field-0 (omega (arith, c.requires, c.min-entry.ensures, c.len.ensures, len_of c.args.numbers.now)) c.in_ok-numbers.ensures.grows c.in_ok-numbers.ensures.number

pub returns-in_ok-numbers-clause-small : goal.returns-in_ok-numbers-clause-small
returns-in_ok-numbers-clause-small g c small =
    All-set (λ n. n < 2 ^ 63) c.args.numbers.now.items c.min-entry.result c.in_ok-numbers.field-0 c.in_ok-numbers.ensures.small small

pub returns-in_ok-numbers-clause-numbered : goal.returns-in_ok-numbers-clause-numbered
returns-in_ok-numbers-clause-numbered g c seen =
    numbered_set c.args.unit.now (named_files c.args.names.now) (named_files c.file_number.new.names) c.args.numbers.now.items c.min-entry.result
    c.in_ok-numbers.field-0 (omega (arith, c.requires, c.min-entry.ensures, c.len.ensures, len_of c.args.numbers.now)) c.in_ok-numbers.ensures.grows c.in_ok-numbers.ensures.number
    c.args.file (c.min-entry.ensures ∙ ap (λ n. min c.args.file (n - 1)) (c.len.ensures ∙ len_of c.args.numbers.now))

pub returns-in_ok-numbers-clause-others : goal.returns-in_ok-numbers-clause-others
returns-in_ok-numbers-clause-others g c =
    others_set c.args.unit.now (named_files c.args.names.now) (named_files c.file_number.new.names) c.args.numbers.now.items c.min-entry.result
    c.in_ok-numbers.field-0 (omega (arith, c.requires, c.min-entry.ensures, c.len.ensures, len_of c.args.numbers.now)) c.in_ok-numbers.ensures.grows c.in_ok-numbers.ensures.number

pub returns-else-index-eq-UNSEEN-clause-numbered : goal.returns-else-index-eq-UNSEEN-clause-numbered
returns-else-index-eq-UNSEEN-clause-numbered g c seen =
    numbered_seen c.args.unit.now (named_files c.args.names.now) (named_files c.args.names.now) c.args.numbers.now.items c.args.file
    c.min-entry.result c.requires
    (c.min-entry.ensures ∙ ap (λ n. min c.args.file (n - 1)) (c.len.ensures ∙ len_of c.args.numbers.now)) (λ e. c.if-index-eq-UNSEEN.false (c.index.ensures
    ∙ any_default c.args.numbers.now.items c.min-entry.result _ (omega (arith, c.requires, c.min-entry.ensures, c.len.ensures, len_of c.args.numbers.now)) ∙ e)) seen

pub returns-else-index-eq-UNSEEN-clause-few : goal.returns-else-index-eq-UNSEEN-clause-few
returns-else-index-eq-UNSEEN-clause-few g c =
    adds_none c.args.names.now c.args.names.now refl refl 3 1 (unit_text c.args.unit.now)
