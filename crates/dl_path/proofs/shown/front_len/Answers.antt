use Rattle.std.proofs.Common.{◌≡◌, ◌++◌, ℕ, drop, sym, subst, take}
use Rattle.dl_path.specs.Fronts.{front_text, shown_byte}
use Rattle.dl_path.specs.Shown.{shown}
use Rattle.dl_path.proofs.FrontLemmas.{character_front, plain_cut}
use Rattle.dl_path.proofs.shown.front_len.Goals as goal

pub returns-then-plain-gt0-clause-cut : goal.returns-then-plain-gt0-clause-cut
returns-then-plain-gt0-clause-cut c = plain_cut c.args.text.now c.plain_len-plain.result c.plain_len-plain.ensures.plain

pub returns-clause-cut : goal.returns-clause-cut
returns-clause-cut c =
    let text = c.args.text.now in
    subst (λ (n : ℕ). shown text ≡ front_text shown_byte (take n text) ++ shown (drop n text)) (sym c.max.ensures)
    (character_front text c.character_len.result c.character_len.ensures c.requires)
