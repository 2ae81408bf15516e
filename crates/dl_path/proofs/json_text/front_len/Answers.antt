use Rattle.std.proofs.Common.{◌≡◌, ◌++◌, ℕ, drop, sym, subst, take}
use Rattle.json.specs.Print.{escape, escape_byte}
use Rattle.dl_path.specs.Fronts.{front_text}
use Rattle.dl_path.proofs.FrontLemmas.{escape_front}
use Rattle.dl_path.proofs.json_text.front_len.Goals as goal

pub returns-clause-cut : goal.returns-clause-cut
returns-clause-cut c =
    let text = c.args.text.now in
    subst (λ (n : ℕ). escape text ≡ front_text escape_byte (take n text) ++ escape (drop n text)) (sym c.max.ensures)
    (escape_front text c.standing_len.result c.standing_len.ensures.stand c.requires)
