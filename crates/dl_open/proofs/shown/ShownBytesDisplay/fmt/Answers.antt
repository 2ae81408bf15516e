use Rattle.std.proofs.Common.{Bool, false, List, ℕ, if◌then◌else◌, subst, sym, ap, ◌∙◌, ◌≡◌, flat_map}
use Rattle.std.specs.Fmt.{HasWritten}
use Rattle.std.specs.Str.{is_utf8}
use Rattle.std.proofs.lemmas.Bool.{false_from_ne_true}
use Rattle.std.proofs.lemmas.Str.{IsUtf8-from_is_utf8, is_utf8-from_IsUtf8}
use Rattle.dl_open.specs.Shown.{shown_byte, shown_bytes, shown_word}
use Rattle.dl_open.proofs.shown.ShownBytesDisplay.fmt.Goals as goal

pub returns-in-Ok-clause-writes : goal.returns-in-Ok-clause-writes
returns-in-Ok-clause-writes g c = λ plain ok.
    let b = c.args.self.now.0.now in
    let text = c.in-Ok.ensures.cases in
    let is : shown_bytes b ≡ shown_word c.in-Ok.word.now =
    ap (λ (u : Bool). if u then shown_word b else flat_map shown_byte b) (is_utf8-from_IsUtf8 b text.1)
    ∙ ap shown_word (sym text.0) in
    subst (λ (l : List ℕ). HasWritten g.W.Write.write_str_gives c.args.f.now l c.fmt.new.f) (sym is)
    (c.fmt.ensures.writes plain ok)

pub returns-in-Err-clause-writes : goal.returns-in-Err-clause-writes
returns-in-Err-clause-writes g c = λ plain ok.
    let b = c.args.self.now.0.now in
    let other : is_utf8 b ≡ false =
    false_from_ne_true (is_utf8 b) (λ is. c.in-Err.ensures.cases.0 (IsUtf8-from_is_utf8 b is)) in
    let is : shown_bytes b ≡ flat_map shown_byte b =
    ap (λ (u : Bool). if u then shown_word b else flat_map shown_byte b) other in
    subst (λ (l : List ℕ). HasWritten g.W.Write.write_str_gives c.args.f.now l c.fmt-in-Err.new.f) (sym is)
    (c.fmt-in-Err.ensures.writes plain ok)
