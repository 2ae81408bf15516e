use Rattle.std.proofs.Common.{Bool, false, if◌then◌else◌, map, sym, ap, ◌≡◌, ◌∙◌}
use Rattle.std.specs.Str.{is_utf8}
use Rattle.std.proofs.lemmas.Bool.{false_from_ne_true}
use Rattle.std.proofs.lemmas.Str.{IsUtf8-from_is_utf8, is_utf8-from_IsUtf8}
use Rattle.dl_member.specs.Paths.{readable, readable_byte}
use Rattle.dl_member.proofs.path.put_name.Goals as goal

pub returns-in-Ok : goal.returns-in-Ok
returns-in-Ok c =
    let name = c.args.name.now in
    let text = c.in-Ok.ensures.cases in
    let is : readable name ≡ c.in-Ok.text.now =
    ap (λ (u : Bool). if u then name else map readable_byte name) (is_utf8-from_IsUtf8 name text.1) ∙ sym text.0 in
    rw is c.put.ensures

pub returns-in-Err : goal.returns-in-Err
returns-in-Err c =
    let name = c.args.name.now in
    let other : is_utf8 name ≡ false =
    false_from_ne_true (is_utf8 name) (λ is. c.in-Err.ensures.cases.0 (IsUtf8-from_is_utf8 name is)) in
    let is : readable name ≡ map readable_byte name = ap (λ (u : Bool). if u then name else map readable_byte name) other in
    rw is c.put_bytes.ensures
