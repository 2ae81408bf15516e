use Rattle.std.proofs.Common.{◌≡◌, ◌∙◌, ℕ, List, ap, refl, Option, Some, None, Result, Ok, Err}
use Rattle.std.specs.Prelude.{unwrap_or}
use Rattle.std.specs.Option.{option_map_or}
use Rattle.std.specs.Str.Parse.{ParsesUnsigned, ExplainsUnsignedError, HasUnsignedDigitsIfOk}
use Rattle.clap.specs.Words.{found_of, one_text, ReadsOne}
use Rattle.clap.specs.Walk.{byte_or_zero}
use Rattle.clap.proofs.WalkLemmas.{one_text-rows, byte_read}
use Rattle.dl_cmd.proofs.values.byte.Goals as goal

-- what is read of a text, or 0
read : {E : Type 0} (gives : List ℕ → Result ℕ E → Type 0)
    → ((t : List ℕ) (r : Result ℕ E) → gives t r → ParsesUnsigned 8 10 t r) → (t : List ℕ) (o : Option ℕ)
    → ReadsOne gives t o
    → unwrap_or o 0 ≡ byte_or_zero t
read {E} gives parses t (Some v) g = byte_read {E = E} t (Ok v) (parses t (Ok v) g)
read gives parses t None g = byte_read t (Err g.0) (parses t (Err g.0) g.1)

both : {E : Type 0} (gives : List ℕ → Result ℕ E → Type 0)
    → ((t : List ℕ) (r : Result ℕ E) → gives t r → ParsesUnsigned 8 10 t r) → (text : Option (List ℕ)) (o : Option ℕ)
    → (text ≡ None → o ≡ None) → ((t : List ℕ) → text ≡ Some t → ReadsOne gives t o)
    → unwrap_or o 0 ≡ option_map_or byte_or_zero text 0
both gives parses None o none some = ap (λ x. unwrap_or x 0) (none refl)
both gives parses (Some t) o none some = read gives parses t o (some t refl)

pub returns : goal.returns
returns c =
    let f = found_of c.args.matches.now in
    c.unwrap_or.ensures ∙ both (λ bs r. ParsesUnsigned 8 10 bs r × ExplainsUnsignedError 10 bs r
    × HasUnsignedDigitsIfOk bs r) (λ t r g. g.0) (one_text f c.args.id.now) c.get_one.result c.get_one.ensures.none
    c.get_one.ensures.value
    ∙ ap (λ o. option_map_or byte_or_zero o 0) (one_text-rows f c.args.id.now)
