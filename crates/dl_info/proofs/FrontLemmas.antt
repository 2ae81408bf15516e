-- Fields at the front of bytes, from what the readers of numbers and texts say.
use Rattle.std.proofs.Common.{◌≡◌, ℕ, ◌+◌, ◌-◌, ◌^◌, ◌<◌, ◌≤◌, List, ◌++◌, length, take, drop, refl, sym, ap}
use Rattle.std.proofs.Common.{◌∙◌, arith, Option, Some, None, Result, Ok, Err, option_map, length-append, length-take}
use Rattle.std.proofs.Common.{inl, inr, min}
use Rattle.std.proofs.lemmas.Bool.{cases_lt, lt-ltb, le-ltb}
use Rattle.std.proofs.lemmas.List.{drop_all, take_at}
use Rattle.std.specs.List.{position}
use Rattle.std.specs.Prelude.{◌==◌}
use Rattle.dl_num.specs.declared.leb.LebRange.{LebRange}
use Rattle.dl_num.specs.Leb.{groups, AllContinue, IsUleb}
use Rattle.dl_num.specs.LebFront.{leb_front, after_leb}
use Rattle.dl_num.specs.LebReader.{UlebIs}
use Rattle.dl_num.proofs.LebFrontLemmas.{is_leb-continues, leb_front-continues}
use Rattle.dl_num.proofs.LebLaws.{is_leb-of, leb_is_front}
use Rattle.dl_table.specs.Text.{text_in}
use Rattle.dl_table.proofs.TextLemmas.{text_in-position}
use Rattle.dl_info.specs.declared.front.FieldFault.TheVariants.{Short, Damaged}
use Rattle.dl_info.specs.Front.{leb_at, text_and_rest, text_at, uleb_at}

-- ---- numbers in LEB128

-- bytes that end inside a number
pub no_leb : (b : List ℕ) → AllContinue b → leb_at b ≡ Err (Short 1)
no_leb b all = rw (leb_front-continues b all, is_leb-continues b all) refl

-- what was read spells a number, in range or not
pub some_number : (w : List ℕ) (r : Result ℕ LebRange) → UlebIs w r → (n : ℕ) × IsUleb w n
some_number w (Ok n) is = (n, is)
some_number w (Err e) is = (is.0, is.1)

pub leb_here : (b w rest : List ℕ) (n : ℕ) → b ≡ w ++ rest → IsUleb w n → leb_at b ≡ Ok (w, rest)
leb_here b w rest n parts is =
    let front : leb_front b ≡ w = ap leb_front parts ∙ (leb_is_front w rest n is).0 in
    let after : after_leb b ≡ rest = ap after_leb parts ∙ (leb_is_front w rest n is).1 in
    rw (after, front, is_leb-of w is.0 is.1 is.2) refl

-- the bytes of a number, by what follows it
pub front_of : (b w rest : List ℕ) → b ≡ w ++ rest → take (length b - length rest) b ≡ w
front_of b w rest parts =
    rw parts (take_at w rest (length (w ++ rest) - length rest) (omega (arith, length-append w rest)))

pub number_here : (b w rest : List ℕ) (n : ℕ) → b ≡ w ++ rest → UlebIs w (Ok n) → n < 2 ^ 64
    → uleb_at b ≡ Ok (n, rest)
unfolding uleb_at
number_here b w rest n parts is below =
    let number : groups w ≡ n = sym is.3 in
    rw (leb_here b w rest n parts is, number, lt-ltb n (2 ^ 64) below) refl

pub too_large : (b w rest : List ℕ) (e : LebRange) → b ≡ w ++ rest → UlebIs w (Err e) → uleb_at b ≡ Err Damaged
unfolding uleb_at
too_large b w rest e parts is =
    let number : groups w ≡ is.0 = sym is.1.3 in
    rw (leb_here b w rest is.0 parts is.1, number, le-ltb is.0 (2 ^ 64) is.2) refl

pub no_number : (b : List ℕ) → AllContinue b → uleb_at b ≡ Err (Short 1)
unfolding uleb_at
no_number b all = rw (no_leb b all) refl

-- ---- texts

pub text_here : (b : List ℕ) (n : ℕ) → n < length b → position (λ c. c == 0) b ≡ Some n
    → text_at b ≡ Ok (take n b, drop (n + 1) b)
text_here b n within at =
    let text : text_in b ≡ Some (take n b) = text_in-position b ∙ ap (option_map (λ k. take k b)) at in
    let long : length (take n b) ≡ n = omega (arith, length-take n b, within) in
    ap (text_and_rest b) text ∙ ap (λ k. Ok (take n b, drop (k + 1) b)) long

pub no_text : (b : List ℕ) → ◌≡◌ {A = Option ℕ} (position (λ c. c == 0) b) None → text_at b ≡ Err (Short 1)
no_text b none = ap (text_and_rest b) (text_in-position b ∙ ap (option_map (λ k. take k b)) none)

-- ---- offsets

pub drop_least : (n : ℕ) (b : List ℕ) (k : ℕ) → k ≡ min n (length b) → drop k b ≡ drop n b
drop_least n b k is = elim (cases_lt n (length b)) [
  | inl less ↦ let same : k ≡ n = omega (arith, is, less) in rw same refl
  | inr past ↦ let all : length b ≤ k = omega (arith, is, past) in drop_all k b all ∙ sym (drop_all n b past)
]
