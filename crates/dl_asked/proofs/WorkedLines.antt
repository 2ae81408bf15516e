-- What lines ask for, by the definitions.
use Rattle.std.proofs.Common.{◌≡◌, ℕ, List, [], ◌∷◌, ◌++◌, true, false, Some, None, codes, refl}
use Rattle.std.specs.Prelude.{replicate}
use Rattle.dl_asked.specs.AskedLines.{asked_in, no_address_in}

-- `0x10` and 0x0d, blanks alone, a tab, `12` and a space, `x`, and `a` without a 0x0a
abbrev worked : List ℕ
worked = codes "0x10" ++ 13 ∷ 10 ∷ 32 ∷ 9 ∷ 10 ∷ 9 ∷ codes "12 " ++ 10 ∷ codes "x" ++ 10 ∷ codes "a"

pub worked-asked : asked_in false worked ≡ record { address = Some 16 } ∷ record {
  address =
      Some 12;
} ∷ record { address = None } ∷ record { address = None } ∷ []
worked-asked = refl

pub worked-no_address : no_address_in false worked ≡ Some (4, codes "x")
worked-no_address = refl

pub worked-hexadecimal : asked_in true worked ≡ record { address = Some 16 } ∷ record {
  address =
      Some 18;
} ∷ record { address = None } ∷ record { address = Some 10 } ∷ []
worked-hexadecimal = refl

-- a 0x0d inside a line, two of them, one at the input's end; two words; `0x`; `0`; 2^64
pub worked-others : asked_in false (codes "1" ++ 13 ∷ codes "1" ++ 10 ∷ codes "1" ++ 13 ∷ 13 ∷ 10 ∷ codes "1 1" ++ 10
    ∷ codes "0x" ++ 10 ∷ codes "0" ++ 10 ∷ codes "18446744073709551616" ++ 10 ∷ codes "1" ++ 13 ∷ [])
    ≡ record { address = None } ∷ record { address = None } ∷ record { address = None } ∷ record {
      address =
          None;
    } ∷ record { address = Some 0 } ∷ record { address = None } ∷ record { address = None } ∷ []
worked-others = refl

-- blanks around the word, and a 0x0d after them; a line that goes on is told up to 64 bytes
pub worked-word : no_address_in false (codes "1" ++ 10 ∷ codes "  0x1060,0x2 " ++ 9 ∷ 13 ∷ 10 ∷ codes "y")
    ≡ Some (2, codes "0x1060,0x2")
worked-word = refl

pub worked-long : no_address_in true (32 ∷ replicate 70 121) ≡ Some (1, replicate 64 121)
worked-long = refl
