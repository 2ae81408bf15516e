-- The first of candidates one after the other.
use Rattle.std.proofs.Common.{◌≡◌, ◌++◌, ◌∷◌, [], ℕ, List, Option, Some, None, refl, sym, ap, ◌∙◌}
use Rattle.std.specs.List.{All}
use Rattle.std.specs.declared.io.Error.{Error}
use Rattle.std.proofs.Common.{◌+◌}
use Rattle.std.proofs.lemmas.List.{append_assoc}
use Rattle.std.proofs.lemmas.List.Elements.{All-append, All-cons, All-nil}
use Rattle.dl_follow.specs.Candidates.{Candidate, IsFirst, IsTaken, PassedOver}

-- none of the first ones is taken, and of the others what is
pub first_behind : (held : List ℕ → Option (List ℕ)) (fails : List ℕ → Error → Type 0) (own : List ℕ) (a b : List Candidate)
    (taken : Option (List ℕ)) → All (PassedOver held fails own) a → IsFirst held fails own b taken
    → IsFirst held fails own (a ++ b) taken
first_behind held fails own a b None none is = All-append (PassedOver held fails own) a b none is
first_behind held fails own a b (Some path) none is = (
  a ++ is.0,
  is.1,
  is.2,
  ap (λ xs. a ++ xs) is.3 ∙ sym (append_assoc a is.0 (is.1 ∷ is.2)),
  All-append (PassedOver held fails own) a is.0 none is.4,
  is.5,
)

-- one candidate is taken, behind others that aren't
pub first_here : (held : List ℕ → Option (List ℕ)) (fails : List ℕ → Error → Type 0) (own : List ℕ) (a b : List Candidate)
    (c : Candidate) (path : List ℕ) → All (PassedOver held fails own) a → IsTaken held own c path
    → IsFirst held fails own (a ++ c ∷ b) (Some path)
first_here held fails own a b c path none taken = (a, c, b, refl, none, taken)

-- the first candidate isn't taken, or it is
pub first_later : (held : List ℕ → Option (List ℕ)) (fails : List ℕ → Error → Type 0) (own : List ℕ) (c : Candidate)
    (b : List Candidate) (taken : Option (List ℕ)) → PassedOver held fails own c → IsFirst held fails own b taken
    → IsFirst held fails own (c ∷ b) taken
first_later held fails own c b taken none is =
    first_behind held fails own (c ∷ []) b taken (All-cons (PassedOver held fails own) c [] none (All-nil (PassedOver held fails own))) is

-- what is taken of the last candidates is taken of all: those before them aren't
abbrev pub Follows : (held : List ℕ → Option (List ℕ)) (fails : List ℕ → Error → Type 0) (own : List ℕ)
    (all rest : List Candidate) → Type 0
Follows held fails own all rest =
    (taken : Option (List ℕ)) → IsFirst held fails own rest taken → IsFirst held fails own all taken

-- one more isn't taken
pub follows_more : (held : List ℕ → Option (List ℕ)) (fails : List ℕ → Error → Type 0) (own : List ℕ) (all : List Candidate)
    (c : Candidate) (rest : List Candidate) → Follows held fails own all (c ∷ rest) → PassedOver held fails own c
    → Follows held fails own all rest
follows_more held fails own all c rest so_far none = λ taken is.
    so_far taken (first_later held fails own c rest taken none is)

-- one is taken
pub follows_taken : (held : List ℕ → Option (List ℕ)) (fails : List ℕ → Error → Type 0) (own : List ℕ) (all : List Candidate)
    (c : Candidate) (rest : List Candidate) (path : List ℕ) → Follows held fails own all (c ∷ rest)
    → IsTaken held own c path → IsFirst held fails own all (Some path)
follows_taken held fails own all c rest path so_far taken =
    so_far (Some path) (first_here held fails own [] rest c path (All-nil (PassedOver held fails own)) taken)

-- none is taken
pub follows_none : (held : List ℕ → Option (List ℕ)) (fails : List ℕ → Error → Type 0) (own : List ℕ) (all rest : List Candidate)
    → Follows held fails own all rest → rest ≡ [] → IsFirst held fails own all None
follows_none held fails own all rest so_far is =
    so_far None (rw is (All-nil (PassedOver held fails own)))
