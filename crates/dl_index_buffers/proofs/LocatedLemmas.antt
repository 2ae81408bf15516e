-- What locations answer for addresses, one after the other.
use Rattle.std.proofs.Common.{◌≡◌, ℕ, ◌+◌, ◌<◌, List, Option, Some, None, IfSome, length, get_or, subst, sym, arith, ⊎_elim}
use Rattle.std.specs.Option.{option_map}
use Rattle.std.proofs.Math.ListN.{set}
use Rattle.std.proofs.lemmas.List.{get_or-set_same, get_or-set_other}
use Rattle.std.proofs.lemmas.Bool.{cases_eq}
use Rattle.dl_index.specs.Finds.{Finds}
use Rattle.dl_index.specs.Layout.{count_in}
use Rattle.dl_index.specs.Shown.{told}
use Rattle.dl_index.specs.Telling.{told_in}
use Rattle.dl_index.specs.declared.index.FoundLine.{FoundLine}
use Rattle.dl_index_buffers.specs.IndexFindCalls.{Located}
use Rattle.dl_index_buffers.specs.IndexRecords.{Answers}
use Rattle.dl_index_buffers.specs.declared.record.LocationRecord.{LocationRecord}

stands_as : (b : List ℕ) (found : Option FoundLine)
    → IfSome found (λ f. (k : ℕ) × (k < count_in b) × (told_in b k ≡ Some (told f)))
    → IfSome (option_map told found) (λ t. (k : ℕ) × (k < count_in b) × (told_in b k ≡ Some t))
stands_as b None is = tt
stands_as b (Some f) is = is

-- what was found of an address, as a location tells it
pub located_by : (b : List ℕ) (a : ℕ) (found : Option FoundLine) (r : LocationRecord) → Finds b a found
    → Answers b (option_map told found) r → Located b a r
located_by b a found r finds answers =
    (option_map told found, record { exact = finds.exact; stands = stands_as b found finds.stands }, answers)

-- the first n are those of the first n addresses
abbrev pub Done : List ℕ → List ℕ → List LocationRecord → ℕ → Type 0
Done b addresses locations n =
    (i : ℕ) → i < n → (d : LocationRecord) → Located b (get_or addresses i 0) (get_or locations i d)

pub done_more : (b addresses : List ℕ) (locations : List LocationRecord) (n m : ℕ) (one : LocationRecord) → m ≡ n + 1
    → n < length locations → Located b (get_or addresses n 0) one → Done b addresses locations n
    → Done b addresses (set locations n one) m
done_more b addresses locations n m one next within here done i less d =
    ⊎_elim
    (λ same.
    subst
    (λ j. Located b (get_or addresses j 0) (get_or (set locations n one) j d))
    same
    (subst (Located b (get_or addresses n 0)) (sym (get_or-set_same locations n one d within)) here))
    (λ ne.
    subst
    (Located b (get_or addresses i 0))
    (sym (get_or-set_other locations n i one d (λ e. ne (sym e))))
    (done i (omega arith) d))
    (cases_eq n i)
