-- Operations one after the other at the front of bytes.
use Rattle.std.proofs.Common.{◌≡◌, ℕ, ◌+◌, List, [], ◌∷◌, ◌++◌, length, Ok, refl, sym, ap, subst, ◌∙◌}
use Rattle.std.proofs.Common.{append_assoc, length-append, false}
use Rattle.dl_num.specs.declared.fixed.Order.{Order}
use Rattle.dl_num.specs.Front.{SpellsNowhere, SpellsFirst, IsCut}
use Rattle.dl_num.proofs.FrontLemmas.{one_cut}
use Rattle.dl_field.specs.declared.params.Params.{Params}
use Rattle.dl_rows.specs.declared.operation.Operation.{Operation}
use Rattle.dl_rows.specs.Matrix.{is_end}
use Rattle.dl_rows.specs.OperationSpelt.{operation_spelt, good_one}
use Rattle.dl_object.specs.Sequences.{Spelled, spelled, spelled_by, spelled_in, bytes_of}
use Rattle.dl_object.specs.Fronts.{NoEnd, Runs}

pub spelled_first : (order : Order) (h : Params) (w : List ℕ) (o : Operation)
    → SpellsFirst (operation_spelt order h) w (Ok o)
    → SpellsFirst (spelled order h) w (record { operation = o; bytes = w })
spelled_first order h w o first = record {
  spells = ap (λ j. spelled_by w (good_one j)) first.spells;
  shortest = λ front x back e. ap (λ j. spelled_by front (good_one j)) (first.shortest front x back e);
}

pub runs_bytes : (order : Order) (h : Params) (b : List ℕ) (s : List Spelled) (rest : List ℕ) → Runs order h b s rest
    → b ≡ bytes_of s ++ rest
runs_bytes order h b [] rest r = r
runs_bytes order h b (o ∷ s) rest r =
    r.1 ∙ ap (λ (z : List ℕ). o.bytes ++ z) (runs_bytes order h r.0 s rest r.3) ∙ sym (append_assoc o.bytes (bytes_of s) rest)

pub runs_len : (order : Order) (h : Params) (b : List ℕ) (s : List Spelled) (rest : List ℕ) → Runs order h b s rest
    → length b ≡ length (bytes_of s) + length rest
runs_len order h b s rest r = ap length (runs_bytes order h b s rest r) ∙ length-append (bytes_of s) rest

-- one more
pub runs_push : (order : Order) (h : Params) (b : List ℕ) (s : List Spelled) (o : Spelled) (v rest : List ℕ)
    → Runs order h b s v → v ≡ o.bytes ++ rest → SpellsFirst (spelled order h) o.bytes o
    → Runs order h b (s ++ o ∷ []) rest
runs_push order h b [] o v rest r e first = (rest, r ∙ e, first, refl)
runs_push order h b (p ∷ s) o v rest r e first = (r.0, r.1, r.2, runs_push order h r.0 s o v rest r.3 e first)

pub no_end_push : (s : List Spelled) (o : Spelled) → NoEnd s → is_end o.operation ≡ false → NoEnd (s ++ o ∷ [])
no_end_push [] o none e = (e, tt)
no_end_push (p ∷ s) o none e = (none.0, no_end_push s o none.1 e)

-- what stands after them
runs_cut : (order : Order) (h : Params) (b : List ℕ) (s : List Spelled) (rest : List ℕ) (found : List Spelled)
    (left : List ℕ) → Runs order h b s rest → IsCut (spelled order h) rest found left
    → IsCut (spelled order h) b (s ++ found) left
runs_cut order h b [] rest found left r cut =
    subst (λ (z : List ℕ). IsCut (spelled order h) z found left) (sym r) cut
runs_cut order h b (o ∷ s) rest found left r cut =
    (o.bytes, r.0, r.1, r.2, runs_cut order h r.0 s rest found left r.3 cut)

-- the computed cut
pub cut_of : (order : Order) (h : Params) (b : List ℕ)
    → IsCut (spelled order h) b (spelled_in order h b).found (spelled_in order h b).rest
cut_of order h b =
    (one_cut Spelled (spelled order h) b (spelled_in order h b).found (spelled_in order h b).rest refl).1 refl

pub spelled_after : (order : Order) (h : Params) (b : List ℕ) (s : List Spelled) (rest : List ℕ)
    → Runs order h b s rest
    → spelled_in order h b
    ≡ record { found = s ++ (spelled_in order h rest).found; rest = (spelled_in order h rest).rest }
spelled_after order h b s rest r =
    (one_cut Spelled (spelled order h) b (s ++ (spelled_in order h rest).found) (spelled_in order h rest).rest refl).0
    (runs_cut order h b s rest (spelled_in order h rest).found (spelled_in order h rest).rest r (cut_of order h rest))

-- where none stands after them
pub spelled_last : (order : Order) (h : Params) (b : List ℕ) (s : List Spelled) (rest : List ℕ)
    → Runs order h b s rest → SpellsNowhere (spelled order h) rest
    → spelled_in order h b ≡ record { found = s ++ []; rest = rest }
spelled_last order h b s rest r none =
    (one_cut Spelled (spelled order h) b (s ++ []) rest refl).0 (runs_cut order h b s rest [] rest r (refl, none))
