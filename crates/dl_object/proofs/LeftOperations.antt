-- The operations of what is left of a program: those of its sequences of the section, and others that are passed over.
use Rattle.std.proofs.Common.{◌≡◌, ℕ, zero, suc, ◌+◌, ◌-◌, ◌*◌, ◌≤◌, Bool, true, false, cond, List, [], ◌∷◌, ◌++◌}
use Rattle.std.proofs.Common.{length, map, replicate, Option, Some, None, Ok, Err, refl, sym, ap, subst, ◌∙◌, arith, append_assoc}
use Rattle.std.proofs.Common.{append-nil, length-append, inr}
use Rattle.std.proofs.lemmas.Grind.{flat_map-append}
use Rattle.std.specs.List.{AllByRecursion}
use Rattle.dl_num.specs.declared.fixed.Order.{Order}
use Rattle.dl_num.specs.Front.{SpellsNowhere, SpellsFirst, IsCut, Standing}
use Rattle.dl_num.specs.Laws.{AllBytes}
use Rattle.dl_num.specs.Leb.{groups, AllContinue, IsUleb}
use Rattle.dl_num.proofs.FrontLemmas.{one_cut}
use Rattle.dl_field.specs.declared.params.Params.{Params}
use Rattle.dl_field.specs.Usable.{IsUsable}
use Rattle.dl_reloc.specs.declared.placed.Placed.{Placed}
use Rattle.dl_table.specs.Value.{Judgement, good}
use Rattle.dl_rows.specs.declared.operation.Operation.{Operation}
use Rattle.dl_rows.specs.declared.operation.Operation.TheVariants as op
use Rattle.dl_rows.specs.Matrix.{is_end}
use Rattle.dl_rows.specs.OperationSpelt.{operation_spelt, good_one, operations_in}
use Rattle.dl_rows.specs.Spelling.{SpellsOperation}
use Rattle.dl_rows.specs.Sums.{HasRange}
use Rattle.dl_rows.proofs.OperandRanges.{bytes_front, bytes_back, range_of}
use Rattle.dl_rows.proofs.OperationLaws.{spelt_is_spelled}
use Rattle.dl_rows.proofs.SpeltFirst.{spells_first}
use Rattle.dl_object.specs.Sequences.{Spelled, Sequences, spelled_by, spelled, bytes_of, with_sequence}
use Rattle.dl_object.specs.Sequences.{sequences_after}
use Rattle.dl_object.specs.Kept.{padded_one, passed_over, section_of, is_same, sequences_kept}
use Rattle.dl_object.specs.Fronts.{NoEnd, IsSequence}
use Rattle.dl_object.proofs.FrontLemmas.{end_len}
use Rattle.dl_object.proofs.RunLemmas.{spelled_first, no_end_push}

-- ---- an operation that is passed over

continued : (n : ℕ) → AllContinue (replicate n 128)
continued zero = tt
continued (suc n) = (omega arith, continued n)

zeros : (n : ℕ) → groups (replicate n 128 ++ 0 ∷ []) ≡ 0
zeros zero = refl
zeros (suc n) = ap (λ (k : ℕ). 0 + 128 * k) (zeros n)

one_spelled : (n : ℕ) → IsUleb (padded_one (suc n)) 1
one_spelled zero = ([], 1, record { bytes = refl; continue = tt; ends = omega arith }, refl)
one_spelled (suc n) = (
  129 ∷ replicate n 128,
  0,
  record { bytes = refl; continue = (omega arith, continued n); ends = omega arith },
  sym (ap (λ (k : ℕ). 1 + 128 * k) (zeros n)),
)

passed_spelled : (order : Order) (h : Params) (n : ℕ)
    → SpellsOperation order h op.Skipped (passed_over (suc (suc (suc n))))
passed_spelled order h n = inr (record {
  opcode = 128;
  operand = [];
  extended = record { size = padded_one (suc n); bytes = refl; spells = one_spelled n; fits = omega arith };
  not_end_sequence = omega arith;
  not_set_address = omega arith;
  not_set_discriminator = omega arith;
})

passed_first : (order : Order) (h : Params) (n : ℕ) → 1 ≤ h.opcode_base → 3 ≤ n
    → SpellsFirst (spelled order h) (passed_over n) (record { operation = op.Skipped; bytes = passed_over n })
passed_first order h n some le =
    let e : n ≡ suc (suc (suc (n - 3))) = omega arith in
    spelled_first order h (passed_over n) op.Skipped
    (spells_first order h op.Skipped (passed_over n) some
    (subst (λ (k : ℕ). SpellsOperation order h op.Skipped (passed_over k)) (sym e) (passed_spelled order h (n - 3))))

-- ---- what is spelled, with its bytes

spelled_bytes : (w : List ℕ) (o : Option Operation) (a : Spelled) → spelled_by w o ≡ Some a → a.bytes ≡ w
spelled_bytes w (Some o) a e =
    let s : Spelled = record { operation = o; bytes = w } in
    let f : s ≡ a = cc in ap (λ (z : Spelled). z.bytes) (sym f)
spelled_bytes w None a e = absurd cc

spelled_operation : (w : List ℕ) (o : Option Operation) (a : Spelled) → spelled_by w o ≡ Some a → o ≡ Some a.operation
spelled_operation w (Some o) a e =
    let s : Spelled = record { operation = o; bytes = w } in
    let f : s ≡ a = cc in ap (λ (z : Spelled). Some z.operation) f
spelled_operation w None a e = absurd cc

spelled_none : (w : List ℕ) (o : Option Operation) → ◌≡◌ {A = Option Spelled} (spelled_by w o) None
    → ◌≡◌ {A = Option Operation} o None
spelled_none w (Some o) e = absurd cc
spelled_none w None e = refl

good_is : (j : Judgement Operation) (o : Operation) → good_one j ≡ Some o → j ≡ good o
good_is None o e = absurd cc
good_is (Some (Ok p)) o e = cc
good_is (Some (Err kind)) o e = absurd cc

module _ (order : Order) (h : Params) where
  -- the operation is what its bytes spell first, with its range
  abbrev pub IsGood : Spelled → Type 0
  IsGood o = SpellsFirst (spelled order h) o.bytes o × HasRange o.operation

  abbrev pub AllGood : List Spelled → Type 0
  AllGood s = AllByRecursion IsGood s

  pub good_append : (s t : List Spelled) → AllGood s → AllGood t → AllGood (s ++ t)
  good_append [] t a b = b
  good_append (o ∷ s) t a b = (a.0, good_append s t a.1 b)

  last_good : (s : List Spelled) (o : Spelled) → AllGood (s ++ o ∷ []) → IsGood o
  last_good [] o a = a.0
  last_good (p ∷ s) o a = last_good s o a.1

  pub cut_good : IsUsable h → (found : List Spelled) (b rest : List ℕ) → AllBytes b → IsCut (spelled order h) b found rest
      → AllGood found × SpellsNowhere (spelled order h) rest
  cut_good usable [] b rest all c = (tt, c.1)
  cut_good usable (o ∷ found) b rest all (w, v, e, first, c) =
      let same : o.bytes ≡ w = spelled_bytes w (good_one (operation_spelt order h w)) o first.spells in
      let bytes = subst AllBytes e all in
      let later = cut_good usable found v rest (bytes_back w v bytes) c in
      let spelt = good_is (operation_spelt order h w) o.operation
      (spelled_operation w (good_one (operation_spelt order h w)) o first.spells) in (
        (
          (
            subst (λ (z : List ℕ). SpellsFirst (spelled order h) z o) (sym same) first,
            range_of order h o.operation w usable (bytes_front w v bytes)
                ((spelt_is_spelled order h o.operation w (omega (arith, usable.opcodes))).1 spelt),
          ),
          later.0,
        ),
        later.1,
      )

  pub cut_build : (s : List Spelled) (v : List ℕ) (found : List Spelled) (rest : List ℕ) → AllGood s
      → IsCut (spelled order h) v found rest → IsCut (spelled order h) (bytes_of s ++ v) (s ++ found) rest
  cut_build [] v found rest all c = c
  cut_build (o ∷ s) v found rest all c =
      (o.bytes, bytes_of s ++ v, append_assoc o.bytes (bytes_of s) v, all.0.0, cut_build s v found rest all.1 c)

  -- the operations alone
  cut_operations : (found : List Spelled) (b rest : List ℕ) → IsCut (spelled order h) b found rest
      → IsCut (λ w. good_one (operation_spelt order h w)) b (map (λ o. o.operation) found) rest
  cut_operations [] b rest c =
      (c.0, λ front back e. spelled_none front (good_one (operation_spelt order h front)) (c.1 front back e))
  cut_operations (o ∷ found) b rest (w, v, e, first, c) = (
    w,
    v,
    e,
    record {
      spells = spelled_operation w (good_one (operation_spelt order h w)) o first.spells;
      shortest = λ front x back k. spelled_none front (good_one (operation_spelt order h front))
          (first.shortest front x back k);
    },
    cut_operations found v rest c,
  )

  pub operations_are : (b : List ℕ) (found : List Spelled) (rest : List ℕ) → IsCut (spelled order h) b found rest
      → (operations_in order h b).found ≡ map (λ o. o.operation) found
  operations_are b found rest c =
      ap (λ (s : Standing Operation). s.found)
      ((one_cut Operation (λ w. good_one (operation_spelt order h w)) b (map (λ o. o.operation) found) rest refl).0
      (cut_operations found b rest c))

  -- ---- sequences

  abbrev pub IsGoodSequence : List Spelled → Type 0
  IsGoodSequence s = IsSequence s × AllGood s

  pub record GoodCut (cut : Sequences) : Type 0 where
    pub whole : AllByRecursion IsGoodSequence cut.whole
    pub begun : AllGood cut.begun

  cut_by : (begun : List Spelled) (o : Spelled) (s : List Spelled) (b : Bool) → is_end o.operation ≡ b → NoEnd begun
      → AllGood begun → IsGood o → GoodCut (sequences_after [] s)
      → (NoEnd (begun ++ o ∷ []) → AllGood (begun ++ o ∷ []) → GoodCut (sequences_after (begun ++ o ∷ []) s))
      → GoodCut (cond b (with_sequence (begun ++ o ∷ []) (sequences_after [] s)) (sequences_after (begun ++ o ∷ []) s))
  cut_by begun o s true e none all good after more = record {
    whole = (
      (
        record { front = begun; last = o; is = refl; none = none; ends = e },
        good_append begun (o ∷ []) all (good, tt),
      ),
      after.whole,
    );
    begun = after.begun;
  }
  cut_by begun o s false e none all good after more =
      more (no_end_push begun o none e) (good_append begun (o ∷ []) all (good, tt))

  pub good_cut : (begun s : List Spelled) → NoEnd begun → AllGood begun → AllGood s → GoodCut (sequences_after begun s)
  good_cut begun [] none all good = record { whole = tt; begun = all }
  good_cut begun (o ∷ s) none all good =
      cut_by begun o s (is_end o.operation) refl none all good.0 (good_cut [] s tt tt good.1)
      (λ n a. good_cut (begun ++ o ∷ []) s n a good.1)

  -- ---- what is left

  module _ (places : List Placed) (section : ℕ) where
    abbrev pub passed : List Spelled → Spelled
    passed s = record { operation = op.Skipped; bytes = passed_over (length (bytes_of s)) }

    abbrev pub sequence_left : Bool → List Spelled → List Spelled
    sequence_left same s = cond same s (passed s ∷ [])

    abbrev pub left_of : ℕ → List (List Spelled) → List Spelled
    left_of at [] = []
    left_of at (s ∷ more) =
        sequence_left (is_same section (section_of h places at s)) s ++ left_of (at + length (bytes_of s)) more

    pub left_bytes : (at : ℕ) (whole : List (List Spelled))
        → bytes_of (left_of at whole) ≡ sequences_kept h places section at whole
    left_bytes at [] = refl
    left_bytes at (s ∷ more) =
        let same = is_same section (section_of h places at s) in
        let later = left_bytes (at + length (bytes_of s)) more in
        flat_map-append (λ o. o.bytes) (sequence_left same s) (left_of (at + length (bytes_of s)) more)
        ∙ ap (λ (z : List ℕ). bytes_of (sequence_left same s) ++ z) later
        ∙ ap (λ (z : List ℕ). z ++ sequences_kept h places section (at + length (bytes_of s)) more)
        (elim same as (λ b. bytes_of (sequence_left b s) ≡ cond b (bytes_of s) (passed_over (length (bytes_of s)))) [
          | true ↦ refl
          | false ↦ append-nil (passed_over (length (bytes_of s)))
        ])

    sequence_long : 1 ≤ h.opcode_base → (s : List Spelled) → IsGoodSequence s → 3 ≤ length (bytes_of s)
    sequence_long some s good =
        let front = good.0.front in
        let last = good.0.last in
        let all = last_good front last (subst AllGood good.0.is good.1) in
        let spelt = good_is (operation_spelt order h last.bytes) last.operation
        (spelled_operation last.bytes (good_one (operation_spelt order h last.bytes)) last all.0.spells) in
        let long = end_len order h last.bytes last.operation some spelt good.0.ends in
        let whole : length (bytes_of s) ≡ length (bytes_of front ++ (last.bytes ++ [])) =
        ap (λ (z : List Spelled). length (bytes_of z)) good.0.is
        ∙ ap length (flat_map-append (λ o. o.bytes) front (last ∷ [])) in
        let sum = length-append (bytes_of front) (last.bytes ++ []) in
        let tail = length-append {A = ℕ} last.bytes [] in
        omega (arith, long, whole, sum, tail)

    pub left_good : 1 ≤ h.opcode_base → (at : ℕ) (whole : List (List Spelled)) → AllByRecursion IsGoodSequence whole
        → AllGood (left_of at whole)
    left_good some at [] all = tt
    left_good some at (s ∷ more) all =
        good_append (sequence_left (is_same section (section_of h places at s)) s) (left_of (at + length (bytes_of s)) more)
        (elim (is_same section (section_of h places at s)) as (λ b. AllGood (sequence_left b s)) [
          | true ↦ all.0.1
          | false ↦ ((passed_first order h (length (bytes_of s)) some (sequence_long some s all.0), tt), tt)
        ])
        (left_good some (at + length (bytes_of s)) more all.1)
