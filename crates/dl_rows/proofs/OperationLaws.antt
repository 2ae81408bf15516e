-- The laws of operations: what is computed of bytes agrees with the relations, and bytes spell one operation.
use Rattle.std.proofs.Common.{◌≡◌, ◌≢◌, ℕ, ◌+◌, ◌^◌, ◌<◌, ◌≤◌, ◌⊎◌, List, [], ◌∷◌, ◌++◌, length, Some, None, Ok, Err}
use Rattle.std.proofs.Common.{refl, sym, ap, ◌∙◌, arith, inl, inr}
use Rattle.std.proofs.lemmas.Bool.{cases_lt, cases_Bool, lt-leb, lt-ltb, le-ltb, eq-eqb, ne_eqb}
use Rattle.std.proofs.lemmas.List.{append-nil}
use Rattle.dl_num.specs.declared.fixed.Order.{Order}
use Rattle.dl_num.specs.Leb.{groups, IsUleb}
use Rattle.dl_num.specs.LebFront.{is_leb}
use Rattle.dl_num.proofs.LebLaws.{leb_is, is_leb-of}
use Rattle.dl_field.specs.declared.params.Params.{Params}
use Rattle.dl_table.specs.declared.fault.FaultKind.{FaultKind}
use Rattle.dl_table.specs.declared.fault.FaultKind.TheVariants as fault
use Rattle.dl_table.specs.Value.{Judgement, good, bad}
use Rattle.dl_rows.specs.declared.operation.Operation.{Operation}
use Rattle.dl_rows.specs.declared.operation.Operation.TheVariants as op
use Rattle.dl_rows.specs.OperationSpelt.{unsigned_operand, signed_operand, discriminator_spelt, extended_spelt}
use Rattle.dl_rows.specs.OperationSpelt.{body_spelt, operation_spelt}
use Rattle.dl_rows.specs.Spelling.{IsNumber, SpellsOperation}
use Rattle.dl_rows.specs.BadOperation.{UnsignedOut, SignedOut, EndsInLength, BeginsExtended, WrongAtOpcode}
use Rattle.dl_rows.specs.BadOperation.{DiscriminatorLength, IsFaulty, fault_order}
use Rattle.dl_rows.specs.Laws.{SpeltIsSpelled, BadIsFaulty, NoOperationBeginsAnother, OneOperation, NoSpellingIsFaulty}
use Rattle.dl_rows.proofs.OperandLemmas.{unsigned_out, signed_out}
use Rattle.dl_rows.proofs.SpeltFirst.{zero_then, length_then, body_then, body_out, length_refused, spells_first}
use Rattle.dl_rows.proofs.Judged.{judged}

pub spelt_is_spelled : SpeltIsSpelled
spelt_is_spelled order h o w some = (
  λ s. (spells_first order h o w some s).spells,
  λ e. rw e at (judged order h w some),
)

-- ---- what is computed of faulty bytes

-- these bytes are bad in this way
abbrev Computes : Order → Params → List ℕ → FaultKind → Type 0
Computes order h w kind = ◌≡◌ {A = Judgement Operation} (operation_spelt order h w) (bad kind)

unsigned_out_computes : (order : Order) (h : Params) (make : ℕ → Operation) (opcode : ℕ) (w : List ℕ)
    (u : UnsignedOut h w)
    → (opcode < h.opcode_base → (v : List ℕ) → operation_spelt order h (opcode ∷ v) ≡ unsigned_operand make v)
    → u.opcode ≡ opcode → Computes order h w fault.LebRange
unsigned_out_computes order h make opcode w u same e =
    ap (operation_spelt order h) (rw e at u.bytes) ∙ same (rw e at u.below) u.operand
    ∙ (unsigned_out make u.operand u.number u.spells u.out).spells

takes_computes : (order : Order) (h : Params) (w : List ℕ) (u : UnsignedOut h w) → (u.opcode ≡ 2) ⊎ (u.opcode ≡ 4)
    ⊎ (u.opcode ≡ 5) ⊎ (u.opcode ≡ 12) → Computes order h w fault.LebRange
takes_computes order h w u (inl e) =
    unsigned_out_computes order h (λ n. op.AdvancePc n) 2 w u (λ lt v. rw (lt-leb h.opcode_base 2 lt) refl) e
takes_computes order h w u (inr (inl e)) =
    unsigned_out_computes order h (λ n. op.SetFile n) 4 w u (λ lt v. rw (lt-leb h.opcode_base 4 lt) refl) e
takes_computes order h w u (inr (inr (inl e))) =
    unsigned_out_computes order h (λ n. op.SetColumn n) 5 w u (λ lt v. rw (lt-leb h.opcode_base 5 lt) refl) e
takes_computes order h w u (inr (inr (inr e))) =
    unsigned_out_computes order h (λ n. op.SetIsa n) 12 w u (λ lt v. rw (lt-leb h.opcode_base 12 lt) refl) e

signed_out_computes : (order : Order) (h : Params) (w : List ℕ) → SignedOut h w → Computes order h w fault.LebRange
signed_out_computes order h w s =
    let same : operation_spelt order h (3 ∷ s.operand) ≡ signed_operand (λ i. op.AdvanceLine i) s.operand =
    rw (lt-leb h.opcode_base 3 s.below) refl in
    ap (operation_spelt order h) s.bytes ∙ same
    ∙ (signed_out (λ i. op.AdvanceLine i) s.operand s.number s.spells s.out).spells

length_computes : (order : Order) (h : Params) (w : List ℕ) (n : ℕ) (kind : FaultKind) → 1 ≤ h.opcode_base
    → EndsInLength w n
    → ◌≡◌ {A = Judgement Operation} (body_spelt order h.address_size n []) (bad kind) → Computes order h w kind
length_computes order h w n kind some l e =
    ap (operation_spelt order h) l.bytes ∙ (length_refused order h some l.size n kind l.spells e).spells

-- after a good length stands the extended opcode
begun_computes : (order : Order) (h : Params) (w : List ℕ) (n opcode : ℕ) (operand : List ℕ) → 1 ≤ h.opcode_base
    → BeginsExtended w n opcode operand
    → operation_spelt order h w ≡ extended_spelt order h.address_size n opcode operand
begun_computes order h w n opcode operand some b =
    ap (operation_spelt order h) b.bytes ∙ zero_then order h some (b.size ++ opcode ∷ operand)
    ∙ length_then order h.address_size b.size n b.spells (opcode ∷ operand)
    ∙ body_then order h.address_size n opcode b.some b.fits operand

discriminator_range : (n m : ℕ) (w : List ℕ) → 2 ≤ n → IsUleb w m → 2 ^ 64 ≤ m
    → ◌≡◌ {A = Judgement Operation} (discriminator_spelt n w) (bad fault.LebRange)
discriminator_range n m w room u out =
    let g : groups w ≡ m = sym u.3 in
    rw (ne_eqb n 1 (λ k. omega arith), is_leb-of w u.0 u.1 u.2, g, le-ltb m (2 ^ 64) out) refl

range_computes : (order : Order) (h : Params) (w : List ℕ) → 1 ≤ h.opcode_base → IsFaulty h w fault.LebRange
    → Computes order h w fault.LebRange
range_computes order h w some (inl u) = takes_computes order h w u u.takes
range_computes order h w some (inr (inl s)) = signed_out_computes order h w s
range_computes order h w some (inr (inr (inl l))) =
    length_computes order h w l.number fault.LebRange some l.ends (body_out order h.address_size l.number l.out)
range_computes order h w some (inr (inr (inr d))) =
    begun_computes order h w d.n 4 d.operand some d.begins.extended
    ∙ discriminator_range d.n d.number d.operand d.begins.room d.spells d.out

opcode_computes : (order : Order) (h : Params) (w : List ℕ) → 1 ≤ h.opcode_base → WrongAtOpcode h w
    → Computes order h w fault.ExtendedLength
opcode_computes order h w some f = begun_computes order h w f.n f.opcode [] some f.begins ∙ elim f.wrong [
  | inl e ↦ rw e.0 (rw (ne_eqb f.n 1 e.1) refl)
  | inr (inl e) ↦ rw e.0 (rw (ne_eqb f.n (1 + h.address_size) e.1) refl)
  | inr (inr e) ↦ rw e.0 (rw (eq-eqb f.n 1 e.1) refl)
]

-- the fault is computed, or one that comes before it
abbrev ComputesFirst : Order → Params → List ℕ → FaultKind → Type 0
ComputesFirst order h w kind =
    Computes order h w kind ⊎ ((fault_order fault.LebRange < fault_order kind) × IsFaulty h w fault.LebRange)

discriminator_computes : (order : Order) (h : Params) (w : List ℕ) (d : DiscriminatorLength w) → 1 ≤ h.opcode_base
    → (IsNumber d.operand × (1 + length d.operand ≢ d.n)) ⊎ ((IsNumber d.operand → ⊥) × (1 + length d.operand ≡ d.n))
    → ComputesFirst order h w fault.ExtendedLength
discriminator_computes order h w d some (inl (number, differs)) =
    let spells : IsUleb d.operand (groups d.operand) = (number.0, number.1, number.2, refl) in
    let room = d.begins.room in
    elim (cases_lt (groups d.operand) (2 ^ 64)) [
      | inl lt ↦ inl (begun_computes order h w d.n 4 d.operand some d.begins.extended
          ∙ rw (
            ne_eqb d.n 1 (λ k. omega arith),
            is_leb-of d.operand number.0 number.1 number.2,
            lt-ltb (groups d.operand) (2 ^ 64) lt,
            ne_eqb (1 + length d.operand) d.n differs,
          ) refl)
      | inr out ↦ inr (
        omega arith,
        inr (inr (inr (record {
          n = d.n;
          operand = d.operand;
          begins = d.begins;
          number = groups d.operand;
          spells =
              spells;
          out = out;
        }))),
      )
    ]
discriminator_computes order h w d some (inr (none, same)) =
    let room = d.begins.room in
    elim (cases_Bool (is_leb d.operand)) [
      | inl t ↦ absurd (none (leb_is d.operand t))
      | inr f ↦ inl (begun_computes order h w d.n 4 d.operand some d.begins.extended
          ∙ rw (ne_eqb d.n 1 (λ k. omega arith), f, eq-eqb (1 + length d.operand) d.n same) refl)
    ]

faulty_computes : (order : Order) (h : Params) (kind : FaultKind) (w : List ℕ) → 1 ≤ h.opcode_base → IsFaulty h w kind
    → ComputesFirst order h w kind
faulty_computes order h fault.LebRange w some f = inl (range_computes order h w some f)
faulty_computes order h fault.ExtendedEmpty w some f = inl (length_computes order h w 0 fault.ExtendedEmpty some f refl)
faulty_computes order h fault.ExtendedLength w some (inl f) = inl (opcode_computes order h w some f)
faulty_computes order h fault.ExtendedLength w some (inr d) = discriminator_computes order h w d some d.differs
faulty_computes order h other w some f = absurd f

-- ---- one answer

-- the place of a bad one's kind
abbrev order_of : Judgement Operation → ℕ
order_of (Some (Err kind)) = fault_order kind
order_of (Some (Ok o)) = 0
order_of None = 0

same_order : (order : Order) (h : Params) (w : List ℕ) (j k : FaultKind) → Computes order h w j → Computes order h w k
    → fault_order j ≡ fault_order k
same_order order h w j k a b = ap order_of (sym a ∙ b)

none_before : (order : Order) (h : Params) (kind other : FaultKind) (w : List ℕ) → 1 ≤ h.opcode_base
    → Computes order h w kind → fault_order other < fault_order kind → IsFaulty h w other → ⊥
none_before order h kind other w some e lt f = elim (faulty_computes order h other w some f) [
  | inl g ↦ let s = same_order order h w other kind g e in omega arith
  | inr r ↦ let s =
      same_order order h w fault.LebRange kind (range_computes order h w some r.1) e in let l = r.0 in omega arith
]

pub bad_is_faulty : BadIsFaulty
bad_is_faulty order h kind w some = (
  λ b. elim (faulty_computes order h kind w some b.faulty) [
    | inl e ↦ e
    | inr r ↦ absurd
        (b.first fault.LebRange r.0 r.1)
  ],
  λ e. record {
    faulty = rw e at (judged order h w some);
    first = λ other lt f. none_before order h kind other w some e lt f;
  },
)

pub one_operation : OneOperation
one_operation order h o p w some s t =
    let e : ◌≡◌ {A = Judgement Operation} (good o) (good p) =
    sym ((spelt_is_spelled order h o w some).0 s) ∙ (spelt_is_spelled order h p w some).0 t in cc

pub none_begins_another : NoOperationBeginsAnother
none_begins_another order h o p w [] some s t = refl
none_begins_another order h o p w (x ∷ v) some s t =
    let e : ◌≡◌ {A = Judgement Operation} (good o) None =
    sym ((spelt_is_spelled order h o w some).0 s)
    ∙ (spells_first order h p (w ++ x ∷ v) some t).shortest w x v refl in absurd cc

-- faulty bytes are bad, of this kind or another
faulty_is_bad : (order : Order) (h : Params) (kind : FaultKind) (w : List ℕ) → 1 ≤ h.opcode_base → IsFaulty h w kind
    → (k : FaultKind) × Computes order h w k
faulty_is_bad order h kind w some f = elim (faulty_computes order h kind w some f) [
  | inl e ↦ (kind, e)
  | inr r ↦ (fault.LebRange, range_computes order h w some r.1)
]

pub no_spelling_is_faulty : NoSpellingIsFaulty
no_spelling_is_faulty order h o kind w [] some s f =
    let b = faulty_is_bad order h kind w some f in
    let spelled : SpellsOperation order h o w = rw append-nil at s in
    let e : ◌≡◌ {A = Judgement Operation} (good o) (bad b.0) =
    sym ((spelt_is_spelled order h o w some).0 spelled) ∙ b.1 in absurd cc
no_spelling_is_faulty order h o kind w (x ∷ v) some s f =
    let b = faulty_is_bad order h kind w some f in
    let e : ◌≡◌ {A = Judgement Operation} None (bad b.0) =
    sym ((spells_first order h o (w ++ x ∷ v) some s).shortest w x v refl) ∙ b.1 in absurd cc
