-- The units of a section, by what was told of them; and where its reading stops.
use Rattle.std.proofs.Common.{◌≡◌, ◌<◌, ◌≤◌, ◌^◌, inl, inr, ℕ, ◌+◌, List, [], ◌∷◌, ◌++◌, length, Some, Err, arith, refl, sym, ap}
use Rattle.std.proofs.Common.{◌∙◌, length-append}
use Rattle.std.specs.List.{concat}
use Rattle.std.proofs.lemmas.List.{take_all}
use Rattle.dl_head.specs.declared.dialect.Dialect.{Dialect}
use Rattle.dl_table.specs.declared.fault.FaultKind.{FaultKind}
use Rattle.dl_print.specs.Counts.{add}
use Rattle.dl_sections.specs.declared.fault.RunFault.TheVariants as run
use Rattle.dl_sections.specs.InMemory.{UnitTold, unit_told, units_told}
use Rattle.dl_sections.specs.Section.{EndsAs}

-- the last that is told is the last of the units
pub record LastTold (dialect : Dialect) (offset : ℕ) (units : List (List ℕ)) (before : List UnitTold) (last : UnitTold)
    : Type 0 where
  pub front : List (List ℕ)
  pub u : List ℕ
  pub whole : units ≡ front ++ u ∷ []
  pub before_are : before ≡ units_told dialect offset front
  pub last_is : last ≡ unit_told dialect (offset + length (concat front)) u

module _ (dialect : Dialect) where
  none_but : {A : Type 0} (x : A) (xs : List A) (y : A) → [] ≡ xs ++ y ∷ [] → ⊥
  none_but x xs y e = omega (arith, ap length e, length-append xs (y ∷ []))

  pub last_told : (offset : ℕ) (units : List (List ℕ)) (before : List UnitTold) (last : UnitTold)
      → units_told dialect offset units ≡ before ++ last ∷ [] → LastTold dialect offset units before last
  last_told offset [] before last e = absurd (none_but last before last e)
  last_told offset (u ∷ []) [] last e = record {
    front = [];
    u = u;
    whole = refl;
    before_are = refl;
    last_is = let same : unit_told dialect offset u ≡ last = cc in
        sym same ∙ ap (λ (n : ℕ). unit_told dialect n u) (omega arith);
  }
  last_told offset (u ∷ v ∷ units) [] last e =
      let none : units_told dialect (offset + length u) (v ∷ units) ≡ [] = cc in cc
  last_told offset (u ∷ units) (t ∷ before) last e =
      let same : unit_told dialect offset u ≡ t = cc in
      let rest : units_told dialect (offset + length u) units ≡ before ++ last ∷ [] = cc in
      let later = last_told (offset + length u) units before last rest in
      record {
        front = u ∷ later.front;
        u = later.u;
        whole = ap (λ (l : List (List ℕ)). u ∷ l) later.whole;
        before_are = let is = later.before_are in cc;
        last_is = later.last_is ∙ ap (λ (n : ℕ). unit_told dialect n later.u)
            (omega (arith, length-append u (concat later.front)));
      }

  -- where none is told there is none
  pub none_told : (offset : ℕ) (units : List (List ℕ)) → units_told dialect offset units ≡ [] → units ≡ []
  none_told offset [] e = refl
  none_told offset (u ∷ units) e = cc

-- a fault stands among the bytes
pub fault_within : (dialect : Dialect) (s : List ℕ) (units : List (List ℕ)) (b back : List ℕ) (offset : ℕ)
    (kind : FaultKind) → EndsAs dialect (length s) s (Some []) units b back (Err (run.Damage offset kind))
    → offset ≤ length s
fault_within dialect s units b back offset kind (has, none, inl (at, place, refused)) =
    omega (
      arith,
      place,
      refused.place,
      ap length has.whole,
      ap length (take_all (length s) s (omega arith)),
      length-append (concat units) (b ++ back),
      length-append b back,
    )
fault_within dialect s units b back offset kind (has, none, inr cut) = omega (arith, cut.5)

-- its offset is counted in 64 bits
pub offset_of_fault : (dialect : Dialect) (s : List ℕ) (units : List (List ℕ)) (b back : List ℕ) (offset : ℕ)
    (kind : FaultKind) → EndsAs dialect (length s) s (Some []) units b back (Err (run.Damage offset kind))
    → length s < 2 ^ 64 → add 0 offset ≡ offset
offset_of_fault dialect s units b back offset kind ends few =
    let within = fault_within dialect s units b back offset kind ends in omega (arith, within, few)
